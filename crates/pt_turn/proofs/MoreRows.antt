-- A platform with one more row is a platform.
use Rattle.std.proofs.Common.{◌≡◌, ℕ, ◌<◌, ◌≤◌, false, List, [], ◌∷◌, None, Option, Some, get_or, length, set, arith, refl, sym, ap, subst, ◌∙◌, ⊎_elim, eqb-true}
use Rattle.std.specs.Prelude.{◌==◌, MatchOption, position, true}
use Rattle.std.proofs.lemmas.List.{set-get_or}
use Rattle.std.proofs.lemmas.List.Quantifiers.{position-Some}
use Rattle.std.proofs.lemmas.Bool.{cases_Bool, cond-true, cond-false}
use Rattle.std.specs.Arc.{arc_value}
use Rattle.std.specs.Global.{Vec}
use Rattle.pt_types.specs.declared.graph.Graph.{Graph}
use Rattle.pt_types.specs.declared.rows.Row.{Row}
use Rattle.pt_types.specs.Lookups.{platform_of}
use Rattle.pt_semantics.specs.Entering.{all_due, due}
use Rattle.pt_semantics.specs.Lists.{Each}
use Rattle.pt_semantics.specs.Paced.{IsNextReading}
use Rattle.pt_semantics.specs.Platform.{State, opened}
use Rattle.pt_semantics.specs.Rows.{FitRows, TimesRise}
use Rattle.pt_semantics.specs.Turn.{Turn}
use Rattle.pt_causality.specs.Ranked.{level_of}
use Rattle.pt_turn.specs.declared.state.fields.Sensor.{Sensor}
use Rattle.pt_turn.specs.Fields.Sensors.{AreSensors}
use Rattle.pt_turn.specs.Fields.State.{left_in, rows_at_sensors}
use Rattle.pt_live_laws.specs.Growth.Growing.{SeenAfter, followed, grown, just}
use Rattle.pt_live_laws.proofs.Growth.Growing.{due_grown, legal_grown, not_last_grown, opened_grown, turn_grown, turn_reading, weaken}
use Rattle.pt_live_laws.proofs.Growth.RowsNext.{rows_next}
use Rattle.pt_turn.specs.Arrives.Arrived.{AreInOrder, IsNext, ShowsUnfit, is_of, with_row}
use Rattle.pt_turn.specs.declared.arrive.unfit.Unfit.{Unfit}
use Rattle.pt_turn.specs.declared.arrive.unfit.Unfit.TheVariants as unfit
use Rattle.pt_turn.proofs.Arrives.Places.{just_at_home, no_place}
use Rattle.pt_turn.proofs.Arrives.Rows.{Arrived, arrived, found_at}
use Rattle.pt_turn.specs.Arrived.{HasArrived, HasSensor, MayArriveAt, ShowsRefused}
use Rattle.pt_turn.specs.declared.fault.TurnFault.{TurnFault}
use Rattle.pt_turn.specs.declared.fault.TurnFault.TheVariants.{Late, Long}
use Rattle.pt_turn.specs.declared.platform.Platform.TheInside.{Inside}
use Rattle.pt_turn.specs.Platforms.{IsPlatform, IsRoomy, PlatformView, platform_graph, raised_to, rows_at, state_at, view_of}
use Rattle.pt_turn.specs.Running.{GoesOn, LeadsOn, Ran}
use Rattle.pt_turn.specs.Steps.{NoneSeenBefore, count_due}
use Rattle.pt_turn.specs.declared.room.Room.{Room}

-- the last reading is not before one of earlier turns
read_on : (g : Graph) (level : ℕ → ℕ) (i : ℕ) (turns : List Turn) (s new : State) (q : ℕ) → GoesOn g level i s turns new → s.reading ≡ Some q → (p : ℕ) × (new.reading ≡ Some p) × (q ≤ p)
read_on g level i [] s new q e at = (q, ap (λ (z : State). z.reading) e ∙ at, omega arith)
read_on g level i (turn ∷ turns) s new q (mid, is, last, rest) at =
    let more = read_on g level i turns mid new turn.last rest (turn_reading g level i s mid turn false is) in
    let rises : q ≤ turn.first = is.rises q at in
    let span : turn.first ≤ turn.last = is.span in
    let on : turn.last ≤ more.0 = more.2 in
    (more.0, more.1, omega arith)

-- rows seen after the last reading change no turn
goes_on_grown : (g : Graph) (level : ℕ → ℕ) (i : ℕ) (more : ℕ → List Row) (turns : List Turn) (s new : State) → GoesOn g level i s turns new → ((p : ℕ) → new.reading ≡ Some p → SeenAfter p more) → GoesOn g level i (grown more s) turns (grown more new)
goes_on_grown g level i more [] s new e later = ap (grown more) e
goes_on_grown g level i more (turn ∷ turns) s new (mid, is, last, rest) later =
    let on = read_on g level i turns mid new turn.last rest (turn_reading g level i s mid turn false is) in
    let le : turn.last ≤ on.0 = on.2 in
    let onward : SeenAfter turn.last more = λ a. weaken turn.last on.0 (more a) le (later on.0 on.1 a) in
    (grown more mid, turn_grown g level i more s mid turn false is onward, not_last_grown g level i more s mid turn false is onward last, goes_on_grown g level i more turns mid new rest later)

leads_grown : (g : Graph) (level : ℕ → ℕ) (i : ℕ) (more : ℕ → List Row) (start s : State) (turns all : List Turn) (fault : Option TurnFault) → LeadsOn g level i start turns all s fault → ((p : ℕ) → s.reading ≡ Some p → SeenAfter p more) → LeadsOn g level i (grown more start) turns all (grown more s) fault
leads_grown g level i more start s turns all None h later = goes_on_grown g level i more all start s h later
leads_grown g level i more start s turns all (Some (Late actor tag reading limit)) h later = (legal_grown g level i more all start s h.0 later, h.1)
leads_grown g level i more start s turns all (Some Long) h later = (legal_grown g level i more all start s h.0 later, record { all = h.1.all; reading = h.1.reading; read = h.1.read; safe = h.1.safe })

ran_grown : (g : Graph) (level : ℕ → ℕ) (i : ℕ) (rows : ℕ → List Row) (a : ℕ) (row : Row) (turns : List Turn) (s : State) (fault : Option TurnFault) → platform_of g a ≡ i → ((p : ℕ) → s.reading ≡ Some p → SeenAfter p (just a row)) →
    Ran g level i rows turns s fault → Ran g level i (followed rows (just a row)) turns (grown (just a row) s) fault
ran_grown g level i rows a row turns s fault home later ran = record {
  all = ran.all;
  single = ran.single;
  are_kept = ran.are_kept;
  leads = subst (λ z. LeadsOn g level i z turns ran.all (grown (just a row) s) fault) (sym (opened_grown g i rows (just a row) ∙ ap (λ more. grown more (opened g i rows)) (just_at_home g i a row home)))
      (leads_grown g level i (just a row) (opened g i rows) s turns ran.all fault ran.leads later);
  read = ran.read;
}

-- what holds of a row holds of all rows of which it is the only one
each_just : (P : Row → Type 0) (a b : ℕ) (row : Row) → P row → Each P (just a row b)
each_just P a b row h = ⊎_elim
    (λ (t : (b == a) ≡ true). subst (Each P) (sym (cond-true (b == a) (row ∷ []) [] t)) (h, tt))
    (λ (f : (b == a) ≡ false). subst (Each P) (sym (cond-false (b == a) (row ∷ []) [] f)) tt)
    (cases_Bool (b == a))

-- the platform with other sensors, and memory for no turn
abbrev pub with_sensors : Inside → Vec Sensor → ℕ → Inside
with_sensors p sensors next_row = record p { progress = record p.progress { fields = record p.progress.fields { sensors = sensors }; next_row = next_row }; room = None; next = None }

-- the sensors have one more row
at_place : (p : Inside) (sensors : Vec Sensor) (a k : ℕ) (d : Sensor) (row : Row) → IsPlatform p → MayArriveAt (view_of p) a row k → sensors.items ≡ set p.progress.fields.sensors.items k (with_row row (get_or p.progress.fields.sensors.items k d)) → Arrived (platform_graph p) p.progress.fields.sensors.items a row sensors.items
at_place p sensors a k d row is may new =
    let g : Graph = platform_graph p in
    let ss : List Sensor = p.progress.fields.sensors.items in
    let own : rows_at_sensors ss a ≡ (get_or ss k d).rows = ap (rows_at_sensors ss) (sym (may.actor d)) ∙ found_at ss 0 k d is.sensors.0 may.within in
    subst (λ z. Arrived g ss a row z) (sym new)
    (subst (λ b. Arrived g ss b row (set ss k (with_row row (get_or ss k d)))) (may.actor d)
    (arrived g ss k d row is.sensors may.within (subst TimesRise own (is.fit.times a)) (subst (Each (λ (x : Row). x.time < row.time)) own may.may.next.times)))

state_grown : (p : Inside) (sensors : Vec Sensor) (a next_row : ℕ) (row : Row) → Arrived (platform_graph p) p.progress.fields.sensors.items a row sensors.items → state_at (view_of (with_sensors p sensors next_row)) ≡ grown (just a row) (state_at (view_of p))
state_grown p sensors a next_row row new = λ i. record (state_at (view_of p)) { left = λ b. new.left b i }

-- a platform with one more row is a platform
pub is_platform : (p : Inside) (sensors : Vec Sensor) (a k : ℕ) (d : Sensor) (next_row : ℕ) (row : Row) → IsPlatform p → MayArriveAt (view_of p) a row k → sensors.items ≡ set p.progress.fields.sensors.items k (with_row row (get_or p.progress.fields.sensors.items k d)) → next_row ≤ p.progress.next_row → next_row ≤ row.seen → IsPlatform (with_sensors p sensors next_row)
is_platform p sensors a k d next_row row is may set_is no_later before =
    let g : Graph = platform_graph p in
    let ss : List Sensor = p.progress.fields.sensors.items in
    let level : ℕ → ℕ = level_of (arc_value p.plan).ranks in
    let new : Arrived g ss a row sensors.items = at_place p sensors a k d row is may set_is in
    let rows : rows_at_sensors sensors.items ≡ followed (rows_at_sensors ss) (just a row) = λ i b. new.rows b i in
    let later : (r : ℕ) → r < row.seen → SeenAfter r (just a row) = λ r lt b. each_just (λ (x : Row). r < x.seen) a b row lt in
    record {
      admitted = is.admitted;
      sound = record { groups = is.sound.groups; states = is.sound.states; open_claims = is.sound.open_claims; links = is.sound.links; at_units = is.sound.at_units; none_safe = is.sound.none_safe };
      sensors = new.sensors;
      fit = subst (FitRows g) (sym rows) (rows_next g (rows_at_sensors ss) a row is.fit (record { fits = may.may.next.fits; times = may.may.next.times; seen = may.may.next.seen }));
      closing = is.closing;
      claims = is.claims;
      ran = subst (λ z. Ran g level p.number z p.progress.history.turns (state_at (view_of (with_sensors p sensors next_row))) p.progress.fault) (sym rows)
          (subst (λ z. Ran g level p.number (followed (rows_at_sensors ss) (just a row)) p.progress.history.turns z p.progress.fault) (sym (state_grown p sensors a next_row row new))
          (ran_grown g level p.number (rows_at_sensors ss) a row p.progress.history.turns (state_at (view_of p)) p.progress.fault may.may.home (λ q read. later q (may.may.next.read q read)) is.ran));
      ended = is.ended;
      empty = is.empty;
      sent = is.sent;
      room = tt;
      next = tt;
      next_row = λ r b lt.
          ap (due r) (new.left b)
          ∙ due_grown r (left_in ss b) (just a row b) (later r (omega (arith, lt, before)) b)
          ∙ is.next_row r b (omega (arith, lt, no_later));
    }

-- and it is the one before with this row
pub has_arrived : (p : Inside) (sensors : Vec Sensor) (a k : ℕ) (d : Sensor) (next_row : ℕ) (row : Row) → IsPlatform p → MayArriveAt (view_of p) a row k → sensors.items ≡ set p.progress.fields.sensors.items k (with_row row (get_or p.progress.fields.sensors.items k d)) → HasArrived (view_of p) (view_of (with_sensors p sensors next_row)) a row
has_arrived p sensors a k d next_row row is may set_is =
    let new : Arrived (platform_graph p) p.progress.fields.sensors.items a row sensors.items = at_place p sensors a k d row is may set_is in
    record { same = refl; rows = new.rows; state = state_grown p sensors a next_row row new }

-- the platform with sensors that have the same items
abbrev pub with_same : Inside → Vec Sensor → Inside
with_same p sensors = record p { progress = record p.progress { fields = record p.progress.fields { sensors = sensors } } }

roomy_same : (p : Inside) (sensors : Vec Sensor) (r : Room) → sensors.items ≡ p.progress.fields.sensors.items → IsRoomy p r → IsRoomy (with_same p sensors) r
roomy_same p sensors r same h =
    let g : Graph = platform_graph p in
    let at : ℕ = raised_to p.progress.fields.reading r.reading in
    let due : count_due g at (record p.progress.fields { sensors = sensors }) ≡ count_due g at p.progress.fields = ap (λ (ss : List Sensor). length (all_due g at (left_in ss))) same in
    record {
      fields = record {
        events = omega (arith, due, h.fields.events);
        outbox = h.fields.outbox;
        open_claims = h.fields.open_claims;
        posted = h.fields.posted;
        rows = omega (arith, due, h.fields.rows);
        taken = h.fields.taken;
        claimed = h.fields.claimed;
      };
      turns = h.turns;
      posted = h.posted;
      rows = omega (arith, due, h.rows);
      taken = h.taken;
      claimed = h.claimed;
      sent = h.sent;
    }

still_roomy : (p : Inside) (sensors : Vec Sensor) (o : Option Room) → sensors.items ≡ p.progress.fields.sensors.items → MatchOption o (Unit {0}) (IsRoomy p) → MatchOption o (Unit {0}) (IsRoomy (with_same p sensors))
still_roomy p sensors None same h = tt
still_roomy p sensors (Some r) same h = roomy_same p sensors r same h

-- is a platform
pub is_same : (p : Inside) (sensors : Vec Sensor) → sensors.items ≡ p.progress.fields.sensors.items → IsPlatform p → IsPlatform (with_same p sensors)
is_same p sensors same is =
    let g : Graph = platform_graph p in
    let s : State = state_at (view_of p) in
    record {
      admitted = is.admitted;
      sound = record { groups = is.sound.groups; states = is.sound.states; open_claims = is.sound.open_claims; links = is.sound.links; at_units = is.sound.at_units; none_safe = is.sound.none_safe };
      sensors = subst (AreSensors g) (sym same) is.sensors;
      fit = subst (λ ss. FitRows g (rows_at_sensors ss)) (sym same) is.fit;
      closing = is.closing;
      claims = is.claims;
      ran = subst (λ (ss : List Sensor). Ran g (level_of (arc_value p.plan).ranks) p.number (rows_at_sensors ss) p.progress.history.turns (record s { left = left_in ss }) p.progress.fault) (sym same) is.ran;
      ended = is.ended;
      empty = is.empty;
      sent = is.sent;
      room = still_roomy p sensors p.room same is.room;
      next = subst (λ (ss : List Sensor). MatchOption p.next (Unit {0}) (IsNextReading g p.number (record s { left = left_in ss }))) (sym same) is.next;
      next_row = subst (λ ss. NoneSeenBefore p.progress.next_row (left_in ss)) (sym same) is.next_row;
    }

-- the sensors where a row was refused
pub same_items : (ss : List Sensor) (k : ℕ) (d new : Sensor) → new ≡ get_or ss k d → set ss k new ≡ ss
same_items ss k d new is = ap (set ss k) is ∙ set-get_or ss k d

-- no entry of this sensor is there
pub no_sensor : (p : Inside) (a : ℕ) → position (is_of a) p.progress.fields.sensors.items ≡ None → HasSensor (view_of p) a → ⊥
no_sensor p a none has = no_place p.progress.fields.sensors.items a has.entry none has.is_in has.is_of

-- the rows of the sensor at a place are in order
pub in_order : (p : Inside) (k : ℕ) (s : Sensor) → IsPlatform p → k < length p.progress.fields.sensors.items → s ≡ get_or p.progress.fields.sensors.items k s → AreInOrder s.rows
in_order p k s is lt at =
    let ss : List Sensor = p.progress.fields.sensors.items in
    let own : rows_at_sensors ss (get_or ss k s).actor ≡ (get_or ss k s).rows = found_at ss 0 k s is.sensors.0 lt in
    subst (λ (z : Sensor). AreInOrder z.rows) (sym at) (subst AreInOrder own (is.fit.in_order (get_or ss k s).actor, is.fit.times (get_or ss k s).actor))

-- what was tested of the sensor at a place is said of the platform
said : (p : Inside) (a k : ℕ) (s : Sensor) (P : ℕ → List Row → Type 0) → IsPlatform p → position (is_of a) p.progress.fields.sensors.items ≡ Some k → s ≡ get_or p.progress.fields.sensors.items k s → P s.actor s.rows → P a (rows_at_sensors p.progress.fields.sensors.items a)
said p a k s P is found at h =
    let ss : List Sensor = p.progress.fields.sensors.items in
    let place = position-Some (is_of a) ss k s found in
    let actor : (get_or ss k s).actor ≡ a = eqb-true (get_or ss k s).actor a place.1 in
    let own : rows_at_sensors ss a ≡ (get_or ss k s).rows = ap (rows_at_sensors ss) (sym actor) ∙ found_at ss 0 k s is.sensors.0 place.0 in
    subst (P a) (sym own) (subst (λ b. P b (get_or ss k s).rows) actor (subst (λ (z : Sensor). P z.actor z.rows) at h))

pub may_at : (p : Inside) (a k : ℕ) (row : Row) (s : Sensor) → IsPlatform p → position (is_of a) p.progress.fields.sensors.items ≡ Some k → s ≡ get_or p.progress.fields.sensors.items k s → platform_of (platform_graph p) a ≡ p.number → IsNext (platform_graph p) s.actor s.rows p.progress.fields.reading row → MayArriveAt (view_of p) a row k
may_at p a k row s is found at home next =
    let ss : List Sensor = p.progress.fields.sensors.items in
    record {
      within = (position-Some (is_of a) ss k s found).0;
      actor = λ d. eqb-true (get_or ss k d).actor a (position-Some (is_of a) ss k d found).1;
      may = record { home = home; next = said p a k s (λ b rows. IsNext (platform_graph p) b rows p.progress.fields.reading row) is found at next };
    }

refused : (v : PlatformView) (a : ℕ) (row : Row) (why : Unfit) → ShowsUnfit v.plan.graph a (rows_at v a) v.reading row why → ShowsRefused v a row why
refused v a row unfit.NoSensor h = λ has. h has.file has.bound has.kind
refused v a row unfit.NotAfter h = h
refused v a row unfit.SeenEarly h = h
refused v a row unfit.PastHorizon h = h
refused v a row (unfit.Late limit) h = h
refused v a row unfit.NotSeenNext h = h
refused v a row unfit.Memory h = h

pub why_not : (p : Inside) (a k : ℕ) (row : Row) (s : Sensor) (why : Unfit) → IsPlatform p → position (is_of a) p.progress.fields.sensors.items ≡ Some k → s ≡ get_or p.progress.fields.sensors.items k s → ShowsUnfit (platform_graph p) s.actor s.rows p.progress.fields.reading row why → ShowsRefused (view_of p) a row why
why_not p a k row s why is found at h = refused (view_of p) a row why (said p a k s (λ b rows. ShowsUnfit (platform_graph p) b rows p.progress.fields.reading row why) is found at h)
