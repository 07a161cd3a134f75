-- After a turn it is a platform again, and what the turn did.
use Rattle.std.proofs.Common.{◌≡◌, ℕ, ◌+◌, ◌*◌, ◌<◌, ◌≤◌, ◌⊎◌, ◌^◌, Bool, false, List, ◌++◌, Option, Some, None, length, refl, sym, ap, subst, ◌∙◌, arith}
use Rattle.std.specs.Prelude.{MatchOption}
use Rattle.std.specs.Arc.{arc_value}
use Rattle.std.proofs.Math.Nat.{mul-le-mul_right}
use Rattle.pt_types.specs.declared.graph.Graph.{Graph}
use Rattle.pt_types.specs.declared.firing.Done.{Done}
use Rattle.pt_types.specs.declared.firing.OnLink.{OnLink}
use Rattle.pt_types.specs.declared.firing.Task.{Task}
use Rattle.pt_semantics.specs.Kept.{kept_with}
use Rattle.pt_semantics.specs.Paced.{IsNextReading}
use Rattle.pt_semantics.specs.Platform.{State}
use Rattle.pt_semantics.specs.Rows.{FitRows}
use Rattle.pt_semantics.specs.Safe.{NothingSafe}
use Rattle.pt_semantics.specs.Turn.{IsLast, IsTurn, Turn}
use Rattle.pt_causality.specs.Ranked.{level_of}
use Rattle.pt_offsets.specs.Plans.{Parts}
use Rattle.pt_turn.specs.Fields.Sensors.{AreSensors}
use Rattle.pt_history.specs.declared.history.History.{History}
use Rattle.pt_turn.specs.declared.state.fields.Fields.{Fields}
use Rattle.pt_turn.specs.Fields.State.{left_in, rows_at_sensors, state_of, IsSound}
use Rattle.pt_turn.specs.declared.claim_step.TurnEnd.{TurnEnd}
use Rattle.pt_turn.specs.declared.claim_step.TurnEnd.TheVariants.{Long as LongEnd}
use Rattle.pt_turn.specs.declared.steps.Lists.{Lists}
use Rattle.pt_turn.specs.Steps.{AreEmpty, NoneSeenBefore, ShowsEnd, took_late as ends_late, turn_of, IsFront}
use Rattle.pt_turn.specs.declared.fault.TurnFault.{TurnFault}
use Rattle.pt_turn.specs.declared.room.Room.{Room}
use Rattle.pt_turn.specs.declared.platform.Platform.TheInside.{Inside}
use Rattle.pt_turn.specs.Making.{IsRecordedTurn}
use Rattle.pt_turn.specs.Platforms.{IsPlatform, IsRoomy, PlatformView, platform_graph, messages_of, raised_to, view_of}
use Rattle.pt_turn.specs.Running.{Ran, ShowsLong}
use Rattle.pt_turn.specs.TakenEnds.{MarksEnds}
use Rattle.pt_turn.specs.Turned.{FaultsIfLast, IsEnough, IsTurned, StaysThere, is_late}
use Rattle.pt_turn.proofs.Onward.{ends_as, late_as, ran_on}
use Rattle.pt_turn.proofs.Readiness.{basis_of, both_rooms, still_runs}
use Rattle.pt_turn.proofs.Turns.{messages_more}

-- all that a turn over the parts gives
pub record IsDone (p : Inside) (r most : ℕ) (dones : List Done) (messages : List OnLink) (new : Fields) (history : History) (lists : Lists) (fault : Option TurnFault) (handed now : List Task) : Type 0 where
  pub kept : IsRecordedTurn (arc_value p.plan) (basis_of p) r most dones messages p.progress.fields new p.progress.history.turns history.turns handed now fault
  pub sound : IsSound (platform_graph p) new
  pub sensors : AreSensors (platform_graph p) new.sensors.items
  pub all_rows : (a : ℕ) → rows_at_sensors new.sensors.items a ≡ rows_at_sensors p.progress.fields.sensors.items a
  pub reading : new.reading ≡ Some r
  pub claims : new.claims ≤ (platform_graph p).claims
  pub empty : AreEmpty lists
  pub sent : length new.outbox.items ≤ history.room.sent
  pub fits : r < 2 ^ 64

-- by the clauses of the call
pub is_done : (p : Inside) (plan : Parts) (room : Room) (r most : ℕ) (dones : List Done) (messages : List OnLink) (new : Fields) (history : History) (lists : Lists) (fault : Option TurnFault) (handed now : List Task) → plan ≡ arc_value p.plan → IsRoomy p room → length dones ≤ room.done
    → IsRecordedTurn plan (record { level = level_of plan.ranks; platform = p.number; taken = messages_of p.progress.history.turns }) r most dones messages p.progress.fields new p.progress.history.turns history.turns handed now fault
    → IsSound plan.graph new → AreSensors plan.graph new.sensors.items → ((a : ℕ) → rows_at_sensors new.sensors.items a ≡ rows_at_sensors p.progress.fields.sensors.items a) → new.reading ≡ Some r → new.claims ≤ plan.graph.claims → AreEmpty lists
    → length new.outbox.items ≤ length p.progress.fields.outbox.items + length dones * length plan.graph.links + length plan.graph.links → history.room.sent ≡ p.progress.history.room.sent → r < 2 ^ 64 → IsDone p r most dones messages new history lists fault handed now
is_done p plan room r most dones messages new history lists fault handed now same roomy few kept sound sensors all_rows reading claims empty outbox sent fits =
    let bound : length new.outbox.items ≤ length p.progress.fields.outbox.items + length dones * length (platform_graph p).links + length (platform_graph p).links = subst (λ (z : Parts). length new.outbox.items ≤ length p.progress.fields.outbox.items + length dones * length z.graph.links + length z.graph.links) same outbox in
    let product : length dones * length (platform_graph p).links ≤ room.done * length (platform_graph p).links = mul-le-mul_right (length (platform_graph p).links) few in
    record {
      kept = subst (λ (z : Parts). IsRecordedTurn z (record { level = level_of z.ranks; platform = p.number; taken = messages_of p.progress.history.turns }) r most dones messages p.progress.fields new p.progress.history.turns history.turns handed now fault) same kept;
      sound = subst (λ (z : Parts). IsSound z.graph new) same sound;
      sensors = subst (λ (z : Parts). AreSensors z.graph new.sensors.items) same sensors;
      all_rows = all_rows;
      reading = reading;
      claims = subst (λ (z : Parts). new.claims ≤ z.graph.claims) same claims;
      empty = empty;
      sent = omega (arith, bound, product, sent, roomy.sent);
      fits = fits;
    }

-- the same where memory was reserved
pub is_done_as : (p : Inside) (v : PlatformView) (plan : Parts) (reading r most : ℕ) (dones : List Done) (messages : List OnLink) (new : Fields) (history : History) (lists : Lists) (fault : Option TurnFault) (handed now : List Task) → view_of p ≡ v → IsPlatform p → MatchOption v.room ⊥ (IsEnough reading (length dones) (length messages) most) → plan ≡ arc_value p.plan
    → IsRecordedTurn plan (record { level = level_of plan.ranks; platform = p.number; taken = messages_of p.progress.history.turns }) r most dones messages p.progress.fields new p.progress.history.turns history.turns handed now fault
    → IsSound plan.graph new → AreSensors plan.graph new.sensors.items → ((a : ℕ) → rows_at_sensors new.sensors.items a ≡ rows_at_sensors p.progress.fields.sensors.items a) → new.reading ≡ Some r → new.claims ≤ plan.graph.claims → AreEmpty lists
    → length new.outbox.items ≤ length p.progress.fields.outbox.items + length dones * length plan.graph.links + length plan.graph.links → history.room.sent ≡ p.progress.history.room.sent → r < 2 ^ 64 → IsDone p r most dones messages new history lists fault handed now
is_done_as p v plan reading r most dones messages new history lists fault handed now view is room same kept sound sensors all_rows read claims empty outbox sent fits =
    let both : (room : Room) × IsRoomy p room × IsEnough reading (length dones) (length messages) most room = both_rooms p p.room (IsEnough reading (length dones) (length messages) most) is.room (subst (λ (w : PlatformView). MatchOption w.room ⊥ (IsEnough reading (length dones) (length messages) most)) (sym view) room) in
    is_done p plan both.0 r most dones messages new history lists fault handed now same both.1 both.2.done kept sound sensors all_rows read claims empty outbox sent fits

abbrev pub after : Inside → Fields → History → List Bool → Lists → Option TurnFault → Option ℕ → ℕ → Inside
after p fields history ended lists fault next row = record { plan = p.plan; number = p.number; closing = p.closing; progress = record { fields = fields; history = history; ended = ended; lists = lists; fault = fault; next_row = row }; room = None; next = next }

shows_long : (g : Graph) (new : Fields) (taken : List OnLink) (r : ℕ) (ending : TurnEnd) → new.reading ≡ Some r → ShowsEnd g r new ending → ending ≡ LongEnd → ShowsLong g (state_of new taken)
shows_long g new taken r ending read full is =
    let shown : ShowsEnd g r new LongEnd = subst (ShowsEnd g r new) is full in
    record { all = shown.0; reading = r; read = read; safe = shown.1 }

taken_is : (p : Inside) (history : History) (turn : Turn) → history.turns ≡ kept_with p.progress.history.turns turn → messages_of history.turns ≡ messages_of p.progress.history.turns ++ turn.taken
taken_is p history turn is = ap messages_of is ∙ messages_more p.progress.history.turns turn

pub is_again : (p : Inside) (r most : ℕ) (dones : List Done) (messages : List OnLink) (new : Fields) (history : History) (ended : List Bool) (lists : Lists) (fault : Option TurnFault) (next : Option ℕ) (row : ℕ) (handed now : List Task) → IsPlatform p → p.progress.fault ≡ None → IsDone p r most dones messages new history lists fault handed now → MatchOption next (Unit {0}) (IsNextReading (platform_graph p) p.number (state_of new (messages_of history.turns))) → NoneSeenBefore row (left_in new.sensors.items) → MarksEnds (length (platform_graph p).links) ended (messages_of history.turns) → IsPlatform (after p new history ended lists fault next row)
is_again p r most dones messages new history ended lists fault next row handed now is on d is_next is_row marks =
    let k = d.kept in
    let turn : Turn = turn_of r dones k.lists in
    let rows : rows_at_sensors new.sensors.items ≡ rows_at_sensors p.progress.fields.sensors.items = λ i a. d.all_rows a i in
    let ran : Ran (platform_graph p) (level_of (arc_value p.plan).ranks) p.number (rows_at_sensors p.progress.fields.sensors.items) (kept_with p.progress.history.turns turn) (state_of new (messages_of p.progress.history.turns ++ k.lists.taken.items)) fault =
    ran_on (platform_graph p) (level_of (arc_value p.plan).ranks) p.number (rows_at_sensors p.progress.fields.sensors.items) p.progress.history.turns turn (state_of p.progress.fields (messages_of p.progress.history.turns)) (state_of new (messages_of p.progress.history.turns ++ k.lists.taken.items)) k.ending fault (still_runs p is on)
    (record { once = refl; one_reading = refl; fits = d.fits }) k.made.turn k.made.last k.names (shows_long (platform_graph p) new (messages_of p.progress.history.turns ++ k.lists.taken.items) r k.ending d.reading k.full) d.reading in
    record {
      admitted = is.admitted;
      sound = d.sound;
      sensors = d.sensors;
      fit = subst (FitRows (platform_graph p)) (sym rows) is.fit;
      closing = is.closing;
      claims = d.claims;
      ran = subst (λ z. Ran (platform_graph p) (level_of (arc_value p.plan).ranks) p.number z history.turns (state_of new (messages_of history.turns)) fault) (sym rows)
          (subst (λ ts. Ran (platform_graph p) (level_of (arc_value p.plan).ranks) p.number (rows_at_sensors p.progress.fields.sensors.items) ts (state_of new (messages_of history.turns)) fault) (sym k.turns)
          (subst (λ ms. Ran (platform_graph p) (level_of (arc_value p.plan).ranks) p.number (rows_at_sensors p.progress.fields.sensors.items) (kept_with p.progress.history.turns turn) (state_of new ms) fault) (sym (taken_is p history turn k.turns)) ran));
      ended = marks;
      empty = d.empty;
      sent = d.sent;
      room = tt;
      next = is_next;
      next_row = is_row;
    }

-- a turn with what it claims and how it ends
record TurnPart (g : Graph) (level : ℕ → ℕ) (i : ℕ) (s : State) (turn : Turn) (most : ℕ) (fault : Option TurnFault) (late : Bool) (new : State) : Type 0 where
  is : IsTurn g level i s turn late new
  all_or : late ≡ false → NothingSafe g is.ready.waits is.ready.busy turn.last ⊎ ((most ≤ length turn.claimed) ⊎ (g.claims ≤ is.ready.claims))
  last : FaultsIfLast fault (IsLast g s turn.last late is.ready)

-- the turn that was made
pub is_turned : (p : Inside) (r reading most : ℕ) (dones : List Done) (messages : List OnLink) (new : Fields) (history : History) (ended : List Bool) (lists : Lists) (fault : Option TurnFault) (row : ℕ) (handed now : List Task) → r ≡ raised_to p.progress.fields.reading reading → IsDone p r most dones messages new history lists fault handed now
    → (made : IsTurned (view_of p) (view_of (after p new history ended lists fault None row)) reading most dones messages) × (now ≡ handed ++ made.turn.claimed) × StaysThere (view_of p) (view_of (after p new history ended lists fault None row))
is_turned p r reading most dones messages new history ended lists fault row handed now raised d =
    let k = d.kept in
    let g : Graph = platform_graph p in
    let level : ℕ → ℕ = level_of (arc_value p.plan).ranks in
    let s : State = state_of p.progress.fields (messages_of p.progress.history.turns) in
    let turn : Turn = turn_of r dones k.lists in
    let late : is_late fault ≡ ends_late k.ending = late_as g p.progress.fields.reading k.lists.taken.items k.ending fault k.names in
    let first : TurnPart g level p.number s turn most fault (ends_late k.ending) (state_of new (messages_of p.progress.history.turns ++ k.lists.taken.items)) = record {
      is = k.made.turn;
      all_or = k.made.all_or;
      last = ends_as g p.progress.fields.reading k.lists.taken.items k.ending fault (IsLast g s turn.last (ends_late k.ending) k.made.turn.ready) k.names k.made.last;
    } in
    let part : TurnPart g level p.number s turn most fault (is_late fault) (state_of new (messages_of history.turns)) =
    subst (λ ms. TurnPart g level p.number s turn most fault (is_late fault) (state_of new ms)) (sym (taken_is p history turn k.turns))
    (subst (λ b. TurnPart g level p.number s turn most fault b (state_of new (messages_of p.progress.history.turns ++ k.lists.taken.items))) (sym late) first) in (
      record {
        turn = turn;
        at = (raised, raised, refl, refl);
        is = part.is;
        posted = k.made.posted;
        taken = subst (IsFront messages turn.taken) (sym late) k.made.taken;
        few = k.made.few;
        all_or = part.all_or;
        last = part.last;
        turns = k.turns;
      },
      k.tasks,
      record { plan = refl; number = refl; rows = λ i a. d.all_rows a i },
    )
