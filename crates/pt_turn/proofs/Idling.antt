-- A turn before the next reading, without results and messages.
use Rattle.std.proofs.Common.{◌≡◌, ℕ, ◌<◌, ◌≤◌, ◌^◌, true, false, List, [], ◌++◌, Option, Some, None, length, refl, sym, ap, subst, ◌∙◌, inl, inr, ⊎_elim, arith, append-nil}
use Rattle.std.proofs.lemmas.Bool.{false≢true}
use Rattle.std.specs.Prelude.{MatchOption}
use Rattle.std.specs.Arc.{arc_value}
use Rattle.std.specs.List.{range_with_len}
use Rattle.pt_types.specs.declared.graph.Graph.{Graph}
use Rattle.pt_types.specs.declared.firing.OnLink.{OnLink}
use Rattle.pt_types.specs.declared.firing.Task.{Task}
use Rattle.pt_semantics.specs.Closing.{CanClose}
use Rattle.pt_semantics.specs.Entering.{due}
use Rattle.pt_semantics.specs.Kept.{kept_with}
use Rattle.pt_semantics.specs.Paced.{IsNextReading}
use Rattle.pt_semantics.specs.Platform.{State, raised}
use Rattle.pt_semantics.specs.Safe.{NothingSafe}
use Rattle.pt_semantics.specs.Turn.{IsTurn, Turn}
use Rattle.pt_laws.proofs.Idle.{idle_before}
use Rattle.pt_causality.specs.Ranked.{level_of}
use Rattle.pt_offsets.specs.Timings.{offset_of}
use Rattle.pt_history.specs.Turns.{fresh}
use Rattle.pt_history.specs.declared.history.History.{History}
use Rattle.pt_turn.specs.declared.state.fields.Fields.{Fields}
use Rattle.pt_turn.specs.Fields.State.{state_of}
use Rattle.pt_turn.specs.declared.claim_step.TurnEnd.TheVariants.{On}
use Rattle.pt_turn.specs.declared.steps.Lists.{Lists}
use Rattle.pt_turn.specs.Steps.{AreEmpty, IsMade, turn_of}
use Rattle.pt_turn.specs.Posts.Posted.{picked}
use Rattle.pt_turn.specs.declared.room.Room.{Room}
use Rattle.pt_turn.specs.declared.platform.Platform.TheInside.{Inside}
use Rattle.pt_turn.specs.Platforms.{IsPlatform, IsRoomy, platform_graph, messages_of}
use Rattle.pt_turn.proofs.Again.{IsDone}
use Rattle.pt_turn.proofs.NoRows.{none_enters, rows_stay}
use Rattle.pt_turn.proofs.Readiness.{basis_of}

-- a turn in which nothing is done
record IsQuietTurn (g : Graph) (level : ℕ → ℕ) (i : ℕ) (s : State) (turn : Turn) (new : State) : Type 0 where
  is : IsTurn g level i s turn false new
  ready : is.ready ≡ raised s turn.last

-- nothing is due, safe or ready to close
record IsIdle (g : Graph) (i : ℕ) (s : State) (r : ℕ) : Type 0 where
  due : (a : ℕ) → due r (s.left a) ≡ []
  safe : NothingSafe g s.waits s.busy r
  closes : CanClose g i s r → ⊥

quiet_turn : (g : Graph) (level : ℕ → ℕ) (i : ℕ) (s : State) (r : ℕ) → ((p : ℕ) → s.reading ≡ Some p → p ≤ r) → s.claims ≤ g.claims → IsIdle g i s r → IsQuietTurn g level i s (fresh r) (raised s r)
quiet_turn g level i s r rises few idle = record {
  is = record {
    rises = rises;
    span = omega arith;
    posted = s;
    posts = refl;
    rows = sym (none_enters s.left r idle.due (range_with_len 0 (length g.actors)));
    got = s;
    takes = (refl, sym (rows_stay s r idle.due));
    ready = raised s r;
    claims = refl;
    idle_if_late = λ l. refl;
    greedy = λ e. inr (inl idle.safe);
    at_most = (omega arith, few);
    done = raised s r;
    closes = inr ((λ can. absurd (idle.closes (record { was_open = can.was_open; bounds = can.bounds; nothing_waits = can.nothing_waits; nothing_open = can.nothing_open; nothing_to_send = can.nothing_to_send }))), refl);
    sends = (s.outbox, refl, (λ l. refl), (λ l. omega arith));
  };
  ready = refl;
}

turn_is : (r : ℕ) (lists : Lists) → AreEmpty lists → turn_of r [] lists ≡ fresh r
turn_is r lists e = λ i. record { first = r; last = r; count = 1; posted = picked [] (e.posted i); rows = e.rows i; taken = e.taken i; claimed = e.claimed i; sent = [] }

nothing_taken : (lists : Lists) (taken : List OnLink) → AreEmpty lists → taken ++ lists.taken.items ≡ taken
nothing_taken lists taken e = ap (λ ms. taken ++ ms) e.taken ∙ append-nil taken

is_made : (p : Inside) (r most : ℕ) → IsPlatform p → ((q : ℕ) → p.progress.fields.reading ≡ Some q → q ≤ r) → IsIdle (platform_graph p) p.number (state_of p.progress.fields (messages_of p.progress.history.turns)) r → IsMade (platform_graph p) (basis_of p) r most [] [] p.progress.fields (record p.progress.fields { reading = Some r }) p.progress.lists On
is_made p r most is rises idle =
    let g : Graph = platform_graph p in
    let level : ℕ → ℕ = level_of (arc_value p.plan).ranks in
    let s : State = state_of p.progress.fields (messages_of p.progress.history.turns) in
    let new : Fields = record p.progress.fields { reading = Some r } in
    let same : turn_of r [] p.progress.lists ≡ fresh r = turn_is r p.progress.lists is.empty in
    let quiet : IsQuietTurn g level p.number s (turn_of r [] p.progress.lists) (state_of new (messages_of p.progress.history.turns)) = subst (λ (t : Turn). IsQuietTurn g level p.number s t (state_of new (messages_of p.progress.history.turns))) (sym same) (quiet_turn g level p.number s r rises is.claims idle) in
    let part : IsQuietTurn g level p.number s (turn_of r [] p.progress.lists) (state_of new (messages_of p.progress.history.turns ++ p.progress.lists.taken.items)) = subst (λ (ms : List OnLink). IsQuietTurn g level p.number s (turn_of r [] p.progress.lists) (state_of new ms)) (sym (nothing_taken p.progress.lists (messages_of p.progress.history.turns) is.empty)) quiet in
    let safe : NothingSafe g part.is.ready.waits part.is.ready.busy r = subst (λ (z : State). NothingSafe g z.waits z.busy r) (sym part.ready) idle.safe in
    record {
      turn = part.is;
      posted = ap (picked []) is.empty.posted;
      taken = record { rest = []; front = sym (append-nil p.progress.lists.taken.items ∙ is.empty.taken); all = λ late. refl };
      few = subst (λ (ts : List Task). length ts ≤ most) (sym is.empty.claimed) (omega arith);
      all_or = λ late. inl safe;
      last = λ h. ⊎_elim (λ (l : false ≡ true). false≢true l) (λ (m : (g.claims ≤ p.progress.fields.claims) × (NothingSafe g part.is.ready.waits part.is.ready.busy r → ⊥)). m.1 safe) h;
    }

-- what always holds of the next reading
is_idle : (p : Inside) (r next : ℕ) → IsPlatform p → IsNextReading (platform_graph p) p.number (state_of p.progress.fields (messages_of p.progress.history.turns)) next → r < next → IsIdle (platform_graph p) p.number (state_of p.progress.fields (messages_of p.progress.history.turns)) r
is_idle p r next is is_next before =
    let idle = idle_before (platform_graph p) p.number (state_of p.progress.fields (messages_of p.progress.history.turns)) (offset_of (arc_value p.plan).offsets) next p.closing r is.admitted.offsets.units is.closing is_next before in
    record { due = idle.0; safe = idle.1; closes = idle.2 }

pub has_rested : (p : Inside) (r most next : ℕ) (history : History) (handed : List Task) → IsPlatform p → IsNextReading (platform_graph p) p.number (state_of p.progress.fields (messages_of p.progress.history.turns)) next → r < next → ((q : ℕ) → p.progress.fields.reading ≡ Some q → q ≤ r) → history.turns ≡ kept_with p.progress.history.turns (fresh r) → length p.progress.fields.outbox.items ≤ history.room.sent → r < 2 ^ 64
    → IsDone p r most [] [] (record p.progress.fields { reading = Some r }) history p.progress.lists None handed handed
has_rested p r most next history handed is is_next before rises turns sent fits = record {
  kept = record {
    lists = p.progress.lists;
    ending = On;
    made = is_made p r most is rises (is_idle p r next is is_next before);
    full = tt;
    names = refl;
    turns = turns ∙ ap (kept_with p.progress.history.turns) (sym (turn_is r p.progress.lists is.empty));
    tasks = sym (ap (λ ts. handed ++ ts) is.empty.claimed ∙ append-nil handed);
  };
  sound = record { groups = is.sound.groups; states = is.sound.states; open_claims = is.sound.open_claims; links = is.sound.links; at_units = is.sound.at_units; none_safe = is.sound.none_safe };
  sensors = is.sensors;
  all_rows = λ a. refl;
  reading = refl;
  claims = is.claims;
  empty = is.empty;
  sent = sent;
  fits = fits;
}

-- for what there is memory is the same, whatever is known of the next reading
abbrev pub with_next : Inside → Option ℕ → Inside
with_next p next = record p { next = next }

roomy_still : (p : Inside) (next : Option ℕ) (room : Option Room) → MatchOption room (Unit {0}) (IsRoomy p) → MatchOption room (Unit {0}) (IsRoomy (with_next p next))
roomy_still p next None roomy = tt
roomy_still p next (Some r) roomy = record {
  fields = roomy.fields;
  turns = roomy.turns;
  posted = roomy.posted;
  rows = roomy.rows;
  taken = roomy.taken;
  claimed = roomy.claimed;
  sent = roomy.sent;
}

pub knows_next : (p : Inside) (next : ℕ) → IsPlatform p → IsNextReading (platform_graph p) p.number (state_of p.progress.fields (messages_of p.progress.history.turns)) next → IsPlatform (with_next p (Some next))
knows_next p next is known = record {
  admitted = is.admitted;
  sound = is.sound;
  sensors = is.sensors;
  fit = is.fit;
  closing = is.closing;
  claims = is.claims;
  ran = is.ran;
  ended = is.ended;
  empty = is.empty;
  sent = is.sent;
  room = roomy_still p (Some next) p.room is.room;
  next = known;
  next_row = is.next_row;
}
