-- With more memory it is the same platform.
use Rattle.std.proofs.Common.{◌≡◌, ℕ, ◌<◌, ◌≤◌, List, Option, Some, None, length, sym, ap, subst, ◌∙◌, arith}
use Rattle.std.specs.Prelude.{MatchOption}
use Rattle.std.specs.Arc.{arc_value}
use Rattle.std.proofs.lemmas.List.Sums.{count_by-le-length}
use Rattle.pt_types.specs.declared.graph.Graph.{Graph}
use Rattle.pt_types.specs.declared.firing.OnLink.{OnLink}
use Rattle.pt_semantics.specs.Closing.{on_link}
use Rattle.pt_semantics.specs.Entering.{all_due}
use Rattle.pt_semantics.specs.Lists.{Each}
use Rattle.pt_semantics.specs.Paced.{IsNextReading}
use Rattle.pt_semantics.specs.Platform.{State}
use Rattle.pt_semantics.specs.Rows.{FitRows}
use Rattle.pt_semantics.specs.Safe.{NothingSafe}
use Rattle.pt_causality.specs.Ranked.{level_of}
use Rattle.pt_turn.specs.Fields.Sensors.{AreSensors}
use Rattle.pt_history.specs.declared.history.History.{History}
use Rattle.pt_turn.specs.Posts.Room.{leaving_open}
use Rattle.pt_queue.specs.Events.{waiting_in}
use Rattle.pt_queue.specs.Groups.{AreGroups}
use Rattle.pt_turn.specs.declared.state.fields.Fields.{Fields}
use Rattle.pt_turn.specs.Fields.State.{busy_in, left_in, rows_at_sensors, state_of, states_in, IsOpen, IsSound}
use Rattle.pt_turn.specs.declared.steps.Lists.{Lists}
use Rattle.pt_turn.specs.Steps.{NoneSeenBefore, count_due}
use Rattle.pt_turn.specs.declared.room.Room.{Room}
use Rattle.pt_turn.specs.declared.memory.Needs.{Needs}
use Rattle.pt_turn.specs.declared.platform.Platform.TheInside.{Inside}
use Rattle.pt_turn.specs.Growing.{AreEnough, AreWider, FieldsMeet, HistoryIsWider, HistoryMeets, ListsAreWider, ListsMeet}
use Rattle.pt_turn.specs.Platforms.{IsPlatform, IsRoomy, platform_graph, messages_of, raised_to}
use Rattle.pt_turn.specs.Running.{Ran}
use Rattle.pt_turn.specs.TakenEnds.{MarksEnds}

abbrev pub wider : Inside → Fields → History → Lists → Option Room → Inside
wider p fields history lists room = record { plan = p.plan; number = p.number; closing = p.closing; progress = record { fields = fields; history = history; ended = p.progress.ended; lists = lists; fault = p.progress.fault; next_row = p.progress.next_row }; room = room; next = p.next }

same_state : (old new : Fields) (taken : List OnLink) → AreWider old new → state_of new taken ≡ state_of old taken
same_state old new taken w = λ i. record {
  waits = ap waiting_in w.events i;
  busy = ap busy_in w.open_claims i;
  states = ap (λ v. states_in v.items) w.states i;
  left = ap (λ v. left_in v.items) w.sensors i;
  outbox = λ l. ap (on_link l) w.outbox.items i;
  taken = λ l. on_link l taken;
  reading = w.reading i;
  closed = w.closed i;
  claims = w.claims i;
}

sound_still : (g : Graph) (old new : Fields) → AreWider old new → IsSound g old → IsSound g new
sound_still g old new w is = record {
  groups = subst (AreGroups g) (sym w.groups) is.groups;
  states = ap (λ v. length v.items) w.states ∙ is.states;
  open_claims = subst (λ cs. Each (IsOpen g cs) cs) (sym w.open_claims) is.open_claims;
  links = w.outbox.links ∙ is.links;
  at_units = λ a p t v h. is.at_units a p t v (subst (λ es. waiting_in es a p t ≡ Some v) w.events h);
  none_safe = λ r lt.
      subst (λ cs. NothingSafe g (waiting_in new.queue.events) (busy_in cs) r) (sym w.open_claims)
      (subst (λ es. NothingSafe g (waiting_in es) (busy_in old.open_claims.items) r) (sym w.events) (is.none_safe r (subst (λ n. r < n) w.none_safe_before lt)));
}

due_still : (g : Graph) (r : ℕ) (old new : Fields) → AreWider old new → count_due g r new ≡ count_due g r old
due_still g r old new w = ap (λ v. length (all_due g r (left_in v.items))) w.sensors

pub is_wider : (p : Inside) (fields : Fields) (history : History) (lists : Lists) (room : Option Room) → IsPlatform p → AreWider p.progress.fields fields → HistoryIsWider p.progress.history history → ListsAreWider p.progress.lists lists → MatchOption room (Unit {0}) (IsRoomy (wider p fields history lists room)) → IsPlatform (wider p fields history lists room)
is_wider p fields history lists room is f h l roomy = record {
  admitted = is.admitted;
  sound = sound_still (platform_graph p) p.progress.fields fields f is.sound;
  sensors = subst (λ v. AreSensors (platform_graph p) v.items) (sym f.sensors) is.sensors;
  fit = subst (λ v. FitRows (platform_graph p) (rows_at_sensors v.items)) (sym f.sensors) is.fit;
  closing = is.closing;
  claims = subst (λ n. n ≤ (platform_graph p).claims) (sym f.claims) is.claims;
  ran = subst (λ v. Ran (platform_graph p) (level_of (arc_value p.plan).ranks) p.number (rows_at_sensors v.items) history.turns (state_of fields (messages_of history.turns)) p.progress.fault) (sym f.sensors)
      (subst (λ ts. Ran (platform_graph p) (level_of (arc_value p.plan).ranks) p.number (rows_at_sensors p.progress.fields.sensors.items) ts (state_of fields (messages_of ts)) p.progress.fault) (sym h.turns)
      (subst (λ s. Ran (platform_graph p) (level_of (arc_value p.plan).ranks) p.number (rows_at_sensors p.progress.fields.sensors.items) p.progress.history.turns s p.progress.fault) (sym (same_state p.progress.fields fields (messages_of p.progress.history.turns) f)) is.ran));
  ended = subst (λ ts. MarksEnds (length (platform_graph p).links) p.progress.ended (messages_of ts)) (sym h.turns) is.ended;
  empty = record {
    posted = l.posted.items ∙ is.empty.posted;
    rows = l.rows.items ∙ is.empty.rows;
    taken = l.taken.items ∙ is.empty.taken;
    claimed = l.claimed.items ∙ is.empty.claimed;
  };
  sent = omega (arith, ap length f.outbox.items, h.sent, is.sent);
  room = roomy;
  next = subst (λ (s : State). MatchOption p.next (Unit {0}) (IsNextReading (platform_graph p) p.number s)) (sym (ap (λ ts. state_of fields (messages_of ts)) h.turns ∙ same_state p.progress.fields fields (messages_of p.progress.history.turns) f)) is.next;
  next_row = subst (λ v. NoneSeenBefore p.progress.next_row (left_in v.items)) (sym f.sensors) is.next_row;
}

-- what there was room for there still is
roomy_still : (p : Inside) (fields : Fields) (history : History) (lists : Lists) (o : Option Room) (r : Room) → AreWider p.progress.fields fields → HistoryIsWider p.progress.history history → ListsAreWider p.progress.lists lists → IsRoomy p r → IsRoomy (wider p fields history lists o) r
roomy_still p fields history lists o r f h l roomy =
    let g : Graph = platform_graph p in
    let at : raised_to fields.reading r.reading ≡ raised_to p.progress.fields.reading r.reading = ap (λ z. raised_to z r.reading) f.reading in
    let due : count_due g (raised_to fields.reading r.reading) fields ≡ count_due g (raised_to p.progress.fields.reading r.reading) p.progress.fields = ap (λ n. count_due g n fields) at ∙ due_still g (raised_to p.progress.fields.reading r.reading) p.progress.fields fields f in
    let leaving : leaving_open g (busy_in fields.open_claims.items) g.wires ≡ leaving_open g (busy_in p.progress.fields.open_claims.items) g.wires = ap (λ cs. leaving_open g (busy_in cs) g.wires) f.open_claims in
    record {
      fields = record {
        events = omega (arith, leaving, due, roomy.fields.events, f.spare);
        outbox = omega (arith, f.outbox.spare, roomy.fields.outbox);
        open_claims = omega (arith, f.claims_spare, roomy.fields.open_claims);
        posted = omega (arith, l.posted.len, l.posted.capacity, roomy.fields.posted);
        rows = omega (arith, due, l.rows.len, l.rows.capacity, roomy.fields.rows);
        taken = omega (arith, l.taken.len, l.taken.capacity, roomy.fields.taken);
        claimed = omega (arith, l.claimed.len, l.claimed.capacity, roomy.fields.claimed);
      };
      turns = omega (arith, h.more_turns, roomy.turns);
      posted = omega (arith, h.posted, roomy.posted);
      rows = omega (arith, due, h.rows, roomy.rows);
      taken = omega (arith, h.taken, roomy.taken);
      claimed = omega (arith, h.claimed, roomy.claimed);
      sent = omega (arith, ap length f.outbox.items, h.sent, roomy.sent);
    }

pub room_still : (p : Inside) (fields : Fields) (history : History) (lists : Lists) (o room : Option Room) → AreWider p.progress.fields fields → HistoryIsWider p.progress.history history → ListsAreWider p.progress.lists lists → MatchOption room (Unit {0}) (IsRoomy p) → MatchOption room (Unit {0}) (IsRoomy (wider p fields history lists o))
room_still p fields history lists o None f h l roomy = tt
room_still p fields history lists o (Some r) f h l roomy = roomy_still p fields history lists o r f h l roomy

-- and what is met is enough for a turn
pub is_roomy : (p : Inside) (fields : Fields) (history : History) (lists : Lists) (o : Option Room) (r : Room) (needs : Needs) → AreWider p.progress.fields fields → AreEnough (platform_graph p) p.progress.fields (raised_to p.progress.fields.reading r.reading) r needs → FieldsMeet needs fields → ListsMeet needs lists → HistoryMeets needs history.room → IsRoomy (wider p fields history lists o) r
is_roomy p fields history lists o r needs f enough met listed kept =
    let g : Graph = platform_graph p in
    let at : raised_to fields.reading r.reading ≡ raised_to p.progress.fields.reading r.reading = ap (λ z. raised_to z r.reading) f.reading in
    let due : count_due g (raised_to fields.reading r.reading) fields ≡ count_due g (raised_to p.progress.fields.reading r.reading) p.progress.fields = ap (λ n. count_due g n fields) at ∙ due_still g (raised_to p.progress.fields.reading r.reading) p.progress.fields fields f in
    let leaving : leaving_open g (busy_in fields.open_claims.items) g.wires ≤ length g.wires = count_by-le-length _ g.wires in
    record {
      fields = record {
        events = omega (arith, leaving, due, enough.events, met.events);
        outbox = omega (arith, enough.messages, met.outbox);
        open_claims = omega (arith, enough.claimed, met.open_claims);
        posted = omega (arith, enough.posted, listed.posted);
        rows = omega (arith, due, enough.rows, listed.rows);
        taken = omega (arith, enough.taken, listed.taken);
        claimed = omega (arith, enough.claimed, listed.claimed);
      };
      turns = kept.turns;
      posted = omega (arith, enough.posted, kept.posted);
      rows = omega (arith, due, enough.rows, kept.rows);
      taken = omega (arith, enough.taken, kept.taken);
      claimed = omega (arith, enough.claimed, kept.claimed);
      sent = omega (arith, ap length f.outbox.items, enough.sent, kept.sent);
    }
