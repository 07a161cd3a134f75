-- After a message went out it is a platform again.
use Rattle.std.proofs.Common.{◌≡◌, ℕ, ◌+◌, ◌-◌, ◌<◌, true, false, List, [], ◌∷◌, ◌++◌, Option, Some, None, length, refl, sym, ap, subst, ◌∙◌, arith, ⊎_elim, eq-eqb, eqb-true, length-append}
use Rattle.std.specs.Prelude.{◌==◌, MatchOption}
use Rattle.std.specs.Arc.{arc_value}
use Rattle.std.proofs.lemmas.Bool.{cases_Bool, eqb-false, ne_eqb}
use Rattle.pt_tags.specs.declared.message.Message.{Message}
use Rattle.pt_types.specs.declared.firing.OnLink.{OnLink}
use Rattle.pt_history.specs.Lists.{on_last}
use Rattle.pt_semantics.specs.Closing.{on_link}
use Rattle.pt_causality.specs.Ranked.{level_of}
use Rattle.pt_history.specs.declared.history.History.{History}
use Rattle.pt_history.specs.Turns.{sending}
use Rattle.pt_turn.specs.Fields.Outbox.{OutboxView}
use Rattle.pt_turn.specs.Fields.State.{rows_at_sensors, state_of}
use Rattle.pt_turn.specs.declared.room.Room.{Room}
use Rattle.pt_turn.specs.declared.platform.Platform.TheInside.{Inside}
use Rattle.pt_turn.specs.Gone.{FirstHasGone, last_sent}
use Rattle.pt_turn.specs.Platforms.{IsPlatform, IsRoomy, platform_graph, messages_of, view_of}
use Rattle.pt_turn.specs.Running.{Ran}
use Rattle.pt_turn.specs.TakenEnds.{MarksEnds}
use Rattle.pt_turn.proofs.Coming.{on_append}
use Rattle.pt_turn.proofs.Leaving.{on_other, on_own}
use Rattle.pt_turn.proofs.Sending.{AreFront, MayFollow, ran_more, taken_still}

abbrev pub lighter : Inside → OutboxView → History → Inside
lighter p outbox history = record p { progress = record p.progress { fields = record p.progress.fields { outbox = outbox }; history = history } }

-- the first message of link l left the outbox and was sent
pub record Went (p : Inside) (l : ℕ) (m : OnLink) (outbox : OutboxView) (history : History) : Type 0 where
  pub on : m.link ≡ l
  pub first : on_link l p.progress.fields.outbox.items ≡ m.message ∷ on_link l outbox.items
  pub others : (k : ℕ) → (k ≡ l → ⊥) → on_link k outbox.items ≡ on_link k p.progress.fields.outbox.items
  pub len : length outbox.items + 1 ≡ length p.progress.fields.outbox.items
  pub links : outbox.links ≡ p.progress.fields.outbox.links
  pub spare : outbox.spare ≡ p.progress.fields.outbox.spare
  pub turns : history.turns ≡ on_last (sending (m ∷ [])) p.progress.history.turns
  pub room : history.room ≡ record p.progress.history.room { sent = p.progress.history.room.sent - 1 }
  pub begun : 0 < length p.progress.history.turns
  pub few : length (on_link l (last_sent p.progress.history.turns)) < 64

pub went_of : (p : Inside) (l : ℕ) (message : Message) (sent : List OnLink) (outbox : OutboxView) (history : History) → on_link l p.progress.fields.outbox.items ≡ message ∷ on_link l outbox.items → ((k : ℕ) → (k ≡ l → ⊥) → on_link k outbox.items ≡ on_link k p.progress.fields.outbox.items)
    → length outbox.items + 1 ≡ length p.progress.fields.outbox.items → outbox.links ≡ p.progress.fields.outbox.links → outbox.spare ≡ p.progress.fields.outbox.spare → sent ≡ record { link = l; message = message } ∷ [] → history.turns ≡ on_last (sending sent) p.progress.history.turns → history.room ≡ record p.progress.history.room { sent = p.progress.history.room.sent - length sent }
    → 0 < length p.progress.history.turns → length (on_link l (last_sent p.progress.history.turns)) < 64 → Went p l (record { link = l; message = message }) outbox history
went_of p l message sent outbox history first others len links spare one turns room begun few = record {
  on = refl;
  first = first;
  others = others;
  len = len;
  links = links;
  spare = spare;
  turns = turns ∙ ap (λ ms. on_last (sending ms) p.progress.history.turns) one;
  room = room ∙ ap (λ (ms : List OnLink). record p.progress.history.room { sent = p.progress.history.room.sent - length ms }) one;
  begun = begun;
  few = few;
}

one_on : (l : ℕ) (m : OnLink) → m.link ≡ l → on_link l (m ∷ []) ≡ m.message ∷ []
one_on l m e = on_own l m [] (eq-eqb m.link l e)

none_on : (l k : ℕ) (m : OnLink) → m.link ≡ l → (k ≡ l → ⊥) → on_link k (m ∷ []) ≡ []
none_on l k m e other = on_other k m [] (ne_eqb m.link k (λ same. other (sym same ∙ e)))

front : (p : Inside) (l : ℕ) (m : OnLink) (outbox : OutboxView) (history : History) → Went p l m outbox history → AreFront (λ k. on_link k p.progress.fields.outbox.items) (m ∷ []) (λ k. on_link k outbox.items)
front p l m outbox history w k =
    ⊎_elim
    (λ (e : (k == l) ≡ true). subst (λ j. on_link j p.progress.fields.outbox.items ≡ on_link j (m ∷ []) ++ on_link j outbox.items) (sym (eqb-true k l e)) (w.first ∙ ap (λ z. z ++ on_link l outbox.items) (sym (one_on l m w.on))))
    (λ (e : (k == l) ≡ false). sym (w.others k (eqb-false k l e)) ∙ ap (λ z. z ++ on_link k outbox.items) (sym (none_on l k m w.on (eqb-false k l e))))
    (cases_Bool (k == l))

may_follow : (l : ℕ) (m : OnLink) (sent : List OnLink) → m.link ≡ l → length (on_link l sent) < 64 → MayFollow sent (m ∷ [])
may_follow l m sent on few k le =
    let all : length (on_link k (sent ++ m ∷ [])) ≡ length (on_link k sent) + length (on_link k (m ∷ [])) = ap length (on_append k sent (m ∷ [])) ∙ length-append (on_link k sent) (on_link k (m ∷ [])) in
    ⊎_elim
    (λ (e : (k == l) ≡ true).
    let one : length (on_link k (m ∷ [])) ≡ 1 = subst (λ j. length (on_link j (m ∷ [])) ≡ 1) (sym (eqb-true k l e)) (ap length (one_on l m on)) in
    let fewer : length (on_link k sent) < 64 = subst (λ j. length (on_link j sent) < 64) (sym (eqb-true k l e)) few in
    omega (arith, all, one, fewer))
    (λ (e : (k == l) ≡ false).
    let none : length (on_link k (m ∷ [])) ≡ 0 = ap length (none_on l k m on (eqb-false k l e)) in
    omega (arith, all, none, le))
    (cases_Bool (k == l))

-- the room of the next turn is there still
roomy_still : (p : Inside) (l : ℕ) (m : OnLink) (outbox : OutboxView) (history : History) (r : Room) → Went p l m outbox history → IsRoomy p r → IsRoomy (lighter p outbox history) r
roomy_still p l m outbox history r w roomy =
    let turns : history.room.turns ≡ p.progress.history.room.turns = ap (λ z. z.turns) w.room in
    let posted : history.room.posted ≡ p.progress.history.room.posted = ap (λ z. z.posted) w.room in
    let rows : history.room.rows ≡ p.progress.history.room.rows = ap (λ z. z.rows) w.room in
    let taken : history.room.taken ≡ p.progress.history.room.taken = ap (λ z. z.taken) w.room in
    let claimed : history.room.claimed ≡ p.progress.history.room.claimed = ap (λ z. z.claimed) w.room in
    let sent : history.room.sent ≡ p.progress.history.room.sent - 1 = ap (λ z. z.sent) w.room in
    record {
      fields = record {
        events = roomy.fields.events;
        outbox = omega (arith, w.spare, roomy.fields.outbox);
        open_claims = roomy.fields.open_claims;
        posted = roomy.fields.posted;
        rows = roomy.fields.rows;
        taken = roomy.fields.taken;
        claimed = roomy.fields.claimed;
      };
      turns = omega (arith, turns, roomy.turns);
      posted = omega (arith, posted, roomy.posted);
      rows = omega (arith, rows, roomy.rows);
      taken = omega (arith, taken, roomy.taken);
      claimed = omega (arith, claimed, roomy.claimed);
      sent = omega (arith, w.len, sent, roomy.sent);
    }

room_still : (p : Inside) (l : ℕ) (m : OnLink) (outbox : OutboxView) (history : History) (room : Option Room) → Went p l m outbox history → MatchOption room (Unit {0}) (IsRoomy p) → MatchOption room (Unit {0}) (IsRoomy (lighter p outbox history))
room_still p l m outbox history None w roomy = tt
room_still p l m outbox history (Some r) w roomy = roomy_still p l m outbox history r w roomy

pub is_lighter : (p : Inside) (l : ℕ) (m : OnLink) (outbox : OutboxView) (history : History) → IsPlatform p → Went p l m outbox history → IsPlatform (lighter p outbox history)
is_lighter p l m outbox history is w =
    let sent : history.room.sent ≡ p.progress.history.room.sent - 1 = ap (λ z. z.sent) w.room in
    let taken : messages_of history.turns ≡ messages_of p.progress.history.turns = ap messages_of w.turns ∙ taken_still p.progress.history.turns (m ∷ []) in
    let ran : Ran (platform_graph p) (level_of (arc_value p.plan).ranks) p.number (rows_at_sensors p.progress.fields.sensors.items) (on_last (sending (m ∷ [])) p.progress.history.turns) (state_of (record p.progress.fields { outbox = outbox }) (messages_of p.progress.history.turns)) p.progress.fault =
    ran_more (platform_graph p) (level_of (arc_value p.plan).ranks) p.number (rows_at_sensors p.progress.fields.sensors.items) p.progress.history.turns (state_of p.progress.fields (messages_of p.progress.history.turns)) p.progress.fault (m ∷ []) (λ k. on_link k outbox.items) is.ran w.begun
    (front p l m outbox history w) (may_follow l m (last_sent p.progress.history.turns) w.on w.few) in
    record {
      admitted = is.admitted;
      sound = record { groups = is.sound.groups; states = is.sound.states; open_claims = is.sound.open_claims; links = w.links ∙ is.sound.links; at_units = is.sound.at_units; none_safe = is.sound.none_safe };
      sensors = is.sensors;
      fit = is.fit;
      closing = is.closing;
      claims = is.claims;
      ran = subst (λ ms. Ran (platform_graph p) (level_of (arc_value p.plan).ranks) p.number (rows_at_sensors p.progress.fields.sensors.items) history.turns (state_of (record p.progress.fields { outbox = outbox }) ms) p.progress.fault) (sym taken)
          (subst (λ ts. Ran (platform_graph p) (level_of (arc_value p.plan).ranks) p.number (rows_at_sensors p.progress.fields.sensors.items) ts (state_of (record p.progress.fields { outbox = outbox }) (messages_of p.progress.history.turns)) p.progress.fault) (sym w.turns) ran);
      ended = subst (MarksEnds (length (platform_graph p).links) p.progress.ended) (sym taken) is.ended;
      empty = is.empty;
      sent = omega (arith, w.len, sent, is.sent);
      room = room_still p l m outbox history p.room w is.room;
      next = is.next;
      next_row = is.next_row;
    }

pub has_gone : (p : Inside) (l : ℕ) (m : OnLink) (outbox : OutboxView) (history : History) → Went p l m outbox history → FirstHasGone (view_of p) (view_of (lighter p outbox history)) l
has_gone p l m outbox history w = record {
  message = m.message;
  first = w.first;
  others = w.others;
  sent = w.turns ∙ ap (λ k. on_last (sending (record { link = k; message = m.message } ∷ [])) p.progress.history.turns) w.on;
  rest = refl;
}
