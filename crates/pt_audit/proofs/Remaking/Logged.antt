-- The turn that was made has the hints, and is the only one that has them.
use Rattle.std.proofs.Common.{◌≡◌, ℕ, suc, ◌+◌, ◌≤◌, max, Bool, List, [], ◌∷◌, ◌++◌, None, length, map, refl, sym, ap, subst, ◌∙◌, append-nil, arith, length-append}
use Rattle.std.proofs.lemmas.List.{append_cancel_left}
use Rattle.pt_types.specs.declared.firing.Done.{Done}
use Rattle.pt_types.specs.declared.firing.OnLink.{OnLink}
use Rattle.pt_types.specs.declared.firing.Task.{Task}
use Rattle.pt_types.specs.declared.graph.Graph.{Graph}
use Rattle.pt_history.specs.Lists.{on_last}
use Rattle.pt_history.specs.Turns.{sending}
use Rattle.pt_history.proofs.LastMember.{on_last-push}
use Rattle.pt_semantics.specs.Closing.{Sends, on_link, unsent}
use Rattle.pt_semantics.specs.Kept.{kept_with, settled}
use Rattle.pt_semantics.specs.Platform.{State}
use Rattle.pt_semantics.specs.Turn.{IsTurn, Turn}
use Rattle.pt_turn.specs.Posts.Posted.{AreDone}
use Rattle.pt_turn.specs.Fields.State.{busy_in}
use Rattle.pt_turn.specs.Platforms.{PlatformView, level_at, state_at}
use Rattle.pt_turn.specs.Turned.{IsTurned, StaysThere, is_late}
use Rattle.pt_turn.proofs.Sending.{sends_more, taken_still}
use Rattle.pt_visits.specs.Visited.{HasSent}
use Rattle.pt_audit.specs.declared.parse.hints.Hints.{Hints}
use Rattle.pt_audit.specs.Parsing.Hints.{AreHints}
use Rattle.pt_audit.proofs.Parsing.SameTexts.{HaveSameHints, hints_same}
use Rattle.pt_audit.proofs.Remaking.Results.{number_of}
use Rattle.pt_audit.specs.Remaking.Remade.{HasRemade, IsOnly, at_last}
use Rattle.pt_audit.specs.Remaking.Steps.{AreOf, CanSend, HasCounts, IsInForm}
use Rattle.pt_audit.proofs.Remaking.OneTurn.{new_state, same_claims, same_rows, took}
use Rattle.pt_audit.proofs.Remaking.Results.{numbers_are, posted_by_count, posts_open, same_numbers}
use Rattle.pt_audit.proofs.Remaking.Tidy.{IsTidy}
use Rattle.pt_audit.proofs.Remaking.Counts.{reading_is}

-- what was left in the outboxes after the platform sent
state_after : (mid : PlatformView) (ms outbox : List OnLink) → state_at (record mid { turns = on_last (sending ms) mid.turns; outbox = outbox }) ≡ unsent (state_at mid) (λ (l : ℕ). on_link l outbox)
state_after mid ms outbox = ap (λ (z : List OnLink). record (state_at mid) { outbox = λ l. on_link l outbox; taken = λ l. on_link l z }) (taken_still mid.turns ms)

-- the turn that was made, with the readings and the count of the hints, and with the messages sent after it
module _ (hints : Hints) (old mid : PlatformView) (claims : List Task) (dones : List Done) (named : hints.platform ≡ old.number) (no_fault : old.fault ≡ None)
    (tidy : IsTidy old.plan.graph (level_at old) old.number claims (state_at old)) (form : IsInForm old.reading hints)
    (are : AreOf claims hints.posts.items dones) (done : AreDone old.plan.graph dones) (made : IsTurned old mid hints.last (max 1 hints.claims) dones hints.taken.items) (stays : StaysThere old mid) (counts : HasCounts hints made.turn) where
  abbrev logged_turn : Turn
  logged_turn = record made.turn { first = hints.first; count = hints.count; sent = made.turn.sent ++ hints.sent.items }

  at_reading : made.turn.last ≡ hints.last
  at_reading = made.at.1 ∙ reading_is old.reading hints form

  posted_are : made.turn.posted ≡ dones
  posted_are = posted_by_count old.plan.graph (busy_in old.open_claims) dones made.turn.posted made.posted (counts.posted ∙ sym are.count)

  taken_are : hints.taken.items ≡ made.turn.taken
  taken_are = made.taken.front ∙ ap (λ ms. made.turn.taken ++ ms) (no_more made.turn.taken made.taken.rest (ap length (sym made.taken.front) ∙ sym counts.taken)) ∙ append-nil made.turn.taken
    where
      no_more : (xs ys : List OnLink) → length (xs ++ ys) ≡ length xs → ys ≡ []
      no_more xs [] e = refl
      no_more xs (y ∷ ys) e = absurd (longer (length xs) (length ys) (sym (length-append xs (y ∷ ys)) ∙ e))
        where
          longer : (a b : ℕ) → a + suc b ≡ a → ⊥
          longer a b e = omega (arith, e)

  are_hints : AreHints old.number logged_turn hints
  are_hints = record {
    platform = named;
    first = refl;
    last = sym at_reading;
    count = refl;
    posts = numbers_are old.plan.graph (level_at old) old.number claims (state_at old) hints.posts.items dones tidy are ∙ ap (map number_of) (sym posted_are);
    taken = taken_are;
    claims = sym counts.claimed;
    sent = sym (ap (λ z. z ++ hints.sent.items) made.at.3);
  }

  logged_sends : (outbox : List OnLink) → ((l : ℕ) → on_link l mid.outbox ≡ on_link l hints.sent.items ++ on_link l outbox) → ((l : ℕ) → length (on_link l hints.sent.items) ≤ 64)
      → Sends made.is.done (made.turn.sent ++ hints.sent.items) (state_at (record mid { turns = on_last (sending hints.sent.items) mid.turns; outbox = outbox }))
  logged_sends outbox splits few =
      subst (λ z. Sends made.is.done (made.turn.sent ++ hints.sent.items) z) (sym (state_after mid hints.sent.items outbox))
      (sends_more made.is.done (state_at mid) made.turn.sent hints.sent.items (λ (l : ℕ). on_link l outbox) made.is.sends splits
      (λ l lt. subst (λ z. length (on_link l (z ++ hints.sent.items)) ≤ 64) (sym made.at.3) (few l)))

  abbrev is_logged : (outbox : List OnLink) → ((l : ℕ) → on_link l mid.outbox ≡ on_link l hints.sent.items ++ on_link l outbox) → ((l : ℕ) → length (on_link l hints.sent.items) ≤ 64)
      → IsTurn old.plan.graph (level_at old) old.number (state_at old) logged_turn (is_late mid.fault) (state_at (record mid { turns = on_last (sending hints.sent.items) mid.turns; outbox = outbox }))
  is_logged outbox splits few = record {
    rises = form.rises;
    span = subst (λ r. hints.first ≤ r) (sym at_reading) form.span;
    posted = made.is.posted;
    posts = made.is.posts;
    rows = made.is.rows;
    got = made.is.got;
    takes = made.is.takes;
    ready = made.is.ready;
    claims = made.is.claims;
    idle_if_late = made.is.idle_if_late;
    greedy = made.is.greedy;
    at_most = made.is.at_most;
    done = made.is.done;
    closes = made.is.closes;
    sends = logged_sends outbox splits few;
  }

  at_last_is : at_last logged_turn ≡ sending hints.sent.items made.turn
  at_last_is =
      let first : made.turn.last ≡ made.turn.first = made.at.1 ∙ sym made.at.0 in
      let count : 1 ≡ made.turn.count = sym made.at.2 in
      λ i. record (sending hints.sent.items made.turn) { first = first i; count = count i }

  kept_as : on_last (sending hints.sent.items) mid.turns ≡ kept_with old.turns (at_last logged_turn)
  kept_as = ap (on_last (sending hints.sent.items)) made.turns ∙ on_last-push (sending hints.sent.items) (settled old.turns) made.turn ∙ ap (kept_with old.turns) (sym at_last_is)

  remade_with : (outbox : List OnLink) → ((l : ℕ) → on_link l mid.outbox ≡ on_link l hints.sent.items ++ on_link l outbox) → ((l : ℕ) → length (on_link l hints.sent.items) ≤ 64)
      → HasRemade hints old (record mid { turns = on_last (sending hints.sent.items) mid.turns; outbox = outbox })
  remade_with outbox splits few = record {
    no_fault = no_fault;
    turn = logged_turn;
    hints_are = are_hints;
    counts = (form.counted, λ one. form.single one ∙ sym at_reading);
    is = is_logged outbox splits few;
    last = made.last;
    kept = kept_as;
    stays = record { plan = stays.plan; number = stays.number; rows = stays.rows };
  }

  pub remade : (new : PlatformView) → HasSent mid new hints.sent.items → CanSend mid.outbox hints.sent.items → HasRemade hints old new
  remade new sent can =
      let is : new ≡ record mid { turns = on_last (sending hints.sent.items) mid.turns; outbox = new.outbox } = sent.stays ∙ ap (λ (ts : List Turn). record mid { turns = ts; outbox = new.outbox }) sent.turns in
      subst (HasRemade hints old) (sym is) (remade_with new.outbox sent.rest can.few)

-- two turns from one tidy state, of which the same hints are right, are one and lead to one state
pub one_turn : (g : Graph) (level : ℕ → ℕ) (i p q : ℕ) (claims : List Task) (s new other : State) (turn logged : Turn) (late slow : Bool) → IsTidy g level i claims s → IsTurn g level i s turn late new → IsTurn g level i s logged slow other → HaveSameHints p q turn logged
    → (turn ≡ logged) × (late ≡ slow) × (new ≡ other)
one_turn g level i p q claims s new other turn logged late slow tidy k j same =
    let posted : turn.posted ≡ logged.posted = same_numbers g level i claims s turn.posted logged.posted tidy (posts_open g turn.posted s k.posted k.posts) (posts_open g logged.posted s j.posted j.posts) same.posts in
    let rows : turn.rows ≡ logged.rows = same_rows g level i s new other turn logged late slow k j same.last posted in
    let both = took g level i s new other turn logged late slow k j same.last posted same.taken in
    let claimed = same_claims g level i s new other turn logged late slow k j same.last posted same.taken same.claims in
    let state : new ≡ other = new_state g level i s new other turn logged late slow k j same.last posted same.taken same.claims same.sent in
    (λ n. record { first = same.first n; last = same.last n; count = same.count n; posted = posted n; rows = rows n; taken = same.taken n; claimed = claimed.0 n; sent = same.sent n }, both.0, state)

-- each turn with these hints that leads from the old state is the one that was made
pub only_one : (hints : Hints) (old new : PlatformView) (claims : List Task) → IsTidy old.plan.graph (level_at old) old.number claims (state_at old) → HasRemade hints old new → IsOnly hints old new
only_one hints old new claims tidy h turn late s logged is =
    let one = one_turn old.plan.graph (level_at old) old.number old.number old.number claims (state_at old) (state_at new) s h.turn turn (is_late new.fault) late tidy h.is is (hints_same old.number old.number h.turn turn hints h.hints_are logged) in
    (h.kept ∙ ap (λ (t : Turn). kept_with old.turns (at_last t)) one.0, sym one.1, sym one.2)

-- so it is the turn that was made again
pub same_turn : (hints : Hints) (old new : PlatformView) (h : HasRemade hints old new) → IsOnly hints old new → (turn : Turn) (late : Bool) (s : State) → AreHints old.number turn hints → IsTurn old.plan.graph (level_at old) old.number (state_at old) turn late s → turn ≡ h.turn
same_turn hints old new h only turn late s logged is =
    let recorded : at_last turn ≡ at_last h.turn = one_end (settled old.turns) (at_last turn) (at_last h.turn) (sym (only turn late s logged is).0 ∙ h.kept) in
    let first : turn.first ≡ h.turn.first = sym logged.first ∙ h.hints_are.first in
    let count : turn.count ≡ h.turn.count = sym logged.count ∙ h.hints_are.count in
    λ i. record (recorded i) { first = first i; count = count i }
  where
    one_end : (before : List Turn) (x y : Turn) → before ++ x ∷ [] ≡ before ++ y ∷ [] → x ≡ y
    one_end before x y e = let same : x ∷ [] ≡ y ∷ [] = append_cancel_left before (x ∷ []) (y ∷ []) e in cc
