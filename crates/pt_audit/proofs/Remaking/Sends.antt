-- Messages sent after the last turn, one by one.
use Rattle.std.proofs.Common.{◌≡◌, ℕ, zero, suc, ◌+◌, ◌<◌, ◌≤◌, true, false, List, [], ◌∷◌, ◌++◌, Some, length, set, slice_get, refl, sym, ap, subst, ◌∙◌, ⊎_elim, append-nil, append_assoc, arith, length-append, eqb-true, eq-eqb, inl, inr}
use Rattle.std.specs.Prelude.{◌==◌}
use Rattle.std.proofs.Math.ListN.{replicate}
use Rattle.std.proofs.lemmas.Bool.{cases_Bool, false≢true, ne_eqb}
use Rattle.std.proofs.lemmas.List.{append_cancel_left}
use Rattle.std.proofs.lemmas.Option.{slice_get_cases, slice_get_within}
use Rattle.pt_tags.specs.declared.message.Message.{Message}
use Rattle.pt_types.specs.declared.graph.Graph.{Graph}
use Rattle.pt_types.specs.declared.firing.OnLink.{OnLink}
use Rattle.pt_history.proofs.LastMember.{length-on_last}
use Rattle.pt_history.specs.Turns.{sending}
use Rattle.pt_semantics.specs.Closing.{on_link}
use Rattle.pt_semantics.proofs.Lookups.{none_some, same_some}
use Rattle.pt_turn.specs.Gone.{FirstHasGone, last_sent}
use Rattle.pt_turn.specs.Platforms.{PlatformView}
use Rattle.pt_turn.proofs.Coming.{on_append}
use Rattle.pt_turn.proofs.Leaving.{on_other, on_own}
use Rattle.pt_visits.specs.Visited.{HasSent}
use Rattle.pt_visits.specs.Pipes.{put_on}
use Rattle.pt_visits.proofs.Sent.{last_sent_more, sent_both, sent_none, sent_one}
use Rattle.pt_audit.specs.Remaking.Steps.{AreCounts, CanSend, OnlyLinks}
use Rattle.pt_audit.proofs.Remaking.Came.{set_elsewhere, set_here}

own : (m : OnLink) → on_link m.link (m ∷ []) ≡ m.message ∷ []
own m = on_own m.link m [] (eq-eqb m.link m.link refl)

elsewhere : (l : ℕ) (m : OnLink) → (m.link ≡ l → ⊥) → on_link l (m ∷ []) ≡ []
elsewhere l m other = on_other l m [] (ne_eqb m.link l other)

-- one message more on its link
pub counts_push : (sent : List OnLink) (counts : List ℕ) (m : OnLink) (n : ℕ) → AreCounts sent counts → slice_get counts m.link ≡ Some n → n ≡ length (on_link m.link sent) → AreCounts (sent ++ m ∷ []) (set counts m.link (n + 1))
counts_push sent counts m n h at n_is l lt =
    ⊎_elim
    (λ (e : (m.link == l) ≡ true).
    let here : m.link ≡ l = eqb-true m.link l e in
    let long : length (on_link m.link (sent ++ m ∷ [])) ≡ length (on_link m.link sent) + 1 = ap length (on_append m.link sent (m ∷ []) ∙ ap (λ z. on_link m.link sent ++ z) (own m)) ∙ length-append (on_link m.link sent) (m.message ∷ []) in
    subst (λ (k : ℕ). slice_get (set counts m.link (n + 1)) k ≡ Some (length (on_link k (sent ++ m ∷ [])))) here
    (set_here counts m.link (n + 1) (slice_get_within counts m.link n at) ∙ ap Some (ap (λ z. z + 1) n_is ∙ sym long)))
    (λ (e : (m.link == l) ≡ false).
    let apart : m.link ≡ l → ⊥ = λ same. false≢true (sym e ∙ eq-eqb m.link l same) in
    set_elsewhere counts m.link l (n + 1) (λ (same : l ≡ m.link). apart (sym same)) ∙ h l lt
    ∙ ap (λ z. Some (length z)) (sym (on_append l sent (m ∷ []) ∙ ap (λ z. on_link l sent ++ z) (elsewhere l m apart) ∙ append-nil (on_link l sent))))
    (cases_Bool (m.link == l))

-- the counts after a message went
pub went_counts : (old new : PlatformView) (counts : List ℕ) (m : OnLink) (n : ℕ) → 0 < length old.turns → AreCounts (last_sent old.turns) counts → slice_get counts m.link ≡ Some n → m.link < 64 → HasSent old new (m ∷ []) → AreCounts (last_sent new.turns) (set counts m.link (n + 1))
went_counts old new counts m n some h at lt gone =
    let n_is : n ≡ length (on_link m.link (last_sent old.turns)) = same_number n (length (on_link m.link (last_sent old.turns))) (sym at ∙ h m.link lt) in
    subst (λ z. AreCounts z (set counts m.link (n + 1))) (sym (ap last_sent gone.turns ∙ last_sent_more (m ∷ []) old.turns some))
    (counts_push (last_sent old.turns) counts m n h at n_is)
  where
    same_number : (a b : ℕ) → Some a ≡ Some b → a ≡ b
    same_number a b e = cc

-- these messages were sent
pub record SendsOn (old now : PlatformView) (sent : List OnLink) (counts : List ℕ) : Type 0 where
  pub gone : HasSent old now sent
  pub counts_are : AreCounts (last_sent now.turns) counts
  pub few : (l : ℕ) → length (on_link l sent) ≤ 64

pub nothing_yet : (v : PlatformView) (counts : List ℕ) → AreCounts (last_sent v.turns) counts → SendsOn v v [] counts
nothing_yet v counts h = record { gone = sent_none v; counts_are = h; few = λ l. omega arith }

module _ (old now : PlatformView) (sent : List OnLink) (counts : List ℕ) (so_far : SendsOn old now sent counts) where
  pub still_begun : 0 < length old.turns → 0 < length now.turns
  still_begun some =
      let same : length now.turns ≡ length old.turns = ap length so_far.gone.turns ∙ length-on_last (sending sent) old.turns in
      omega (arith, same, some)

  pub same_graph : now.plan.graph ≡ old.plan.graph
  same_graph = ap (λ (v : PlatformView). v.plan.graph) so_far.gone.stays

  pub still_links : OnlyLinks old.plan.graph old.outbox → OnlyLinks now.plan.graph now.outbox
  still_links only l none = no_rest (on_link l sent) (on_link l now.outbox) (sym (so_far.gone.rest l) ∙ only l (ap (λ (g : Graph). slice_get g.links l) (sym same_graph) ∙ none))
    where
      no_rest : (xs ys : List Message) → xs ++ ys ≡ [] → ys ≡ []
      no_rest [] ys e = e
      no_rest (x ∷ xs) ys e = cc

  -- what was sent since the last turn
  pub sent_so_far : 0 < length old.turns → last_sent old.turns ≡ [] → last_sent now.turns ≡ sent
  sent_so_far some none = ap last_sent so_far.gone.turns ∙ last_sent_more sent old.turns some ∙ ap (λ z. z ++ sent) none

  pub one_more : (new : PlatformView) (after : List ℕ) (m : OnLink) → 0 < length old.turns → last_sent old.turns ≡ [] → HasSent now new (m ∷ []) → length (on_link m.link (last_sent now.turns)) < 64 → AreCounts (last_sent new.turns) after → SendsOn old new (sent ++ m ∷ []) after
  one_more new after m some none gone room are = record {
    gone = sent_both old now new sent (m ∷ []) so_far.gone gone;
    counts_are = are;
    few = λ l.
        let long : length (on_link l (sent ++ m ∷ [])) ≡ length (on_link l sent) + length (on_link l (m ∷ [])) = ap length (on_append l sent (m ∷ [])) ∙ length-append (on_link l sent) (on_link l (m ∷ [])) in
        let before : length (on_link l sent) ≤ 64 = so_far.few l in
        ⊎_elim
        (λ (e : (m.link == l) ≡ true).
        let here : m.link ≡ l = eqb-true m.link l e in
        let one : length (on_link l (m ∷ [])) ≡ 1 = subst (λ (k : ℕ). length (on_link k (m ∷ [])) ≡ 1) here (ap length (own m)) in
        let fewer : length (on_link l sent) < 64 = subst (λ (k : ℕ). length (on_link k sent) < 64) here (subst (λ z. length (on_link m.link z) < 64) (sent_so_far some none) room) in
        omega (arith, long, one, fewer))
        (λ (e : (m.link == l) ≡ false).
        let zero_more : length (on_link l (m ∷ [])) ≡ 0 = ap length (elsewhere l m (λ (same : m.link ≡ l). false≢true (sym e ∙ eq-eqb m.link l same))) in
        omega (arith, long, zero_more, before))
        (cases_Bool (m.link == l));
  }

  pub all_sent : CanSend old.outbox sent
  all_sent = record { rest = λ l. on_link l now.outbox; front = so_far.gone.rest; few = so_far.few }

  -- if more messages can be sent, the first of them is the next one on its link, of which fewer than 64 were sent
  module _ (m : OnLink) (rest : List OnLink) (can : CanSend old.outbox (sent ++ m ∷ rest)) where
    from_here : on_link m.link (sent ++ m ∷ rest) ≡ on_link m.link sent ++ m.message ∷ on_link m.link rest
    from_here = on_append m.link sent (m ∷ rest) ∙ ap (λ z. on_link m.link sent ++ z) (on_own m.link m rest (eq-eqb m.link m.link refl))

    pub is_next : slice_get (on_link m.link now.outbox) 0 ≡ Some m.message
    is_next =
        let left : on_link m.link now.outbox ≡ m.message ∷ (on_link m.link rest ++ can.rest m.link) =
        append_cancel_left (on_link m.link sent) (on_link m.link now.outbox) (m.message ∷ (on_link m.link rest ++ can.rest m.link))
        (sym (so_far.gone.rest m.link) ∙ can.front m.link ∙ ap (λ z. z ++ can.rest m.link) from_here ∙ append_assoc (on_link m.link sent) (m.message ∷ on_link m.link rest) (can.rest m.link)) in
        ap (λ (z : List Message). slice_get z 0) left

    pub has_place : 0 < length old.turns → last_sent old.turns ≡ [] → length (on_link m.link (last_sent now.turns)) < 64
    has_place some none =
        let long : length (on_link m.link (sent ++ m ∷ rest)) ≡ length (on_link m.link sent) + suc (length (on_link m.link rest)) = ap length from_here ∙ length-append (on_link m.link sent) (m.message ∷ on_link m.link rest) in
        let few : length (on_link m.link (sent ++ m ∷ rest)) ≤ 64 = can.few m.link in
        subst (λ z. length (on_link m.link z) < 64) (sym (sent_so_far some none)) (omega (arith, long, few))

zero_at : (n l : ℕ) → l < n → slice_get {X = ℕ} (replicate {A = ℕ} n 0) l ≡ Some 0
zero_at zero l lt = absurd (omega (arith, lt))
zero_at (suc n) zero lt = refl
zero_at (suc n) (suc l) lt = zero_at n l (omega (arith, lt))

-- nothing was sent yet, on no link
pub none_counted : (v : PlatformView) → last_sent v.turns ≡ [] → AreCounts (last_sent v.turns) (replicate {A = ℕ} 64 0)
none_counted v none l lt = zero_at 64 l lt ∙ ap (λ z. Some (length (on_link l z))) (sym none)

-- a link on which a message waits is one of the graph's
pub link_there : (v : PlatformView) (l : ℕ) (m : Message) → OnlyLinks v.plan.graph v.outbox → length v.plan.graph.links ≤ 64 → slice_get (on_link l v.outbox) 0 ≡ Some m → l < 64
link_there v l m only few first = elim (slice_get_cases v.plan.graph.links l).1 [
  | inl found ↦ let lt : l < length v.plan.graph.links = found.1 in omega (arith, lt, few)
  | inr none ↦ absurd (none_some m (sym (ap (λ (z : List Message). slice_get z 0) (only l none.1)) ∙ first))
]

-- the next message on its link went
pub went_one : (old new : PlatformView) (m : OnLink) → FirstHasGone old new m.link → slice_get (on_link m.link old.outbox) 0 ≡ Some m.message → HasSent old new (m ∷ [])
went_one old new m h first =
    let message : h.message ≡ m.message = same_some h.message m.message (sym (ap (λ (z : List Message). slice_get z 0) h.first) ∙ first) in
    let same : put_on m.link h.message ≡ m = λ i. record { link = m.link; message = message i } in
    subst (λ (z : OnLink). HasSent old new (z ∷ [])) same (sent_one old new m.link h)
