-- Nothing comes after End, so a front of the sent messages that has End is all of them.
use Rattle.std.proofs.Common.{◌≡◌, ℕ, List, [], ◌∷◌, ◌++◌, refl, sym, ap, subst, ◌∙◌, ⊎_elim, append_assoc, append-nil}
use Rattle.pt_tags.specs.declared.message.Message.{Message}
use Rattle.pt_tags.specs.declared.message.Message.TheVariants.{End}
use Rattle.pt_types.specs.Lookups.{platform_of}
use Rattle.pt_semantics.specs.Linked.{all_taken}
use Rattle.pt_semantics.specs.Lists.{Each, IsIn}
use Rattle.pt_semantics.specs.Orderly.{ComesAfter, InOrder}
use Rattle.pt_laws.proofs.Bounds.{outgoing_orderly}
use Rattle.pt_semantics.proofs.Longest.{levels_grow}
use Rattle.pt_laws.proofs.Walks.{on_time_history}
use Rattle.pt_fixed_order_laws.specs.Linking.{MatchedIsLinked}

pub nothing_after : (ms : List Message) → Each (ComesAfter End) ms → ms ≡ []
nothing_after [] h = refl
nothing_after (m ∷ ms) h = absurd h.0

no_right : (xs ys : List Message) → xs ++ ys ≡ [] → ys ≡ []
no_right [] ys e = e
no_right (x ∷ xs) ys e = absurd (never x (xs ++ ys) e)
  where
    never : {X : Type 0} (x : X) (xs : List X) → x ∷ xs ≡ [] → ⊥
    never x xs e = cc

pub end_is_last : (xs ys : List Message) → InOrder (xs ++ ys) → IsIn End xs → ys ≡ []
end_is_last [] ys h mem = absurd mem
end_is_last (x ∷ xs) ys h mem = ⊎_elim
    (λ (here : End ≡ x). no_right xs ys (nothing_after (xs ++ ys) (subst (λ (m : Message). Each (ComesAfter m) (xs ++ ys)) (sym here) h.0)))
    (λ (later : IsIn End xs). end_is_last xs ys h.1 later)
    mem

pub matched_is_linked : MatchedIsLinked
matched_is_linked g level rows histories ends wired are fits legal finished matched l link at =
    let from : ℕ = platform_of g link.from in
    let to : ℕ = platform_of g link.to in
    let lt = wired.homes link.from in
    let lt2 = wired.homes link.to in
    let (rest, split) = matched l link at in
    let all = outgoing_orderly g level from rows (histories from) (ends from) wired are fits (legal from lt) l link at refl in
    let order : InOrder (all_taken l (histories to) ++ (rest ++ (ends from).outbox l)) = subst InOrder (ap (λ z. z ++ (ends from).outbox l) split ∙ append_assoc (all_taken l (histories to)) rest ((ends from).outbox l)) all.0 in
    let whole = on_time_history g level to rows wired (levels_grow g level are) fits (histories to) (ends to) (legal to lt2) in
    let mem : IsIn End (all_taken l (histories to)) = subst (IsIn End) (whole.keeps.taken_is l) ((finished to lt2).ends l link at refl) in
    let none : rest ++ (ends from).outbox l ≡ [] = end_is_last (all_taken l (histories to)) (rest ++ (ends from).outbox l) order mem in
    split ∙ ap (λ z. all_taken l (histories to) ++ z) (no_left rest ((ends from).outbox l) none) ∙ append-nil (all_taken l (histories to))
  where
    no_left : (xs ys : List Message) → xs ++ ys ≡ [] → xs ≡ []
    no_left [] ys e = refl
    no_left (x ∷ xs) ys e = absurd (never x (xs ++ ys) e)
      where
        never : {X : Type 0} (x : X) (xs : List X) → x ∷ xs ≡ [] → ⊥
        never x xs e = cc
