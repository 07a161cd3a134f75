-- Different numbers, and a ring that is begun at its least number.
use Rattle.std.proofs.Common.{◌≡◌, ℕ, pos, suc, ◌+◌, ◌<◌, ◌≤◌, ◌≢◌, List, [], ◌∷◌, ◌++◌, length, get_or, take, drop, refl, sym, ap, subst, ◌∙◌, arith, inl, inr, ⊎_elim}
use Rattle.std.proofs.lemmas.Bool.{ltb-false}
use Rattle.std.proofs.lemmas.List.{drop_more, take-append-drop}
use Rattle.pt_types.specs.declared.graph.Graph.{Graph}
use Rattle.pt_semantics.specs.Lists.{Each, IsIn}
use Rattle.pt_semantics.proofs.Lookups.{Each-append, Each-from, Each-in, IsIn-append, IsIn-append_left, IsIn-append_right}
use Rattle.pt_causality.specs.Ranking.{Apart}
use Rattle.pt_causality.specs.Rings.{IsRotated}
use Rattle.pt_slacks.specs.Rings.{IsRing}
use Rattle.pt_slacks.proofs.Circles.{Round, rotate}

apart_join : (xs ys : List ℕ) → Apart xs → Apart ys → ((x y : ℕ) → IsIn x xs → IsIn y ys → x ≢ y) → Apart (xs ++ ys)
apart_join [] ys a b cross = b
apart_join (x ∷ xs) ys a b cross = (
  Each-append (λ y. x ≢ y) xs ys a.0 (Each-from (λ y. x ≢ y) ys (λ y m. cross x y (inl refl) m)),
  apart_join xs ys a.1 b (λ z y m n. cross z y (inr m) n),
)

pub apart_left : (xs ys : List ℕ) → Apart (xs ++ ys) → Apart xs
apart_left [] ys h = tt
apart_left (x ∷ xs) ys h = (Each-from (λ y. x ≢ y) xs (λ y m. Each-in (λ z. x ≢ z) (xs ++ ys) h.0 y (IsIn-append_left y xs ys m)), apart_left xs ys h.1)

apart_right : (xs ys : List ℕ) → Apart (xs ++ ys) → Apart ys
apart_right [] ys h = h
apart_right (x ∷ xs) ys h = apart_right xs ys h.1

apart_cross : (xs ys : List ℕ) → Apart (xs ++ ys) → (x y : ℕ) → IsIn x xs → IsIn y ys → x ≢ y
apart_cross [] ys h x y m n = absurd m
apart_cross (z ∷ xs) ys h x y m n =
    ⊎_elim
    (λ (e : x ≡ z). subst (λ w. w ≢ y) (sym e) (Each-in (λ w. z ≢ w) (xs ++ ys) h.0 y (IsIn-append_right y xs ys n)))
    (λ (r : IsIn x xs). apart_cross xs ys h.1 x y r n)
    m

-- different numbers stay so if the first ones are moved to the end
pub apart_swap : (xs ys : List ℕ) → Apart (xs ++ ys) → Apart (ys ++ xs)
apart_swap xs ys h = apart_join ys xs (apart_right xs ys h) (apart_left xs ys h) (λ x y m n e. apart_cross xs ys h y x n m (sym e))

each_swap : (P : ℕ → Type 0) (xs ys : List ℕ) → Each P (xs ++ ys) → Each P (ys ++ xs)
each_swap P xs ys h = Each-from P (ys ++ xs) (λ x m. Each-in P (xs ++ ys) h x (⊎_elim (λ (n : IsIn x ys). IsIn-append_right x xs ys n) (λ (n : IsIn x xs). IsIn-append_left x xs ys n) (IsIn-append x ys xs m)))

each_at : (P : ℕ → Type 0) (xs : List ℕ) → ((k : ℕ) → k < length xs → P (get_or xs k 0)) → Each P xs
each_at P [] h = tt
each_at P (x ∷ xs) h = (h 0 (omega arith), each_at P xs (λ k below. h (suc k) (omega arith)))

-- a ring is one wherever it begins, so also from its least number on
pub turned_ring : (g : Graph) (sends turned : List ℕ) (gain : ℕ) → Round g sends (pos gain) → 0 < gain → Apart sends → IsRotated sends turned → IsRing g turned gain
turned_ring g sends turned gain round more apart is =
    let p = is.place in
    let head = get_or sends p 0 in
    let below : p < length sends = is.least.0 in
    let parts : take p sends ++ drop p sends ≡ sends = take-append-drop p sends in
    let begun : drop p sends ++ take p sends ≡ head ∷ (drop (p + 1) sends ++ take p sends) = ap (λ zs. zs ++ take p sends) (drop_more sends p 0 below) in
    let least : Each (λ v. head ≤ v) sends = each_at (λ v. head ≤ v) sends (λ k h. ltb-false (get_or sends k 0) head (is.least.1 k 0 h)) in
    record {
      head = head;
      others = drop (p + 1) sends ++ take p sends;
      are = is.are ∙ begun;
      differ = subst Apart (sym is.are) (apart_swap (take p sends) (drop p sends) (subst Apart (sym parts) apart));
      first = subst (Each (λ v. head ≤ v)) (sym is.are) (each_swap (λ v. head ≤ v) (take p sends) (drop p sends) (subst (Each (λ v. head ≤ v)) (sym parts) least));
      round = subst (λ z. Round g z (pos gain)) begun (rotate g (take p sends) (drop p sends) (pos gain) (subst (λ z. Round g z (pos gain)) (sym parts) round));
      gains = more;
    }
