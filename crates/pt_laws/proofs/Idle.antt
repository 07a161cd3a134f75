-- Before its next reading a platform has nothing to do by itself.
use Rattle.std.proofs.Common.{◌≡◌, ℕ, ◌+◌, ◌<◌, ◌≤◌, true, false, List, [], ◌∷◌, Some, nat_le, arith, refl, ap, ◌∙◌, inl, inr, ⊎_elim, leb-true}
use Rattle.std.proofs.lemmas.Bool.{cases_Bool, cond-false}
use Rattle.pt_types.specs.Lookups.{platform_of}
use Rattle.pt_semantics.specs.Bounds.{bound_of}
use Rattle.pt_types.specs.declared.rows.Row.{Row}
use Rattle.pt_semantics.specs.Entering.{due}
use Rattle.pt_semantics.specs.Paced.{paced_by}
use Rattle.pt_laws.specs.TurnTheorems.{IdleBefore}
use Rattle.pt_laws.proofs.Paces.{safe_when_paced}

pub idle_before : IdleBefore
idle_before g i s offset c closing r has closes next before = (
  (λ a. no_row a (s.left a) refl),
  (λ u t safe.
      let low : c ≤ paced_by (offset u) t = next.1 (paced_by (offset u) t) (inr (inl (u, t, safe.event, safe.least, safe.free, (offset u, has u, refl)))) in
      let high : paced_by (offset u) t ≤ r = safe_when_paced g s r u t (offset u) (has u) safe in
      omega arith),
  (λ can.
      let low : c ≤ closing = next.1 closing (inr (inr closes)) in
      ⊎_elim
      (λ (none : (closing ≡ 0) × ((a b : ℕ) → platform_of g a ≡ i → bound_of g a ≡ Some b → ⊥)). let zero_it : closing ≡ 0 = none.0 in omega arith)
      (λ (some : ((a b : ℕ) × (platform_of g a ≡ i) × (bound_of g a ≡ Some b) × (closing ≡ g.until + b + 1)) × ((a b : ℕ) → platform_of g a ≡ i → bound_of g a ≡ Some b → g.until + b + 1 ≤ closing)).
      let past : g.until + some.0.1 < r = can.bounds some.0.0 some.0.1 some.0.2 some.0.3 in
      let is : closing ≡ g.until + some.0.1 + 1 = some.0.4 in
      omega arith)
      closes),
)
  where
    clash : (m n k : ℕ) → m < n → n ≤ k → k ≤ m → ⊥
    clash m n k x y z = omega arith

    no_row : (a : ℕ) (xs : List Row) → s.left a ≡ xs → due r (s.left a) ≡ []
    no_row a [] e = ap (due r) e
    no_row a (row ∷ rest) e =
        let low : c ≤ row.seen = next.1 row.seen (inl (a, row, rest, e, refl)) in
        ap (due r) e
        ∙ cond-false (nat_le row.seen r) (row ∷ due r rest) []
        (⊎_elim (λ (t : nat_le row.seen r ≡ true). absurd (clash r c row.seen before low (leb-true row.seen r t))) (λ (f : nat_le row.seen r ≡ false). f) (cases_Bool (nat_le row.seen r)))
