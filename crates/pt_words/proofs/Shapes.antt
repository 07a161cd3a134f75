-- What a word can be.
use Rattle.std.proofs.lemmas.Bool.Decides.{nat_tests}
use Rattle.std.proofs.Common.{arith, ◌≡◌, ℕ, List, [], ◌∷◌, true, false, refl, ap}
use Rattle.std.specs.Prelude.{◌==◌}

pub data View (w : List ℕ) : Type 0 where
  empty : w ≡ [] → View w
  dash : w ≡ 45 ∷ [] → View w
  plain : (x : ℕ) (xs : List ℕ) → w ≡ x ∷ xs → (x == 45) ≡ false → View w
  ending : w ≡ 45 ∷ 45 ∷ [] → View w
  long : (z : ℕ) (zs : List ℕ) → w ≡ 45 ∷ 45 ∷ z ∷ zs → View w
  short : (y : ℕ) (ys : List ℕ) → w ≡ 45 ∷ y ∷ ys → (y == 45) ≡ false → View w

test : (x : ℕ) → ((x == 45) ≡ false → View (x ∷ [])) → View (x ∷ [])
test x f = elim (x == 45) as (λ b. (x == 45) ≡ b → View (x ∷ [])) [
  | true ↦ λ e. let p : x ≡ 45 = grind (arith, nat_tests) in dash (ap (λ n. n ∷ []) p)
  | false ↦ f
] refl

pub view : (w : List ℕ) → View w
view [] = empty refl
view (x ∷ []) = test x (λ h. plain x [] refl h)
view (x ∷ y ∷ []) =
    elim (x == 45) as (λ b. (x == 45) ≡ b → View (x ∷ y ∷ [])) [
      | true ↦ λ e. let p : x ≡ 45 = grind (arith, nat_tests) in
          elim (y == 45) as (λ b. (y == 45) ≡ b → View (x ∷ y ∷ [])) [
            | true ↦ λ k. let q : y ≡ 45 = grind (arith, nat_tests) in ending (rw (p, q) refl)
            | false ↦ λ k. short y [] (rw p refl) k
          ] refl
      | false ↦ λ e. plain x (y ∷ []) refl e
    ] refl
view (x ∷ y ∷ z ∷ zs) =
    elim (x == 45) as (λ b. (x == 45) ≡ b → View (x ∷ y ∷ z ∷ zs)) [
      | true ↦ λ e. let p : x ≡ 45 = grind (arith, nat_tests) in
          elim (y == 45) as (λ b. (y == 45) ≡ b → View (x ∷ y ∷ z ∷ zs)) [
            | true ↦ λ k. let q : y ≡ 45 = grind (arith, nat_tests) in long z zs (rw (p, q) refl)
            | false ↦ λ k. short y (z ∷ zs) (rw p refl) k
          ] refl
      | false ↦ λ e. plain x (y ∷ z ∷ zs) refl e
    ] refl
