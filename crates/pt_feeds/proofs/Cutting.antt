-- Where a line is cut.
use Rattle.std.proofs.Common.{◌≡◌, ℕ, suc, ◌+◌, ◌<◌, ◌==◌, List, [], ◌∷◌, length, take, drop, true, false, cond, not, arith, refl, ap, Option, Some, None}
use Rattle.std.specs.List.{position_or_len, position}
use Rattle.std.specs.Prelude.{nat_lt, option_map, if◌then◌else◌}
use Rattle.std.proofs.lemmas.Bool.Decides.{nat_tests}
use Rattle.pt_feeds.specs.Fields.{fields, fields_by, in_front, one, three, two}

abbrev at : List ℕ → ℕ
at line = position_or_len (λ b. b == 44) line

pub fields-at : (line : List ℕ) → at line < length line → fields line ≡ take (at line) line ∷ fields (drop (at line + 1) line)
fields-at [] h = absurd (omega arith)
fields-at (x ∷ xs) h =
    elim (x == 44) as (λ b. cond (not b) (1 + at xs) 0 < length (x ∷ xs) → (if b then [] ∷ fields xs else in_front x (fields xs)) ≡ take (cond (not b) (1 + at xs) 0) (x ∷ xs) ∷ fields (drop (cond (not b) (1 + at xs) 0 + 1) (x ∷ xs))) [
      | true ↦ λ _. refl
      | false ↦ λ less. let earlier : at xs < length xs = omega arith in
          let front : 1 + at xs ≡ suc (at xs) = omega arith in
          let back : suc (at xs) + 1 ≡ suc (at xs + 1) = omega arith in
          rw (front, back) (ap (in_front x) (fields-at xs earlier))
    ] h

pub fields-none : (line : List ℕ) → (at line < length line → ⊥) → fields line ≡ line ∷ []
fields-none [] h = refl
fields-none (x ∷ xs) h =
    elim (x == 44) as (λ b. (cond (not b) (1 + at xs) 0 < length (x ∷ xs) → ⊥) → (if b then [] ∷ fields xs else in_front x (fields xs)) ≡ (x ∷ xs) ∷ []) [
      | true ↦ λ never. absurd (never (omega arith))
      | false ↦ λ never. ap (in_front x) (fields-none xs (λ less. never (omega arith)))
    ] h

-- a line is its front and its rest, cut at the first comma
pub cut_at : (line : List ℕ) (comma : Option ℕ) → comma ≡ position (λ b. b == 44) line
    → fields line ≡ fields_by (option_map (λ i. (take i line, drop (i + 1) line)) comma) line
cut_at line comma e =
    rw e (elim (nat_lt (at line) (length line)) as (λ b. nat_lt (at line) (length line) ≡ b → fields line ≡ fields_by (option_map (λ i. (take i line, drop (i + 1) line)) (cond b (Some (at line)) None)) line) [
      | true ↦ λ less. fields-at line (grind (arith, nat_tests))
      | false ↦ λ less. fields-none line (λ h. grind (arith, nat_tests))
    ] refl)

-- a line with a comma has more than one field
pub not_one : (first rest : List ℕ) → one (first ∷ fields rest) ≡ None
not_one first [] = refl
not_one first (x ∷ xs) =
    elim (x == 44) as (λ b. one (first ∷ (if b then [] ∷ fields xs else in_front x (fields xs))) ≡ None) [
      | true ↦ refl
      | false ↦ elim (fields xs) as (λ fs. one (first ∷ in_front x fs) ≡ None) [ [] ↦ refl | f ∷ fs ↦ refl ]
    ]

pub two_one : (first : List ℕ) (others : List (List ℕ)) → two (first ∷ others) ≡ option_map (λ b. (first, b)) (one others)
two_one first [] = refl
two_one first (a ∷ []) = refl
two_one first (a ∷ (b ∷ others)) = refl

pub three_two : (first : List ℕ) (others : List (List ℕ)) → three (first ∷ others) ≡ option_map (λ p. (first, p.0, p.1)) (two others)
three_two first [] = refl
three_two first (a ∷ []) = refl
three_two first (a ∷ (b ∷ [])) = refl
three_two first (a ∷ (b ∷ (c ∷ others))) = refl
