-- Cells, and the ports and the state in them.
use Rattle.std.proofs.Common.{◌≡◌, ◌≤◌, Bool, true, false, Some, None, Option, ℤ, pos, List, [], ◌∷◌, refl, sym, ap, ◌∙◌, arith, length, take, slice_index_or, unwrap_or, cond}
use Rattle.std.specs.Ordering.{int_eq}
use Rattle.std.proofs.lemmas.List.{get_or_at, length_push, take_at}
use Rattle.std.proofs.lemmas.Int.{ints}
use Rattle.pt_history.specs.Cells.{cells_of, nonzero, ports_in, state_in}

-- eight ports and a state are nine cells
pub nine : (ports : List (Option ℤ)) (state : ℤ) → length ports ≡ 8 → length (cells_of ports state) ≡ 9
nine ports state eight = omega (arith, eight, length_push ports (nonzero state))

-- the ports and the state of the cells that they make
pub ports_back : (ports : List (Option ℤ)) (state : ℤ) → length ports ≡ 8 → ports_in (cells_of ports state) ≡ ports
ports_back ports state h = take_at ports (nonzero state ∷ []) 8 h

decides-true : (q : ℤ) → int_eq q (pos 0) ≡ true → q ≡ pos 0
decides-true q e = grind (arith, ints, e)

state_is : (q : ℤ) → unwrap_or (nonzero q) (pos 0) ≡ q
state_is q = by (int_eq q (pos 0)) refl
  where
    by : (b : Bool) → int_eq q (pos 0) ≡ b → unwrap_or (cond b None (Some q)) (pos 0) ≡ q
    by true e = sym (decides-true q e)
    by false e = refl

pub state_back : (ports : List (Option ℤ)) (state : ℤ) → length ports ≡ 8 → state_in (cells_of ports state) ≡ state
state_back ports state h = ap (λ x. unwrap_or x (pos 0)) (get_or_at ports (nonzero state) [] None 8 h) ∙ state_is state

pub eight_front : (cs : List (Option ℤ)) → 8 ≤ length cs
    → slice_index_or cs 0 None ∷ slice_index_or cs 1 None ∷ slice_index_or cs 2 None ∷ slice_index_or cs 3 None ∷ slice_index_or cs 4 None ∷ slice_index_or cs 5 None ∷ slice_index_or cs 6 None ∷ slice_index_or cs 7 None ∷ [] ≡ take 8 cs
eight_front [] n = absurd (omega arith)
eight_front (a ∷ []) n = absurd (omega arith)
eight_front (a ∷ b ∷ []) n = absurd (omega arith)
eight_front (a ∷ b ∷ c ∷ []) n = absurd (omega arith)
eight_front (a ∷ b ∷ c ∷ d ∷ []) n = absurd (omega arith)
eight_front (a ∷ b ∷ c ∷ d ∷ e ∷ []) n = absurd (omega arith)
eight_front (a ∷ b ∷ c ∷ d ∷ e ∷ f ∷ []) n = absurd (omega arith)
eight_front (a ∷ b ∷ c ∷ d ∷ e ∷ f ∷ g ∷ []) n = absurd (omega arith)
eight_front (a ∷ b ∷ c ∷ d ∷ e ∷ f ∷ g ∷ h ∷ cs) n = refl
