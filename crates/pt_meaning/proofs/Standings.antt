-- Actors that were sorted are in the order in which they fire.
use Rattle.std.proofs.Common.{◌≡◌, ℕ, zero, suc, ◌+◌, ◌-◌, ◌<◌, ◌≤◌, false, List, length, subst, arith}
use Rattle.std.proofs.lemmas.Bool.Decides.{nat_tests}
use Rattle.std.proofs.lemmas.Grind.{common_steps}
use Rattle.std.specs.List.Sorted.{IsSortedByKey}
use Rattle.std.specs.Ordering.{is_lt}
use Rattle.pt_meaning.specs.declared.order.Standing.{Standing}
use Rattle.pt_meaning.specs.Current.{own_standing, standing_cmp, standing_at, StandsUpTo, StandingsRise}

nobody : Standing
nobody = record { rank = 0; actor = 0 }

stands_up_to : (x y : Standing) → is_lt (standing_cmp y x) ≡ false → StandsUpTo x y
stands_up_to x y h = grind (arith, nat_tests, common_steps)

same_standing : (x : Standing) → StandsUpTo x x
same_standing x = (omega arith, λ h. omega arith)

then_standing : (x y z : Standing) → StandsUpTo x y → StandsUpTo y z → StandsUpTo x z
then_standing x y z h k = (
  omega (arith, h.0, k.0),
  λ back.
      let low : x.actor ≤ y.actor = h.1 (omega (arith, k.0, back)) in
      let high : y.actor ≤ z.actor = k.1 (omega (arith, h.0, back)) in
      omega (arith, low, high),
)

rise_by : (order : List Standing) → IsSortedByKey own_standing standing_cmp order → (i n : ℕ) → i + n < length order → StandsUpTo (standing_at order i) (standing_at order (i + n))
rise_by order sorted i zero less = let same : i ≡ i + 0 = omega arith in subst (λ k. StandsUpTo (standing_at order i) (standing_at order k)) same (same_standing (standing_at order i))
rise_by order sorted i (suc n) less =
    let next : i + n + 1 ≡ i + suc n = omega arith in
    let rest = rise_by order sorted i n (omega (arith, less)) in
    let step = stands_up_to (standing_at order (i + n)) (standing_at order (i + n + 1)) (sorted (i + n) (record { rank = 0; actor = 0 }) (omega arith) (omega (arith, less))) in
    subst (λ k. StandsUpTo (standing_at order i) (standing_at order k)) next (then_standing (standing_at order i) (standing_at order (i + n)) (standing_at order (i + n + 1)) rest step)

pub standings_rise : (order : List Standing) → IsSortedByKey own_standing standing_cmp order → StandingsRise order
standings_rise order sorted i j up less =
    let is : i + (j - i) ≡ j = omega (arith, up) in
    subst (λ k. StandsUpTo (standing_at order i) (standing_at order k)) is (rise_by order sorted i (j - i) (omega (arith, is, less)))
