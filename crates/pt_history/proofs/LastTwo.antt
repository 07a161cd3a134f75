-- Heads of which the last two are replaced.
use Rattle.std.proofs.Common.{◌≡◌, Some, add-one, ℕ, zero, suc, ◌+◌, ◌-◌, ◌<◌, ◌≤◌, List, [], ◌∷◌, ◌++◌, length, set, refl, sym, ap, ap₂, subst, ◌∙◌, arith, length-append}
use Rattle.std.specs.Prelude.{slice_get}
use Rattle.pt_history.specs.declared.head.Head.{Head}
use Rattle.pt_history.specs.declared.heads.Recent.{Recent}
use Rattle.pt_history.specs.declared.heads.Recent.TheVariants.{Empty, One, TwoSingles, Two}
use Rattle.pt_history.specs.Heads.{single}
use Rattle.pt_history.specs.Recents.{EndWith, heads_in}

two_set : (past : List Head) (a b x y : Head) (n : ℕ) → n ≡ length past → past ++ x ∷ y ∷ [] ≡ set (set (past ++ a ∷ b ∷ []) n x) (suc n) y
two_set [] a b x y zero is = refl
two_set [] a b x y (suc n) is = absurd (omega arith)
two_set (p ∷ past) a b x y zero is = absurd (omega arith)
two_set (p ∷ past) a b x y (suc n) is = ap (λ l. p ∷ l) (two_set past a b x y n (omega arith))

few : (past : List Head) (recent : List Head) → 2 ≤ length (past ++ recent) → (length recent < 2 → length past ≡ 0) → length recent < 2 → ⊥
few past recent some short lt =
    let none : length past ≡ 0 = short lt in
    let all : length (past ++ recent) ≡ length past + length recent = length-append past recent in
    omega (arith, none, all, some, lt)

both_replaced : (past : List Head) (a b : Head) (items : List Head) (x y : Head) → items ≡ past ++ a ∷ b ∷ [] → past ++ x ∷ y ∷ [] ≡ set (set items (length items - 2) x) (length items - 1) y
both_replaced past a b items x y is =
    let all : length items ≡ length past + 2 = ap length is ∙ length-append past (a ∷ b ∷ []) in
    let before : length past ≡ length items - 2 = omega (arith, all) in
    let last : suc (length past) ≡ length items - 1 = omega (arith, all) in
    two_set past a b x y (length past) refl
    ∙ ap (λ l. set (set l (length past) x) (suc (length past)) y) (sym is)
    ∙ ap₂ (λ n m. set (set items n x) m y) before last

pub replaced : (past : List Head) (recent : Recent) (items : List Head) (x y : Head) → items ≡ past ++ heads_in recent → 2 ≤ length items → (length (heads_in recent) < 2 → length past ≡ 0) → past ++ x ∷ y ∷ [] ≡ set (set items (length items - 2) x) (length items - 1) y
replaced past Empty items x y is some short = absurd (few past [] (subst (λ l. 2 ≤ length l) is some) short (omega arith))
replaced past (One a) items x y is some short = absurd (few past (single a ∷ []) (subst (λ l. 2 ≤ length l) is some) short (omega arith))
replaced past (TwoSingles a b) items x y is some short = both_replaced past (single a) (single b) items x y is
replaced past (Two a b) items x y is some short = both_replaced past a (single b) items x y is

-- the last two of a list
before_is : (past : List Head) (a b : Head) → slice_get (past ++ a ∷ b ∷ []) (length past) ≡ Some a
before_is [] a b = refl
before_is (p ∷ past) a b = before_is past a b

last_is : (past : List Head) (a b : Head) → slice_get (past ++ a ∷ b ∷ []) (suc (length past)) ≡ Some b
last_is [] a b = refl
last_is (p ∷ past) a b = last_is past a b

pub ends_with : (past items : List Head) (a b : Head) → items ≡ past ++ a ∷ b ∷ [] → EndWith items a b
ends_with past items a b is =
    let all : length items ≡ length past + 2 = ap length is ∙ length-append past (a ∷ b ∷ []) in
    record {
      number = length past;
      are_last = sym all;
      before_is = ap (λ l. slice_get l (length past)) is ∙ before_is past a b;
      last_is = ap (slice_get items) (add-one (length past)) ∙ ap (λ l. slice_get l (suc (length past))) is ∙ last_is past a b;
    }
