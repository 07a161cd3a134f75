-- The greatest of numbers that may be absent, one more at a time.
use Rattle.std.proofs.Common.{◌≡◌, ℕ, ℤ, ◌+◌, ◌<◌, ◌≤ℤ◌, Bool, true, false, cond, Option, Some, None, refl, sym, ap, subst, ◌∙◌, arith, ◌⊎◌, inl, inr, ⊎_elim}
use Rattle.std.specs.Prelude.{int_lt}
use Rattle.std.specs.Int.{int_max}
use Rattle.std.proofs.lemmas.Int.{ints, clamps}
use Rattle.pt_offsets.specs.Greatest.{HasGreatest, IsGreatest, greater}
use Rattle.pt_semantics.proofs.Lookups.{none_some, same_some}

pub greatest_none : (f : ℕ → Option ℤ) → HasGreatest 0 f None
greatest_none f k h = absurd (omega arith)

max_left : (x y : ℤ) → x ≤ℤ int_max x y
max_left x y = omega (arith, ints, clamps)

max_right : (x y : ℤ) → y ≤ℤ int_max x y
max_right x y = omega (arith, ints, clamps)

pub le_trans : (x y z : ℤ) → x ≤ℤ y → y ≤ℤ z → x ≤ℤ z
le_trans x y z h k = omega (arith, ints)

le_same : (x y : ℤ) → x ≡ y → x ≤ℤ y
le_same x y e = subst (λ (z : ℤ). x ≤ℤ z) e (omega (arith, ints))

one_of_both : (b : Bool) (x y : ℤ) → (cond b x y ≡ x) ⊎ (cond b x y ≡ y)
one_of_both true x y = inl refl
one_of_both false x y = inr refl

-- the last number, or one before it
pub last_or_before : (n k : ℕ) → k < n + 1 → (k < n) ⊎ (k ≡ n)
last_or_before n k h = grind arith

module _ (n : ℕ) (f : ℕ → Option ℤ) where
  first_one : (y : ℤ) → ((k : ℕ) → k < n → f k ≡ None) → f n ≡ Some y → IsGreatest (n + 1) f y
  first_one y none e = record {
    at = n;
    below = omega arith;
    there = e;
    greatest = λ k x h is.
        ⊎_elim
        (λ (less : k < n). absurd (none_some x (sym (none k less) ∙ is)))
        (λ (here : k ≡ n). le_same x y (same_some x y (sym is ∙ ap f here ∙ e)))
        (last_or_before n k h);
  }

  no_more : (x : ℤ) → IsGreatest n f x → f n ≡ None → IsGreatest (n + 1) f x
  no_more x one e = record {
    at = one.at;
    below = let less : one.at < n = one.below in omega arith;
    there = one.there;
    greatest = λ k y h is.
        ⊎_elim
        (λ (less : k < n). one.greatest k y less is)
        (λ (here : k ≡ n). absurd (none_some y (sym e ∙ sym (ap f here) ∙ is)))
        (last_or_before n k h);
  }

  -- what reaches the greater of both
  reached : (x y : ℤ) → IsGreatest n f x → f n ≡ Some y → (at : ℕ) × (at < n + 1) × (f at ≡ Some (int_max x y))
  reached x y one e =
      let less : one.at < n = one.below in
      ⊎_elim
      (λ (left : int_max x y ≡ x). (one.at, omega arith, one.there ∙ ap Some (sym left)))
      (λ (right : int_max x y ≡ y). (n, omega arith, e ∙ ap Some (sym right)))
      (one_of_both (int_lt y x) x y)

  one_more : (x y : ℤ) → IsGreatest n f x → f n ≡ Some y → IsGreatest (n + 1) f (int_max x y)
  one_more x y one e =
      let top = reached x y one e in
      record {
        at = top.0;
        below = top.1;
        there = top.2;
        greatest = λ k z h is.
            ⊎_elim
            (λ (less : k < n). le_trans z x (int_max x y) (one.greatest k z less is) (max_left x y))
            (λ (here : k ≡ n). le_trans z y (int_max x y) (le_same z y (same_some z y (sym is ∙ ap f here ∙ e))) (max_right x y))
            (last_or_before n k h);
      }

  by_cases : (found o : Option ℤ) → f n ≡ o → HasGreatest n f found → HasGreatest (n + 1) f (greater found o)
  by_cases None None e has = λ k h. ⊎_elim (λ (less : k < n). has k less) (λ (here : k ≡ n). ap f here ∙ e) (last_or_before n k h)
  by_cases None (Some y) e has = first_one y has e
  by_cases (Some x) None e has = no_more x has e
  by_cases (Some x) (Some y) e has = one_more x y has e

  -- with one number more the greatest is the greater of both
  pub greatest_more : (found : Option ℤ) → HasGreatest n f found → HasGreatest (n + 1) f (greater found (f n))
  greatest_more found has = by_cases found (f n) refl has
