-- What engines that make rounds of visits share: whether a round so far was quiet, with one platform more, and who has a fault.
use Rattle.std.proofs.Common.{◌≡◌, ◌≢◌, ◌∙◌, ◌⊎◌, ℕ, suc, ◌<◌, ◌≤◌, Bool, true, false, List, [], ◌∷◌, ◌++◌, None, Option, Some, nat_le, set, slice_get, refl, sym, ap, subst, arith, inl, inr, ⊎_elim}
use Rattle.std.proofs.lemmas.Bool.{cases_Bool, cond-true, false≢true}
use mathlib.Core.Bool.{beq}
use Rattle.pt_semantics.specs.Lists.{IsIn}
use Rattle.pt_semantics.specs.Platform.{State}
use Rattle.pt_semantics.specs.Turn.{is_quiet}
use Rattle.pt_semantics.specs.Visits.{VisitRecord}
use Rattle.pt_semantics.proofs.Lookups.{IsIn-append_left, IsIn-append_right, same_some}
use Rattle.pt_laws.proofs.Onward.{cases_same}
use Rattle.pt_turn.specs.Platforms.{PlatformView, raised_to}
use Rattle.pt_engine.specs.Asked.{HaveNoFault}
use Rattle.pt_engine.proofs.Changed.{set_elsewhere, set_here}

pub same_test : (a b : Bool) → beq a b ≡ true → a ≡ b
same_test true true e = refl
same_test true false e = absurd (false≢true e)
same_test false true e = absurd (false≢true e)
same_test false false e = refl

-- a reading that is not before the last one is not raised
pub raised_same : (last : Option ℕ) (c : ℕ) → ((p : ℕ) → last ≡ Some p → p ≤ c) → raised_to last c ≡ c
raised_same None c h = refl
raised_same (Some p) c h = let le : p ≤ c = h p refl in cond-true (nat_le p c) c p (at_most p c le)
  where
    at_most : (m n : ℕ) → m ≤ n → nat_le m n ≡ true
    at_most m n le = grind arith

-- a turn in the round was not quiet, or one of the first n platforms closed
abbrev pub IsNoisy : (ℕ → State) → List VisitRecord → ℕ → (ℕ → State) → Type 0
IsNoisy first made n now = ((m : VisitRecord) × IsIn m made × (is_quiet m.turn ≡ false)) ⊎ ((j : ℕ) × (j < n) × ((now j).closed ≡ (first j).closed → ⊥))

-- the next platform is passed by
pub noisy_by : (first : ℕ → State) (made : List VisitRecord) (n : ℕ) (now : ℕ → State) → IsNoisy first made n now → IsNoisy first made (suc n) now
noisy_by first made n now noisy =
    ⊎_elim
    (λ (one : (m : VisitRecord) × IsIn m made × (is_quiet m.turn ≡ false)). inl one)
    (λ (one : (j : ℕ) × (j < n) × ((now j).closed ≡ (first j).closed → ⊥)). inr (one.0, (let lt : one.0 < n = one.1 in omega arith), one.2))
    noisy

-- platform n makes a turn, before which it was closed or not, and after it
module _ (first before after : ℕ → State) (made : List VisitRecord) (m : VisitRecord) (n : ℕ) (was is : Bool) (was_is : (before n).closed ≡ was) (is_now : (after n).closed ≡ is) (stays : (j : ℕ) → j ≢ n → after j ≡ before j) where
  pub closed_still : is ≡ was → ((j : ℕ) → (before j).closed ≡ (first j).closed) → (j : ℕ) → (after j).closed ≡ (first j).closed
  closed_still same h j =
      ⊎_elim
      (λ (here : j ≡ n). subst (λ k. (after k).closed ≡ (first k).closed) (sym here) (is_now ∙ same ∙ sym was_is ∙ h n))
      (λ (other : j ≢ n). ap (λ (z : State). z.closed) (stays j other) ∙ h j)
      (cases_same j n)

  pub noisy_still : IsNoisy first made n before → IsNoisy first (made ++ m ∷ []) (suc n) after
  noisy_still noisy =
      ⊎_elim
      (λ (one : (k : VisitRecord) × IsIn k made × (is_quiet k.turn ≡ false)). inl (one.0, IsIn-append_left one.0 made (m ∷ []) one.1, one.2))
      (λ (one : (j : ℕ) × (j < n) × ((before j).closed ≡ (first j).closed → ⊥)).
      let lt : one.0 < n = one.1 in
      inr (one.0, omega arith, λ same. one.2 (sym (ap (λ (z : State). z.closed) (stays one.0 (λ here. apart one.0 lt here))) ∙ same)))
      noisy
    where
      apart : (j : ℕ) → j < n → j ≡ n → ⊥
      apart j lt e = omega arith

  pub noisy_now : before n ≡ first n → (is_quiet m.turn ≡ true → is ≡ was → ⊥) → IsNoisy first (made ++ m ∷ []) (suc n) after
  noisy_now rest moved =
      ⊎_elim
      (λ (calm : is_quiet m.turn ≡ true). inr (n, omega arith, λ same. moved calm (sym is_now ∙ same ∙ ap (λ (z : State). z.closed) (sym rest) ∙ was_is)))
      (λ (noisy : is_quiet m.turn ≡ false). inl (m, IsIn-append_right m made (m ∷ []) (inl refl), noisy))
      (cases_Bool (is_quiet m.turn))

-- the platforms, with a new view of one that had no fault
module _ (platforms : List PlatformView) (n : ℕ) (v w : PlatformView) (there : slice_get platforms n ≡ Some v) where
  -- a platform is the one with the new view
  pub is_new : (j : ℕ) (u : PlatformView) → j ≡ n → slice_get (set platforms n w) j ≡ Some u → u ≡ w
  is_new j u here at = same_some u w (sym (subst (λ k. slice_get (set platforms n w) k ≡ Some u) here at) ∙ set_here platforms n w v there)

  -- or it was there before
  pub is_old : (j : ℕ) (u : PlatformView) → j ≢ n → slice_get (set platforms n w) j ≡ Some u → slice_get platforms j ≡ Some u
  is_old j u other at = sym (set_elsewhere platforms n j w other) ∙ at

  pub no_fault_before : v.fault ≡ None → HaveNoFault (set platforms n w) → HaveNoFault platforms
  no_fault_before fine none j u at =
      ⊎_elim
      (λ (here : j ≡ n). ap (λ (z : PlatformView). z.fault) (same_some u v (sym (subst (λ k. slice_get platforms k ≡ Some u) here at) ∙ there)) ∙ fine)
      (λ (other : j ≢ n). none j u (set_elsewhere platforms n j w other ∙ at))
      (cases_same j n)
