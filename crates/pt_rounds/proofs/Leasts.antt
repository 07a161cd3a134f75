-- The least next reading of one platform more.
use Rattle.std.proofs.Common.{◌≡◌, ℕ, ◌+◌, ◌<◌, ◌≤◌, min, true, false, List, Option, Some, None, MatchOption, slice_get, arith, sym, subst, ◌∙◌, ⊎_elim}
use Rattle.std.proofs.lemmas.Bool.{cases_lt, false≢true}
use Rattle.pt_semantics.specs.Paced.{IsCandidate, IsNextReading}
use Rattle.pt_turn.specs.Platforms.{PlatformView, state_at}
use Rattle.pt_rounds.specs.Asked.{IsLeastOf, NoneIsOpen}
use Rattle.pt_visits.specs.Least.{lesser}
use Rattle.pt_engine.proofs.Listed.{one_more}

-- no candidate of an open platform is below b
abbrev Reads : ℕ → PlatformView → Type 0
Reads b v = v.closed ≡ false → (d : ℕ) → IsCandidate v.plan.graph v.number (state_at v) d → b ≤ d

-- the next reading of an open platform, and none of a closed one
abbrev pub Next : PlatformView → Option ℕ → Type 0
Next v b = MatchOption b (v.closed ≡ true) (λ next. (v.closed ≡ false) × IsNextReading v.plan.graph v.number (state_at v) next)

module _ (platforms : List PlatformView) (i : ℕ) (v : PlatformView) (there : slice_get platforms i ≡ Some v) where
  least_here : (b : ℕ) → v.closed ≡ false → IsNextReading v.plan.graph v.number (state_at v) b → ((j : ℕ) (w : PlatformView) → j < i → slice_get platforms j ≡ Some w → Reads b w) → IsLeastOf (i + 1) platforms b
  least_here b still is below = record {
    number = i;
    view = v;
    below = omega arith;
    at = there;
    is_open = still;
    is = is.0;
    least = λ j d w lt at. λ open_still cand. one_more (Reads b) platforms i v there (λ e. is.1) below j w lt at open_still d cand;
  }

  least_before : (b : ℕ) → IsLeastOf i platforms b → Reads b v → IsLeastOf (i + 1) platforms b
  least_before b h here = record {
    number = h.number;
    view = h.view;
    below = let lt = h.below in omega (arith, lt);
    at = h.at;
    is_open = h.is_open;
    is = h.is;
    least = λ j d w lt at. λ open_still cand. one_more (Reads b) platforms i v there here (λ k u less found e n. h.least k n u less found e) j w lt at open_still d cand;
  }

  pub least_more : (a b : Option ℕ) → MatchOption a (NoneIsOpen i platforms) (IsLeastOf i platforms) → Next v b → MatchOption (lesser a b) (NoneIsOpen (i + 1) platforms) (IsLeastOf (i + 1) platforms)
  least_more None None none closed = one_more (λ (w : PlatformView). w.closed ≡ true) platforms i v there closed none
  least_more None (Some b) none (still, is) = least_here b still is (λ j w lt at e. absurd (false≢true (sym e ∙ none j w lt at)))
  least_more (Some a) None h closed = least_before a h (λ e. absurd (false≢true (sym e ∙ closed)))
  least_more (Some a) (Some b) h (still, is) =
      ⊎_elim
      (λ (lt : a < b). let e : min a b ≡ a = omega arith in subst (IsLeastOf (i + 1) platforms) (sym e) (least_before a h (λ open_still d cand. let le = is.1 d cand in omega (arith, le, lt))))
      (λ (le : b ≤ a). let e : min a b ≡ b = omega arith in
      subst (IsLeastOf (i + 1) platforms) (sym e) (least_here b still is (λ j w lt at open_still d cand. let more = h.least j d w lt at open_still cand in omega (arith, more, le))))
      (cases_lt a b)
