-- The least of some numbers, or of none.
use Rattle.std.proofs.Common.{◌≡◌, ℕ, ◌+◌, ◌<◌, ◌≤◌, ◌⊎◌, List, [], ◌∷◌, Option, Some, None, ⊎_elim, inl, inr, length, min, refl, sym, ap, subst, ◌∙◌, true, false, MatchOption, arith, eq-eqb}
use Rattle.std.specs.Prelude.{option_map, slice_get, ◌==◌}
use Rattle.std.proofs.lemmas.Bool.{cases_eq, cases_lt, cond-false, cond-true, false≢true, ne_eqb}
use Rattle.std.proofs.lemmas.Option.{slice_get_within}
use Rattle.pt_semantics.specs.Lists.{IsIn}
use Rattle.pt_semantics.specs.Paced.{IsNextReading}
use Rattle.pt_semantics.proofs.Lookups.{same_some}
use Rattle.pt_types.specs.declared.air.Air.{Air}
use Rattle.pt_types.specs.declared.air.InAir.{InAir}
use Rattle.pt_semantics.specs.Arrivals.{AirwayView, NeverFall}
use Rattle.pt_turn.specs.Platforms.{PlatformView, state_at}
use Rattle.pt_semantics.specs.TrueTime.{lag_of, true_time}
use Rattle.pt_replay.specs.Visits.Moments.{IsArrival, IsLeastNumber, IsReading, OfOne}
use Rattle.pt_visits.specs.Least.{lesser}

pub least_both : (P Q : ℕ → Type 0) (a b : Option ℕ) → IsLeastNumber P a → IsLeastNumber Q b → IsLeastNumber (λ n. P n ⊎ Q n) (lesser a b)
least_both P Q None None p q = λ n h. ⊎_elim (p n) (q n) h
least_both P Q None (Some b) p q = (inr q.0, λ n h. ⊎_elim (λ (x : P n). absurd (p n x)) (q.1 n) h)
least_both P Q (Some a) None p q = (inl p.0, λ n h. ⊎_elim (p.1 n) (λ (x : Q n). absurd (q n x)) h)
least_both P Q (Some a) (Some b) p q =
    ⊎_elim
    (λ (lt : a < b). let e : min a b ≡ a = omega arith in
    subst (λ (c : ℕ). (P c ⊎ Q c) × ((n : ℕ) → P n ⊎ Q n → c ≤ n)) (sym e)
    (inl p.0, λ n h. ⊎_elim (p.1 n) (λ (x : Q n). let le = q.1 n x in omega (arith, le, lt)) h))
    (λ (le : b ≤ a). let e : min a b ≡ b = omega arith in
    subst (λ (c : ℕ). (P c ⊎ Q c) × ((n : ℕ) → P n ⊎ Q n → c ≤ n)) (sym e)
    (inr q.0, λ n h. ⊎_elim (λ (x : P n). let less = p.1 n x in omega (arith, le, less)) (q.1 n) h))
    (cases_lt a b)

-- of the same numbers
pub least_as : (P Q : ℕ → Type 0) (a : Option ℕ) → ((n : ℕ) → P n → Q n) → ((n : ℕ) → Q n → P n) → IsLeastNumber P a → IsLeastNumber Q a
least_as P Q None to back p = λ n h. p n (back n h)
least_as P Q (Some a) to back p = (to a p.0, λ n h. p.1 n (back n h))

-- of the first n members of a list
abbrev pub Below : {X : Type 0} → (X → ℕ → Type 0) → ℕ → List X → ℕ → Type 0
Below {X} P n xs time = (i : ℕ) × (x : X) × (i < n) × (slice_get xs i ≡ Some x) × P x time

pub none_below : {X : Type 0} (P : X → ℕ → Type 0) (xs : List X) → IsLeastNumber (Below P 0 xs) None
none_below P xs = λ n h. omega (arith, h.2)

pub all_below : {X : Type 0} (P : X → ℕ → Type 0) (n : ℕ) (xs : List X) (a : Option ℕ) → length xs ≤ n → IsLeastNumber (Below P n xs) a → IsLeastNumber (OfOne P xs) a
all_below P n xs a ends h =
    least_as (Below P n xs) (OfOne P xs) a
    (λ time b. (b.0, b.1, b.3, b.4))
    (λ time b. (b.0, b.1, (let lt = slice_get_within xs b.0 b.1 b.2 in omega (arith, lt, ends)), b.2, b.3))
    h

module _ {X : Type 0} (P : X → ℕ → Type 0) (n : ℕ) (xs : List X) (x : X) (at : slice_get xs n ≡ Some x) where
  to_more : (time : ℕ) → Below P n xs time ⊎ P x time → Below P (n + 1) xs time
  to_more time h =
      ⊎_elim
      (λ (b : Below P n xs time). (b.0, b.1, (let lt = b.2 in omega (arith, lt)), b.3, b.4))
      (λ (p : P x time). (n, x, omega arith, at, p))
      h

  from_more : (time : ℕ) → Below P (n + 1) xs time → Below P n xs time ⊎ P x time
  from_more time b =
      ⊎_elim
      (λ (same : b.0 ≡ n). inr (subst (λ (y : X). P y time) (same_some b.1 x (sym b.3 ∙ ap (slice_get xs) same ∙ at)) b.4))
      (λ (other : b.0 ≡ n → ⊥). inl (b.0, b.1, before b.0 other b.2, b.3, b.4))
      (cases_eq b.0 n)
    where
      before : (k : ℕ) → (k ≡ n → ⊥) → k < n + 1 → k < n
      before k other lt = omega (arith, other, lt)

  pub below_more : (a b : Option ℕ) → IsLeastNumber (Below P n xs) a → IsLeastNumber (P x) b → IsLeastNumber (Below P (n + 1) xs) (lesser a b)
  below_more a b h p = least_as (λ time. Below P n xs time ⊎ P x time) (Below P (n + 1) xs) (lesser a b) to_more from_more (least_both (Below P n xs) (P x) a b h p)

  -- nothing is here
  pub below_none : (a : Option ℕ) → IsLeastNumber (Below P n xs) a → IsLeastNumber (P x) None → IsLeastNumber (Below P (n + 1) xs) a
  below_none a h p = subst (IsLeastNumber (Below P (n + 1) xs)) (same a) (below_more a None h p)
    where
      same : (a : Option ℕ) → lesser a None ≡ a
      same None = refl
      same (Some b) = refl

-- a later reading is not at an earlier time
later_time : (air : Air) (i v w : ℕ) → v ≤ w → true_time air i v ≤ true_time air i w
later_time air i v w le =
    ⊎_elim
    (λ (none : v ≡ 0). let zero_time : true_time air i v ≡ 0 = cond-true (v == 0) 0 (v + lag_of air i) (eq-eqb v 0 none) in omega (arith, zero_time))
    (λ (some : v ≡ 0 → ⊥).
    let at_v : true_time air i v ≡ v + lag_of air i = cond-false (v == 0) 0 (v + lag_of air i) (ne_eqb v 0 some) in
    let at_w : true_time air i w ≡ w + lag_of air i = cond-false (w == 0) 0 (w + lag_of air i) (ne_eqb w 0 (λ none. some (omega (arith, none, le)))) in
    omega (arith, at_v, at_w, le))
    (cases_eq v 0)

-- of one platform
pub reading_here : (air : Air) (v : PlatformView) (next time : Option ℕ) → MatchOption next (v.closed ≡ true) (λ r. (v.closed ≡ false) × IsNextReading v.plan.graph v.number (state_at v) r)
    → time ≡ option_map (true_time air v.number) next → IsLeastNumber (IsReading air v) time
reading_here air v None time closed is = subst (IsLeastNumber (IsReading air v)) (sym is) (λ n h. false≢true (sym h.1 ∙ closed))
reading_here air v (Some r) time (still, next) is =
    subst (IsLeastNumber (IsReading air v)) (sym is)
    ((r, still, next.0, refl), λ n h. subst (λ (k : ℕ). true_time air v.number r ≤ k) (sym h.3) (later_time air v.number r h.0 (next.1 h.0 h.2)))

-- of one link
none_before : (least : ℕ) (ms : List InAir) (latest : ℕ) (m : InAir) → NeverFall least ms latest → IsIn m ms → least ≤ m.arrives
none_before least [] latest m h there = absurd there
none_before least (x ∷ ms) latest m h there =
    ⊎_elim
    (λ (same : m ≡ x). subst (λ (y : InAir). least ≤ y.arrives) (sym same) h.0)
    (λ (rest : IsIn m ms). let le = none_before x.arrives ms latest m h.1 rest in omega (arith, le, h.0))
    there

pub arrival_here : (a : AirwayView) (next : Option ℕ) → NeverFall 0 a.on_way a.latest → next ≡ option_map (λ (m : InAir). m.arrives) (slice_get a.on_way 0) → IsLeastNumber (IsArrival a) next
arrival_here a next order is = with_first a.on_way a.latest order is
  where
    with_first : (ms : List InAir) (latest : ℕ) → NeverFall 0 ms latest → next ≡ option_map (λ (m : InAir). m.arrives) (slice_get ms 0) → IsLeastNumber (λ time. (m : InAir) × IsIn m ms × (time ≡ m.arrives)) next
    with_first [] latest order is = subst (IsLeastNumber (λ time. (m : InAir) × IsIn m [] × (time ≡ m.arrives))) (sym is) (λ n h. h.1)
    with_first (x ∷ ms) latest order is =
        subst (IsLeastNumber (λ time. (m : InAir) × IsIn m (x ∷ ms) × (time ≡ m.arrives))) (sym is) (
          (x, inl refl, refl),
          λ n h. subst (λ (k : ℕ). x.arrives ≤ k) (sym h.2)
              (⊎_elim (λ (same : h.0 ≡ x). let e = ap (λ (y : InAir). y.arrives) same in omega (arith, e)) (λ (rest : IsIn h.0 ms). none_before x.arrives ms latest h.0 order.1 rest) h.1),
        )
