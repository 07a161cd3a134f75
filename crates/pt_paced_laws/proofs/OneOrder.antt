-- Two runs in fixed order by the same clocks are the same.
use Rattle.std.proofs.Common.{◌≡◌, ℕ, ◌<◌, ◌≤◌, ◌==◌, suc, arith, true, false, List, [], ◌∷◌, ◌++◌, length, refl, sym, ap, ap₂, subst, ◌∙◌, inl, inr, ⊎_elim}
use Rattle.std.proofs.lemmas.Bool.{cases_Bool, cases_lt, cond-false, cond-true, false≢true}
use Rattle.pt_types.specs.declared.graph.Graph.{Graph}
use Rattle.pt_semantics.specs.FixedOrder.{IsOver, Visits, platform_after, put_clock}
use Rattle.pt_semantics.specs.Kept.{kept}
use Rattle.pt_semantics.specs.Readings.{later_of, raised_from, raised_list}
use Rattle.pt_semantics.specs.Visits.{IsVisit, VisitRecord, RunState, run_at_start}
use Rattle.pt_paced_laws.specs.FixedOrderTheorems.{AreOfOneClock, FixedOrderIsOne}
use Rattle.pt_paced_laws.proofs.SameTurn.{made, together}
use Rattle.pt_paced_laws.proofs.SameLists.{eq_self}

-- the raised readings of one clock begin alike
raised_front : (p : ℕ) (xs more : List ℕ) → (rest : List ℕ) × (raised_from p (xs ++ more) ≡ raised_from p xs ++ rest)
raised_front p [] more = (raised_from p more, refl)
raised_front p (r ∷ xs) more = let on = raised_front (later_of p r) xs more in (on.0, ap (λ z. later_of p r ∷ z) on.1)

raised_of_one : (xs ys : List ℕ) → AreOfOneClock xs ys → AreOfOneClock (raised_list xs) (raised_list ys)
raised_of_one xs ys (more, h) =
    ⊎_elim
    (λ (e : ys ≡ xs ++ more). let on = raised_front 0 xs more in (on.0, inl (ap raised_list e ∙ on.1)))
    (λ (e : xs ≡ ys ++ more). let on = raised_front 0 ys more in (on.0, inr (ap raised_list e ∙ on.1)))
    h

head_of : (x y : ℕ) (xs ys : List ℕ) → x ∷ xs ≡ y ∷ ys → x ≡ y
head_of x y xs ys h = cc

tail_of : (x y : ℕ) (xs ys : List ℕ) → x ∷ xs ≡ y ∷ ys → xs ≡ ys
tail_of x y xs ys h = cc

heads : (x y : ℕ) (xs ys : List ℕ) → AreOfOneClock (x ∷ xs) (y ∷ ys) → x ≡ y
heads x y xs ys (more, h) = ⊎_elim (λ (e : y ∷ ys ≡ x ∷ xs ++ more). sym (head_of y x ys (xs ++ more) e)) (λ (e : x ∷ xs ≡ y ∷ ys ++ more). head_of x y xs (ys ++ more) e) h

tails : (x y : ℕ) (xs ys : List ℕ) → AreOfOneClock (x ∷ xs) (y ∷ ys) → AreOfOneClock xs ys
tails x y xs ys (more, h) = (more, ⊎_elim (λ (e : y ∷ ys ≡ x ∷ xs ++ more). inl (tail_of y x ys (xs ++ more) e)) (λ (e : x ∷ xs ≡ y ∷ ys ++ more). inr (tail_of x y xs (ys ++ more) e)) h)

both : (a b c d : List ℕ) → a ≡ c → b ≡ d → AreOfOneClock a b → AreOfOneClock c d
both a b c d ea eb h = subst (λ z. AreOfOneClock c z) eb (subst (λ z. AreOfOneClock z b) ea h)

module _ (g : Graph) where
  -- the readings of each platform's clock in two runs
  abbrev AreAlike : (ℕ → List ℕ) → (ℕ → List ℕ) → Type 0
  AreAlike clocks others = (j : ℕ) → j < length g.platforms → AreOfOneClock (clocks j) (others j)

  put_of_one : (i : ℕ) (clocks others : ℕ → List ℕ) (later after : List ℕ) → AreAlike clocks others → AreOfOneClock later after → AreAlike (put_clock clocks i later) (put_clock others i after)
  put_of_one i clocks others later after are one j lt =
      ⊎_elim
      (λ (here : (j == i) ≡ true). both later after (put_clock clocks i later j) (put_clock others i after j) (sym (cond-true (j == i) later (clocks j) here)) (sym (cond-true (j == i) after (others j) here)) one)
      (λ (there : (j == i) ≡ false). both (clocks j) (others j) (put_clock clocks i later j) (put_clock others i after j) (sym (cond-false (j == i) later (clocks j) there)) (sym (cond-false (j == i) after (others j) there)) (are j lt))
      (cases_Bool (j == i))

  after_within : (i : ℕ) → i < length g.platforms → platform_after g i < length g.platforms
  after_within i lt =
      ⊎_elim
      (λ (end : (suc i == length g.platforms) ≡ true). subst (λ n. n < length g.platforms) (sym (cond-true (suc i == length g.platforms) 0 (suc i) end)) (omega (arith, lt)))
      (λ (on : (suc i == length g.platforms) ≡ false).
      let other : (suc i ≡ length g.platforms) → ⊥ = λ e. false≢true (sym on ∙ subst (λ n. (suc i == n) ≡ true) e (eq_self (suc i))) in
      subst (λ n. n < length g.platforms) (sym (cond-false (suc i == length g.platforms) 0 (suc i) on)) (next_within i (length g.platforms) lt other))
      (cases_Bool (suc i == length g.platforms))
    where
      next_within : (i n : ℕ) → i < n → (suc i ≡ n → ⊥) → suc i < n
      next_within i n l h = ⊎_elim (λ (k : suc i < n). k) (λ (k : n ≤ suc i). absurd (h (omega (arith, l, k)))) (cases_lt (suc i) n)

module _ (g : Graph) (level : ℕ → ℕ) (most : ℕ) where
  -- two visits of platform i, each at the next reading of its clock
  visit_one : (i r q : ℕ) (x y z : RunState) (m n : VisitRecord) → r ≡ q → m.platform ≡ i → n.platform ≡ i → IsVisit g level most (λ l. 64) r x m y → IsVisit g level most (λ l. 64) q x n z → (m ≡ n) × (y ≡ z)
  visit_one i r q x y z m n e pm pn k j =
      let other : IsVisit g level most (λ l. 64) r x n z = subst (λ c. IsVisit g level most (λ l. 64) c x n z) (sym e) j in
      (made g level most (λ l. 64) r x m n y z k other (pm ∙ sym pn), together g level most (λ l. 64) r x m n y z k other (pm ∙ sym pn))

  next_of : (i r q : ℕ) (later after : List ℕ) (clocks others : ℕ → List ℕ) → clocks i ≡ r ∷ later → others i ≡ q ∷ after → i < length g.platforms → AreAlike g clocks others → AreOfOneClock (r ∷ later) (q ∷ after)
  next_of i r q later after clocks others a b lt are = both (clocks i) (others i) (r ∷ later) (q ∷ after) a b (are i lt)

  visits_one : (ms ns : List VisitRecord) (i : ℕ) (clocks others : ℕ → List ℕ) (x y z : RunState) → i < length g.platforms → AreAlike g clocks others → Visits g level most i clocks x ms y → Visits g level most i others x ns z → (ms ≡ ns) × (y ≡ z)
  visits_one [] ns i clocks others x y z lt are h k = absurd h
  visits_one (m ∷ []) [] i clocks others x y z lt are h k = absurd k
  visits_one (m ∷ mm ∷ ms) [] i clocks others x y z lt are h k = absurd k
  visits_one (m ∷ []) (n ∷ []) i clocks others x y z lt are (r, pm, a, visit, over, left) (q, pn, b, visit2, over2, left2) =
      let same = visit_one i r q x y z m n (heads r q [] [] (next_of i r q [] [] clocks others a b lt are)) pm pn visit visit2 in
      (ap (λ w. w ∷ []) same.0, same.1)
  visits_one (m ∷ []) (n ∷ nn ∷ ns) i clocks others x y z lt are (r, pm, a, visit, over, left) (q, after, mid, pn, b, visit2, going, rest) =
      let same = visit_one i r q x y mid m n (heads r q [] after (next_of i r q [] after clocks others a b lt are)) pm pn visit visit2 in
      absurd (going (subst (λ w. IsOver g n w) same.1 (subst (λ w. IsOver g w y) same.0 over)))
  visits_one (m ∷ mm ∷ ms) (n ∷ []) i clocks others x y z lt are (r, later, mid, pm, a, visit, going, rest) (q, pn, b, visit2, over2, left2) =
      let same = visit_one i r q x mid z m n (heads r q later [] (next_of i r q later [] clocks others a b lt are)) pm pn visit visit2 in
      absurd (going (subst (λ w. IsOver g m w) (sym same.1) (subst (λ w. IsOver g w z) (sym same.0) over2)))
  visits_one (m ∷ mm ∷ ms) (n ∷ nn ∷ ns) i clocks others x y z lt are (r, later, mid, pm, a, visit, going, rest) (q, after, mid2, pn, b, visit2, going2, rest2) =
      let one = next_of i r q later after clocks others a b lt are in
      let same = visit_one i r q x mid mid2 m n (heads r q later after one) pm pn visit visit2 in
      let more =
      visits_one (mm ∷ ms) (nn ∷ ns) (platform_after g i) (put_clock clocks i later) (put_clock others i after) mid y z (after_within g i lt) (put_of_one g i clocks others later after are (tails r q later after one)) rest
      (subst (λ w. Visits g level most (platform_after g i) (put_clock others i after) w (nn ∷ ns) z) (sym same.1) rest2) in
      (ap₂ (λ w ws. w ∷ ws) same.0 more.0, more.1)

pub fixed_order_is_one : FixedOrderIsOne
fixed_order_is_one g level rows clocks others most histories recorded are h k i lt =
    let one =
    visits_one g level most h.made k.made 0 (λ j. raised_list (clocks j)) (λ j. raised_list (others j)) (run_at_start g rows) h.end k.end (omega (arith, lt)) (λ j inside. raised_of_one (clocks j) (others j) (are j inside)) h.visits k.visits in
    (one.0, h.kept_are i lt ∙ ap (λ (y : RunState). kept (y.did i)) one.1 ∙ sym (k.kept_are i lt))
