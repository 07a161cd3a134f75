-- One more visit after the others.
use Rattle.std.proofs.Common.{◌≡◌, ◌≢◌, ℕ, ◌<◌, ◌≤◌, ◌==◌, ◌⊎◌, List, [], ◌∷◌, ◌++◌, length, suc, refl, sym, ap, subst, ◌∙◌, inl, inr, ⊎_elim, eq-eqb, ne_eqb, arith}
use Rattle.std.proofs.Math.Path.{fun_ext}
use Rattle.std.proofs.lemmas.Bool.{cases_lt, cond-true, cond-false}
use Rattle.pt_types.specs.declared.graph.Graph.{Graph}
use Rattle.pt_semantics.specs.Closing.{on_link}
use Rattle.pt_types.specs.Lookups.{platform_of}
use Rattle.pt_semantics.specs.FixedOrder.{IsOver, Visits, platform_after, put_clock}
use Rattle.pt_semantics.specs.Readings.{greatest_of, later_of, raised_from, raised_list}
use Rattle.pt_semantics.specs.Visits.{IsVisit, VisitRecord, RunState, run_at_start}
use Rattle.pt_laws.proofs.Onward.{cases_same}
use Rattle.pt_fixed_order_laws.specs.SoFar.{VisitsUpTo, LinksAreFree, LinksStayFree, VisitsEnd, VisitsGoOn, WasTaken, with_reading}

put_same : (clocks : ℕ → List ℕ) (i : ℕ) (xs : List ℕ) → put_clock clocks i xs i ≡ xs
put_same clocks i xs = cond-true (i == i) xs (clocks i) (eq-eqb i i refl)

put_other : (clocks : ℕ → List ℕ) (i k : ℕ) (xs : List ℕ) → k ≢ i → put_clock clocks i xs k ≡ clocks k
put_other clocks i k xs ne = cond-false (k == i) xs (clocks k) (ne_eqb k i ne)

-- a reading may be added before or after an earlier one is removed, of the same platform or of another
put_twice : (clocks : ℕ → List ℕ) (i : ℕ) (xs ys : List ℕ) → put_clock (put_clock clocks i xs) i ys ≡ put_clock clocks i ys
put_twice clocks i xs ys = fun_ext (λ k. ⊎_elim
    (λ (e : k ≡ i). subst (λ n. put_clock (put_clock clocks i xs) i ys n ≡ put_clock clocks i ys n) (sym e) (put_same (put_clock clocks i xs) i ys ∙ sym (put_same clocks i ys)))
    (λ (ne : k ≢ i). put_other (put_clock clocks i xs) i k ys ne ∙ put_other clocks i k xs ne ∙ sym (put_other clocks i k ys ne))
    (cases_same k i))

put_apart : (clocks : ℕ → List ℕ) (i j : ℕ) (xs ys : List ℕ) → j ≢ i → put_clock (put_clock clocks i xs) j ys ≡ put_clock (put_clock clocks j ys) i xs
put_apart clocks i j xs ys apart = fun_ext (λ k. ⊎_elim
    (λ (e : k ≡ i). subst (λ n. put_clock (put_clock clocks i xs) j ys n ≡ put_clock (put_clock clocks j ys) i xs n) (sym e)
    (put_other (put_clock clocks i xs) j i ys (λ q. apart (sym q)) ∙ put_same clocks i xs ∙ sym (put_same (put_clock clocks j ys) i xs)))
    (λ (ne : k ≢ i). ⊎_elim
    (λ (e : k ≡ j). subst (λ n. put_clock (put_clock clocks i xs) j ys n ≡ put_clock (put_clock clocks j ys) i xs n) (sym e)
    (put_same (put_clock clocks i xs) j ys ∙ sym (put_other (put_clock clocks j ys) i j xs apart ∙ put_same clocks j ys)))
    (λ (nf : k ≢ j). put_other (put_clock clocks i xs) j k ys nf ∙ put_other clocks i k xs ne ∙ sym (put_other (put_clock clocks j ys) i k xs ne ∙ put_other clocks j k ys nf))
    (cases_same k j))
    (cases_same k i))

-- the readings of the clock that is read first, and the clocks after that, when one more reading is added
pub record Reads (clocks : ℕ → List ℕ) (i r : ℕ) (later : List ℕ) (j s : ℕ) : Type 0 where
  pub rest : List ℕ
  pub first : with_reading clocks j s i ≡ r ∷ rest
  pub same : put_clock (with_reading clocks j s) i rest ≡ with_reading (put_clock clocks i later) j s

reads : (clocks : ℕ → List ℕ) (i r : ℕ) (later : List ℕ) (j s : ℕ) → clocks i ≡ r ∷ later → Reads clocks i r later j s
reads clocks i r later j s at = ⊎_elim
    (λ (here : j ≡ i). record {
      rest = later ++ s ∷ [];
      first = ap (λ n. with_reading clocks n s i) here ∙ put_same clocks i (clocks i ++ s ∷ []) ∙ ap (λ z. z ++ s ∷ []) at;
      same = subst (λ n. put_clock (with_reading clocks n s) i (later ++ s ∷ []) ≡ with_reading (put_clock clocks i later) n s) (sym here)
          (put_twice clocks i (clocks i ++ s ∷ []) (later ++ s ∷ []) ∙ sym (ap (λ z. put_clock (put_clock clocks i later) i (z ++ s ∷ [])) (put_same clocks i later) ∙ put_twice clocks i later (later ++ s ∷ [])));
    })
    (λ (other : j ≢ i). record {
      rest = later;
      first = put_other clocks j i (clocks j ++ s ∷ []) (λ q. other (sym q)) ∙ at;
      same = sym (ap (λ z. put_clock (put_clock clocks i later) j (z ++ s ∷ [])) (put_other clocks i j later other) ∙ put_apart clocks i j later (clocks j ++ s ∷ []) other);
    })
    (cases_same j i)

-- the same, if that reading is the only one
reads_one : (clocks : ℕ → List ℕ) (i j r : ℕ) → j ≡ i → ((k : ℕ) → clocks k ≡ []) → (with_reading clocks j r i ≡ r ∷ []) × ((k : ℕ) → put_clock (with_reading clocks j r) i [] k ≡ [])
reads_one clocks i j r here none = (
  subst (λ n. with_reading clocks n r i ≡ r ∷ []) (sym here) (put_same clocks i (clocks i ++ r ∷ []) ∙ ap (λ l. l ++ r ∷ []) (none i)),
  λ k. subst (λ n. put_clock (with_reading clocks n r) i [] k ≡ []) (sym here)
      (ap (λ f. f k) (put_twice clocks i (clocks i ++ r ∷ []) []) ∙ ⊎_elim (λ (e : k ≡ i). ap (put_clock clocks i []) e ∙ put_same clocks i []) (λ (ne : k ≢ i). put_other clocks i k [] ne ∙ none k) (cases_same k i)),
)

module _ (g : Graph) (level : ℕ → ℕ) (most : ℕ) where
  go_on : (i j r : ℕ) (clocks : ℕ → List ℕ) (x y z : RunState) (ms : List VisitRecord) (m : VisitRecord) → VisitsUpTo g level most i clocks x ms j y → m.platform ≡ j → IsVisit g level most (λ l. 64) r y m z → (IsOver g m z → ⊥) → VisitsUpTo g level most i (with_reading clocks j r) x (ms ++ m ∷ []) (platform_after g j) z
  go_on i j r clocks x y z [] m (here, same, none) at is going =
      let one = reads_one clocks i j r here none in
      (r, [], z, at ∙ here, one.0, subst (λ s. IsVisit g level most (λ l. 64) r s m z) same is, going, (ap (platform_after g) here, refl, one.1))
  go_on i j r clocks x y z (p ∷ ms) m (s, later, mid, first, given, visit, on, rest) at is going =
      let w = reads clocks i s later j r given in (
        s,
        w.rest,
        mid,
        first,
        w.first,
        visit,
        on,
        subst (λ f. VisitsUpTo g level most (platform_after g i) f mid (ms ++ m ∷ []) (platform_after g j) z) (sym w.same) (go_on (platform_after g i) j r (put_clock clocks i later) mid y z ms m rest at is going),
      )

  -- a visit before others
  begins : (i : ℕ) (clocks : ℕ → List ℕ) (x z : RunState) (p m : VisitRecord) (ms : List VisitRecord) →
      (r : ℕ) × (later : List ℕ) × (mid : RunState) × (p.platform ≡ i) × (clocks i ≡ r ∷ later) × IsVisit g level most (λ l. 64) r x p mid × (IsOver g p mid → ⊥) × Visits g level most (platform_after g i) (put_clock clocks i later) mid (ms ++ m ∷ []) z →
      Visits g level most i clocks x (p ∷ ms ++ m ∷ []) z
  begins i clocks x z p m [] h = h
  begins i clocks x z p m (q ∷ ms) h = h

  ends : (i j r : ℕ) (clocks : ℕ → List ℕ) (x y z : RunState) (ms : List VisitRecord) (m : VisitRecord) → VisitsUpTo g level most i clocks x ms j y → m.platform ≡ j → IsVisit g level most (λ l. 64) r y m z → IsOver g m z → Visits g level most i (with_reading clocks j r) x (ms ++ m ∷ []) z
  ends i j r clocks x y z [] m (here, same, none) at is over =
      let one = reads_one clocks i j r here none in
      (r, at ∙ here, one.0, subst (λ s. IsVisit g level most (λ l. 64) r s m z) same is, over, λ k lt. one.1 k)
  ends i j r clocks x y z (p ∷ ms) m (s, later, mid, first, given, visit, on, rest) at is over =
      let w = reads clocks i s later j r given in
      begins i (with_reading clocks j r) x z p m ms (
        s,
        w.rest,
        mid,
        first,
        w.first,
        visit,
        on,
        subst (λ f. Visits g level most (platform_after g i) f mid (ms ++ m ∷ []) z) (sym w.same) (ends (platform_after g i) j r (put_clock clocks i later) mid y z ms m rest at is over),
      )

-- one more reading adds one to the raised list
raised_push : (p : ℕ) (readings : List ℕ) (r : ℕ) → raised_from p (readings ++ r ∷ []) ≡ raised_from p readings ++ later_of (greatest_of p readings) r ∷ []
raised_push p [] r = refl
raised_push p (q ∷ readings) r = ap (λ z. later_of p q ∷ z) (raised_push (later_of p q) readings r)

raised_with : (readings : ℕ → List ℕ) (j r : ℕ) → with_reading (λ i. raised_list (readings i)) j (later_of (greatest_of 0 (readings j)) r) ≡ (λ i. raised_list (with_reading readings j r i))
raised_with readings j r = fun_ext (λ k. ⊎_elim
    (λ (e : k ≡ j). subst (λ n. with_reading (λ i. raised_list (readings i)) j (later_of (greatest_of 0 (readings j)) r) n ≡ raised_list (with_reading readings j r n)) (sym e)
    (put_same (λ i. raised_list (readings i)) j (raised_list (readings j) ++ later_of (greatest_of 0 (readings j)) r ∷ []) ∙ sym (ap raised_list (put_same readings j (readings j ++ r ∷ [])) ∙ raised_push 0 (readings j) r)))
    (λ (ne : k ≢ j). put_other (λ i. raised_list (readings i)) j k (raised_list (readings j) ++ later_of (greatest_of 0 (readings j)) r ∷ []) ne ∙ sym (ap raised_list (put_other readings j k (readings j ++ r ∷ []) ne)))
    (cases_same k j))

pub visits_go_on : VisitsGoOn
visits_go_on g level rows most readings j r y z m h at is going = record {
  made = h.made ++ m ∷ [];
  visits = subst (λ f. VisitsUpTo g level most 0 f (run_at_start g rows) (h.made ++ m ∷ []) (platform_after g j) z) (raised_with readings j r) (go_on g level most 0 j (later_of (greatest_of 0 (readings j)) r) (λ i. raised_list (readings i)) (run_at_start g rows) y z h.made m h.visits at is going);
}

pub visits_end : VisitsEnd
visits_end g level rows most readings j r y z m h at is over none lt = (
  record {
    made = h.made ++ m ∷ [];
    visits = subst (λ f. Visits g level most 0 f (run_at_start g rows) (h.made ++ m ∷ []) z) (raised_with readings j r) (ends g level most 0 j (later_of (greatest_of 0 (readings j)) r) (λ i. raised_list (readings i)) (run_at_start g rows) y z h.made m h.visits at is over);
  },
  refl,
)

pub links_are_free : LinksAreFree
links_are_free g j x homes taken l link at from =
    let h = homes l link at in
    taken l link at (⊎_elim
    (λ (lt : platform_of g link.to < j). inr (lt, omega (arith, from)))
    (λ (le : j ≤ platform_of g link.to). inl (⊎_elim (λ (e : platform_of g link.to ≡ j). absurd (h.2 (from ∙ sym e))) (λ (ne : platform_of g link.to ≢ j). omega (arith, from, ne, le)) (cases_same (platform_of g link.to) j), inr (omega (arith, from))))
    (cases_lt (platform_of g link.to) j))

-- if two lists together are empty, so is the second
no_rest : {X : Type 0} (xs ys zs : List X) → zs ≡ xs ++ ys → zs ≡ [] → ys ≡ []
no_rest [] ys zs e none = sym e ∙ none
no_rest (x ∷ xs) ys zs e none = absurd (never x (xs ++ ys) (sym e ∙ none))
  where
    never : {X : Type 0} (x : X) (xs : List X) → x ∷ xs ≡ [] → ⊥
    never x xs e = cc

-- if the receiver was visited after the sender and neither was just visited, this was so before
was_taken : (n j next from to : ℕ) → ((suc j ≡ n) × (next ≡ 0)) ⊎ (next ≡ suc j) → from ≢ j → to ≢ j → from < n → to < n → WasTaken next from to → WasTaken j from to
was_taken n j next from to (inl (last, zero_is)) nf nt lf lt w = ⊎_elim
    (λ (both : (from < to) × ((to < next) ⊎ (next ≤ from))). inl (both.0, inl (omega (arith, last, nt, lt))))
    (λ (one : (to < next) × (next ≤ from)). absurd (let z : to < next = one.0 in omega (arith, zero_is)))
    w
was_taken n j next from to (inr next_is) nf nt lf lt w = ⊎_elim
    (λ (both : (from < to) × ((to < next) ⊎ (next ≤ from))). inl (
      both.0,
      ⊎_elim
          (λ (low : to < next). inl (omega (arith, next_is, nt)))
          (λ (high : next ≤ from). inr (omega (arith, next_is))) both.1,
    ))
    (λ (one : (to < next) × (next ≤ from)). inr (let a : to < next = one.0 in let b : next ≤ from = one.1 in (omega (arith, next_is, nt), omega (arith, next_is))))
    w

-- no receiver was visited after the platform just visited
not_from : (n j next to : ℕ) → ((suc j ≡ n) × (next ≡ 0)) ⊎ (next ≡ suc j) → to < n → WasTaken next j to → ⊥
not_from n j next to (inl (last, zero_is)) lt w = ⊎_elim
    (λ (both : (j < to) × ((to < next) ⊎ (next ≤ j))). let a : j < to = both.0 in omega (arith, last, lt))
    (λ (one : (to < next) × (next ≤ j)). let a : to < next = one.0 in omega (arith, zero_is))
    w
not_from n j next to (inr next_is) lt w = ⊎_elim
    (λ (both : (j < to) × ((to < next) ⊎ (next ≤ j))). ⊎_elim (λ (low : to < next). let a : j < to = both.0 in omega (arith, next_is)) (λ (high : next ≤ j). omega (arith, next_is)) both.1)
    (λ (one : (to < next) × (next ≤ j)). let b : next ≤ j = one.1 in omega (arith, next_is))
    w

next_is : (g : Graph) (j : ℕ) → ((suc j ≡ length g.platforms) × (platform_after g j ≡ 0)) ⊎ (platform_after g j ≡ suc j)
next_is g j = ⊎_elim
    (λ (e : suc j ≡ length g.platforms). inl (e, cond-true (suc j == length g.platforms) 0 (suc j) (eq-eqb (suc j) (length g.platforms) e)))
    (λ (ne : suc j ≢ length g.platforms). inr (cond-false (suc j == length g.platforms) 0 (suc j) (ne_eqb (suc j) (length g.platforms) ne)))
    (cases_same (suc j) (length g.platforms))

pub links_stay_free : LinksStayFree
links_stay_free g level most r j x z m room taken lt visit at on_time foreign homes l link there w =
    let h = homes l link there in
    ⊎_elim
    (λ (here : platform_of g link.to ≡ j).
    let away : platform_of g link.from ≡ j → ⊥ = λ e. h.2 (e ∙ sym here) in
    visit.sends l ∙ ap (λ ms. ms ++ on_link l m.turn.sent) (visit.takes_all on_time l link there (here ∙ sym at)) ∙ foreign l link there away)
    (λ (other : platform_of g link.to ≢ j).
    ⊎_elim
    (λ (mine : platform_of g link.from ≡ j). absurd (not_from (length g.platforms) j (platform_after g j) (platform_of g link.to) (next_is g j) h.1 (subst (λ n. WasTaken (platform_after g j) n (platform_of g link.to)) mine w)))
    (λ (away : platform_of g link.from ≢ j).
    let none : x.on_way l ≡ [] = taken l link there (was_taken (length g.platforms) j (platform_after g j) (platform_of g link.from) (platform_of g link.to) (next_is g j) away other h.0 h.1 w) in
    visit.sends l ∙ ap (λ ms. ms ++ on_link l m.turn.sent) (no_rest (on_link l m.turn.taken) (visit.rest l) (x.on_way l) (visit.takes l) none) ∙ foreign l link there away)
    (cases_same (platform_of g link.from) j))
    (cases_same (platform_of g link.to) j)
