-- What is true before a visit still is, if a row arrives.
use Rattle.std.proofs.Common.{◌≡◌, ◌≢◌, ◌<◌, ◌≤◌, ◌==◌, ℕ, false, true, List, [], ◌∷◌, Some, length-set, sym, ap, subst, ◌∙◌, ⊎_elim, eqb-true}
use Rattle.std.specs.Prelude.{slice_get}
use Rattle.std.proofs.lemmas.Bool.{cases_Bool, cond-true, cond-false}
use Rattle.pt_types.specs.declared.graph.Graph.{Graph}
use Rattle.pt_types.specs.declared.rows.Row.{Row}
use Rattle.pt_types.specs.Lookups.{platform_of}
use Rattle.pt_semantics.specs.Lists.{Each}
use Rattle.pt_semantics.specs.Platform.{State}
use Rattle.pt_semantics.specs.Readings.{IsReadBy}
use Rattle.pt_semantics.specs.Rows.{FitsRow}
use Rattle.pt_laws.proofs.Onward.{cases_same}
use Rattle.pt_causality.specs.Ranked.{level_of}
use Rattle.pt_offsets.specs.Plans.{Parts}
use Rattle.pt_live_laws.specs.Growth.Growing.{at_home, grown_together, just}
use Rattle.pt_live_laws.proofs.Growth.RowsNext.{rows_next}
use Rattle.pt_live_laws.specs.Between.{AreToCome}
use Rattle.pt_live_laws.proofs.Between.{is_going_grown, sound_grown}
use Rattle.pt_turn.proofs.Arrives.Places.{just_at_home}
use Rattle.pt_turn.specs.Platforms.{PlatformView, rows_at}
use Rattle.pt_engine.proofs.Changed.{set_cases}
use Rattle.pt_engine.proofs.MoreShown.{none_away, shown_grows}
use Rattle.pt_fixed_order.specs.Between.{IsLastOf}
use Rattle.pt_fixed_order.specs.Growing.MoreRows.{BeforeGrows}

each_just : (P : Row → Type 0) (a b : ℕ) (row : Row) → P row → Each P (just a row b)
each_just P a b row h = ⊎_elim
    (λ (t : (b == a) ≡ true). subst (Each P) (sym (cond-true (b == a) (row ∷ []) [] t)) (h, tt))
    (λ (f : (b == a) ≡ false). subst (Each P) (sym (cond-false (b == a) (row ∷ []) [] f)) tt)
    (cases_Bool (b == a))

-- other platforms get no row
no_more : (g : Graph) (k sensor : ℕ) (row : Row) → (platform_of g sensor ≡ k → ⊥) → (a : ℕ) → at_home g k (just sensor row) a ≡ []
no_more g k sensor row away a = ⊎_elim
    (λ (t : (platform_of g a == k) ≡ true). cond-true (platform_of g a == k) (just sensor row a) [] t ∙ none_away g k sensor row away a (eqb-true (platform_of g a) k t))
    (λ (f : (platform_of g a == k) ≡ false). cond-false (platform_of g a == k) (just sensor row a) [] f)
    (cases_Bool (platform_of g a == k))

pub before_grows : BeforeGrows
before_grows plan rows most j began now platforms pipes results b i sensor row v w at may new =
    let g : Graph = plan.graph in
    let more : ℕ → List Row = just sensor row in
    let is_plan : v.plan ≡ plan = b.shown.all.plans i v at in
    let home : platform_of g sensor ≡ i = ap (λ (p : Parts). platform_of p.graph sensor) (sym is_plan) ∙ may.home ∙ b.shown.all.numbers i v at in
    let own : rows_at v sensor ≡ rows sensor = b.shown.all.opened i sensor v at home in
    let come : AreToCome g more b.together = λ k p read. ⊎_elim
    (λ (here : k ≡ i). λ a. subst (λ n. Each (λ (x : Row). p < x.seen) (at_home g n more a)) (sym here)
    (subst (λ f. Each (λ (x : Row). p < x.seen) (f a)) (sym (just_at_home g i sensor row home))
    (each_just (λ (x : Row). p < x.seen) sensor a row (may.next.read p (ap (λ (s : State). s.reading) (sym (b.shown.states i v at)) ∙ ap (λ n. (b.together.at n).reading) (sym here) ∙ read)))))
    (λ (there : k ≢ i). λ a. subst (Each (λ (x : Row). p < x.seen)) (sym (no_more g k sensor row (λ e. there (sym e ∙ home)) a)) tt)
    (cases_same k i) in
    record {
      admitted = b.admitted;
      fit = rows_next g rows sensor row b.fit (record {
        fits = subst (λ (p : Parts). FitsRow p.graph sensor row) is_plan may.next.fits;
        times = subst (Each (λ (x : Row). x.time < row.time)) own may.next.times;
        seen = subst (Each (λ (x : Row). x.seen ≤ row.seen)) own may.next.seen;
      });
      together = grown_together g more b.together;
      readings = b.readings;
      next = b.next;
      goes = is_going_grown g (level_of plan.ranks) rows more most b.readings j b.together b.goes come;
      free = b.free;
      sound = sound_grown g (level_of plan.ranks) rows more b.together b.sound come;
      shown = shown_grows plan rows b.together platforms pipes results b.shown i sensor row v w at home new;
      clocks = record {
        count = b.clocks.count ∙ sym (length-set platforms i w);
        ahead = b.clocks.ahead;
        handed = b.clocks.handed;
        read = λ k u there. ⊎_elim
            (λ (here : (k ≡ i) × (u ≡ w)).
            subst (λ n. IsReadBy u.turns (b.readings n)) (sym here.0)
            (subst (λ (z : PlatformView). IsReadBy z.turns (b.readings i)) (sym (here.1 ∙ new.same)) (b.clocks.read i v at)))
            (λ (else : (k ≢ i) × (slice_get platforms k ≡ Some u)). b.clocks.read k u else.1)
            (set_cases platforms i k w v u at there);
        last = λ k u there. ⊎_elim
            (λ (here : (k ≡ i) × (u ≡ w)).
            subst (λ n. IsLastOf (b.readings n) u.reading) (sym here.0)
            (subst (λ (z : PlatformView). IsLastOf (b.readings i) z.reading) (sym (here.1 ∙ new.same)) (b.clocks.last i v at)))
            (λ (else : (k ≢ i) × (slice_get platforms k ≡ Some u)). b.clocks.last k u else.1)
            (set_cases platforms i k w v u at there);
        none_past = λ k past. b.clocks.none_past k (subst (λ n. n ≤ k) (length-set platforms i w) past);
      };
      no_fault = λ k u there. ⊎_elim
          (λ (here : (k ≡ i) × (u ≡ w)). ap (λ (z : PlatformView). z.fault) (here.1 ∙ new.same) ∙ b.no_fault i v at)
          (λ (else : (k ≢ i) × (slice_get platforms k ≡ Some u)). b.no_fault k u else.1)
          (set_cases platforms i k w v u at there);
    }
