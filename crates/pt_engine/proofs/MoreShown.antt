-- What represents all platforms still does, with one more row.
use Rattle.std.proofs.Common.{◌≡◌, ◌≢◌, ℕ, ◌==◌, false, true, [], ◌∷◌, ◌++◌, Some, sym, ap, subst, ◌∙◌, ⊎_elim, append-nil, eqb-true, ne_eqb, length-set}
use Rattle.std.specs.Prelude.{slice_get}
use Rattle.std.proofs.lemmas.Bool.{cases_Bool, cond-true, cond-false}
use Rattle.pt_types.specs.declared.graph.Graph.{Graph}
use Rattle.pt_types.specs.declared.rows.Row.{Row}
use Rattle.pt_types.specs.Lookups.{platform_of}
use Rattle.pt_semantics.specs.Kept.{kept}
use Rattle.pt_semantics.specs.Platform.{State}
use Rattle.pt_live_laws.specs.Growth.Growing.{at_home, grown, just}
use Rattle.pt_turn.proofs.Arrives.Places.{just_at_home}
use Rattle.pt_turn.specs.Platforms.{PlatformView, rows_at, state_at}
use Rattle.pt_engine.specs.Shown.{AreResults}
use Rattle.pt_engine.specs.MoreShown.{ShownGrows}
use Rattle.pt_engine.proofs.Changed.{set_cases}

-- no row of another platform's sensor is at home
pub none_away : (g : Graph) (j sensor : ℕ) (row : Row) → (platform_of g sensor ≡ j → ⊥) → (a : ℕ) → platform_of g a ≡ j → just sensor row a ≡ []
none_away g j sensor row away a home = cond-false (a == sensor) (row ∷ []) [] (ne_eqb a sensor (λ e. away (subst (λ b. platform_of g b ≡ j) e home)))

nothing_grown : (g : Graph) (j sensor : ℕ) (row : Row) (s : State) → (platform_of g sensor ≡ j → ⊥) → grown (at_home g j (just sensor row)) s ≡ s
nothing_grown g j sensor row s away = λ k. record s { left = λ a. (ap (λ z. s.left a ++ z) (no_more a) ∙ append-nil (s.left a)) k }
  where
    no_more : (a : ℕ) → at_home g j (just sensor row) a ≡ []
    no_more a = ⊎_elim
        (λ (t : (platform_of g a == j) ≡ true). cond-true (platform_of g a == j) (just sensor row a) [] t ∙ none_away g j sensor row away a (eqb-true (platform_of g a) j t))
        (λ (f : (platform_of g a == j) ≡ false). cond-false (platform_of g a == j) (just sensor row a) [] f)
        (cases_Bool (platform_of g a == j))

pub shown_grows : ShownGrows
shown_grows plan rows x platforms pipes results shown i sensor row v w at home new =
    let g : Graph = plan.graph in
    let is_i : v.number ≡ i = shown.all.numbers i v at in
    record {
      all = record {
        count = length-set platforms i w ∙ shown.all.count;
        plans = λ j u there. ⊎_elim
            (λ (here : (j ≡ i) × (u ≡ w)). ap (λ (z : PlatformView). z.plan) (here.1 ∙ new.same) ∙ shown.all.plans i v at)
            (λ (else : (j ≢ i) × (slice_get platforms j ≡ Some u)). shown.all.plans j u else.1)
            (set_cases platforms i j w v u at there);
        numbers = λ j u there. ⊎_elim
            (λ (here : (j ≡ i) × (u ≡ w)). ap (λ (z : PlatformView). z.number) (here.1 ∙ new.same) ∙ shown.all.numbers i v at ∙ sym here.0)
            (λ (else : (j ≢ i) × (slice_get platforms j ≡ Some u)). shown.all.numbers j u else.1)
            (set_cases platforms i j w v u at there);
        opened = λ j a u there own. ⊎_elim
            (λ (here : (j ≡ i) × (u ≡ w)).
            ap (λ (z : PlatformView). rows_at z a) here.1 ∙ new.rows a ∙ ap (λ z. z ++ just sensor row a) (shown.all.opened i a v at (own ∙ here.0)))
            (λ (else : (j ≢ i) × (slice_get platforms j ≡ Some u)).
            shown.all.opened j a u else.1 own ∙ sym (append-nil (rows a)) ∙ ap (λ z. rows a ++ z) (sym (none_away g j sensor row (λ e. else.0 (sym e ∙ home)) a own)))
            (set_cases platforms i j w v u at there);
      };
      states = λ j u there. ⊎_elim
          (λ (here : (j ≡ i) × (u ≡ w)).
          ap (λ n. grown (at_home g n (just sensor row)) (x.at n)) here.0
          ∙ ap (λ more. grown more (x.at i)) (just_at_home g i sensor row home)
          ∙ ap (grown (just sensor row)) (shown.states i v at)
          ∙ sym new.state
          ∙ ap state_at (sym here.1))
          (λ (else : (j ≢ i) × (slice_get platforms j ≡ Some u)). nothing_grown g j sensor row (x.at j) (λ e. else.0 (sym e ∙ home)) ∙ shown.states j u else.1)
          (set_cases platforms i j w v u at there);
      kept_turns = λ j u there. ⊎_elim
          (λ (here : (j ≡ i) × (u ≡ w)). ap (λ (z : PlatformView). z.turns) (here.1 ∙ new.same) ∙ shown.kept_turns i v at ∙ ap (λ n. kept (x.did n)) (sym here.0))
          (λ (else : (j ≢ i) × (slice_get platforms j ≡ Some u)). shown.kept_turns j u else.1)
          (set_cases platforms i j w v u at there);
      links = shown.links;
      on_way = shown.on_way;
      nowhere_else = shown.nowhere_else;
      count = shown.count ∙ sym (length-set platforms i w);
      pending = λ j u dones there result. ⊎_elim
          (λ (here : (j ≡ i) × (u ≡ w)).
          let same : slice_get results i ≡ Some dones = ap (slice_get results) (sym here.0) ∙ result in
          let old : AreResults g v dones = shown.pending i v dones at same in
          subst (λ (z : PlatformView). AreResults g z dones) (sym (here.1 ∙ new.same)) (record { done = old.done; open_claims = old.open_claims; rise = old.rise }))
          (λ (else : (j ≢ i) × (slice_get platforms j ≡ Some u)). shown.pending j u dones else.1 result)
          (set_cases platforms i j w v u at there);
    }
