-- Two paced runs over one graph and its rows leave the same.
use Rattle.std.proofs.Common.{◌≡◌, ◌≢◌, ℕ, ◌<◌, ◌≤◌, List, [], Option, None, Some, false, length, option_map, slice_get, unwrap_or, refl, sym, ap, subst, ◌∙◌, arith, ⊎_elim}
use Rattle.std.specs.Prelude.{◌↔◌, IfSome}
use Rattle.std.proofs.lemmas.Bool.{cases_lt}
use Rattle.std.proofs.lemmas.Option.{slice_get_within}
use Rattle.pt_types.specs.declared.graph.Graph.{Graph}
use Rattle.pt_types.specs.declared.rows.Row.{Row}
use Rattle.pt_semantics.specs.Kept.{kept}
use Rattle.pt_semantics.specs.Lists.{IsIn}
use Rattle.pt_semantics.specs.Visits.{VisitRecord, RunState}
use Rattle.pt_semantics.proofs.Acyclic.{levels_are_one}
use Rattle.pt_semantics.proofs.Lookups.{none_some}
use Rattle.pt_laws.proofs.Onward.{cases_same}
use Rattle.pt_paced_laws.specs.WholeRuns.{IsEnd}
use Rattle.pt_paced_laws.proofs.OneRun.{runs_are_one}
use Rattle.pt_semantics.proofs.LawfulEdges.{wired}
use Rattle.pt_causality.specs.Ranked.{level_of}
use Rattle.pt_offsets.specs.Plans.{Parts}
use Rattle.pt_offsets.specs.Timings.{offset_of}
use Rattle.pt_turn.specs.declared.fault.TurnFault.{TurnFault}
use Rattle.pt_turn.specs.declared.fault.TurnFault.TheVariants.{Long}
use Rattle.pt_turn.specs.Platforms.{PlatformView}
use Rattle.pt_turn.specs.All.{histories_of}
use Rattle.pt_rounds.specs.Agreeing.{PacedRunsAgree}
use Rattle.pt_rounds.specs.Outcome.{IsOutcome}
use Rattle.pt_engine.specs.Asked.{EndsAt}
use Rattle.pt_engine.proofs.Listed.{member}

-- what a run of a graph leaves, apart from the other parts of its plan
record Leaves (g : Graph) (level : ℕ → ℕ) (rows : ℕ → List Row) (platforms : List PlatformView) (fault : Option (ℕ × TurnFault)) : Type 0 where
  y : RunState
  end : IsEnd g level rows y
  count : length platforms ≡ length g.platforms
  kept_turns : (i : ℕ) (v : PlatformView) → slice_get platforms i ≡ Some v → v.turns ≡ kept (y.did i)
  faults : (i : ℕ) (v : PlatformView) → slice_get platforms i ≡ Some v → (v.fault ≡ None) ↔ ((m : VisitRecord) → IsIn m end.run.made → m.platform ≡ i → m.fault ≡ false)
  ends : EndsAt g platforms fault
  only : IfSome fault (λ (f : ℕ × TurnFault). f.1 ≡ Long)

leaves : (plan : Parts) (rows : ℕ → List Row) (platforms : List PlatformView) (fault : Option (ℕ × TurnFault)) → IsOutcome plan (level_of plan.ranks) rows platforms fault → Leaves plan.graph (level_of plan.ranks) rows platforms fault
leaves plan rows platforms fault h = record {
  y = h.after.together;
  end = record { wired = wired plan.graph h.admitted.lawful; levels = h.admitted.levels; fit = h.fit; feasible = h.admitted.feasible; offset = offset_of plan.offsets; offsets = h.admitted.offsets.units; run = h.after.run };
  count = h.all.count;
  kept_turns = h.after.kept_turns;
  faults = h.after.faults;
  ends = h.ends;
  only = h.all_claims_made;
}

-- the platform of a number has the history that was kept, and past the end there is none
history : (platforms : List PlatformView) (y : RunState) → ((i : ℕ) (v : PlatformView) → slice_get platforms i ≡ Some v → v.turns ≡ kept (y.did i)) → (i : ℕ) → i < length platforms → histories_of platforms i ≡ kept (y.did i)
history platforms y are i lt =
    let one = member platforms i lt in
    ap (λ (o : Option PlatformView). unwrap_or (option_map (λ (v : PlatformView). v.turns) o) []) one.1 ∙ are i one.0 one.1

nothing_past : (platforms : List PlatformView) (i : ℕ) → length platforms ≤ i → (o : Option PlatformView) → slice_get platforms i ≡ o → slice_get platforms i ≡ None
nothing_past platforms i le None e = e
nothing_past platforms i le (Some v) e = absurd (let lt = slice_get_within platforms i v e in omega (arith, lt, le))

past : (platforms : List PlatformView) (i : ℕ) → length platforms ≤ i → slice_get platforms i ≡ None
past platforms i le = nothing_past platforms i le (slice_get platforms i) refl

same_pair : (i j : ℕ) (f e : TurnFault) → i ≡ j → f ≡ e → ◌≡◌ {A = Option (ℕ × TurnFault)} (Some (i, f)) (Some (j, e))
same_pair i j f e number fault = λ x. Some (number x, fault x)

module _ (g : Graph) (level : ℕ → ℕ) (rows : ℕ → List Row) (platforms others : List PlatformView) (fault stop : Option (ℕ × TurnFault)) (a : Leaves g level rows platforms fault) (b : Leaves g level rows others stop) where
  one : (a.y ≡ b.y) × (a.end.run.made ≡ b.end.run.made)
  one = runs_are_one g level rows a.y b.y a.end b.end

  same_histories : (i : ℕ) → histories_of platforms i ≡ histories_of others i
  same_histories i =
      ⊎_elim
      (λ (lt : i < length g.platforms).
      history platforms a.y a.kept_turns i (subst (λ n. i < n) (sym a.count) lt)
      ∙ ap (λ (y : RunState). kept (y.did i)) one.0
      ∙ sym (history others b.y b.kept_turns i (subst (λ n. i < n) (sym b.count) lt)))
      (λ (le : length g.platforms ≤ i).
      ap (λ (o : Option PlatformView). unwrap_or (option_map (λ (v : PlatformView). v.turns) o) []) (past platforms i (subst (λ n. n ≤ i) (sym a.count) le))
      ∙ sym (ap (λ (o : Option PlatformView). unwrap_or (option_map (λ (v : PlatformView). v.turns) o) []) (past others i (subst (λ n. n ≤ i) (sym b.count) le))))
      (cases_lt i (length g.platforms))

  -- a platform has a fault in both or in none
  on : (i : ℕ) (v w : PlatformView) → slice_get platforms i ≡ Some v → slice_get others i ≡ Some w → v.fault ≡ None → w.fault ≡ None
  on i v w at there none = (b.faults i w there).1 (subst (λ ms. (m : VisitRecord) → IsIn m ms → m.platform ≡ i → m.fault ≡ false) one.1 ((a.faults i v at).0 none))

  back : (i : ℕ) (v w : PlatformView) → slice_get platforms i ≡ Some v → slice_get others i ≡ Some w → w.fault ≡ None → v.fault ≡ None
  back i v w at there none = (a.faults i v at).1 (subst (λ ms. (m : VisitRecord) → IsIn m ms → m.platform ≡ i → m.fault ≡ false) (sym one.1) ((b.faults i w there).0 none))

  in_others : (i : ℕ) (v : PlatformView) → slice_get platforms i ≡ Some v → (w : PlatformView) × (slice_get others i ≡ Some w)
  in_others i v at = member others i (subst (λ n. i < n) (a.count ∙ sym b.count) (slice_get_within platforms i v at))

  in_platforms : (i : ℕ) (w : PlatformView) → slice_get others i ≡ Some w → (v : PlatformView) × (slice_get platforms i ≡ Some v)
  in_platforms i w at = member platforms i (subst (λ n. i < n) (b.count ∙ sym a.count) (slice_get_within others i w at))

  faulty : (f : TurnFault) (v : PlatformView) → v.fault ≡ Some f → v.fault ≡ None → ⊥
  faulty f v is none = none_some f (sym none ∙ is)

  same_fault : (o p : Option (ℕ × TurnFault)) → EndsAt g platforms o → EndsAt g others p → IfSome o (λ (f : ℕ × TurnFault). f.1 ≡ Long) → IfSome p (λ (f : ℕ × TurnFault). f.1 ≡ Long) → o ≡ p
  same_fault None None h k long long2 = refl
  same_fault None (Some (i, f)) h (w, at, is, shows, before) long long2 = let v = in_platforms i w at in absurd (faulty f w is (on i v.0 w v.1 at (h i v.0 v.1).0))
  same_fault (Some (i, f)) None (v, at, is, shows, before) k long long2 = let w = in_others i v at in absurd (faulty f v is (back i v w.0 at w.1 (k i w.0 w.1).0))
  same_fault (Some (i, f)) (Some (j, e)) (v, at, is, shows, before) (w, at2, is2, shows2, before2) long long2 =
      ⊎_elim
      (λ (here : i ≡ j). same_pair i j f e here (long ∙ sym long2))
      (λ (ne : i ≢ j).
      ⊎_elim
      (λ (lt : i < j). let u = in_others i v at in absurd (faulty f v is (back i v u.0 at u.1 (before2 i u.0 lt u.1))))
      (λ (le : j ≤ i). let u = in_platforms j w at2 in absurd (faulty e w is2 (on j u.0 w u.1 at2 (before j u.0 (below i j le ne) u.1))))
      (cases_lt i j))
      (cases_same i j)
    where
      below : (i j : ℕ) → j ≤ i → i ≢ j → j < i
      below i j le ne = ⊎_elim (λ (lt : j < i). lt) (λ (up : i ≤ j). absurd (ne (omega (arith, le, up)))) (cases_lt j i)

  agree : ((i : ℕ) → histories_of platforms i ≡ histories_of others i) × (fault ≡ stop)
  agree = (same_histories, same_fault fault stop a.ends b.ends a.only b.only)

pub runs_agree : PacedRunsAgree
runs_agree plan other rows platforms others fault stop same h k =
    let b : Leaves plan.graph (level_of other.ranks) rows others stop = subst (λ (g : Graph). Leaves g (level_of other.ranks) rows others stop) (sym same) (leaves other rows others stop k) in
    let levels : level_of other.ranks ≡ level_of plan.ranks = levels_are_one plan.graph (level_of other.ranks) (level_of plan.ranks) b.end.levels h.admitted.levels in
    agree plan.graph (level_of plan.ranks) rows platforms others fault stop (leaves plan rows platforms fault h)
    (subst (λ level. Leaves plan.graph level rows others stop) levels b)
