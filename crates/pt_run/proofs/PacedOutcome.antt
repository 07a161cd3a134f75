-- Platforms after a paced run.
use Rattle.std.proofs.Common.{◌≡◌, ◌==◌, ℕ, Bool, true, false, if◌then◌else◌, List, [], Option, Some, slice_get, refl, ap, subst, eqb-true}
use Rattle.std.proofs.Math.Path.{fun_ext}
use Rattle.pt_types.specs.declared.graph.Graph.{Graph}
use Rattle.pt_types.specs.declared.rows.Row.{Row}
use Rattle.pt_types.specs.Lookups.{platform_of}
use Rattle.pt_semantics.specs.History.{IsLegal, Legal}
use Rattle.pt_semantics.specs.Platform.{State, opened}
use Rattle.pt_causality.specs.Ranked.{level_of}
use Rattle.pt_offsets.specs.Plans.{Parts}
use Rattle.pt_turn.specs.declared.fault.TurnFault.{TurnFault}
use Rattle.pt_turn.specs.Platforms.{PlatformView, rows_at, state_at}
use Rattle.pt_turn.specs.All.{AreAll}
use Rattle.pt_confluence.specs.Gathered.{AreLegal}
use Rattle.pt_rounds.specs.Outcome.{IsOutcome as IsPacedOutcome}
use Rattle.pt_run.specs.Runs.{IsOutcomeBy, paced_run_clocks}

-- a platform opens with its own rows alone
same_opening : (g : Graph) (i : ℕ) (some others : ℕ → List Row) → ((a : ℕ) → platform_of g a ≡ i → some a ≡ others a) → opened g i some ≡ opened g i others
same_opening g i some others same =
    ap (λ (left : ℕ → List Row). record (opened g i some) { left = left }) (fun_ext (λ a. at (platform_of g a == i) a (λ e. same a (eqb-true (platform_of g a) i e))))
  where
    at : (b : Bool) (a : ℕ) → (b ≡ true → some a ≡ others a) → (if b then some a else []) ≡ (if b then others a else [])
    at true a h = h refl
    at false a h = refl

-- the legal history of each platform, in terms of its plan
legal_in : (plan : Parts) (rows : ℕ → List Row) (platforms : List PlatformView) → AreAll plan rows platforms → AreLegal platforms → (i : ℕ) (v : PlatformView) → slice_get platforms i ≡ Some v → IsLegal plan.graph (level_of plan.ranks) i rows v.turns (state_at v)
legal_in plan rows platforms all are i v there =
    let of_plan : IsLegal plan.graph (level_of plan.ranks) v.number (rows_at v) v.turns (state_at v) =
    subst (λ (p : Parts). IsLegal p.graph (level_of p.ranks) v.number (rows_at v) v.turns (state_at v)) (all.plans i v there) (are i v there) in
    let numbered : IsLegal plan.graph (level_of plan.ranks) i (rows_at v) v.turns (state_at v) =
    subst (λ n. IsLegal plan.graph (level_of plan.ranks) n (rows_at v) v.turns (state_at v)) (all.numbers i v there) of_plan in
    record {
      leads = subst (λ (s : State). Legal plan.graph (level_of plan.ranks) i s v.turns (state_at v)) (same_opening plan.graph i (rows_at v) rows (λ a home. all.opened i a v there home)) numbered.leads;
      counted = numbered.counted;
      joined = numbered.joined;
    }

-- what paced rounds leave
pub paced_outcome : (workers : ℕ) (plan : Parts) (rows : ℕ → List Row) (platforms : List PlatformView) (fault : Option (ℕ × TurnFault)) → AreLegal platforms → IsPacedOutcome plan (level_of plan.ranks) rows platforms fault →
    IsOutcomeBy (paced_run_clocks workers) plan rows platforms fault
paced_outcome workers plan rows platforms fault are run = record {
  kept = record { all = run.all; legal = legal_in plan rows platforms run.all are; matched = run.matched; linked = run.linked; ends = run.ends };
  readings = record { rounds = run.after; on_schedule = run.on_schedule; none_late = run.none_late };
  paced = λ e. run;
}
