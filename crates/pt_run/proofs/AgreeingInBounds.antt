-- A replay within the stated bounds and a paced run over the same files write the same tables.
use Rattle.std.proofs.Common.{◌≡◌, ◌∙◌, ◌++◌, ℕ, Bool, List, None, Some, refl, subst}
use Rattle.std.specs.Prelude.{◌↔◌}
use Rattle.pt_io.specs.Causes.{Appends}
use Rattle.pt_types.specs.declared.graph.Graph.{Graph}
use Rattle.pt_types.specs.declared.firing.ActorFiring.{ActorFiring}
use Rattle.pt_blocks.specs.declared.blocks.Named.{Named}
use Rattle.pt_history.specs.declared.miss.Miss.{Miss}
use Rattle.pt_semantics.specs.Lists.{IsIn}
use Rattle.pt_semantics.specs.Tables.{tables_text}
use Rattle.pt_paced_laws.specs.Schedule.{IsMissedByMeaning}
use Rattle.pt_io.specs.Calls.{Contents, SourceCall, SinkCall}
use Rattle.pt_words.specs.declared.orders.ClockChoice.TheVariants.{Paced}
use Rattle.pt_run.specs.Complete.{CanRun}
use Rattle.pt_words.specs.declared.orders.Command.TheVariants.{Run}
use Rattle.pt_run.specs.InBounds.{ReplaysInBoundsAgreeWithRuns}
use Rattle.pt_run.specs.Runs.{log_if}
use Rattle.pt_words.specs.Grammar.{GraphFile, over, replay}
use Rattle.pt_run.specs.Written.{Leaves, run_clocks}
use Rattle.pt_run.proofs.ByFault.{Ends}
use Rattle.pt_run.proofs.Complete.{firings_meant, missed_meant, this_graph}
use Rattle.pt_run.proofs.DueEnds.{due_ends}
use Rattle.pt_run.proofs.CompleteInBounds.{missed_in_air, tables_in_air}

-- what a paced run that finished wrote and missed
module _ (contents : Contents) (blocks : List Named) (graph_file : GraphFile) (g : Graph) (xs : List ActorFiring) (can : CanRun contents blocks graph_file g xs) (workers : ℕ) (log : Bool) (left : Leaves) (r : SourceCall) (w : SinkCall) where
  paced : Ends None left (Some (over (Run workers Paced log) graph_file)) contents blocks r w →
      Appends w.written_before w.written_now (tables_text g xs ++ log_if log g left.platforms) × ((m : Miss) → IsIn m left.misses ↔ IsMissedByMeaning g xs m.actor m.tag m.reading m.limit)
  paced (text, (h, file, (free, run)), appends) =
      let same : run.plan.graph ≡ g = run.graph ∙ this_graph contents blocks graph_file g can.begins h file in
      let firings : run.finished.firings ≡ xs = firings_meant contents blocks graph_file g can.begins xs can.means (run_clocks workers Paced left) run.plan log left.platforms left.misses text refl same run.finished in (
        subst (λ (z : Graph). Appends w.written_before w.written_now (tables_text z xs ++ log_if log z left.platforms)) same
            (subst (λ zs. Appends w.written_before w.written_now (tables_text run.plan.graph zs ++ log_if log run.plan.graph left.platforms)) firings
            (subst (Appends w.written_before w.written_now) run.finished.written appends)),
        missed_meant contents blocks graph_file g can.begins xs can.means (run_clocks workers Paced left) run.plan log left.platforms left.misses text refl same run.finished,
      )

pub in_bounds_agree : ReplaysInBoundsAgreeWithRuns
in_bounds_agree contents blocks graph_file air g xs workers others log logged a b can done finished due more =
    let replayed : Ends None a.left (Some (replay graph_file air workers log)) contents blocks a.read a.wrote = subst (λ o. Ends o a.left (Some (replay graph_file air workers log)) contents blocks a.read a.wrote) done (due_ends contents blocks a (Some (replay graph_file air workers log)) due) in
    let ran : Ends None b.left (Some (over (Run others Paced logged) graph_file)) contents blocks b.read b.wrote = subst (λ o. Ends o b.left (Some (over (Run others Paced logged) graph_file)) contents blocks b.read b.wrote) finished (due_ends contents blocks b (Some (over (Run others Paced logged) graph_file)) more) in
    let run = paced contents blocks graph_file g xs can.runs others logged b.left b.read b.wrote ran in
    let missed = missed_in_air contents blocks graph_file air g xs can a.left log a.wrote replayed in
    record {
      replayed = tables_in_air contents blocks graph_file air g xs can a.left log a.wrote replayed;
      ran = run.0;
      misses = λ m. ((λ mem. (run.1 m).1 ((missed m).0 mem)), (λ mem. (missed m).1 ((run.1 m).0 mem)));
    }
