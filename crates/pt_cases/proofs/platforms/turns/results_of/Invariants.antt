use Rattle.pt_turn.specs.Posts.Posted.{AreDone}
use Rattle.pt_cases.proofs.platforms.turns.results_of.Given as goal

abbrev pub invariant-loop-task : goal.invariant-loop-task
invariant-loop-task g l = AreDone l.graph l.results.items
