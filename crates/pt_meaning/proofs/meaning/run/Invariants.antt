use Rattle.std.proofs.Common.{◌≡◌, ◌≤◌, ◌-◌, ℕ, List, length}
use Rattle.pt_types.specs.declared.firing.ActorFiring.{ActorFiring}
use Rattle.pt_semantics.specs.Meaning.{Steps, World, at_start, rows_until}
use Rattle.pt_types.specs.declared.graph.Graph.{Graph}
use Rattle.pt_meaning.specs.Waiting.{rank_in}
use Rattle.pt_meaning.specs.Both.{AreSound}
use Rattle.pt_sensors.specs.Listed.{rows_for}
use Rattle.pt_meaning.specs.Running.{world_in}
use Rattle.pt_meaning.proofs.meaning.run.Given as goal

-- that many firings led from a world to this one, and were taken
pub record Went (g : Graph) (rank : ℕ → ℕ) (start now : World) (count : ℕ) (Took : List ActorFiring → Type 0) : Type 0 where
  pub firings : List ActorFiring
  pub len : length firings ≡ count
  pub steps : Steps g rank start firings now
  pub took : Took firings

abbrev pub invariant-loop-next : goal.invariant-loop-next
invariant-loop-next g l = record {
  went : Went l.graph (rank_in l.ranks) (at_start l.graph (λ a. rows_until l.graph.until (rows_for l.sensors a))) (world_in l.ranks l.list.waiting l.list.states.items) l.count (g.R.Receiver.took l.fn.receiver l.receiver);
  states : length l.list.states.items ≡ length l.graph.actors;
  sound : AreSound (rank_in l.ranks) (length l.graph.actors) l.count l.list.waiting;
  most : l.count ≤ l.most;
}

abbrev pub decreases-loop-next : goal.decreases-loop-next
decreases-loop-next g l = l.most - l.count
