use Rattle.std.proofs.Common.{◌≡◌, ◌≤◌, ◌+◌, ℕ, drop}
use Rattle.pt_types.specs.declared.graph.Graph.{Graph}
use Rattle.pt_semantics.specs.Lists.{Each}
use Rattle.pt_semantics.specs.Meaning.{added, going, leaves_actor}
use Rattle.pt_meaning.specs.Waiting.{waits_in, rank_in, EventsArePlaced}
use Rattle.pt_meaning.specs.Emission.{IsUsable, LeavesActor}
use Rattle.pt_meaning.specs.Held.{late_value}
use Rattle.pt_meaning.proofs.emission.emit.Given as goal

abbrev pub invariant-loop-edge : goal.invariant-loop-edge
invariant-loop-edge l = record {
  waits : (g : Graph) (actor : ℕ) → g.until ≡ l.until → Each (LeavesActor actor) l.edges → added (waits_in (rank_in l.ranks) (late_value l.late)) (going g (drop l.edge-index l.edges) (leaves_actor actor) l.tag l.outputs)
      ≡ added (waits_in (rank_in l.ranks) (late_value l.fn.late)) (going g l.edges (leaves_actor actor) l.tag l.outputs);
  sound : (actors steps : ℕ) → Each (IsUsable actors) l.edges → l.tag.step + 1 ≤ steps → EventsArePlaced (rank_in l.ranks) actors steps (late_value l.fn.late) → EventsArePlaced (rank_in l.ranks) actors steps (late_value l.late);
}
