use Rattle.std.proofs.Common.{◌≡◌, ◌<◌, ℕ, [], length, filter, slice_index_or, take}
use Rattle.pt_semantics.specs.Meaning.{leaves_actor}
use Rattle.pt_causality.proofs.edges_of.outgoing.Given as goal

abbrev pub invariant-loop-edge : goal.invariant-loop-edge
invariant-loop-edge l = record {
  len : length l.outgoing ≡ length l.graph.actors;
  leaving : (a : ℕ) → a < length l.graph.actors → slice_index_or l.outgoing a [] ≡ filter (leaves_actor a) (take l.edge-index l.edges);
}
