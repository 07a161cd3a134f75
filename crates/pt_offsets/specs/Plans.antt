-- Plans: graphs that can run, with what is computed before a run.
use Rattle.std.specs.Prelude.{◌≡◌, ℕ}
use Rattle.pt_types.specs.declared.graph.Graph.{Graph}
use Rattle.pt_types.specs.declared.graph.Unit.{Unit}
use Rattle.pt_types.specs.Lawful.{IsLawful}
use Rattle.pt_semantics.specs.Bounds.{bound_of}
use Rattle.pt_semantics.specs.Cycles.{NoFreeCycle}
use Rattle.pt_semantics.specs.Offsets.{HasOffset, IsFeasible}
use Rattle.pt_semantics.specs.Ranks.{AreLevels, AreRanks}
use Rattle.pt_causality.specs.declared.least.Least.{Least}
use Rattle.pt_causality.specs.Delays.{AreLeast, AreSmall, least_of}
use Rattle.pt_causality.specs.declared.ranks.Ranks.{Ranks}
use Rattle.pt_causality.specs.Ranked.{level_of, rank_of}
use Rattle.pt_offsets.specs.declared.table.Offsets.{Offsets}
use Rattle.pt_offsets.specs.Margins.{HasActorOffset, HasMargin}
use Rattle.pt_offsets.specs.Timings.{actor_offset_of, bound_in, least_offset_in, margin_in, offset_of}
use Rattle.pt_offsets.specs.Words.{IsLeastInWord}

-- the four parts of a plan
pub record Parts : Type 0 where
  pub graph : Graph
  pub least : Least
  pub ranks : Ranks
  pub offsets : Offsets

-- these are the offsets of the graph's units and actors, the least ones by word, its bounds and its margins
pub record AreOffsets (g : Graph) (o : Offsets) : Type 0 where
  pub units : (u : Unit) → HasOffset g u (offset_of o u)
  pub actors : (a : ℕ) → HasActorOffset g a (actor_offset_of o a)
  pub words : (word : ℕ) → IsLeastInWord g word (least_offset_in o word)
  pub bounds : (a : ℕ) → bound_in o a ≡ bound_of g a
  pub margins : (a : ℕ) → HasMargin g a (margin_in o a)

-- the graph is admitted: each cycle takes time, and each sender can send in time; the other parts belong to the graph
pub record IsAdmitted (p : Parts) : Type 0 where
  pub lawful : IsLawful p.graph
  pub no_free_cycle : NoFreeCycle p.graph
  pub feasible : IsFeasible p.graph
  pub least : AreLeast p.graph (least_of p.least)
  pub small : AreSmall (least_of p.least)
  pub ranks : AreRanks p.graph (rank_of p.ranks)
  pub levels : AreLevels p.graph (level_of p.ranks)
  pub offsets : AreOffsets p.graph p.offsets
