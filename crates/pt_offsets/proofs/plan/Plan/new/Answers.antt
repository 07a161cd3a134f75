use Rattle.pt_semantics.proofs.Acyclic.{levels_forbid_cycles}
use Rattle.pt_causality.specs.Ranked.{level_of}
use Rattle.pt_offsets.proofs.plan.Plan.new.Goals as goal

pub invariant_of-result : goal.invariant_of-result
invariant_of-result c = (
  record {
    lawful = c.requires.lawful;
    no_free_cycle = levels_forbid_cycles c.args.graph (level_of c.args.ranks) c.requires.levels;
    feasible = c.requires.feasible;
    least = c.requires.least;
    small = c.requires.small;
    ranks = c.requires.ranks;
    levels = c.requires.levels;
    offsets = record { units = c.requires.offsets; actors = c.requires.actors; words = c.requires.words; bounds = c.requires.bounds; margins = c.requires.margins };
  },
  c.requires.branches,
)
