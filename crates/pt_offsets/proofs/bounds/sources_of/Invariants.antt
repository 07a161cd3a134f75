use Rattle.pt_offsets.specs.Sources.{AreSourcesUpTo}
use Rattle.pt_offsets.proofs.bounds.sources_of.Given as goal

abbrev pub invariant-loop-number : goal.invariant-loop-number
invariant-loop-number l = AreSourcesUpTo l.number l.bounds l.sources.items
