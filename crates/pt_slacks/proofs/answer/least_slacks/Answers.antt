use Rattle.std.proofs.Common.{slice_index, ap, ◌∙◌}
use Rattle.pt_causality.specs.Delays.{least_of}
use Rattle.pt_slacks.specs.Listed.{listed}
use Rattle.pt_slacks.proofs.Concluding.{are_least}
use Rattle.pt_slacks.proofs.Costs.{cheap}
use Rattle.pt_slacks.proofs.answer.least_slacks.Goals as goal

pub all_needs-requires-clause-len : goal.all_needs-requires-clause-len
all_needs-requires-clause-len c = c.requires.row.len

pub all_needs-requires-clause-row : goal.all_needs-requires-clause-row
all_needs-requires-clause-row c = c.requires.row.fits

pub all_needs-requires-clause-cost : goal.all_needs-requires-clause-cost
all_needs-requires-clause-cost c = λ w less. cheap c.args.graph.now c.args.hops.now w c.requires.lawful c.requires.hops less

pub returns : goal.returns
returns c = (
  slice_index c.in_ok-needs.needs.items,
  are_least c.args.graph.now (least_of c.args.least.now) c.args.hops.now c.requires.lawful c.requires.hops c.requires.least c.args.row.now c.in_ok-needs.needs.items c.requires.row c.in_ok-needs.ensures,
  c.in_ok-slacks.ensures ∙ ap (λ xs. listed c.args.graph.now (slice_index xs)) c.as_slice.ensures.value,
)
