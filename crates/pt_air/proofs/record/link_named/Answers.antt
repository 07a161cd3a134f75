use Rattle.std.proofs.Common.{ap, ◌∙◌}
use Rattle.std.specs.Prelude.{is_some}
use Rattle.pt_air.proofs.Senders.{is_some-link_named}
use Rattle.pt_air.proofs.record.link_named.Goals as goal

pub returns-clause-sender : goal.returns-clause-sender
returns-clause-sender c = λ lawful. ap is_some c.link_index.ensures ∙ is_some-link_named c.args.graph.now c.args.name.now lawful
