use Rattle.std.proofs.Common.{arith, refl}
use Rattle.std.proofs.lemmas.Option.{slice_get_within}
use Rattle.pt_audit.specs.Parsing.Hints.{IsLoggableOn}
use Rattle.pt_tables.proofs.Members.{each_of}
use Rattle.pt_audit.proofs.matching.are_on_links.Goals as goal

pub returns : goal.returns
returns c = (λ e. each_of (IsLoggableOn c.args.graph.now) c.args.messages.now (λ k x at. let lt = slice_get_within c.args.messages.now k x at in c.loop-message.invariant k x (omega (arith, lt, c.loop-message-test.false)) at), λ e. refl)
