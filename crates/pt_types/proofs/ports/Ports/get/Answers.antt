use Rattle.std.proofs.Common.{rules, sym, ap, ◌∙◌, Some, arith, pos, slice_index_or}
use Rattle.pt_types.specs.Ports.{at_port, when}
use Rattle.pt_types.proofs.Eight.{at_together, past_together}
use Rattle.pt_types.proofs.ports.Ports.get.Goals.{else-port-lt8-via-then-port-lt8+else-self-port, else-port-lt8-via-else-port-lt8}
use Rattle.pt_types.proofs.ports.Ports.get.Goals as goal

pub returns-then-self-port : goal.returns-then-self-port
returns-then-self-port c = rw (sym c.self.view_is, at_together c.self.inside.there c.self.inside.values c.args.port c.self.invariant, c.if-self-port.true) (search rules)

pub returns-else-port-lt8 : goal.returns-else-port-lt8
returns-else-port-lt8 c =
    let here = ap (λ xs. at_port xs c.args.port) c.self.view_is in
    elim c.else-port-lt8.branch [
      | else-port-lt8-via-then-port-lt8+else-self-port w ↦ sym (at_together c.self.inside.there c.self.inside.values c.args.port c.self.invariant ∙ ap (λ b. when b (Some (slice_index_or c.self.inside.values c.args.port (pos 0)))) w.if-self-port.false) ∙ here
      | else-port-lt8-via-else-port-lt8 w ↦ sym (past_together c.self.inside.there c.self.inside.values c.args.port c.self.invariant (omega (arith, c.self.told.0, w.if-port-lt8.false))) ∙ here
    ]
