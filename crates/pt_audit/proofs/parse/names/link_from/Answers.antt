use Rattle.std.proofs.Common.{ap, sym, ◌∙◌, Some, arith, below_more}
use Rattle.pt_audit.proofs.Parsing.Namesakes.{sender_differs, sender_found}
use Rattle.pt_audit.proofs.parse.names.link_from.Goals as goal

pub returns-then-eq : goal.returns-then-eq
returns-then-eq c l known e = ap Some (sender_found c.args.graph.now c.as_slice-link-items.result.now c.loop-number.number l _ c.as_bytes.result.now c.args.name.now c.requires.lawful c.as_slice-link-items.ensures (omega arith) (c.as_bytes.ensures.value ∙ c.actor_name.ensures) (sym c.eq.ensures ∙ c.if-eq.true) known e)

pub loop-number-preserved : goal.loop-number-preserved
loop-number-preserved c = below_more _ _ c.loop-number.invariant (sender_differs c.args.graph.now c.as_slice-link-items.result.now c.loop-number.number _ c.as_bytes.result.now c.args.name.now c.as_slice-link-items.ensures (omega arith) (c.as_bytes.ensures.value ∙ c.actor_name.ensures) (sym c.eq.ensures ∙ c.if-eq.false))
