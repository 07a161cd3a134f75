use Rattle.pt_slacks.proofs.answer.needed.Goals as goal

pub returns : goal.returns
returns c = record { base = c.base-start.result; sensors = c.base-start.ensures; others = c.raised.ensures }
