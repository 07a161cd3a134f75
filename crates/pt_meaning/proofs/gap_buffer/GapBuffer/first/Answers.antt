use Rattle.pt_meaning.proofs.Lines.{least_in}
use Rattle.pt_meaning.proofs.gap_buffer.GapBuffer.first.Goals as goal

pub returns : goal.returns
returns c = least_in c.args.self.now c.head.result c.head.ensures.first c.head.ensures.rising
