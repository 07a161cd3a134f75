use Rattle.pt_meaning.proofs.CrowdPlaces.{line_crowded}
use Rattle.pt_meaning.proofs.gap_buffer.GapBuffer.is_crowded.Goals as goal

pub returns : goal.returns
returns c = λ h. line_crowded c.args.self.now c.args.firings c.len.result c.len.ensures.rising c.len.ensures.len h
