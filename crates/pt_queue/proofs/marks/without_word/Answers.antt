use Rattle.std.proofs.Common.{sym, ◌∙◌, arith}
use Rattle.pt_queue.proofs.Summing.{summed_without}
use Rattle.pt_queue.proofs.marks.without_word.Goals as goal

pub returns : goal.returns
returns c = summed_without c.args.words.now c.args.summary c.args.index c.requires.index (omega (arith, c.ranges.summary.fits)) c.requires.summed c.requires.empty (sym c.word_at.ensures ∙ omega (arith, c.if-word_at-ne0.false))
