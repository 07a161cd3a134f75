use Rattle.std.proofs.Common.{◌/◌, refl, arith}
use Rattle.pt_queue.proofs.Summing.{first_further, first_in_word, none_past}
use Rattle.pt_queue.proofs.marks.first_from.Goals as goal

pub returns-then-index-words : goal.returns-then-index-words
returns-then-index-words c = none_past c.args.words.now c.args.from (omega (arith, c.if-index-words.true))

pub returns-in-Some : goal.returns-in-Some
returns-in-Some c = first_in_word c.args.words.now c.args.from (c.args.from / 64) _ _ c.in-Some.bit refl c.in-Some.ensures (omega arith) (λ n le less. absurd (omega (arith, le, less)))

pub returns : goal.returns
returns c = first_further c.args.words.now c.args.from _ c.first_behind.result refl c.in_default.ensures c.first_behind.ensures
