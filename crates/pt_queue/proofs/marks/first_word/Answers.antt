use Rattle.std.proofs.Common.{sym, ◌∙◌, arith}
use Rattle.pt_queue.proofs.Summing.{not_there, pair_first}
use Rattle.pt_queue.proofs.marks.first_word.Goals as goal

pub returns-then-word_at-eq0 : goal.returns-then-word_at-eq0
returns-then-word_at-eq0 c = λ n one.
    let le = pair_first c.args.words.now c.args.summary c.in-Some.pair n c.requires c.in-Some.ensures one in
    let away = not_there c.args.words.now n _ (sym c.word_at.ensures ∙ c.if-word_at-eq0.true) one in
    omega (arith, le, away)

pub returns : goal.returns
returns c = λ n one. pair_first c.args.words.now c.args.summary c.in-Some.pair n c.requires c.in-Some.ensures one
