use Rattle.std.proofs.Common.{sym, ◌∙◌, arith}
use Rattle.pt_queue.proofs.Summing.{none_at_all, not_there, pair_last}
use Rattle.pt_queue.proofs.marks.end_word.Goals as goal

pub returns-in_default : goal.returns-in_default
returns-in_default c = λ n one. absurd (none_at_all c.args.words.now c.args.summary n c.requires c.in_default.ensures one)

pub returns-then-word_at-eq0 : goal.returns-then-word_at-eq0
returns-then-word_at-eq0 c = λ n one.
    let le = pair_last c.args.words.now c.args.summary c.in-Some.pair n c.requires c.in-Some.ensures one in
    let away = not_there c.args.words.now n _ (sym c.word_at.ensures ∙ c.if-word_at-eq0.true) one in
    omega (arith, le, away)

pub returns : goal.returns
returns c = λ n one. let le = pair_last c.args.words.now c.args.summary c.in-Some.pair n c.requires c.in-Some.ensures one in omega (arith, le)
