use Rattle.std.proofs.Common.{◌≡◌, ◌%◌, ◌^◌, sym, ◌∙◌, eqb-true, arith}
use Rattle.std.proofs.lemmas.Nat.{one_shl}
use Rattle.pt_queue.proofs.Summing.{only_bit}
use Rattle.pt_queue.proofs.marks.is_only.Goals as goal

pub returns : goal.returns
returns c = λ yes n one.
    let end = eqb-true c.span_of-span.result.end _ yes in
    let is : c.word_at-word.result ≡ 2 ^ (c.args.place % 64) = c.if-word-own.false ∙ one_shl (c.args.place % 64) 64 (omega arith) in
    let within = c.span_of-span.ensures n one in
    only_bit c.args.words.now c.args.place n (sym c.word_at-word.ensures ∙ is) (omega (arith, within.0, within.1, end, c.if-span-index.false)) one
