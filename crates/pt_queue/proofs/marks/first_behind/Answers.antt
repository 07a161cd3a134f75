use Rattle.std.proofs.Common.{◌+◌, ◌*◌, ◌<◌, ◌≤◌, ⊎_elim, refl, arith}
use Rattle.pt_queue.proofs.Summing.{below_or, first_in_word, none_more, none_words}
use Rattle.pt_causality.proofs.Marks.{past_words}
use Rattle.pt_queue.proofs.marks.first_behind.Goals as goal

pub loop-index-init : goal.loop-index-init
loop-index-init c = record {
  from = c.next_word-index.ensures.no_less;
  none = none_words c.args.words.now c.args.summary c.args.start c.next_word-index.result c.requires.summed c.next_word-index.ensures.none;
}

pub loop-index-preserved : goal.loop-index-preserved
loop-index-preserved c =
    let index = c.loop-index.index in
    let next = c.next_word-index-in-loop-index in
    record {
      from = omega (arith, c.loop-index.invariant.from, next.ensures.no_less);
      none = λ n le up. ⊎_elim
          (λ (l : n < 64 * (index + 1)). none_more c.args.words.now c.args.start index _ n refl c.in_default.ensures c.loop-index.invariant.none le l)
          (λ (m : 64 * (index + 1) ≤ n). none_words c.args.words.now c.args.summary (index + 1) next.result c.requires.summed next.ensures.none n m up)
          (below_or n (64 * (index + 1)));
    }

pub returns-in-Some : goal.returns-in-Some
returns-in-Some c = first_in_word c.args.words.now (64 * c.args.start) c.loop-index.index 0 _ c.in-Some.bit refl c.in-Some.ensures (omega (arith, c.loop-index.invariant.from)) (λ n le less. c.loop-index.invariant.none n le (omega (arith, less)))

pub returns : goal.returns
returns c = λ n le. ⊎_elim
    (λ (l : n < 64 * c.loop-index.index). c.loop-index.invariant.none n le l)
    (λ (m : 64 * c.loop-index.index ≤ n). past_words c.args.words.now n (omega (arith, m, c.loop-index-test.false)))
    (below_or n (64 * c.loop-index.index))
