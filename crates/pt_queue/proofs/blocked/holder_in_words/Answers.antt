use Rattle.std.proofs.Common.{◌-◌, ◌*◌, ◌/◌, ◌<◌, ◌≤◌, ⊎_elim, refl, sym, subst, ◌∙◌, arith}
use Rattle.pt_causality.specs.Delays.{least_of}
use Rattle.pt_queue.specs.Marks.{IsHolderIn}
use Rattle.pt_queue.proofs.Finding.{below_or, none_found, past_marks, word_clear, word_done}
use Rattle.pt_queue.proofs.blocked.holder_in_words.Goals as goal

pub loop-left-init : goal.loop-left-init
loop-left-init c = record {
  few = c.shared_end-left.ensures.few;
  done = λ n lo le up. ⊎_elim
      (λ (l : n < 64 * c.min-last.result).
      let clear = c.shared_end-left.ensures.none (n / 64) (omega (arith, lo)) (omega (arith, le)) (omega (arith, l)) in
      word_clear c.args.table.now (least_of c.args.least.now) c.args.unit c.args.tag c.args.tags.now c.marks-marks.result.now c.marks-marks.ensures.marks c.args.before.now c.requires n clear.0 clear.1)
      (λ (m : 64 * c.min-last.result ≤ n). past_marks c.args.table.now (least_of c.args.least.now) c.args.unit c.args.tag c.args.tags.now c.marks-marks.result.now c.marks-marks.ensures.marks n (omega (arith, m, up, c.min-last.ensures)))
      (below_or n (64 * c.min-last.result));
}

pub loop-left-preserved : goal.loop-left-preserved
loop-left-preserved c =
    let marks = c.marks-marks.result.now in
    let left = c.loop-left.left in
    let next = c.shared_end-left-in-loop-left in
    record {
      few = omega (arith, next.ensures.few, c.loop-left.invariant.few);
      done = λ n lo le up. ⊎_elim
          (λ (l : n < 64 * (left - 1)).
          let clear = next.ensures.none (n / 64) (omega (arith, lo)) (omega (arith, le)) (omega (arith, l)) in
          word_clear c.args.table.now (least_of c.args.least.now) c.args.unit c.args.tag c.args.tags.now marks c.marks-marks.ensures.marks c.args.before.now c.requires n clear.0 clear.1)
          (λ (m : 64 * (left - 1) ≤ n).
          word_done c.args.table.now (least_of c.args.least.now) c.args.unit c.args.tag c.args.tags.now marks c.marks-marks.ensures.marks c.args.before.now c.requires
          (left - 1) _ c.word_before.result refl c.word_before.ensures left 0 c.args.end (omega (arith, c.loop-left-test.true)) (omega arith)
          (subst (IsHolderIn c.args.table.now (least_of c.args.least.now) c.args.unit c.args.tag c.args.tags.now (left - 1) _) (none_found c.holder_in_word-found.result (sym c.is_some.ensures ∙ c.if-is_some.false)) c.holder_in_word-found.ensures)
          (λ k more top. c.loop-left.invariant.done k (omega (arith, more, c.loop-left-test.true)) (omega (arith, more)) top) n (omega (arith, m)) up)
          (below_or n (64 * (left - 1)));
    }

pub returns : goal.returns
returns c = λ n le up. c.loop-left.invariant.done n le (omega (arith, le, c.loop-left-test.false)) up
