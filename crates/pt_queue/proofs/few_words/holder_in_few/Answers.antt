use Rattle.std.proofs.Common.{◌-◌, ◌*◌, ◌<◌, ◌≤◌, length, ⊎_elim, refl, sym, subst, ◌∙◌, arith}
use Rattle.pt_causality.specs.Delays.{least_of}
use Rattle.pt_queue.specs.Marks.{IsHolderIn}
use Rattle.pt_queue.proofs.Finding.{below_or, no_holder, none_found, past_marks, word_done}
use Rattle.pt_queue.proofs.few_words.holder_in_few.Goals as goal

pub loop-left-init : goal.loop-left-init
loop-left-init c = record {
  few = omega arith;
  done = λ n lo up. absurd (omega (arith, lo, up));
}

pub loop-left-preserved : goal.loop-left-preserved
loop-left-preserved c =
    let left = c.loop-left.left in
    record {
      few = omega (arith, c.loop-left.invariant.few);
      done = λ n lo up.
          word_done c.args.table.now (least_of c.args.least.now) c.args.unit c.args.tag c.args.tags.now c.marks-marks.result.now c.marks-marks.ensures.marks c.args.before.now c.requires
          (left - 1) _ c.word_before.result refl c.word_before.ensures left 0 (length c.marks-marks.result.now) (omega (arith, c.loop-left-test.true)) (omega arith)
          (subst (IsHolderIn c.args.table.now (least_of c.args.least.now) c.args.unit c.args.tag c.args.tags.now (left - 1) _) (none_found c.other_in_word-found.result (sym c.is_some.ensures ∙ c.if-is_some.false)) c.other_in_word-found.ensures)
          (λ k more top. c.loop-left.invariant.done k (omega (arith, more, c.loop-left-test.true)) top) n (omega (arith, lo)) up;
    }

pub returns : goal.returns
returns c = no_holder c.args.table.now (least_of c.args.least.now) c.args.unit c.args.tag c.args.tags.now
    (λ n. ⊎_elim
    (λ (l : n < 64 * length c.marks-marks.result.now). c.loop-left.invariant.done n (omega (arith, c.loop-left-test.false)) l)
    (λ (m : 64 * length c.marks-marks.result.now ≤ n). past_marks c.args.table.now (least_of c.args.least.now) c.args.unit c.args.tag c.args.tags.now c.marks-marks.result.now c.marks-marks.ensures.marks n (omega (arith, m)))
    (below_or n (64 * length c.marks-marks.result.now)))
