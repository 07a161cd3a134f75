use Rattle.std.proofs.Common.{◌≡◌, ◌+◌, ◌<◌, ◌/◌, ◌++◌, ℕ, length, ap, sym, subst, ◌∙◌, arith}
use Rattle.pt_monitors.specs.Misses.{AppendsUpTo}
use Rattle.pt_monitors.proofs.Sent.{skips_level, with_sent}
use Rattle.pt_monitors.proofs.turns.missed_in_block.Goals as goal

pub loop-number-init : goal.loop-number-init
loop-number-init c =
    let next = c.next_unknown-number.ensures in
    record {
      more = next.rises;
      within = next.within;
      appended = λ start was.
          was
          ∙ ap (λ l. start ++ l)
          (sym (skips_level c.args.graph.now c.args.history.now.turns c.levels-levels.result (c.args.from / 64) c.args.from c.next_unknown-number.result c.requires.in_time c.levels-levels.ensures next.rises
          (omega (arith, next.within, c.requires.end)) (omega arith) (omega (arith, next.within, c.requires.block)) next.level));
    }

pub loop-number-preserved : goal.loop-number-preserved
loop-number-preserved c =
    let turns = c.args.history.now.turns in
    let number = c.loop-number.number in
    let next = c.next_unknown-number-in-loop-number.ensures in
    let before : number < length turns = omega (arith, c.loop-number-test.true, c.requires.end) in
    record {
      more = omega (arith, c.loop-number.invariant.more, next.rises);
      within = next.within;
      appended = λ start was.
          with_sent c.args.graph.now turns number start c.loop-number.misses.items c.missed_after.new.misses.items c.requires.in_time before (c.loop-number.invariant.appended start was) c.in_ok-missed_after.ensures
          ∙ ap (λ l. start ++ l)
          (sym (skips_level c.args.graph.now turns c.levels-levels.result (c.args.from / 64) (number + 1) c.next_unknown-number-in-loop-number.result c.requires.in_time c.levels-levels.ensures next.rises
          (omega (arith, next.within, c.requires.end)) (omega (arith, c.loop-number.invariant.more)) (omega (arith, next.within, c.requires.block)) next.level));
    }

pub returns : goal.returns
returns c =
    let all : c.loop-number.number ≡ c.args.end = omega (arith, c.loop-number-test.false, c.loop-number.invariant.within) in
    subst (λ (n : ℕ). AppendsUpTo c.args.graph.now c.args.history.now.turns c.args.from n c.args.misses.now.items c.loop-number.misses.items) all c.loop-number.invariant.appended
