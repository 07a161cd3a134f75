use Rattle.std.proofs.Common.{◌≤◌, ◌++◌, length, filter_map, slice_get, ap, ◌∙◌, arith}
use Rattle.std.proofs.lemmas.List.{take_all}
use Rattle.pt_types.specs.declared.firing.Done.{Done}
use Rattle.pt_history.specs.Tasks.{mark_of}
use Rattle.pt_history.specs.Turns.{posted_in}
use Rattle.pt_monitors.specs.Misses.{miss_of_result}
use Rattle.pt_monitors.proofs.Members.{filter_map_next, mapped}
use Rattle.pt_monitors.proofs.turns.missed_results.Goals as goal

pub done_mark-mark-requires : goal.done_mark-mark-requires
done_mark-mark-requires c = omega (arith, c.loop-number-test.true, c.requires.posted)

pub loop-number-preserved : goal.loop-number-preserved
loop-number-preserved c = λ reading last.
    let dones = posted_in c.args.history.now.turns c.args.turn in
    let (done, at, is) = mapped (λ (done : Done). mark_of done.task) (slice_get dones c.loop-number.number) c.done_mark-mark.result c.done_mark-mark.ensures in
    filter_map_next (miss_of_result c.args.graph.now reading) dones c.loop-number.number done c.args.misses.now.items c.loop-number.misses.items c.push.new.misses.items c.miss_of_result.result
    at (c.loop-number.invariant reading last) (c.miss_of_result.ensures done reading is last) c.in_ok-push.ensures

pub returns : goal.returns
returns c = λ reading last.
    let dones = posted_in c.args.history.now.turns c.args.turn in
    let past : length dones ≤ c.loop-number.number = omega (arith, c.loop-number-test.false, c.requires.posted) in
    c.loop-number.invariant reading last ∙ ap (λ ds. c.args.misses.now.items ++ filter_map (miss_of_result c.args.graph.now reading) ds) (take_all c.loop-number.number dones past)
