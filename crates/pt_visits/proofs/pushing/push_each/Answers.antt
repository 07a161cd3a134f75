use Rattle.std.proofs.Common.{◌≡◌, ℕ, length, get_or, subst, arith}
use Rattle.std.proofs.lemmas.Option.{slice_get-get_or}
use Rattle.pt_visits.proofs.Pushed.{PushesTo, begun_to, everywhere, next_link, none_on, nowhere_yet}
use Rattle.pt_visits.proofs.pushing.push_each.Goals as goal

pub loop-l-init : goal.loop-l-init
loop-l-init c = nowhere_yet c.args.platform.now c.args.pipes.now

pub push_from-requires-clause-begun : goal.push_from-requires-clause-begun
push_from-requires-clause-begun c = begun_to c.loop-l.l c.args.platform.now c.loop-l.platform c.args.pipes.now c.loop-l.pipes c.loop-l.invariant c.requires.begun

pub push_from-requires-clause-nothing_sent : goal.push_from-requires-clause-nothing_sent
push_from-requires-clause-nothing_sent c = none_on c.loop-l.l c.args.platform.now c.loop-l.platform c.args.pipes.now c.loop-l.pipes c.loop-l.invariant c.requires.begun c.requires.nothing_sent

pub loop-l-preserved : goal.loop-l-preserved
loop-l-preserved c =
    next_link c.loop-l.l c.args.platform.now c.loop-l.platform c.push_from.new.platform c.args.pipes.now c.loop-l.pipes (get_or c.loop-l.pipes c.loop-l.l c.index-pipes-l.result) c.push_from.new.pipe c.loop-l.invariant
    (slice_get-get_or c.loop-l.pipes c.loop-l.l c.index-pipes-l.result (omega arith))
    c.push_from.ensures

pub returns : goal.returns
returns c =
    let all : c.loop-l.l ≡ length c.args.pipes.now = omega arith in
    everywhere c.args.platform.now c.loop-l.platform c.args.pipes.now c.loop-l.pipes (subst (λ (n : ℕ). PushesTo n c.args.platform.now c.loop-l.platform c.args.pipes.now c.loop-l.pipes) all c.loop-l.invariant)
