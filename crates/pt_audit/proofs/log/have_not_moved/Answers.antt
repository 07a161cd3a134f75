use Rattle.std.proofs.Common.{get_or, subst, arith}
use Rattle.std.proofs.lemmas.Option.{slice_get-get_or, slice_get_within}
use Rattle.pt_confluence.specs.Gathered.{IsItsHistory}
use Rattle.pt_tables.proofs.Members.{one_more}
use Rattle.pt_audit.proofs.log.have_not_moved.Goals as goal

pub loop-i-preserved : goal.loop-i-preserved
loop-i-preserved c =
    one_more IsItsHistory c.args.platforms.now c.loop-i.i (get_or c.args.platforms.now c.loop-i.i c.index-platforms-i.result)
    (slice_get-get_or c.args.platforms.now c.loop-i.i c.index-platforms-i.result c.loop-i-test.true)
    (subst IsItsHistory c.index-platforms-i.is c.history.ensures.legal)
    c.loop-i.invariant

pub returns : goal.returns
returns c = record { legal = λ i v at. let lt = slice_get_within c.args.platforms.now i v at in c.loop-i.invariant i v (omega (arith, lt, c.loop-i-test.false)) at }
