use Rattle.std.proofs.Common.{arith}
use Rattle.pt_pool.proofs.Puts.{few_so_far, may_go, puts_none, puts_one, still_begun, when_empty}
use Rattle.pt_pool.proofs.putting.put_link.Goals as goal

pub loop-k-init : goal.loop-k-init
loop-k-init g c = puts_none c.args.link c.args.platform.now c.args.outlet.now

pub returns-in_default : goal.returns-in_default
returns-in_default g c = when_empty c.args.link c.loop-k._k c.args.platform.now c.loop-k.platform c.args.outlet.now c.loop-k.outlet c.loop-k.invariant (omega arith) c.in_default.ensures

pub push-requires : goal.push-requires
push-requires g c = record { orderly = may_go c.args.link c.loop-k._k c.args.platform.now c.loop-k.platform c.args.outlet.now c.loop-k.outlet c.loop-k.invariant c.in-Some.message c.in-Some.ensures c.requires.orderly }

pub went-requires-clause-begun : goal.went-requires-clause-begun
went-requires-clause-begun g c = still_begun c.args.link c.loop-k._k c.args.platform.now c.loop-k.platform c.args.outlet.now c.loop-k.outlet c.loop-k.invariant c.requires.begun

pub went-requires-clause-few : goal.went-requires-clause-few
went-requires-clause-few g c = few_so_far c.args.link c.loop-k._k c.args.platform.now c.loop-k.platform c.args.outlet.now c.loop-k.outlet c.loop-k.invariant c.requires.begun c.requires.nothing_sent (omega arith)

pub loop-k-preserved : goal.loop-k-preserved
loop-k-preserved g c = puts_one c.args.link c.loop-k._k c.args.platform.now c.loop-k.platform c.args.outlet.now c.loop-k.outlet c.loop-k.invariant c.went.new.self c.push.new.self c.in-Some.message c.in-Some.ensures c.in-Ok.ensures.link c.in-Ok.ensures.sent c.went.ensures
