use Rattle.std.proofs.Common.{arith}
use Rattle.pt_pool.proofs.Puts.{puts_nowhere, to_begun, to_next, to_nothing_sent, to_orderly}
use Rattle.pt_pool.proofs.putting.put_all.Goals as goal

pub loop-k-init : goal.loop-k-init
loop-k-init g c = puts_nowhere c.args.platform.now c.args.outlets.now

pub put_link-requires-clause-begun : goal.put_link-requires-clause-begun
put_link-requires-clause-begun g c = to_begun c.loop-k.k c.args.platform.now c.loop-k.platform c.args.outlets.now c.loop-k.outlets c.loop-k.invariant c.requires.begun

pub put_link-requires-clause-nothing_sent : goal.put_link-requires-clause-nothing_sent
put_link-requires-clause-nothing_sent g c = to_nothing_sent c.loop-k.k c.args.platform.now c.loop-k.platform c.args.outlets.now c.loop-k.outlets c.loop-k.invariant c.index-outlets-k.result c.requires.apart (omega arith) c.requires.begun c.requires.nothing_sent

pub put_link-requires-clause-orderly : goal.put_link-requires-clause-orderly
put_link-requires-clause-orderly g c = to_orderly c.loop-k.k c.args.platform.now c.loop-k.platform c.args.outlets.now c.loop-k.outlets c.loop-k.invariant c.index-outlets-k.result c.requires.apart (omega arith) c.requires.orderly

pub loop-k-preserved : goal.loop-k-preserved
loop-k-preserved g c = to_next c.loop-k.k c.args.platform.now c.loop-k.platform c.args.outlets.now c.loop-k.outlets c.loop-k.invariant c.index-outlets-k.result c.requires.apart (omega arith) c.put_link.new.platform c.put_link.new.outlet c.put_link.ensures
