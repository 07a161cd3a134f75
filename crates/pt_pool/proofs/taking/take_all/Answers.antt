use Rattle.std.proofs.Common.{arith, ◌∙◌}
use Rattle.pt_pool.proofs.Takes.{takes_next}
use Rattle.pt_pool.proofs.taking.take_all.Goals as goal

pub loop-k-preserved : goal.loop-k-preserved
loop-k-preserved g c =
    let t = c.take_link.ensures.took in
    record {
      room = (omega arith, c.take_link.ensures.room.1 ∙ c.loop-k.invariant.room.1);
      lanes = takes_next c.loop-k.k c.args.inlets.now c.loop-k.inlets c.loop-k.given.items c.take_link.new.given.items c.index-inlets-k.result c.take_link.new.inlet t.0 (omega arith) c.requires.apart c.loop-k.invariant.lanes t.1 t.2;
    }
