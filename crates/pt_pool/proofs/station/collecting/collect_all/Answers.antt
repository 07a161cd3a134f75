use Rattle.std.proofs.Common.{arith, ◌∙◌}
use Rattle.pt_pool.proofs.Stations.Collects.{collects_next}
use Rattle.pt_pool.proofs.station.collecting.collect_all.Goals as goal

pub loop-k-preserved : goal.loop-k-preserved
loop-k-preserved c =
    let inv = c.loop-k.invariant in
    let h = c.in-Some.ensures.collected in record {
      room = (omega (arith, c.push_reserved.ensures.len, inv.room.0), c.push_reserved.ensures.capacity ∙ inv.room.1);
      table = h.table ∙ inv.table;
      collects = collects_next c.loop-k._k c.args.keeper.now c.loop-k.keeper c.args.results.now.items c.loop-k.results.items inv.collects c.collect.new.keeper c.push_reserved.new.self.items c.in-Some.done h c.push_reserved.ensures.items;
    }
