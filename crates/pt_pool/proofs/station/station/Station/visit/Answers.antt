use Rattle.std.specs.Arc.{arc_value}
use Rattle.pt_pool.proofs.Stations.Stations.{station_still}
use Rattle.pt_pool.proofs.station.station.Station.visit.Goals as goal

pub invariant_of-self : goal.invariant_of-self
invariant_of-self g c =
    let s = c.self.inside in
    let v = c.visit_over.new in
    station_still g.J.Run.plan g.B.Boards.table (arc_value s.board) c.args.most s.linked v.linked s.keeper v.keeper s.results.items v.results.items c.args.tasks.now.tasks v.tasks.tasks c.self.invariant c.visit_over.result c.visit_over.ensures.answer
