use Rattle.pt_meaning.proofs.Standings.{standings_rise}
use Rattle.pt_meaning.proofs.order.firing_order.Goals as goal

pub returns : goal.returns
returns c = standings_rise c.sort_standings.new.order.items c.in_ok-sort_standings.ensures
