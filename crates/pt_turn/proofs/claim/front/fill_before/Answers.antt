use Rattle.pt_turn.proofs.Claims.Fronts.{front_cut}
use Rattle.pt_turn.proofs.claim.front.fill_before.Goals as goal

pub returns-clause-front : goal.returns-clause-front
returns-clause-front c = λ some. front_cut c.args.cut c.args.plan.now.graph c.args.fields.now c.args.reading c.fill.new.units.items c.requires.sound c.fill.ensures
