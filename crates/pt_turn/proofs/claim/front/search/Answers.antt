use Rattle.pt_turn.proofs.Claims.Fronts.{front_found}
use Rattle.pt_turn.proofs.claim.front.search.Goals as goal

pub returns-clause-front : goal.returns-clause-front
returns-clause-front c = front_found c.args.plan.now.graph c.args.fields.now c.args.reading c.is_full.result c.fill.new.units.items c.requires.sound c.is_full.ensures.fits c.is_full.ensures.value c.fill.ensures
