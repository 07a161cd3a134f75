use Rattle.std.proofs.Common.{List, ap, reverse, subst, sym}
use Rattle.pt_types.specs.declared.graph.Edge.{Edge}
use Rattle.pt_causality.specs.Ranking.{IsWalk}
use Rattle.pt_causality.proofs.Steps.{opened_here, opened_root, opened_step}
use Rattle.pt_causality.proofs.ranking.finish.Goals as goal

pub loop-trail-init : goal.loop-trail-init
loop-trail-init c = record {
  walk = subst (λ es. IsWalk c.args.incoming.now c.set_mark.new.places.items c.args.root es) (sym (ap (λ (es : List Edge). reverse es) c.new-trail.ensures.items)) (opened_root c.args.incoming.now c.args.places.now.items c.set_mark.new.places.items c.args.root c.requires.rests c.requires.root c.requires.new c.set_mark.ensures);
  keeps = (opened_step c.args.places.now.items c.set_mark.new.places.items c.args.root c.requires.root c.requires.new c.set_mark.ensures).keeps;
  met = opened_here c.args.places.now.items c.set_mark.new.places.items c.args.root c.requires.root c.set_mark.ensures;
}
