use Rattle.std.proofs.Common.{◌≡◌, ◌<◌, ◌+◌, arith, length, ap, ◌∙◌, length-append, ◌∷◌, [], subst}
use Rattle.pt_causality.proofs.Numbering.{few_until, first_last, step_few, groups_held, spaced_more, ends_more, numbered}
use Rattle.pt_causality.specs.Cells.{first_in}
use Rattle.pt_causality.proofs.units.Numbers.new.Goals as goal

pub overflow_add-count : goal.overflow_add-count
overflow_add-count c =
    let less : c.loop-actor.actor < length c.args.graph.now.actors = subst (λ z. c.loop-actor.actor < length z) c.as_slice-actor-end.ensures c.loop-actor-test.true in
    let own = groups_held c.args.graph.now c.loop-actor.actor c.loop-actor.count c.groups-count.result c.requires less c.loop-actor.invariant.few c.groups-count.ensures in
    let few = step_few c.args.graph.now c.loop-actor.actor c.loop-actor.count c.requires less c.loop-actor.invariant.few in
    omega (arith, own, few.0, few.1)

pub loop-actor-init : goal.loop-actor-init
loop-actor-init c = record {
  len = ap length c.new-firsts.ensures.items;
  spaced = λ i j less none. absurd (omega arith);
  ends = λ i none. absurd (omega arith);
  few = omega arith;
}

pub loop-actor-preserved : goal.loop-actor-preserved
loop-actor-preserved c =
    let g = c.args.graph.now in
    let less : c.loop-actor.actor < length c.args.graph.now.actors = subst (λ z. c.loop-actor.actor < length z) c.as_slice-actor-end.ensures c.loop-actor-test.true in
    let own = groups_held g c.loop-actor.actor c.loop-actor.count c.groups-count.result c.requires less c.loop-actor.invariant.few c.groups-count.ensures in
    let few = step_few g c.loop-actor.actor c.loop-actor.count c.requires less c.loop-actor.invariant.few in
    let pushed = c.in_ok-push.ensures.items in
    record {
      len = ap length pushed ∙ length-append c.loop-actor.firsts.items (c.loop-actor.count ∷ []) ∙ ap (λ n. n + 1) c.loop-actor.invariant.len;
      spaced = spaced_more c.loop-actor.firsts.items c.push.new.self.items c.loop-actor.actor c.loop-actor.count c.loop-actor.invariant.len pushed g c.loop-actor.invariant.ends c.loop-actor.invariant.spaced;
      ends = ends_more c.loop-actor.firsts.items c.push.new.self.items c.loop-actor.actor c.loop-actor.count c.loop-actor.invariant.len pushed g c.loop-actor.invariant.ends (c.loop-actor.count + c.groups-count.result) (ap (λ n. c.loop-actor.count + n) own);
      few = omega (arith, own, few.0);
    }

-- the number that comes last is the count
pub returns-clause-numbered : goal.returns-clause-numbered
returns-clause-numbered c =
    let g = c.args.graph.now in
    let h = c.loop-actor.invariant in
    let firsts = c.loop-actor.firsts.items in
    let count = c.loop-actor.count in
    let pushed = c.in_ok-push-2.ensures.items in
    let end : length g.actors ≡ c.loop-actor.actor = (let same : length c.as_slice-actor-end.result.now ≡ length g.actors = ap length c.as_slice-actor-end.ensures in let over = c.loop-actor-test.false in let most = c.loop-actor.auto.actor-end in omega (arith, same, over, most)) in
    let actors = c.requires.few_actors in
    let cells = few_until g c.loop-actor.actor c.requires in
    let few = h.few in
    numbered g (record { firsts = c.push-2.new.self; count = count })
    (λ i j less within. spaced_more firsts c.push-2.new.self.items c.loop-actor.actor count h.len pushed g h.ends h.spaced i j less (subst (λ n. j < n + 1) end within))
    (ap (first_in c.push-2.new.self.items) end ∙ first_last firsts c.push-2.new.self.items c.loop-actor.actor count h.len pushed)
    (omega (arith, end, actors, cells, few))

pub returns-clause-few : goal.returns-clause-few
returns-clause-few c =
    let actors = c.requires.few_actors in
    let same : length c.as_slice-actor-end.result.now ≡ length c.args.graph.now.actors = ap length c.as_slice-actor-end.ensures in
    let most = c.loop-actor.auto.actor-end in
    let len = ap length c.in_ok-push-2.ensures.items ∙ length-append c.loop-actor.firsts.items (c.loop-actor.count ∷ []) ∙ ap (λ n. n + 1) c.loop-actor.invariant.len in
    omega (arith, same, actors, most, len)
