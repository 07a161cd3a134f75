use Rattle.std.proofs.Common.{◌≡◌, ◌≤◌, ◌<◌, ◌+◌, ◌-◌, ◌∙◌, ◌++◌, ◌∷◌, [], ap, sym, refl, arith, length}
use Rattle.std.proofs.lemmas.List.{length_push}
use Rattle.std.proofs.lemmas.Grind.{common_steps}
use Rattle.pt_semantics.specs.Meaning.{at_start, rows_until}
use Rattle.pt_meaning.specs.Waiting.{rank_in}
use Rattle.pt_meaning.specs.Both.{all_waits}
use Rattle.pt_sensors.specs.Listed.{rows_for}
use Rattle.pt_meaning.specs.Running.{world_in}
use Rattle.pt_meaning.proofs.FiredOn.{steps_push, steps_end}
use Rattle.pt_meaning.proofs.Both.{are_sound_more}
use Rattle.pt_meaning.proofs.Crowds.{crowd_is_long}
use Rattle.pt_meaning.proofs.Runnable.{present_at}
use Rattle.pt_meaning.proofs.meaning.run.Goals as goal

pub loop-next-init : goal.loop-next-init
loop-next-init g c = record {
  went = record { firings = []; len = refl; steps = sym c.in_ok-list.ensures.world; took = c.requires.nothing };
  states = c.in_ok-list.ensures.states;
  sound = c.in_ok-list.ensures.sound;
  most = omega arith;
}

pub returns-then-count-most-clause-long : goal.returns-then-count-most-clause-long
returns-then-count-most-clause-long g c = λ _.
    let rank = rank_in c.args.ranks.now in
    let n = length c.args.graph.now.actors in
    let went = c.loop-next.invariant.went in
    let there = present_at (λ p. all_waits rank c.loop-next.list.waiting c.in-Some.next.actor p c.in-Some.next.tag) (c.in-Some.ensures.present rank n c.loop-next.count c.loop-next.invariant.sound) in
    record {
      firings = went.firings;
      count = let full : c.loop-next.count ≡ c.args.most = omega (arith, c.loop-next.invariant.most, c.if-count-most.true) in went.len ∙ full;
      world = world_in c.args.ranks.now c.loop-next.list.waiting c.loop-next.list.states.items;
      steps = went.steps;
      more = (c.in-Some.next.actor, there.0, c.in-Some.next.tag, there.1, there.2);
    }

-- more events wait than the firings that are left can take
pub returns-then-is_crowded-clause-long : goal.returns-then-is_crowded-clause-long
returns-then-is_crowded-clause-long g c = λ _.
    let graph = c.args.graph.now in let rank = rank_in c.args.ranks.now in
    let went = c.loop-next.invariant.went in
    let firings_left = c.args.most - c.loop-next.count in
    let sum : length went.firings + firings_left ≡ c.args.most = omega (arith, went.len, c.loop-next.invariant.most) in
    crowd_is_long graph rank (length graph.actors) c.loop-next.count c.args.most (rows_for c.args.sensors.now) went.firings
    (world_in c.args.ranks.now c.loop-next.list.waiting c.loop-next.list.states.items) c.loop-next.list.waiting c.requires.runnable.edges went.steps refl c.loop-next.invariant.sound
    firings_left sum (c.is_crowded.ensures c.if-is_crowded.true)

pub fire_next-requires-clause-first : goal.fire_next-requires-clause-first
fire_next-requires-clause-first g c = c.in-Some.ensures.first (rank_in c.args.ranks.now) (length c.args.graph.now.actors) c.loop-next.count c.loop-next.invariant.sound

pub fire_next-requires-clause-present : goal.fire_next-requires-clause-present
fire_next-requires-clause-present g c = c.in-Some.ensures.present (rank_in c.args.ranks.now) (length c.args.graph.now.actors) c.loop-next.count c.loop-next.invariant.sound

pub loop-next-preserved : goal.loop-next-preserved
loop-next-preserved g c =
    let graph = c.args.graph.now in let rank = rank_in c.args.ranks.now in let n = length c.args.graph.now.actors in
    let start = at_start graph (λ a. rows_until graph.until (rows_for c.args.sensors.now a)) in
    let before = world_in c.args.ranks.now c.loop-next.list.waiting c.loop-next.list.states.items in
    let after = world_in c.args.ranks.now c.fire_next.new.list.waiting c.fire_next.new.list.states.items in
    let went = c.loop-next.invariant.went in
    let below : c.loop-next.count < c.args.most = omega (arith, c.if-count-most.false) in
    let here = c.in-Some.ensures.within rank n c.loop-next.count c.loop-next.invariant.sound in
    let was = are_sound_more rank n c.loop-next.count (c.loop-next.count + 1) c.loop-next.list.waiting (omega arith) c.loop-next.invariant.sound in
    let later : c.in-Some.next.tag.step + 1 ≤ c.loop-next.count + 1 = omega (arith, here.step) in
    record {
      went = record {
        firings = went.firings ++ c.fire_next.new.firing ∷ [];
        len = length_push went.firings c.fire_next.new.firing ∙ ap (λ n. n + 1) went.len;
        steps = steps_push graph rank start went.firings before c.fire_next.new.firing after went.steps c.in_ok-fire_next.ensures.fires c.in_ok-fire_next.ensures.after;
        took = c.in_ok-take.ensures c.args.receiver.now went.firings went.took;
      };
      states = c.in_ok-fire_next.ensures.states;
      sound = c.in_ok-fire_next.ensures.sound (c.loop-next.count + 1) later was;
      most = omega (arith, below);
    }

pub returns-clause-meaning : goal.returns-clause-meaning
returns-clause-meaning g c =
    let graph = c.args.graph.now in let rank = rank_in c.args.ranks.now in
    let went = c.loop-next.invariant.went in
    record {
      firings = went.firings;
      meaning = steps_end graph rank (at_start graph (λ a. rows_until graph.until (rows_for c.args.sensors.now a))) went.firings (world_in c.args.ranks.now c.loop-next.list.waiting c.loop-next.list.states.items) went.steps (c.in_default.ensures.empty rank);
      few = let low : length went.firings ≤ c.args.most = omega (arith, went.len, c.loop-next.invariant.most) in low;
      took = went.took;
    }

pub bounds-outgoing-next : goal.bounds-outgoing-next
bounds-outgoing-next g c =
    let here = c.in-Some.ensures.within (rank_in c.args.ranks.now) (length c.args.graph.now.actors) c.loop-next.count c.loop-next.invariant.sound in
    omega (arith, here.actor, c.requires.len)

pub fire_next-requires-clause-leaving : goal.fire_next-requires-clause-leaving
fire_next-requires-clause-leaving g c =
    let here = c.in-Some.ensures.within (rank_in c.args.ranks.now) (length c.args.graph.now.actors) c.loop-next.count c.loop-next.invariant.sound in
    let is = c.requires.wiring c.in-Some.next.actor here.actor in
    grind (arith, common_steps, is)

pub fire_next-requires-clause-actor : goal.fire_next-requires-clause-actor
fire_next-requires-clause-actor g c =
    let here = c.in-Some.ensures.within (rank_in c.args.ranks.now) (length c.args.graph.now.actors) c.loop-next.count c.loop-next.invariant.sound in
    here.actor

pub fire_next-requires-clause-step : goal.fire_next-requires-clause-step
fire_next-requires-clause-step g c =
    let here = c.in-Some.ensures.within (rank_in c.args.ranks.now) (length c.args.graph.now.actors) c.loop-next.count c.loop-next.invariant.sound in
    omega (arith, here.step, c.if-count-most.false)
