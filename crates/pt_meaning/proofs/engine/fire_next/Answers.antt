use Rattle.std.proofs.Common.{◌≡◌, ◌∙◌, ap, ap₂, sym, subst, length, refl, rules}
use Rattle.pt_types.specs.declared.firing.ActorFiring.{ActorFiring}
use Rattle.pt_semantics.specs.Lists.{Each}
use Rattle.pt_semantics.specs.Edges.{edges}
use Rattle.pt_semantics.specs.Meaning.{Fires, added, going, put_state, waiting, leaves_actor}
use Rattle.pt_meaning.specs.Early.{early_waits, left}
use Rattle.pt_meaning.specs.Waiting.{waits_in, rank_in}
use Rattle.pt_meaning.specs.Running.{world_in, states_from, actor_firing}
use Rattle.pt_meaning.specs.Emission.{IsUsable, AddsOneStep, LeavesActor}
use Rattle.pt_meaning.specs.Both.{all_waits}
use Rattle.pt_meaning.specs.Held.{late_value}
use Rattle.pt_meaning.proofs.Both.{added_late}
use Rattle.pt_meaning.proofs.FiredOn.{fires_by, after_by, each_filter, each_adds, filter_leaves}
use Rattle.pt_meaning.proofs.engine.fire_next.Goals as goal

pub emit-requires-clause-edges : goal.emit-requires-clause-edges
emit-requires-clause-edges c =
    subst (Each AddsOneStep) (sym c.requires.leaving)
    (each_adds (length c.args.graph.now.actors) _ (each_filter (IsUsable (length c.args.graph.now.actors)) (leaves_actor c.args.actor) (edges c.args.graph.now) c.requires.runnable.edges))

pub returns-clause-fires : goal.returns-clause-fires
returns-clause-fires c =
    let g = c.args.graph.now in
    let w = world_in c.args.ranks.now c.args.list.now.waiting c.args.list.now.states.items in
    let is : c.fire.new.firing ≡ actor_firing c.args.graph.now (states_from c.args.list.now.states.items) c.args.actor c.args.tag (waiting (all_waits (rank_in c.args.ranks.now) c.args.list.now.waiting) c.args.actor c.args.tag) =
    c.fire.ensures ∙ ap₂ (λ kept inputs. actor_firing g (states_from kept) c.args.actor c.args.tag inputs) c.as_slice.ensures.value (c.take.ensures.inputs (rank_in c.args.ranks.now) (length c.args.graph.now.actors) c.requires.sound.0 c.requires.sound.1 c.requires.first) in
    subst (Fires g (rank_in c.args.ranks.now) w) (sym is) (fires_by g (rank_in c.args.ranks.now) w c.args.actor c.args.tag c.requires.first c.requires.present)

pub returns-clause-after : goal.returns-clause-after
returns-clause-after c =
    let g = c.args.graph.now in
    let w = world_in c.args.ranks.now c.args.list.now.waiting c.args.list.now.states.items in
    let kept : states_from c.set_state.new.states.items ≡ put_state (states_from c.args.list.now.states.items) c.args.actor c.fire.new.firing.after = search rules in
    let rank = rank_in c.args.ranks.now in
    let sent = ap (added (early_waits (left c.take.new.self.early))) (c.in_ok-emit.ensures.waits g c.args.actor refl (subst (Each (LeavesActor c.args.actor)) (sym c.requires.leaving) (filter_leaves c.args.actor (edges g))))
    ∙ added_late (early_waits (left c.take.new.self.early)) (waits_in rank (late_value c.take.new.self.late)) (going g c.args.leaving.now (leaves_actor c.args.actor) c.args.tag c.fire.new.firing.outputs) in
    after_by g w c.fire.new.firing c.args.actor c.args.tag (all_waits rank c.take.new.self) (added (early_waits (left c.take.new.self.early)) (waits_in rank (late_value c.emit.new.late)))
    (states_from c.set_state.new.states.items) c.args.leaving.now (ap (λ (x : ActorFiring). x.actor) c.fire.ensures) (ap (λ (x : ActorFiring). x.tag) c.fire.ensures)
    (c.take.ensures.waits rank (length g.actors) c.requires.sound.0 c.requires.sound.1 c.requires.first) c.requires.leaving sent kept

pub returns-clause-sound : goal.returns-clause-sound
returns-clause-sound c = λ steps later was.
    let usable = subst (Each (IsUsable (length c.args.graph.now.actors))) (sym c.requires.leaving) (each_filter (IsUsable (length c.args.graph.now.actors)) (leaves_actor c.args.actor) (edges c.args.graph.now) c.requires.runnable.edges) in
    let taken = c.take.ensures.sound (rank_in c.args.ranks.now) (length c.args.graph.now.actors) steps was in
    record { early = taken.early; late = c.in_ok-emit.ensures.sound (length c.args.graph.now.actors) steps usable later taken.late }
