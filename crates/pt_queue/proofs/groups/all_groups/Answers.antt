use Rattle.std.proofs.Common.{◌≡◌, ◌<◌, ◌≤◌, ◌++◌, ◌∙◌, List, map, length, ap, sym, subst, arith}
use Rattle.std.proofs.lemmas.List.{drop_all, append-nil}
use Rattle.pt_types.specs.declared.graph.Actor.{Actor}
use Rattle.pt_queue.specs.Groups.{kind_groups}
use Rattle.pt_queue.proofs.Tables.{few_groups, table_is}
use Rattle.pt_queue.proofs.groups.all_groups.Goals as goal

pub groups_of-requires : goal.groups_of-requires
groups_of-requires c =
    let same : c.as_slice-actor-items.result.now ≡ c.args.graph.now.actors = c.as_slice-actor-items.ensures in
    let below : c.loop-actor.actor-index < length c.as_slice-actor-items.result.now = c.loop-actor-test.true in
    record { few = few_groups c.args.graph.now c.as_slice-actor-items.result.now c.loop-actor.actor-index c.actor-item.result c.actor-item.result c.requires.lawful same below c.actor-item.is }

pub returns : goal.returns
returns c =
    let same : c.as_slice-actor-items.result.now ≡ c.args.graph.now.actors = c.as_slice-actor-items.ensures in
    let end : length c.as_slice-actor-items.result.now ≤ c.loop-actor.actor-index = omega (arith, c.loop-actor-test.false) in
    let past : length c.args.graph.now.actors ≤ c.loop-actor.actor-index = subst (λ (xs : List Actor). length xs ≤ c.loop-actor.actor-index) same end in
    table_is c.args.graph.now c.loop-actor.groups.items
    (sym (append-nil c.loop-actor.groups.items)
    ∙ ap (λ (xs : List Actor). c.loop-actor.groups.items ++ map (λ (a : Actor). kind_groups a.kind) xs) (sym (drop_all c.loop-actor.actor-index c.args.graph.now.actors past))
    ∙ c.loop-actor.invariant)
