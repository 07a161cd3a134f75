use Rattle.std.proofs.Common.{◌≡◌, ◌≤◌, ◌<◌, ◌∙◌, ap, sym, arith, drop, get_or, length, [], ◌∷◌}
use Rattle.std.proofs.lemmas.List.{drop_all}
use Rattle.pt_types.specs.declared.graph.Edge.{Edge}
use Rattle.pt_semantics.specs.Meaning.{added, going, leaves_actor}
use Rattle.pt_meaning.specs.Waiting.{waits_in, rank_in}
use Rattle.pt_meaning.specs.Emission.{IsUsable, LeavesActor}
use Rattle.pt_meaning.specs.Held.{late_value}
use Rattle.pt_meaning.proofs.Emitting.{goes_from, goes_no_more, each_at}
use Rattle.pt_meaning.proofs.emission.emit.Goals as goal

abbrev no_edge : Edge
no_edge = record { from = 0; output = 0; to = 0; input = 0; weight = record { time = 0; step = 0 } }

pub loop-edge-preserved : goal.loop-edge-preserved
loop-edge-preserved c =
    let i = c.loop-edge.edge-index in
    let edge : Edge = get_or c.args.edges.now i no_edge in
    let within : c.loop-edge.edge-index < length c.args.edges.now = c.loop-edge-test.true in
    record {
      waits = λ g actor until leaves.
          let leave : edge.from ≡ actor = each_at (LeavesActor actor) c.args.edges.now i no_edge leaves within in
          goes_from g (leaves_actor actor) c.args.tag c.args.outputs.now (waits_in (rank_in c.args.ranks.now) (late_value c.loop-edge.late)) (waits_in (rank_in c.args.ranks.now) (late_value c.emit_along.new.late))
          c.args.edges.now i no_edge within
          (c.in_ok-emit_along.ensures.waits g until ∙ ap (λ a. added (waits_in (rank_in c.args.ranks.now) (late_value c.loop-edge.late)) (going g (edge ∷ []) (leaves_actor a) c.args.tag c.args.outputs.now)) leave)
          ∙ c.loop-edge.invariant.waits g actor until leaves;
      sound = λ actors steps usable later was. c.in_ok-emit_along.ensures.sound actors steps (each_at (IsUsable actors) c.args.edges.now i no_edge usable within) later (c.loop-edge.invariant.sound actors steps usable later was);
    }

pub returns-clause-waits : goal.returns-clause-waits
returns-clause-waits c = λ g actor until leaves.
    let none : drop c.loop-edge.edge-index c.args.edges.now ≡ [] = let past : length c.args.edges.now ≤ c.loop-edge.edge-index = omega (arith, c.loop-edge-test.false) in drop_all _ _ past in
    sym (goes_no_more g (leaves_actor actor) c.args.tag c.args.outputs.now (waits_in (rank_in c.args.ranks.now) (late_value c.loop-edge.late)))
    ∙ ap (λ es. added (waits_in (rank_in c.args.ranks.now) (late_value c.loop-edge.late)) (going g es (leaves_actor actor) c.args.tag c.args.outputs.now)) (sym none)
    ∙ c.loop-edge.invariant.waits g actor until leaves
