use Rattle.std.proofs.Common.{◌≡◌, ◌++◌, ◌<◌, ◌≤◌, [], map, length, take, ap, ap₂, subst, ◌∙◌, arith, string_bytes}
use Rattle.std.specs.List.{flat_map}
use Rattle.std.proofs.lemmas.List.{take_all}
use Rattle.std.proofs.lemmas.Result.{IfOk-weaker}
use Rattle.pt_types.specs.declared.graph.Graph.{Graph}
use Rattle.pt_semantics.specs.Turn.{Turn}
use Rattle.pt_tables.specs.Gathered.{texts_from}
use Rattle.pt_confluence.specs.Gathered.{AreLegal, by_task, claimed_tasks}
use Rattle.pt_confluence.proofs.All.{legal_more}
use Rattle.pt_confluence.proofs.Lines.{more_of}
use Rattle.pt_confluence.proofs.Tables.{tables_are}
use Rattle.pt_confluence.proofs.actuators.tables_of.Goals as goal

pub loop-platform-preserved : goal.loop-platform-preserved
loop-platform-preserved c =
    let within : c.loop-platform.platform-index < length c.args.platforms.now = omega arith in
    record {
      texts =
          c.in_ok-push_history.ensures (map by_task (flat_map claimed_tasks (take c.loop-platform.platform-index c.args.platforms.now))) c.loop-platform.invariant.texts
          ∙ ap (λ ts. texts_from 0 c.as_slice-actors.result.now (map by_task (flat_map claimed_tasks (take c.loop-platform.platform-index c.args.platforms.now)) ++ map by_task (flat_map (λ (turn : Turn). turn.claimed) ts))) c.history.ensures.turns
          ∙ ap (texts_from 0 c.as_slice-actors.result.now) (more_of claimed_tasks [] c.args.platforms.now c.loop-platform.platform-index c.platform-item.result within c.platform-item.is);
      legal = legal_more c.args.platforms.now c.loop-platform.platform-index c.platform-item.result within c.platform-item.is c.loop-platform.invariant.legal c.history.ensures.legal;
    }

pub returns : goal.returns
returns c =
    let past : length c.args.platforms.now ≤ c.loop-platform.platform-index = omega arith in
    let all : take c.loop-platform.platform-index c.args.platforms.now ≡ c.args.platforms.now = take_all c.loop-platform.platform-index c.args.platforms.now past in
    let actors : c.as_slice-actors.result.now ≡ c.args.plan.now.graph.actors = c.as_slice-actors.ensures ∙ ap (λ (g : Graph). g.actors) c.graph.ensures.value in
    let texts : c.loop-platform.tables ≡ texts_from 0 c.args.plan.now.graph.actors (map by_task (flat_map claimed_tasks c.args.platforms.now)) =
    c.loop-platform.invariant.texts ∙ ap₂ (λ ys vs. texts_from 0 ys (map by_task (flat_map claimed_tasks vs))) actors all in
    let legal : AreLegal c.args.platforms.now = subst AreLegal all c.loop-platform.invariant.legal in
    IfOk-weaker c.text.result _ _ (λ text written rows run.
    tables_are c.args.plan.now rows c.args.platforms.now (string_bytes text) c.graph.ensures.admitted run legal
    (λ xs same. written c.args.plan.now.graph xs (texts ∙ same))) c.text.ensures
