use Rattle.std.proofs.Common.{◌++◌, ◌<◌, ◌≤◌, length, take, ap, subst, ◌∙◌, arith}
use Rattle.std.specs.List.{flat_map}
use Rattle.std.proofs.lemmas.List.{take_all}
use Rattle.pt_semantics.specs.Turn.{Turn}
use Rattle.pt_confluence.specs.Gathered.{AreLegal, claimed_tasks}
use Rattle.pt_confluence.proofs.All.{legal_more}
use Rattle.pt_confluence.proofs.Lines.{more_tasks}
use Rattle.pt_confluence.proofs.gathering.all_tasks.Goals as goal

pub loop-platform-preserved : goal.loop-platform-preserved
loop-platform-preserved c =
    let within : c.loop-platform.platform-index < length c.args.platforms.now = omega arith in
    record {
      tasks =
          c.in_ok-push_history.ensures
          ∙ ap (λ ts. ts ++ flat_map (λ (turn : Turn). turn.claimed) c.history.result.now.turns) c.loop-platform.invariant.tasks
          ∙ ap (λ ts. flat_map claimed_tasks (take c.loop-platform.platform-index c.args.platforms.now) ++ flat_map (λ (turn : Turn). turn.claimed) ts) c.history.ensures.turns
          ∙ more_tasks claimed_tasks c.args.platforms.now c.loop-platform.platform-index c.platform-item.result within c.platform-item.is;
      legal = legal_more c.args.platforms.now c.loop-platform.platform-index c.platform-item.result within c.platform-item.is c.loop-platform.invariant.legal c.history.ensures.legal;
    }

pub returns-clause-legal : goal.returns-clause-legal
returns-clause-legal c =
    let past : length c.args.platforms.now ≤ c.loop-platform.platform-index = omega arith in
    subst AreLegal (take_all c.loop-platform.platform-index c.args.platforms.now past) c.loop-platform.invariant.legal
