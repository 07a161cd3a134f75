use Rattle.std.proofs.Common.{◌<◌, ◌≤◌, length, subst, arith}
use Rattle.std.proofs.lemmas.List.{take_all}
use Rattle.pt_confluence.specs.Gathered.{AreLegal}
use Rattle.pt_confluence.proofs.All.{legal_more}
use Rattle.pt_run.proofs.engines.are_legal.Goals as goal

pub loop-platform-preserved : goal.loop-platform-preserved
loop-platform-preserved c =
    let within : c.loop-platform.platform-index < length c.args.platforms.now = omega arith in
    legal_more c.args.platforms.now c.loop-platform.platform-index c.platform-item.result within c.platform-item.is c.loop-platform.invariant c.history.ensures.legal

pub returns : goal.returns
returns c =
    let past : length c.args.platforms.now ≤ c.loop-platform.platform-index = omega arith in
    subst AreLegal (take_all c.loop-platform.platform-index c.args.platforms.now past) c.loop-platform.invariant
