-- The state of a platform is one that a legal history leads to.
use Rattle.pt_turn.specs.Laws.{IsRunning}
use Rattle.pt_turn.specs.Platforms.{PlatformView, level_at, rows_at, state_at}
use Rattle.pt_audit.specs.Remaking.Steps.{claims_in}
use Rattle.pt_audit.proofs.Remaking.Tidy.{IsTidy, history_tidy}

pub running_tidy : (v : PlatformView) → IsRunning v → IsTidy v.plan.graph (level_at v) v.number (claims_in v.turns) (state_at v)
running_tidy v running = history_tidy v.plan.graph (level_at v) v.number (rows_at v) v.turns (state_at v) running.legal.leads
