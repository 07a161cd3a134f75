use Rattle.std.proofs.Common.{subst}
use Rattle.pt_semantics.proofs.LawfulEdges.{wired}
use Rattle.pt_semantics.specs.History.{IsLegal}
use Rattle.pt_turn.specs.Platforms.{PlatformView, level_at, rows_at, state_at, view_of}
use Rattle.pt_turn.proofs.Turns.{ran_is_legal}
use Rattle.pt_turn.proofs.platform.Platform.history.Goals as goal

pub returns-clause-legal : goal.returns-clause-legal
returns-clause-legal c =
    let p = c.self.invariant in
    subst (λ (v : PlatformView). IsLegal v.plan.graph (level_at v) v.number (rows_at v) v.turns (state_at v)) c.self.view_is
    (ran_is_legal (view_of c.self.inside).plan.graph (level_at (view_of c.self.inside)) c.self.inside.number (rows_at (view_of c.self.inside)) c.self.inside.progress.history.turns (state_at (view_of c.self.inside)) c.self.inside.progress.fault (wired (view_of c.self.inside).plan.graph p.admitted.lawful) p.admitted.levels p.fit p.ran)
