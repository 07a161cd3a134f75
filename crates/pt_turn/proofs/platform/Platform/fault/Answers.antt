use Rattle.std.proofs.Common.{◌≡◌, subst}
use Rattle.pt_semantics.proofs.LawfulEdges.{wired}
use Rattle.pt_semantics.specs.History.{LegalOnTime}
use Rattle.pt_semantics.specs.Platform.{opened}
use Rattle.pt_turn.specs.Laws.{IsRunning}
use Rattle.pt_turn.specs.Running.{last_reading}
use Rattle.pt_turn.specs.Platforms.{PlatformView, level_at, rows_at, state_at, view_of}
use Rattle.pt_turn.proofs.Turns.{ran_in_time, ran_is_legal}
use Rattle.pt_turn.proofs.platform.Platform.fault.Goals as goal

pub returns-clause-runs : goal.returns-clause-runs
returns-clause-runs c =
    let p = c.self.invariant in
    let v = view_of c.self.inside in
    subst IsRunning c.self.view_is (record {
      admitted = p.admitted;
      rows = p.fit;
      legal = ran_is_legal v.plan.graph (level_at v) v.number (rows_at v) v.turns (state_at v) c.self.inside.progress.fault (wired v.plan.graph p.admitted.lawful) p.admitted.levels p.fit p.ran;
    })

pub returns-clause-read : goal.returns-clause-read
returns-clause-read c = subst (λ (v : PlatformView). v.reading ≡ last_reading v.turns) c.self.view_is c.self.invariant.ran.read

pub returns-clause-on_time : goal.returns-clause-on_time
returns-clause-on_time c none =
    let p = c.self.invariant in
    let v = view_of c.self.inside in
    subst (λ (v : PlatformView). LegalOnTime v.plan.graph (level_at v) v.number (opened v.plan.graph v.number (rows_at v)) v.turns (state_at v)) c.self.view_is
    (ran_in_time v.plan.graph (level_at v) v.number (rows_at v) v.turns (state_at v) c.self.inside.progress.fault (wired v.plan.graph p.admitted.lawful) p.admitted.levels p.fit p.ran none)
