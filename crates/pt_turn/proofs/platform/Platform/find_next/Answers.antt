use Rattle.std.proofs.Common.{ℕ, Option, Some, subst}
use Rattle.std.specs.Prelude.{MatchOption}
use Rattle.pt_semantics.specs.Paced.{IsNextReading}
use Rattle.pt_turn.specs.declared.platform.Platform.TheInside.{Inside}
use Rattle.pt_turn.specs.Platforms.{PlatformView, platform_graph, state_at, view_of}
use Rattle.pt_turn.proofs.platform.Platform.find_next.Goals as goal

pub returns-in-Some-clause-next : goal.returns-in-Some-clause-next
returns-in-Some-clause-next c =
    let p : Inside = c.self.inside in
    let known : MatchOption (Some c.in-Some.next) (Unit {0}) (IsNextReading (platform_graph p) p.number (state_at (view_of p))) = subst (λ (o : Option ℕ). MatchOption o (Unit {0}) (IsNextReading (platform_graph p) p.number (state_at (view_of p)))) c.in-Some.is c.self.invariant.next in
    subst (λ (v : PlatformView). IsNextReading v.plan.graph v.number (state_at v) c.in-Some.next) c.self.view_is known
