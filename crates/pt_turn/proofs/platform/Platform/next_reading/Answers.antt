use Rattle.std.proofs.Common.{◌≡◌, ℕ, Option, Some, false, subst}
use Rattle.std.specs.Prelude.{MatchOption}
use Rattle.pt_semantics.specs.Paced.{IsNextReading}
use Rattle.pt_turn.specs.declared.platform.Platform.TheInside.{Inside}
use Rattle.pt_turn.specs.Platforms.{PlatformView, platform_graph, state_at, view_of}
use Rattle.pt_turn.proofs.platform.Platform.next_reading.Goals as goal

pub returns-in-Some : goal.returns-in-Some
returns-in-Some c =
    let p : Inside = c.self.inside in
    let known : MatchOption (Some c.in-Some.next) (Unit {0}) (IsNextReading (platform_graph p) p.number (state_at (view_of p))) = subst (λ (o : Option ℕ). MatchOption o (Unit {0}) (IsNextReading (platform_graph p) p.number (state_at (view_of p)))) c.in-Some.is c.self.invariant.next in
    subst (λ (v : PlatformView). (v.closed ≡ false) × IsNextReading v.plan.graph v.number (state_at v) c.in-Some.next) c.self.view_is (c.if-self.false, known)

pub returns-in-None : goal.returns-in-None
returns-in-None c = (subst (λ (v : PlatformView). v.closed ≡ false) c.self.view_is c.if-self.false, c.search_next.ensures)
