use Rattle.std.proofs.Common.{rules, ◌≡◌, ◌++◌, refl}
use Rattle.pt_semantics.specs.Lists.{Each}
use Rattle.pt_turn.specs.Platforms.{level_at, messages_of, state_at}
use Rattle.pt_cases.specs.Arrivals.{ComesTo}
use Rattle.pt_cases.proofs.Taken.{may_come}
use Rattle.pt_cases.proofs.platforms.arrivals.may_come.Goals as goal

pub returns : goal.returns
returns c =
    let v = c.args.platform.now in
    let before = messages_of v.turns in
    let stand : Each (ComesTo v.plan.graph v.number) c.args.messages.now = search rules in
    let all : c.as_slice.result.now ≡ before ++ c.args.messages.now = search rules in
    may_come c.are_orderly.result v.plan.graph (level_at v) v.number (state_at v) before c.as_slice.result.now c.args.messages.now (λ l. refl) all stand c.are_orderly.ensures
