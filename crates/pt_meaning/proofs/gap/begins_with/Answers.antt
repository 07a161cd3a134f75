use Rattle.std.proofs.Common.{◌≡◌, ◌∙◌, ◌<◌, length, refl, arith, rules}
use Rattle.pt_meaning.proofs.Lines.{begins_at, begins_none}
use Rattle.pt_meaning.proofs.gap.begins_with.Goals as goal

pub returns-in-Some : goal.returns-in-Some
returns-in-Some c =
    let some : 0 < length c.args.events.now.items = omega (arith, c.in-Some.ensures.variant.0 refl, c.args.events.now.ok.0) in
    c.is_of.ensures ∙ begins_at c.args.tag c.args.actor c.args.events.now.items c.in-Some.sent.now some c.in-Some.ensures.lookup

pub returns-in-None : goal.returns-in-None
returns-in-None c =
    let none : length c.args.events.now.items ≡ 0 = search rules in
    begins_none c.args.tag c.args.actor c.args.events.now.items none
