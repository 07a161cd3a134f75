use Rattle.std.proofs.Common.{◌≡◌, ◌-◌, ◌<◌, length, get_or, refl, subst, rules, arith, IsSome}
use Rattle.pt_meaning.specs.declared.place.EventPlace.{EventPlace}
use Rattle.pt_meaning.specs.Line.{in_line}
use Rattle.pt_meaning.specs.Waiting.{place_cmp}
use Rattle.pt_meaning.proofs.Lines.{place_total, last_there}
use Rattle.pt_meaning.proofs.gap.ends_at.Goals as goal

pub returns-in-Some : goal.returns-in-Some
returns-in-Some c = λ at.
    let es = c.args.events.now.items in
    let some : 0 < length c.args.events.now.items = omega (arith, c.in-Some.ensures.variant.0 refl, c.args.events.now.ok.0) in
    let last : c.in-Some.last.now ≡ get_or c.args.events.now.items (length c.args.events.now.items - 1) c.in-Some.last.now =
    subst (λ n. c.in-Some.last.now ≡ get_or c.args.events.now.items (n - 1) c.in-Some.last.now) c.args.events.now.ok.0 c.in-Some.ensures.lookup in
    let same : c.in-Some.last.now.place ≡ c.args.place = search (rules, at) in
    subst (λ (p : EventPlace). IsSome (in_line place_cmp es p)) same (last_there place_cmp place_total es c.in-Some.last.now (length es - 1) (omega (arith, some)) last)
