use Rattle.std.proofs.Common.{◌≡◌, ◌-◌, ◌<◌, length, get_or, true, refl, subst, rules, arith}
use Rattle.std.specs.Ordering.{is_lt}
use Rattle.pt_meaning.specs.Waiting.{place_cmp}
use Rattle.pt_meaning.proofs.Lines.{place_total, all_before, lt_of}
use Rattle.pt_meaning.proofs.gap.ends_before.Goals as goal

pub returns-in-Some : goal.returns-in-Some
returns-in-Some c = λ before rising.
    let some : 0 < length c.args.events.now.items = omega (arith, c.in-Some.ensures.variant.0 refl, c.args.events.now.ok.0) in
    let at : c.in-Some.last.now ≡ get_or c.args.events.now.items (length c.args.events.now.items - 1) c.in-Some.last.now =
    subst (λ n. c.in-Some.last.now ≡ get_or c.args.events.now.items (n - 1) c.in-Some.last.now) c.args.events.now.ok.0 c.in-Some.ensures.lookup in
    let less : is_lt (place_cmp c.in-Some.last.now.place c.args.place) ≡ true = search (rules, before) in
    all_before place_cmp place_total c.args.events.now.items c.args.place c.in-Some.last.now (length c.args.events.now.items - 1) (omega (arith, some)) rising at (lt_of (place_cmp c.in-Some.last.now.place c.args.place) less)
