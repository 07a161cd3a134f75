use Rattle.std.proofs.Common.{◌≡◌, true, rules}
use Rattle.std.specs.Ordering.{is_lt}
use Rattle.pt_meaning.specs.Waiting.{place_cmp}
use Rattle.pt_meaning.proofs.Lines.{place_total, all_after, lt_of}
use Rattle.pt_meaning.proofs.gap.begins_after.Goals as goal

pub returns-in-Some : goal.returns-in-Some
returns-in-Some c = λ after rising.
    let less : is_lt (place_cmp c.args.place c.in-Some.first.now.place) ≡ true = search (rules, after) in
    all_after place_cmp place_total c.args.events.now.items c.args.place c.in-Some.first.now rising c.in-Some.ensures.lookup (lt_of (place_cmp c.args.place c.in-Some.first.now.place) less)
