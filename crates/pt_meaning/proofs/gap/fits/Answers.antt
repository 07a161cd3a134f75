use Rattle.pt_meaning.specs.Waiting.{place_cmp}
use Rattle.pt_meaning.proofs.Lines.{place_total, rising_front, rising_back}
use Rattle.pt_meaning.proofs.gap.fits.Goals as goal

pub returns-then-ends_before : goal.returns-then-ends_before
returns-then-ends_before c = λ after rising.
    let xs = c.args.before.now.items in let ys = c.args.after.now.items in
    (c.ends_before.ensures c.if-ends_before.true (rising_front place_cmp place_total xs ys rising), c.begins_after.ensures after (rising_back place_cmp place_total xs ys rising))
