use Rattle.pt_causality.proofs.Listing.{found_before}
use Rattle.pt_causality.proofs.least.Least.before.Goals as goal

pub returns-in-Some : goal.returns-in-Some
returns-in-Some c =
    let here = c.in-Some.ensures.lookup in
    found_before c.args.self.now c.args.a c.deref.result.now c.of.result c.in-Some.before.now c.words.result.now c.deref.ensures.value c.of.ensures here.0 here.1 c.words.ensures
