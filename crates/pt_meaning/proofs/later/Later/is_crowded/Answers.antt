use Rattle.std.proofs.Common.{◌/◌, ap, subst, IsTrue, nat_lt}
use Rattle.pt_meaning.proofs.CrowdPlaces.{map_crowded}
use Rattle.pt_meaning.proofs.later.Later.is_crowded.Goals as goal

pub returns : goal.returns
returns c = λ h. map_crowded c.args.self.now.events.entries c.args.firings c.len.ensures.ordered (subst (λ n. IsTrue (nat_lt c.args.firings (n / 8))) c.len.ensures.len h)
