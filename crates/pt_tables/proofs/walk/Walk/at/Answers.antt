use Rattle.std.proofs.Common.{◌/◌, arith}
use Rattle.pt_tables.proofs.Parts.{claimed_more, posted_more}
use Rattle.pt_tables.proofs.walk.Walk.at.Goals as goal

pub overflow_sub-result : goal.overflow_sub-result
overflow_sub-result c = omega (arith, c.posted.ensures, c.results_through.ensures, posted_more c.args.history.now.turns c.args.number c.requires)

pub overflow_sub-result-2 : goal.overflow_sub-result-2
overflow_sub-result-2 c = omega (arith, c.claimed.ensures, c.claims_through.ensures, claimed_more c.args.history.now.turns c.args.number c.requires)

pub returns : goal.returns
returns c = record {
  levels = c.unknown.ensures c.args.history.now.turns (c.args.number / 64);
  results = omega (arith, c.posted.ensures, c.results_through.ensures, posted_more c.args.history.now.turns c.args.number c.requires);
  claims = omega (arith, c.claimed.ensures, c.claims_through.ensures, claimed_more c.args.history.now.turns c.args.number c.requires);
}
