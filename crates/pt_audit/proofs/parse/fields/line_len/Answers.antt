use Rattle.std.proofs.Common.{add-one, arith}
use Rattle.pt_audit.proofs.Parsing.Cuts.{line_here, line_whole_at}
use Rattle.pt_audit.proofs.parse.fields.line_len.Goals as goal

pub returns-in-Some : goal.returns-in-Some
returns-in-Some c =
    let first = c.in-Some.ensures in
    record {
      some = omega arith;
      within = omega (arith, first.0.high);
      lines = rw add-one (line_here c.args.bytes.now c.in-Some.at first.0.high first.1 (λ j less. first.0.before j (omega arith) less));
    }

pub returns-in-None : goal.returns-in-None
returns-in-None c = record {
  some = c.requires;
  within = omega arith;
  lines = line_whole_at c.args.bytes.now c.requires (λ j less. c.in-None.ensures j (omega arith) less);
}
