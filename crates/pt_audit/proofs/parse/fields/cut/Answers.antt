use Rattle.std.proofs.Common.{sym, ◌∙◌, add-one, arith}
use Rattle.std.proofs.lemmas.List.{take_rest}
use Rattle.pt_audit.proofs.Parsing.Cuts.{cut_here, cut_none}
use Rattle.pt_audit.proofs.parse.fields.cut.Goals as goal

pub returns-in-Some-clause-before : goal.returns-in-Some-clause-before
returns-in-Some-clause-before c =
    let first = c.in-Some.ensures in
    sym (cut_here c.args.byte c.args.bytes.now c.in-Some.at first.0.high first.1 (λ j less. first.0.before j (omega arith) less)).0

pub returns-in-Some-clause-after : goal.returns-in-Some-clause-after
returns-in-Some-clause-after c =
    let first = c.in-Some.ensures in
    take_rest c.args.bytes.now _ ∙ rw add-one (sym (cut_here c.args.byte c.args.bytes.now c.in-Some.at first.0.high first.1 (λ j less. first.0.before j (omega arith) less)).1)

pub returns-in-None-clause-before : goal.returns-in-None-clause-before
returns-in-None-clause-before c = sym (cut_none c.args.byte c.args.bytes.now (λ j less. c.in-None.ensures j (omega arith) less)).0

pub returns-in-None-clause-after : goal.returns-in-None-clause-after
returns-in-None-clause-after c = sym (cut_none c.args.byte c.args.bytes.now (λ j less. c.in-None.ensures j (omega arith) less)).1
