use Rattle.std.proofs.Common.{◌≡◌, ◌∙◌, ◌≤◌, ◌-◌, ◌+◌, List, ℕ, ap, length, take, drop, map, arith}
use Rattle.std.proofs.lemmas.Grind.{common_steps}
use Rattle.pt_formula.specs.Lines.{viewed_line, read_from}
use Rattle.pt_formula.proofs.Filed.{past, refused}
use Rattle.pt_formula.proofs.file.read_file.Goals as goal

-- the line in the code's slice
cut : (text : List ℕ) (at len : ℕ) → take ((at + len) - at) (drop at text) ≡ take len (drop at text)
cut text at len = let e : (at + len) - at ≡ len = omega arith in ap (λ n. take n (drop at text)) e

short : (text : List ℕ) (at len : ℕ) → len ≤ length (take (length text - at) (drop at text)) → len ≤ length text - at
short text at len h = grind (arith, common_steps)

pub loop-at-preserved : goal.loop-at-preserved
loop-at-preserved c =
    let at : ℕ = c.loop-at.at in
    let len : ℕ = c.line_len-len.result in
    record {
      few = omega (arith, c.loop-at.invariant.few);
      near = omega (arith, short c.args.text.now at len c.line_len-len.ensures.within, c.loop-at-test.true);
      goes_on =
          past c.args.text.now at c.loop-at.line len (map viewed_line c.loop-at.defined.items) (map viewed_line c.add_line.new.defined.items) (take ((at + len) - at) (drop at c.args.text.now))
          (omega arith) c.line_len-len.ensures.len (cut c.args.text.now at len) c.in_default.ensures
          ∙ c.loop-at.invariant.goes_on;
    }

pub returns-in-Err : goal.returns-in-Err
returns-in-Err c =
    let at : ℕ = c.loop-at.at in
    let len : ℕ = c.line_len-len.result in
    refused c.args.text.now at c.loop-at.line len (map viewed_line c.loop-at.defined.items) (map viewed_line c.add_line.new.defined.items) (take ((at + len) - at) (drop at c.args.text.now)) (read_from 1 0 c.args.text.now) c.in-Err.fault
    (omega arith) c.line_len-len.ensures.len (cut c.args.text.now at len) c.in-Err.ensures c.loop-at.invariant.goes_on
