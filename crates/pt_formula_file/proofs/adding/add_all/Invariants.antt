use Rattle.std.proofs.Common.{◌≡◌, drop, map}
use Rattle.pt_formula.specs.Lines.{viewed_line}
use Rattle.pt_formula_file.specs.Adding.{with_formulas}
use Rattle.pt_formula_file.specs.Fitting.{AreFit}
use Rattle.pt_formula_file.proofs.adding.add_all.Given as goal

-- the definitions to come fit, and behind the blocks so far they give what all of them give
abbrev pub invariant-loop-numbered : goal.invariant-loop-numbered
invariant-loop-numbered g l = record {
  fit : AreFit (map viewed_line (drop l.numbered-index l.defined));
  goes_on : with_formulas l.blocks.listed.items (map viewed_line (drop l.numbered-index l.defined)) ≡ with_formulas l.fn.blocks.listed.items (map viewed_line l.defined);
}
