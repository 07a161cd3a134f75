use Rattle.std.proofs.Common.{◌∙◌, Err, ap, map, sym, subst}
use Rattle.pt_formula.specs.Lines.{viewed_line}
use Rattle.pt_formula_file.specs.Adding.{IsAdded, blocks_of, fault_of_file, with_formulas, with_lines}
use Rattle.pt_formula_file.specs.Fitting.{AreFit}
use Rattle.pt_formula_file.proofs.Fitting.{are_fit}
use Rattle.pt_formula_file.proofs.Reading.{line_refused, short, too_long}
use Rattle.pt_formula_file.proofs.adding.add_formulas.Goals as goal

pub returns-then-text-gt-MOST_FORMULA_BYTES : goal.returns-then-text-gt-MOST_FORMULA_BYTES
returns-then-text-gt-MOST_FORMULA_BYTES g c = too_long c.args.blocks.now.listed.items c.args.text.now c.if-text-gt-MOST_FORMULA_BYTES.true

pub add_all-requires : goal.add_all-requires
add_all-requires g c = subst (λ ds. AreFit (map viewed_line ds)) (sym c.as_slice.ensures.value) (are_fit 1 0 c.args.text.now _ c.in-Ok.ensures)

pub returns-in-Ok : goal.returns-in-Ok
returns-in-Ok g c =
    let blocks = c.args.blocks.now.listed.items in
    subst (λ added. IsAdded added c.add_all.new.blocks.listed.items c.add_all.result)
    (ap (λ ds. with_formulas blocks (map viewed_line ds)) c.as_slice.ensures.value ∙ sym (short blocks c.args.text.now c.if-text-gt-MOST_FORMULA_BYTES.false ∙ ap (with_lines blocks) c.in-Ok.ensures))
    c.add_all.ensures

pub returns-in-Err : goal.returns-in-Err
returns-in-Err g c =
    let blocks = c.args.blocks.now.listed.items in
    subst (λ r. IsAdded (blocks_of blocks c.args.text.now) blocks (Err r)) (sym c.fault_of_file.ensures)
    (subst (λ added. IsAdded added blocks (Err (fault_of_file c.in-Err.fault))) (sym (short blocks c.args.text.now c.if-text-gt-MOST_FORMULA_BYTES.false)) (line_refused blocks blocks _ c.in-Err.fault c.in-Err.ensures))
