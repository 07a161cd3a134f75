use Rattle.std.proofs.Common.{◌≡◌, IfSome, sym, subst, take}
use Rattle.pt_io.specs.Calls.{reading}
use Rattle.pt_formula_file.proofs.Reading.{fetched}
use Rattle.pt_formula_file.proofs.fetching.add_formulas_of.Goals as goal

pub returns-in-Ok-clause-fetched : goal.returns-in-Ok-clause-fetched
returns-in-Ok-clause-fetched g c =
    let contents = g.S.Source.contents c.args.source.now in
    let file = c.args.file.now in
    fetched contents file c.args.blocks.now.listed.items c.add_formulas.new.blocks.listed.items (reading g.S.Source c.args.source.now c.fetch.new.self) c.as_slice.result.now c.add_formulas.result
    (record { name = c.in-Ok.ensures.names; count = c.in-Ok.ensures.uncounted })
    (subst (λ b. IfSome (contents file) (λ known. b ≡ take 65537 known)) (sym c.as_slice.ensures.value) c.in-Ok.ensures.bytes)
    c.add_formulas.ensures
