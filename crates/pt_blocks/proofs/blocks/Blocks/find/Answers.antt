-- A number below 64 fits 32 bits.
use Rattle.std.proofs.Common.{◌<◌, [], arith, sym, length}
use Rattle.std.proofs.lemmas.List.Quantifiers.{position-Some}
use Rattle.pt_blocks.specs.Blocks.{named}
use Rattle.pt_types.specs.declared.kind.Law.TheVariants.{Least}
use Rattle.pt_blocks.proofs.blocks.Blocks.find.Goals as goal

pub overflow_cast-result : goal.overflow_cast-result
overflow_cast-result g c =
    let small : c.in-Some.number < length c.args.self.now.listed.items = (position-Some _ _ _ (named [] Least) (sym c.in-Some.ensures.number)).0 in
    omega (arith, small, c.in-Some.ensures.blocks.0)
