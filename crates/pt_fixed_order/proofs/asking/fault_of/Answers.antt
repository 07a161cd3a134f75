use Rattle.std.proofs.Common.{◌∙◌, Some, ap, sym}
use Rattle.std.proofs.lemmas.Option.{slice_get-get_or}
use Rattle.pt_fixed_order.proofs.asking.fault_of.Goals as goal

pub returns-in-Some : goal.returns-in-Some
returns-in-Some c = (
  c.index-platforms-place.result,
  slice_get-get_or c.args.platforms.now c.args.place c.index-platforms-place.result c.requires.within ∙ ap Some (sym c.index-platforms-place.is),
  c.number.ensures,
  sym c.in-Some.ensures.fault,
  c.in-Some.ensures.shows,
)

pub returns-in-None : goal.returns-in-None
returns-in-None c = (
  c.index-platforms-place.result,
  slice_get-get_or c.args.platforms.now c.args.place c.index-platforms-place.result c.requires.within ∙ ap Some (sym c.index-platforms-place.is),
  sym c.in-None.ensures.fault,
)
