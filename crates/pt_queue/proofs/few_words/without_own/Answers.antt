use Rattle.std.proofs.Common.{◌≡◌, ◌≢◌, ◌+◌, ◌*◌, ◌/◌, ◌%◌, ap, ◌∙◌, arith}
use Rattle.std.specs.Int.{w64}
use Rattle.std.proofs.lemmas.Nat.Bits.{bit_at_clear_other}
use Rattle.pt_queue.specs.Marks.{unit_with}
use Rattle.pt_queue.proofs.ByUnit.{with_place}
use Rattle.pt_queue.proofs.few_words.without_own.Goals as goal

pub returns : goal.returns
returns c = λ i few other one.
    let place = c.place_of-place.result in
    let at : place / 64 ≡ c.args.index = omega (arith, c.if-place-index.false) in
    let ne : i ≢ place % 64 = λ e.
    let is : 64 * c.args.index + i ≡ 8 * c.args.unit.actor + c.args.unit.group = omega (arith, at, e, c.place_of-place.ensures) in
    other (ap unit_with is ∙ with_place c.args.unit (omega (arith, c.if-unit-ge8.false))) in
    bit_at_clear_other w64 c.args.word (place % 64) (omega arith) i few ne ∙ one
