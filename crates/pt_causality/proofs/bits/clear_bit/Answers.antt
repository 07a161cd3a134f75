use Rattle.std.proofs.Common.{◌≡◌, ◌*◌, ◌/◌, ◌%◌, ◌^◌, ◌<◌, length, slice_index_or, slice_set, ap, ◌∙◌, arith}
use Rattle.std.specs.Int.{bit_not, w64}
use Rattle.std.specs.Int.RustNames.{bit_and}
use Rattle.pt_causality.specs.Before.{bit_of}
use Rattle.pt_causality.proofs.Marks.{clear_here, clear_other}
use Rattle.pt_causality.proofs.Members.{same_default}
use Rattle.pt_causality.proofs.bits.clear_bit.Goals as goal

pub returns-clause-here : goal.returns-clause-here
returns-clause-here c =
    let words = c.args.words.now.items in
    let n = c.args.place in
    let less : n / 64 < length words = omega (arith, c.requires) in
    let here : c.index_mut.result.now ≡ slice_index_or words (n / 64) 0 = c.index_mut.ensures.value ∙ same_default words (n / 64) c.index_mut.result.now 0 less in
    ap (λ w. bit_of (slice_set words (n / 64) (bit_and w (bit_not w64 (1 * 2 ^ (n % 64) % 2 ^ 64)))) n) here ∙ clear_here words n less

pub returns-clause-others : goal.returns-clause-others
returns-clause-others c = λ m ne.
    let words = c.args.words.now.items in
    let n = c.args.place in
    let less : n / 64 < length words = omega (arith, c.requires) in
    let here : c.index_mut.result.now ≡ slice_index_or words (n / 64) 0 = c.index_mut.ensures.value ∙ same_default words (n / 64) c.index_mut.result.now 0 less in
    ap (λ w. bit_of (slice_set words (n / 64) (bit_and w (bit_not w64 (1 * 2 ^ (n % 64) % 2 ^ 64)))) m) here ∙ clear_other words n m less ne
