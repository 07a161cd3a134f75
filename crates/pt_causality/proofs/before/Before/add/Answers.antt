use Rattle.std.proofs.Common.{◌≡◌, ◌+◌, ◌*◌, ◌/◌, ◌%◌, ◌^◌, slice_index_or, slice_set, sym, subst, ap, ◌∙◌, arith}
use Rattle.std.specs.Int.RustNames.{bit_or}
use Rattle.pt_causality.specs.Before.{MayHave}
use Rattle.pt_causality.proofs.Marks.{added_itself, added_other}
use Rattle.pt_causality.proofs.Members.{same_default}
use Rattle.pt_causality.proofs.before.Before.add.Goals as goal

pub returns-clause-listed : goal.returns-clause-listed
returns-clause-listed c =
    let words = c.self.inside.words.items in
    let n = 8 * c.args.unit.actor + c.args.unit.group in
    let here : c.index_mut.result.now ≡ slice_index_or words (n / 64) 0 = c.index_mut.ensures.value ∙ same_default words (n / 64) c.index_mut.result.now 0 (omega (arith, c.len.ensures, c.if-word-len.false)) in
    added_itself words (slice_set words (n / 64) (bit_or c.index_mut.result.now (1 * 2 ^ (n % 64) % 2 ^ 64))) c.args.unit (ap (λ w. slice_set words (n / 64) (bit_or w (1 * 2 ^ (n % 64) % 2 ^ 64))) here) (omega (arith, c.len.ensures, c.if-word-len.false))

pub returns-clause-others : goal.returns-clause-others
returns-clause-others c = λ x may.
    let words = c.self.inside.words.items in
    let n = 8 * c.args.unit.actor + c.args.unit.group in
    let here : c.index_mut.result.now ≡ slice_index_or words (n / 64) 0 = c.index_mut.ensures.value ∙ same_default words (n / 64) c.index_mut.result.now 0 (omega (arith, c.len.ensures, c.if-word-len.false)) in
    added_other words (slice_set words (n / 64) (bit_or c.index_mut.result.now (1 * 2 ^ (n % 64) % 2 ^ 64))) c.args.unit (ap (λ w. slice_set words (n / 64) (bit_or w (1 * 2 ^ (n % 64) % 2 ^ 64))) here) (omega (arith, c.len.ensures, c.if-word-len.false)) x
    (subst (λ ws. MayHave ws x) (sym c.self.view_is) may)
