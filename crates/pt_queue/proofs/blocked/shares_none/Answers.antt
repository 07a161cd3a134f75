use Rattle.std.proofs.Common.{◌≡◌, ◌/◌, ◌%◌, ◌^◌, slice_index_or, ap, ◌∙◌, eqb-true, arith}
use Rattle.std.specs.Int.{bit_at}
use Rattle.std.specs.Int.RustNames.{bit_and}
use Rattle.std.proofs.lemmas.Nat.{one_shl}
use Rattle.std.proofs.lemmas.Nat.Bits.{bit_at-pow_other, bit_at-zero}
use Rattle.pt_queue.proofs.Words.{shares_none_at}
use Rattle.pt_queue.proofs.blocked.shares_none.Goals as goal

pub returns-then-shared-eq0-clause-none : goal.returns-then-shared-eq0-clause-none
returns-then-shared-eq0-clause-none c = λ yes n le up ne.
    let place = c.place_of-place.result in
    shares_none_at c.args.marks.now c.args.before.now c.args.from (place / 64) c.args.end place
    (λ k i a b. c.shared_bits.ensures k i a b (ap (λ w. bit_at w i) c.if-shared_bits-ne0.false ∙ bit_at-zero i))
    (λ k i a b. c.shared_bits-2.ensures k i a b (ap (λ w. bit_at w i) c.if-shared_bits-ne0-2.false ∙ bit_at-zero i))
    (omega (arith, c.if-end-before.false)) (omega arith)
    (λ i apart. ap (λ w. bit_at w i) c.if-shared-eq0.true ∙ bit_at-zero i)
    n le up (λ e. ne (e ∙ c.place_of-place.ensures))

pub returns-clause-none : goal.returns-clause-none
returns-clause-none c = λ yes n le up ne.
    let place = c.place_of-place.result in
    let shared = bit_and (slice_index_or c.args.marks.now (place / 64) 0) (slice_index_or c.args.before.now (place / 64) 0) in
    let only : shared ≡ 2 ^ (place % 64) = eqb-true shared _ yes ∙ one_shl (place % 64) 64 (omega arith) in
    shares_none_at c.args.marks.now c.args.before.now c.args.from (place / 64) c.args.end place
    (λ k i a b. c.shared_bits.ensures k i a b (ap (λ w. bit_at w i) c.if-shared_bits-ne0.false ∙ bit_at-zero i))
    (λ k i a b. c.shared_bits-2.ensures k i a b (ap (λ w. bit_at w i) c.if-shared_bits-ne0-2.false ∙ bit_at-zero i))
    (omega (arith, c.if-end-before.false)) (omega arith)
    (λ i apart. ap (λ w. bit_at w i) only ∙ bit_at-pow_other (place % 64) i apart)
    n le up (λ e. ne (e ∙ c.place_of-place.ensures))
