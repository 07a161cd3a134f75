use Rattle.std.proofs.Common.{◌≡◌, ◌∙◌, ◌+◌, ◌<◌, ◌≤◌, [], ℕ, ⊎_elim, get_or, sym, ap, arith}
use Rattle.std.specs.Prelude.{slice_index_or}
use Rattle.std.proofs.lemmas.Bool.{cases_eq, cases_lt}
use Rattle.std.proofs.lemmas.List.{get_or_default, get_or_past}
use Rattle.pt_engine.proofs.Idle.{no_oldest}
use Rattle.pt_engine.proofs.resting.are_empty.Goals as goal

pub loop-l-init : goal.loop-l-init
loop-l-init c = λ k lt. absurd (never k lt)
  where
    never : (k : ℕ) → k < 0 → ⊥
    never k lt = omega arith

pub loop-l-preserved : goal.loop-l-preserved
loop-l-preserved c = λ k lt.
    let none : get_or c.args.pipes.now c.loop-l.l c.index-pipes-l.result ≡ [] = sym c.index-pipes-l.is ∙ no_oldest c.peek.result c.index-pipes-l.result (sym c.is_some.ensures ∙ c.if-is_some.false) c.peek.ensures in
    let here : slice_index_or c.args.pipes.now c.loop-l.l [] ≡ [] = get_or_default c.args.pipes.now c.loop-l.l [] c.index-pipes-l.result c.loop-l-test.true ∙ none in
    ⊎_elim
    (λ (same : k ≡ c.loop-l.l). ap (λ (n : ℕ). slice_index_or c.args.pipes.now n []) same ∙ here)
    (λ (other : k ≡ c.loop-l.l → ⊥). c.loop-l.invariant k (before k c.loop-l.l other lt))
    (cases_eq k c.loop-l.l)
  where
    before : (k n : ℕ) → (k ≡ n → ⊥) → k < n + 1 → k < n
    before k n other lt = omega (arith, other, lt)

pub returns : goal.returns
returns c = λ e k.
    ⊎_elim
    (λ (lt : k < c.loop-l.l). c.loop-l.invariant k lt)
    (λ (past : c.loop-l.l ≤ k). get_or_past c.args.pipes.now k [] (omega (arith, past, c.loop-l-test.false)))
    (cases_lt k c.loop-l.l)
