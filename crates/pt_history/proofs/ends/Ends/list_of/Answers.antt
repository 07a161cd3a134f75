use Rattle.std.proofs.Common.{◌≡◌, ◌⊎◌, ◌+◌, ◌<◌, ◌≤◌, ◌∷◌, length, get_or, ap, sym, subst, ◌∙◌, arith, inl, inr, ℕ, List, suc}
use Rattle.std.proofs.lemmas.Bool.{cases_lt}
use Rattle.pt_history.specs.Lists.{RoomyEnds, starts_of}
use Rattle.pt_history.proofs.Starts.{end_last, length-ends}
use Rattle.pt_history.proofs.ends.Ends.list_of.Goals as goal

before_end : (ends : List ℕ) (item low high : ℕ) → high ≡ low + 1 → high ≤ length ends → (high < length ends → item < get_or (0 ∷ ends) high 0) → (length ends ≡ high → item < get_or ends low 0) → item < get_or ends low 0
before_end ends item low high next few before last = by (cases_lt high (length ends))
  where
    by : (high < length ends) ⊎ (length ends ≤ high) → item < get_or ends low 0
    by (inl lt) = let is : high ≡ suc low = omega (arith, next) in subst (λ k. item < get_or (0 ∷ ends) k 0) is (before lt)
    by (inr past) = last (omega (arith, few, past))

pub loop-high-init : goal.loop-high-init
loop-high-init c = record {
  less = c.list_behind-high.ensures.less;
  few = c.list_behind-high.ensures.few;
  starts = c.list_before-low.ensures.starts;
  ends_before = c.list_behind-high.ensures.behind;
}

pub returns-clause-ends : goal.returns-clause-ends
returns-clause-ends c =
    let total = c.self.inside.total in
    let starts = starts_of c.self.inside.starts.items c.self.inside.pending total in
    let many : length c.args.self.now.ends ≡ length starts = ap (λ (v : RoomyEnds). length v.ends) (sym c.self.view_is) ∙ length-ends starts total in
    let all : c.args.self.now.total ≡ total = ap (λ (v : RoomyEnds). v.total) (sym c.self.view_is) in
    let next : c.loop-high.high ≡ c.loop-high.low + 1 = omega (arith, c.loop-high.invariant.less, c.loop-high-test.false) in
    before_end c.args.self.now.ends c.args.item c.loop-high.low c.loop-high.high next c.loop-high.invariant.few c.loop-high.invariant.ends_before
    (λ last.
    let end : get_or c.args.self.now.ends c.loop-high.low 0 ≡ total = ap (λ (v : RoomyEnds). get_or v.ends c.loop-high.low 0) (sym c.self.view_is) ∙ end_last starts total c.loop-high.low (omega (arith, last, next, many)) in
    omega (arith, end, all, c.requires))
