use Rattle.std.proofs.Common.{◌≡◌, ℕ, length, ap, sym, ◌∙◌, arith}
use Rattle.pt_history.specs.Indices.{RoomyItems}
use Rattle.pt_history.specs.Numbers.{numbers_with}
use Rattle.pt_history.proofs.ValuesAt.{length-values}
use Rattle.pt_history.proofs.list_starts.ListStarts.limit.Goals as goal

pub returns : goal.returns
returns c =
    let many : length c.args.self.now.items ≡ length c.self.inside.indices.indices = ap (λ (v : RoomyItems ℕ). length v.items) (sym c.self.view_is) ∙ length-values (numbers_with c.self.inside.in_order c.self.inside.stored.items) c.self.inside.indices.indices c.self.invariant.below in
    let spare : c.args.self.now.spare ≡ c.self.inside.indices.spare = ap (λ (v : RoomyItems ℕ). v.spare) (sym c.self.view_is) in
    omega (arith, many, spare, c.limit.ensures)
