use Rattle.std.proofs.Common.{◌≡◌, List, ◌++◌, ◌+◌, ◌-◌, ◌<◌, length, length-append, set, ap, ap₂, sym, subst, ◌∙◌, eqb-true, arith}
use Rattle.pt_history.specs.Lists.{RoomyLists, pieces, Rises, on_last}
use Rattle.pt_history.proofs.Cutting.{pieces_extend, rises_extend, length-pieces}
use Rattle.pt_history.proofs.LastMember.{on_last-nothing}
use Rattle.pt_history.proofs.pieces.Pieces.extend_all.Goals as goal

pub invariant_of-self : goal.invariant_of-self
invariant_of-self g c =
    let all : length c.extend_from_slice.new.self.items ≡ length c.self.inside.items.items + length c.args.more.now = ap length c.in-Ok.ensures.items ∙ length-append c.self.inside.items.items c.args.more.now in
    let n : c.self.inside.ends.total + length c.args.more.now ≡ length c.self.inside.items.items + length c.args.more.now = ap (λ a. a + length c.args.more.now) c.self.invariant.2 in
    let some : 0 < length c.self.inside.ends.ends = subst (λ k. 0 < k) (ap (λ (v : RoomyLists g.row.T.Denot). length v.lists) (sym c.self.view_is) ∙ length-pieces 0 c.self.inside.ends.ends c.self.inside.items.items) c.requires.begun in
    let k : (length c.self.inside.ends.ends - 1) + 1 ≡ length c.self.inside.ends.ends = omega (arith, some) in (
      subst (λ es. Rises 0 es (length c.extend_from_slice.new.self.items)) (sym c.grow.ensures.ends)
          (subst (Rises 0 (set c.self.inside.ends.ends (length c.self.inside.ends.ends - 1) (c.self.inside.ends.total + length c.args.more.now))) (sym all)
          (subst (λ m. Rises 0 (set c.self.inside.ends.ends (length c.self.inside.ends.ends - 1) m) (length c.self.inside.items.items + length c.args.more.now)) (sym n) (rises_extend 0 c.self.inside.ends.ends (length c.self.inside.items.items) (length c.args.more.now) (length c.self.inside.ends.ends - 1) k c.self.invariant.0))),
      omega (arith, c.in-Ok.ensures.len, c.extend_from_slice.ensures.capacity, c.self.invariant.1, c.requires.spare),
      c.grow.ensures.total ∙ n ∙ sym all,
      omega (arith, all, ap (λ (v : RoomyLists g.row.T.Denot). v.spare_items) c.self.view_is, c.self.invariant.3, c.requires.spare),
    )

pub returns-clause-lists : goal.returns-clause-lists
returns-clause-lists g c =
    let n : c.self.inside.ends.total + length c.args.more.now ≡ length c.self.inside.items.items + length c.args.more.now = ap (λ a. a + length c.args.more.now) c.self.invariant.2 in
    let some : 0 < length c.self.inside.ends.ends = subst (λ k. 0 < k) (ap (λ (v : RoomyLists g.row.T.Denot). length v.lists) (sym c.self.view_is) ∙ length-pieces 0 c.self.inside.ends.ends c.self.inside.items.items) c.requires.begun in
    let k : (length c.self.inside.ends.ends - 1) + 1 ≡ length c.self.inside.ends.ends = omega (arith, some) in
    ap₂ (λ es xs. pieces 0 es xs) (c.grow.ensures.ends ∙ ap (set c.self.inside.ends.ends (length c.self.inside.ends.ends - 1)) n) c.in-Ok.ensures.items
    ∙ pieces_extend 0 c.self.inside.ends.ends c.self.inside.items.items c.args.more.now (length c.self.inside.ends.ends - 1) k c.self.invariant.0
    ∙ ap (λ (v : RoomyLists g.row.T.Denot). on_last (λ (l : List g.row.T.Denot). l ++ c.args.more.now) v.lists) c.self.view_is

pub returns-then-is_empty-clause-lists : goal.returns-then-is_empty-clause-lists
returns-then-is_empty-clause-lists g c = sym (on_last-nothing c.args.more.now c.args.self.now.lists (eqb-true (length c.args.more.now) 0 (sym c.is_empty.ensures ∙ c.if-is_empty.true)))
