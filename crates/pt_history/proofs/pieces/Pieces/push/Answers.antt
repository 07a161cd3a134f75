use Rattle.std.proofs.Common.{◌≡◌, List, ◌++◌, ◌∷◌, [], ◌+◌, ◌-◌, ◌<◌, length, set, ap, ap₂, sym, subst, ◌∙◌, arith}
use Rattle.std.proofs.lemmas.List.{length_push}
use Rattle.pt_history.specs.Lists.{RoomyLists, pieces, Rises, on_last}
use Rattle.pt_history.proofs.Cutting.{pieces_extend, rises_extend, length-pieces}
use Rattle.pt_history.proofs.pieces.Pieces.push.Goals as goal

pub invariant_of-self : goal.invariant_of-self
invariant_of-self g c =
    let all : length c.push_reserved.new.self.items ≡ length c.self.inside.items.items + 1 = ap length c.push_reserved.ensures.items ∙ length_push c.self.inside.items.items c.args.item in
    let n : c.self.inside.ends.total + 1 ≡ length c.self.inside.items.items + 1 = ap (λ a. a + 1) c.self.invariant.2 in
    let some : 0 < length c.self.inside.ends.ends = subst (λ k. 0 < k) (ap (λ (v : RoomyLists g.row.T.Denot). length v.lists) (sym c.self.view_is) ∙ length-pieces 0 c.self.inside.ends.ends c.self.inside.items.items) c.requires.begun in
    let k : (length c.self.inside.ends.ends - 1) + 1 ≡ length c.self.inside.ends.ends = omega (arith, some) in (
      subst (λ es. Rises 0 es (length c.push_reserved.new.self.items)) (sym c.grow.ensures.ends)
          (subst (Rises 0 (set c.self.inside.ends.ends (length c.self.inside.ends.ends - 1) (c.self.inside.ends.total + 1))) (sym all)
          (subst (λ m. Rises 0 (set c.self.inside.ends.ends (length c.self.inside.ends.ends - 1) m) (length c.self.inside.items.items + 1)) (sym n) (rises_extend 0 c.self.inside.ends.ends (length c.self.inside.items.items) 1 (length c.self.inside.ends.ends - 1) k c.self.invariant.0))),
      omega (arith, c.push_reserved.ensures.len, c.push_reserved.ensures.capacity, c.self.invariant.1, c.requires.spare),
      c.grow.ensures.total ∙ n ∙ sym all,
      omega (arith, all, ap (λ (v : RoomyLists g.row.T.Denot). v.spare_items) c.self.view_is, c.self.invariant.3, c.requires.spare),
    )

pub returns-clause-lists : goal.returns-clause-lists
returns-clause-lists g c =
    let n : c.self.inside.ends.total + 1 ≡ length c.self.inside.items.items + 1 = ap (λ a. a + 1) c.self.invariant.2 in
    let some : 0 < length c.self.inside.ends.ends = subst (λ k. 0 < k) (ap (λ (v : RoomyLists g.row.T.Denot). length v.lists) (sym c.self.view_is) ∙ length-pieces 0 c.self.inside.ends.ends c.self.inside.items.items) c.requires.begun in
    let k : (length c.self.inside.ends.ends - 1) + 1 ≡ length c.self.inside.ends.ends = omega (arith, some) in
    ap₂ (λ es xs. pieces 0 es xs) (c.grow.ensures.ends ∙ ap (set c.self.inside.ends.ends (length c.self.inside.ends.ends - 1)) n) c.push_reserved.ensures.items
    ∙ pieces_extend 0 c.self.inside.ends.ends c.self.inside.items.items (c.args.item ∷ []) (length c.self.inside.ends.ends - 1) k c.self.invariant.0
    ∙ ap (λ (v : RoomyLists g.row.T.Denot). on_last (λ (l : List g.row.T.Denot). l ++ c.args.item ∷ []) v.lists) c.self.view_is
