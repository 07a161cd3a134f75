use Rattle.std.proofs.Common.{◌≡◌, Some, length, ap, sym, ◌∙◌, arith}
use Rattle.std.specs.Prelude.{slice_get}
use Rattle.pt_history.specs.declared.head.Head.{Head}
use Rattle.pt_history.specs.Indices.{RoomyItems}
use Rattle.pt_history.proofs.HeadLists.{heads_get, length-heads}
use Rattle.pt_history.proofs.past_heads.PastHeads.get.Goals as goal

pub get-requires : goal.get-requires
get-requires c =
    let many : length c.args.self.now.items ≡ length c.self.inside.lasts.items = ap (λ (v : RoomyItems Head). length v.items) (sym c.self.view_is) ∙ length-heads c.self.inside.lasts.items c.self.inside.runs.lists c.self.invariant.same in
    omega (arith, many, c.requires)

pub get-requires-2 : goal.get-requires-2
get-requires-2 c =
    let many : length c.args.self.now.items ≡ length c.self.inside.lasts.items = ap (λ (v : RoomyItems Head). length v.items) (sym c.self.view_is) ∙ length-heads c.self.inside.lasts.items c.self.inside.runs.lists c.self.invariant.same in
    omega (arith, many, c.requires, c.self.invariant.same)

pub returns : goal.returns
returns c =
    ap (λ (v : RoomyItems Head). slice_get v.items c.args.number) (sym c.self.view_is)
    ∙ heads_get c.self.inside.lasts.items c.self.inside.runs.lists c.args.number c.get.result c.get-2.result.now c.get.ensures c.get-2.ensures
    ∙ ap Some (sym c.head_with.ensures)
