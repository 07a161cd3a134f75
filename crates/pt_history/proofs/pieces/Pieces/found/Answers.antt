use Rattle.std.proofs.Common.{◌≡◌, ◌-◌, ◌<◌, Some, List, ℕ, length, take, drop, ap, ap₂, sym, ◌∙◌, arith}
use Rattle.std.specs.Prelude.{slice_get}
use Rattle.pt_history.specs.Lists.{RoomyLists}
use Rattle.pt_history.proofs.Cutting.{length-pieces, pieces_get, piece_within, IsWithin}
use Rattle.pt_history.proofs.pieces.Pieces.found.Goals as goal

pub start-requires : goal.start-requires
start-requires g c =
    let lists : length c.args.self.now.lists ≡ length c.self.inside.ends.ends = ap (λ (v : RoomyLists g.row.T.Denot). length v.lists) (sym c.self.view_is) ∙ length-pieces 0 c.self.inside.ends.ends c.self.inside.items.items in
    omega (arith, lists)

pub end-requires : goal.end-requires
end-requires g c =
    let lists : length c.args.self.now.lists ≡ length c.self.inside.ends.ends = ap (λ (v : RoomyLists g.row.T.Denot). length v.lists) (sym c.self.view_is) ∙ length-pieces 0 c.self.inside.ends.ends c.self.inside.items.items in
    omega (arith, lists)

pub part-requires : goal.part-requires
part-requires g c =
    let lists : length c.args.self.now.lists ≡ length c.self.inside.ends.ends = ap (λ (v : RoomyLists g.row.T.Denot). length v.lists) (sym c.self.view_is) ∙ length-pieces 0 c.self.inside.ends.ends c.self.inside.items.items in
    let inside : c.args.number < length c.self.inside.ends.ends = omega (arith, lists) in
    let w : IsWithin 0 c.self.inside.ends.ends c.args.number (length c.self.inside.items.items) = piece_within 0 c.self.inside.ends.ends c.args.number (length c.self.inside.items.items) inside c.self.invariant.0 in
    record {
      rises = omega (arith, c.start.ensures, c.end.ensures, w.rises);
      within = omega (arith, c.end.ensures, w.within, ap length c.as_slice.ensures.value);
    }

pub returns : goal.returns
returns g c =
    let lists : length c.args.self.now.lists ≡ length c.self.inside.ends.ends = ap (λ (v : RoomyLists g.row.T.Denot). length v.lists) (sym c.self.view_is) ∙ length-pieces 0 c.self.inside.ends.ends c.self.inside.items.items in
    let inside : c.args.number < length c.self.inside.ends.ends = omega (arith, lists) in
    let cut : List g.row.T.Denot → ℕ → ℕ → List g.row.T.Denot = λ xs a b. take (b - a) (drop a xs) in
    ap (λ (v : RoomyLists g.row.T.Denot). slice_get v.lists c.args.number) (sym c.self.view_is)
    ∙ pieces_get 0 c.self.inside.ends.ends c.self.inside.items.items c.args.number inside c.self.invariant.0
    ∙ ap Some (ap₂ (λ a b. cut c.self.inside.items.items a b) (sym c.start.ensures) (sym c.end.ensures) ∙ ap (λ xs. cut xs c.start.result c.end.result) (sym c.as_slice.ensures.value) ∙ sym c.part.ensures)
