use Rattle.std.proofs.Common.{◌≡◌, ◌<◌, length, get_or, ap, sym, ◌∙◌, arith}
use Rattle.std.specs.Prelude.{slice_get}
use Rattle.pt_history.specs.Indices.{RoomyItems}
use Rattle.pt_history.proofs.ValuesAt.{below_get, length-values, read_at, values_get}
use Rattle.pt_history.proofs.repeats.Repeats.get.Goals as goal

pub get-requires : goal.get-requires
get-requires g c =
    let many : length c.args.self.now.items ≡ length c.self.inside.indices.indices = ap (λ (v : RoomyItems g.row.T.Denot). length v.items) (sym c.self.view_is) ∙ length-values c.self.inside.values.items c.self.inside.indices.indices c.self.invariant.0 in
    omega (arith, many, c.requires)

pub index-requires : goal.index-requires
index-requires g c =
    let is = c.self.inside.indices.indices in
    let many : length c.args.self.now.items ≡ length is = ap (λ (v : RoomyItems g.row.T.Denot). length v.items) (sym c.self.view_is) ∙ length-values c.self.inside.values.items is c.self.invariant.0 in
    let low : get_or is c.args.number 0 < length c.self.inside.values.items = below_get (length c.self.inside.values.items) c.args.number is c.self.invariant.0 (omega (arith, many, c.requires)) in
    omega (arith, low, c.get.ensures, c.self.inside.values.ok.0)

pub returns : goal.returns
returns g c =
    let values = c.self.inside.values.items in
    let is = c.self.inside.indices.indices in
    let many : length c.args.self.now.items ≡ length is = ap (λ (v : RoomyItems g.row.T.Denot). length v.items) (sym c.self.view_is) ∙ length-values values is c.self.invariant.0 in
    let low : get_or is c.args.number 0 < length values = below_get (length values) c.args.number is c.self.invariant.0 (omega (arith, many, c.requires)) in
    ap (λ (v : RoomyItems g.row.T.Denot). slice_get v.items c.args.number) (sym c.self.view_is)
    ∙ values_get values is c.args.number c.self.invariant.0 (omega (arith, many, c.requires))
    ∙ ap (slice_get values) (sym c.get.ensures)
    ∙ read_at values c.get.result c.index.result.now (omega (arith, low, c.get.ensures)) c.index.ensures
