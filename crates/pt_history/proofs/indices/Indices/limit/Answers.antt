use Rattle.std.proofs.Common.{◌≡◌, ◌-◌, ◌++◌, ◌∷◌, [], length, ap, sym, ◌∙◌, arith}
use Rattle.pt_history.specs.Indices.{RoomyIndices}
use Rattle.pt_history.proofs.Blocks.{length-indices}
use Rattle.pt_history.proofs.indices.Indices.limit.Goals as goal

pub returns : goal.returns
returns c =
    let inside = c.self.inside in
    let many : length c.args.self.now.indices ≡ inside.count = ap (λ (v : RoomyIndices). length v.indices) (sym c.self.view_is) ∙ length-indices (inside.blocks.items ++ inside.newest ∷ []) 0 inside.count in
    let spare : c.args.self.now.spare ≡ inside.limit - inside.count = ap (λ (v : RoomyIndices). v.spare) (sym c.self.view_is) in
    omega (arith, many, spare, c.self.invariant.count)
