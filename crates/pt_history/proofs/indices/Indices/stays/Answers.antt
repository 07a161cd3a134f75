use Rattle.std.proofs.Common.{◌≡◌, ◌/◌, ◌++◌, ◌∷◌, [], List, length, get_or, ap, sym, ◌∙◌, arith}
use Rattle.pt_history.specs.declared.indices.Block.{Block}
use Rattle.pt_history.specs.Indices.{RoomyIndices, no_block}
use Rattle.pt_history.proofs.Blocks.{length-indices, level_at}
use Rattle.pt_history.proofs.indices.Indices.stays.Goals as goal

pub block_at-block-requires : goal.block_at-block-requires
block_at-block-requires c =
    let many : length c.args.self.now.indices ≡ c.self.inside.count = ap (λ (v : RoomyIndices). length v.indices) (sym c.self.view_is) ∙ length-indices (c.self.inside.blocks.items ++ c.self.inside.newest ∷ []) 0 c.self.inside.count in
    omega (arith, many, c.requires, c.self.invariant.blocks)

pub returns : goal.returns
returns c = λ yes.
    level_at (c.self.inside.blocks.items ++ c.self.inside.newest ∷ []) c.self.inside.count c.args.number c.args.self.now.indices c.block_at-block.result
    (ap (λ (v : RoomyIndices). v.indices) c.self.view_is) c.requires c.if-number.false
    (c.block_at-block.ensures ∙ ap (λ (ds : List Block). get_or (ds ++ c.self.inside.newest ∷ []) (c.args.number / 64) no_block) c.as_slice.ensures.value)
    (c.stays_in.ensures yes)
