use Rattle.std.proofs.Common.{◌≡◌, ◌+◌, ◌/◌, ◌%◌, ◌++◌, ◌∷◌, [], List, length, get_or, ap, sym, ◌∙◌, arith}
use Rattle.pt_history.specs.declared.indices.Block.{Block}
use Rattle.pt_history.specs.Indices.{RoomyIndices, index_at, index_in, no_block}
use Rattle.pt_history.proofs.Blocks.{get_from, length-indices}
use Rattle.pt_history.proofs.indices.Indices.get.Goals as goal

pub block_at-block-requires : goal.block_at-block-requires
block_at-block-requires c =
    let many : length c.args.self.now.indices ≡ c.self.inside.count = ap (λ (v : RoomyIndices). length v.indices) (sym c.self.view_is) ∙ length-indices (c.self.inside.blocks.items ++ c.self.inside.newest ∷ []) 0 c.self.inside.count in
    omega (arith, many, c.requires, c.self.invariant.blocks)

pub returns : goal.returns
returns c =
    let bs = c.self.inside.blocks.items ++ c.self.inside.newest ∷ [] in
    let many : length c.args.self.now.indices ≡ c.self.inside.count = ap (λ (v : RoomyIndices). length v.indices) (sym c.self.view_is) ∙ length-indices bs 0 c.self.inside.count in
    let from_zero : c.args.number ≡ 0 + c.args.number = omega arith in
    c.index_in.ensures
    ∙ ap (λ (b : Block). index_in b (c.args.number % 64)) c.block_at-block.ensures
    ∙ ap (λ (ds : List Block). index_in (get_or (ds ++ c.self.inside.newest ∷ []) (c.args.number / 64) no_block) (c.args.number % 64)) c.as_slice.ensures.value
    ∙ ap (index_at bs) from_zero
    ∙ sym (get_from bs 0 c.self.inside.count c.args.number (omega (arith, many, c.requires)))
    ∙ ap (λ (v : RoomyIndices). get_or v.indices c.args.number 0) c.self.view_is
