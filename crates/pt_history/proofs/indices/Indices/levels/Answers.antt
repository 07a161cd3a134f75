use Rattle.std.proofs.Common.{◌≡◌, ◌+◌, ◌*◌, ◌<◌, ◌/◌, ◌%◌, ◌++◌, ◌∷◌, [], List, length, get_or, ap, sym, ◌∙◌, arith}
use Rattle.pt_history.specs.declared.indices.Block.{Block}
use Rattle.pt_history.specs.Indices.{RoomyIndices, no_block}
use Rattle.pt_history.proofs.Blocks.{length-indices, level, level_at}
use Rattle.pt_history.proofs.Level.{bit_after}
use Rattle.pt_history.proofs.indices.Indices.levels.Goals as goal

pub returns-clause-next : goal.returns-clause-next
returns-clause-next c = λ n at is.
    let many : length c.args.self.now.indices ≡ c.self.inside.count = ap (λ (v : RoomyIndices). length v.indices) (sym c.self.view_is) ∙ length-indices (c.self.inside.blocks.items ++ c.self.inside.newest ∷ []) 0 c.self.inside.count in
    let low : n < 64 * c.args.block + 63 = is.within in
    omega (arith, many, at, low, c.if-block-self.false)

pub returns-clause-same : goal.returns-clause-same
returns-clause-same c = λ n at is.
    let blocks = c.self.inside.blocks.items ++ c.self.inside.newest ∷ [] in
    let many : length c.args.self.now.indices ≡ c.self.inside.count = ap (λ (v : RoomyIndices). length v.indices) (sym c.self.view_is) ∙ length-indices blocks 0 c.self.inside.count in
    let low : n < 64 * c.args.block + 63 = is.within in
    let block : c.block_at-full.result ≡ get_or blocks (n / 64) no_block =
    c.block_at-full.ensures ∙ ap (λ (ds : List Block). get_or (ds ++ c.self.inside.newest ∷ []) c.args.block no_block) c.as_slice.ensures.value ∙ ap (λ k. get_or blocks k no_block) (sym at) in
    level_at blocks c.self.inside.count n c.args.self.now.indices c.block_at-full.result (ap (λ (v : RoomyIndices). v.indices) c.self.view_is) (omega (arith, many, at, low, c.if-block-self.false))
    (λ last. absurd (omega (arith, last, at, low))) block (level c.block_at-full.result (n % 64) (bit_after c.block_at-full.result.bits (n % 64) is.bit))
