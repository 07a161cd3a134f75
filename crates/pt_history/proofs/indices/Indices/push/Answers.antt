use Rattle.std.proofs.Common.{◌≡◌, ◌+◌, ◌-◌, ◌++◌, ◌∷◌, [], length, get_or, ap, ◌∙◌, arith}
use Rattle.pt_history.specs.Indices.{RoomyIndices, indices_from}
use Rattle.pt_history.proofs.Blocks.{last_seen}
use Rattle.pt_history.proofs.indices.Indices.push.Goals as goal

pub next-requires-clause-fits : goal.next-requires-clause-fits
next-requires-clause-fits c =
    let blocks = c.self.inside.blocks.items in
    let b = c.self.inside.newest in
    let view : indices_from (blocks ++ b ∷ []) 0 c.self.inside.count ≡ c.args.self.now.indices = ap (λ (v : RoomyIndices). v.indices) c.self.view_is in
    let seen : c.self.inside.last ≡ get_or c.args.self.now.indices (length c.args.self.now.indices - 1) 0 = last_seen (blocks ++ b ∷ []) c.args.self.now.indices c.self.inside.last c.self.inside.count view c.self.invariant.last in
    omega (arith, seen, c.requires.low, c.requires.high, c.if-index-self.false, c.ranges.index.fits)

pub returns-then-index-self-clause-indices : goal.returns-then-index-self-clause-indices
returns-then-index-self-clause-indices c =
    let blocks = c.self.inside.blocks.items in
    let b = c.self.inside.newest in
    let view : indices_from (blocks ++ b ∷ []) 0 c.self.inside.count ≡ c.args.self.now.indices = ap (λ (v : RoomyIndices). v.indices) c.self.view_is in
    let seen : c.self.inside.last ≡ get_or c.args.self.now.indices (length c.args.self.now.indices - 1) 0 = last_seen (blocks ++ b ∷ []) c.args.self.now.indices c.self.inside.last c.self.inside.count view c.self.invariant.last in
    let same : get_or c.args.self.now.indices (length c.args.self.now.indices - 1) 0 ≡ c.args.index = omega (arith, seen, c.if-index-self.true) in
    c.again.ensures.indices ∙ ap (λ i. c.args.self.now.indices ++ i ∷ []) same

pub returns-else-index-self-clause-indices : goal.returns-else-index-self-clause-indices
returns-else-index-self-clause-indices c =
    let blocks = c.self.inside.blocks.items in
    let b = c.self.inside.newest in
    let view : indices_from (blocks ++ b ∷ []) 0 c.self.inside.count ≡ c.args.self.now.indices = ap (λ (v : RoomyIndices). v.indices) c.self.view_is in
    let seen : c.self.inside.last ≡ get_or c.args.self.now.indices (length c.args.self.now.indices - 1) 0 = last_seen (blocks ++ b ∷ []) c.args.self.now.indices c.self.inside.last c.self.inside.count view c.self.invariant.last in
    let same : get_or c.args.self.now.indices (length c.args.self.now.indices - 1) 0 + 1 ≡ c.args.index = omega (arith, seen, c.requires.low, c.requires.high, c.if-index-self.false) in
    c.next.ensures.indices ∙ ap (λ i. c.args.self.now.indices ++ i ∷ []) same
