use Rattle.std.proofs.Common.{◌≡◌, ℕ, ◌+◌, ◌-◌, ◌%◌, ◌^◌, ◌++◌, ◌∷◌, [], length, get_or, replicate, ap, sym, subst, ◌∙◌, arith}
use Rattle.pt_history.specs.declared.indices.Block.{Block}
use Rattle.pt_history.specs.Indices.{RoomyIndices, indices_from}
use Rattle.pt_history.proofs.Blocks.{Raises, last_repeated, last_seen, length-indices, raises}
use Rattle.pt_history.proofs.indices.Indices.push_all.Goals as goal

pub invariant_of-self : goal.invariant_of-self
invariant_of-self c =
    let blocks = c.self.inside.blocks.items in
    let b = c.self.inside.newest in
    let count = c.self.inside.count in
    let x = c.self.inside.last in
    let times = c.args.times in
    let index = c.args.index in
    let es = indices_from (blocks ++ b ∷ []) 0 count in
    let view : es ≡ c.args.self.now.indices = ap (λ (v : RoomyIndices). v.indices) c.self.view_is in
    let seen : x ≡ get_or c.args.self.now.indices (length c.args.self.now.indices - 1) 0 = last_seen (blocks ++ b ∷ []) c.args.self.now.indices x count view c.self.invariant.last in
    let next : x + 1 ≡ index = omega (arith, seen, c.requires.low, c.requires.high, c.if-index-self.true) in
    let adds : Raises blocks b c.raised-self-inside.result count times index =
    subst (λ (d : Block). Raises blocks b d count times index) (sym c.raised-self-inside.ensures) (subst (λ (y : ℕ). Raises blocks b (record b { bits = b.bits + 2 ^ (count % 64) }) count times y) next (raises blocks b x times count c.self.invariant.blocks c.self.invariant.bits c.self.invariant.rises c.requires.some c.if-times-place.true)) in
    let many : length es ≡ count = length-indices (blocks ++ b ∷ []) 0 count in
    let all : count + times ≡ length es + times = omega (arith, many) in
    let spare : c.args.self.now.spare ≡ c.self.inside.limit - count = ap (λ (v : RoomyIndices). v.spare) (sym c.self.view_is) in
    record {
      blocks = adds.full;
      bits = adds.bits;
      rises = adds.rises;
      last = last_repeated es index times (count + times) c.requires.some all ∙ ap (λ l. get_or l (count + times - 1) 0) (sym adds.indices);
      count = omega (arith, spare, c.requires.room, c.self.invariant.count);
      room = c.self.invariant.room;
    }

pub returns-then-index-self-clause-indices : goal.returns-then-index-self-clause-indices
returns-then-index-self-clause-indices c =
    let blocks = c.self.inside.blocks.items in
    let b = c.self.inside.newest in
    let count = c.self.inside.count in
    let x = c.self.inside.last in
    let times = c.args.times in
    let index = c.args.index in
    let es = indices_from (blocks ++ b ∷ []) 0 count in
    let view : es ≡ c.args.self.now.indices = ap (λ (v : RoomyIndices). v.indices) c.self.view_is in
    let seen : x ≡ get_or c.args.self.now.indices (length c.args.self.now.indices - 1) 0 = last_seen (blocks ++ b ∷ []) c.args.self.now.indices x count view c.self.invariant.last in
    let next : x + 1 ≡ index = omega (arith, seen, c.requires.low, c.requires.high, c.if-index-self.true) in
    let adds : Raises blocks b c.raised-self-inside.result count times index =
    subst (λ (d : Block). Raises blocks b d count times index) (sym c.raised-self-inside.ensures) (subst (λ (y : ℕ). Raises blocks b (record b { bits = b.bits + 2 ^ (count % 64) }) count times y) next (raises blocks b x times count c.self.invariant.blocks c.self.invariant.bits c.self.invariant.rises c.requires.some c.if-times-place.true)) in
    adds.indices ∙ ap (λ l. l ++ replicate times index) view
