use Rattle.std.proofs.Common.{◌≡◌, ◌+◌, ◌-◌, ◌%◌, ◌^◌, ◌<◌, ◌++◌, ◌∷◌, [], count_ones, length, get_or, refl, ap, ap₂, sym, subst, ◌∙◌, arith}
use Rattle.std.proofs.lemmas.List.{length_push}
use Rattle.std.proofs.lemmas.Nat.{pow_pos}
use Rattle.pt_history.specs.declared.indices.Block.{Block}
use Rattle.pt_history.specs.Indices.{RoomyIndices, indices_from}
use Rattle.pt_history.proofs.Blocks.{Adds, adds_next, closes, last_at, last_seen, no_ones}
use Rattle.pt_history.proofs.indices.Indices.next.Goals as goal

pub overflow_add-self : goal.overflow_add-self
overflow_add-self c =
    let blocks = c.self.inside.blocks.items in
    let b = c.self.inside.newest in
    let view : indices_from (blocks ++ b ∷ []) 0 c.self.inside.count ≡ c.args.self.now.indices = ap (λ (v : RoomyIndices). v.indices) c.self.view_is in
    let seen : c.self.inside.last ≡ get_or c.args.self.now.indices (length c.args.self.now.indices - 1) 0 = last_seen (blocks ++ b ∷ []) c.args.self.now.indices c.self.inside.last c.self.inside.count view c.self.invariant.last in
    omega (arith, seen, c.requires.fits)

pub invariant_of-self : goal.invariant_of-self
invariant_of-self c =
    let blocks = c.self.inside.blocks.items in
    let b = c.self.inside.newest in
    let count = c.self.inside.count in
    let x = c.self.inside.last in
    let next = c.close_block.new.newest in
    let new = c.raised-self-inside.result in
    let adds : Adds blocks b new count (x + 1) = subst (λ (d : Block). Adds blocks b d count (x + 1)) (sym c.raised-self-inside.ensures) (adds_next blocks b count x c.self.invariant.blocks c.self.invariant.bits c.self.invariant.rises) in
    let many : length c.close_block.new.blocks.items ≡ length blocks + 1 = ap length c.close_block.ensures.blocks ∙ length_push blocks new in
    let spare : c.args.self.now.spare ≡ c.self.inside.limit - count = ap (λ (v : RoomyIndices). v.spare) (sym c.self.view_is) in
    record {
      blocks = omega (arith, many, c.self.invariant.blocks, c.if-self-eq0.true);
      bits = subst (λ (d : Block). d.bits < 2 ^ ((count + 1) % 64)) (sym c.close_block.ensures.next) (pow_pos ((count + 1) % 64));
      rises = subst (λ (d : Block). x + 1 ≡ d.base + count_ones d.bits) (sym c.close_block.ensures.next) (omega (arith, no_ones));
      last = last_at (blocks ++ b ∷ []) (indices_from (c.close_block.new.blocks.items ++ next ∷ []) 0 (count + 1)) (indices_from (blocks ++ b ∷ []) 0 count) (x + 1) count refl (closes blocks c.close_block.new.blocks.items b new next count (x + 1) adds c.if-self-eq0.true c.close_block.ensures.blocks);
      count = omega (arith, spare, c.requires.room);
      room = omega (arith, c.self.invariant.room, c.close_block.ensures.room);
    }

pub invariant_of-self-else-self-eq0 : goal.invariant_of-self-else-self-eq0
invariant_of-self-else-self-eq0 c =
    let blocks = c.self.inside.blocks.items in
    let b = c.self.inside.newest in
    let count = c.self.inside.count in
    let x = c.self.inside.last in
    let new = c.raised-self-inside.result in
    let adds : Adds blocks b new count (x + 1) = subst (λ (d : Block). Adds blocks b d count (x + 1)) (sym c.raised-self-inside.ensures) (adds_next blocks b count x c.self.invariant.blocks c.self.invariant.bits c.self.invariant.rises) in
    let spare : c.args.self.now.spare ≡ c.self.inside.limit - count = ap (λ (v : RoomyIndices). v.spare) (sym c.self.view_is) in
    let place : count % 64 + 1 ≡ (count + 1) % 64 = omega (arith, c.if-self-eq0.false) in
    record {
      blocks = omega (arith, c.self.invariant.blocks, c.if-self-eq0.false);
      bits = subst (λ k. new.bits < 2 ^ k) place adds.bits;
      rises = adds.rises;
      last = last_at (blocks ++ b ∷ []) (indices_from (blocks ++ new ∷ []) 0 (count + 1)) (indices_from (blocks ++ b ∷ []) 0 count) (x + 1) count refl adds.indices;
      count = omega (arith, spare, c.requires.room);
      room = c.self.invariant.room;
    }

pub returns-then-self-eq0-clause-indices : goal.returns-then-self-eq0-clause-indices
returns-then-self-eq0-clause-indices c =
    let blocks = c.self.inside.blocks.items in
    let b = c.self.inside.newest in
    let count = c.self.inside.count in
    let x = c.self.inside.last in
    let new = c.raised-self-inside.result in
    let adds : Adds blocks b new count (x + 1) = subst (λ (d : Block). Adds blocks b d count (x + 1)) (sym c.raised-self-inside.ensures) (adds_next blocks b count x c.self.invariant.blocks c.self.invariant.bits c.self.invariant.rises) in
    let view : indices_from (blocks ++ b ∷ []) 0 count ≡ c.args.self.now.indices = ap (λ (v : RoomyIndices). v.indices) c.self.view_is in
    closes blocks c.close_block.new.blocks.items b new c.close_block.new.newest count (x + 1) adds c.if-self-eq0.true c.close_block.ensures.blocks
    ∙ ap₂ (λ l y. l ++ (y + 1) ∷ []) view (last_seen (blocks ++ b ∷ []) c.args.self.now.indices x count view c.self.invariant.last)

pub returns-else-self-eq0-clause-indices : goal.returns-else-self-eq0-clause-indices
returns-else-self-eq0-clause-indices c =
    let blocks = c.self.inside.blocks.items in
    let b = c.self.inside.newest in
    let count = c.self.inside.count in
    let x = c.self.inside.last in
    let new = c.raised-self-inside.result in
    let adds : Adds blocks b new count (x + 1) = subst (λ (d : Block). Adds blocks b d count (x + 1)) (sym c.raised-self-inside.ensures) (adds_next blocks b count x c.self.invariant.blocks c.self.invariant.bits c.self.invariant.rises) in
    let view : indices_from (blocks ++ b ∷ []) 0 count ≡ c.args.self.now.indices = ap (λ (v : RoomyIndices). v.indices) c.self.view_is in
    adds.indices
    ∙ ap₂ (λ l y. l ++ (y + 1) ∷ []) view (last_seen (blocks ++ b ∷ []) c.args.self.now.indices x count view c.self.invariant.last)
