use Rattle.std.proofs.Common.{◌≡◌, ◌+◌, ◌-◌, ◌++◌, ◌∷◌, [], length, get_or, replicate, ap, sym, ◌∙◌, arith}
use Rattle.pt_history.specs.Indices.{RoomyIndices, indices_from}
use Rattle.pt_history.proofs.Blocks.{Repeats, last_seen, length-indices, repeats}
use Rattle.pt_history.proofs.Repeating.{last_stays}
use Rattle.pt_history.proofs.indices.Indices.stay.Goals as goal

pub invariant_of-self : goal.invariant_of-self
invariant_of-self c =
    let blocks = c.self.inside.blocks.items in
    let b = c.self.inside.newest in
    let count = c.self.inside.count in
    let x = c.self.inside.last in
    let more = c.args.more in
    let es = indices_from (blocks ++ b ∷ []) 0 count in
    let new = indices_from (blocks ++ b ∷ []) 0 (count + more) in
    let many : length es ≡ count = length-indices (blocks ++ b ∷ []) 0 count in
    let all : length new ≡ count + more = length-indices (blocks ++ b ∷ []) 0 (count + more) in
    let seen : length c.args.self.now.indices ≡ count = ap (λ (v : RoomyIndices). length v.indices) (sym c.self.view_is) ∙ many in
    let spare : c.args.self.now.spare ≡ c.self.inside.limit - count = ap (λ (v : RoomyIndices). v.spare) (sym c.self.view_is) in
    let adds : Repeats blocks b count more x = repeats blocks b x more count c.self.invariant.blocks c.self.invariant.bits c.self.invariant.rises (omega (arith, seen, c.requires.within)) in
    let last : x ≡ get_or es (length es - 1) 0 = c.self.invariant.last ∙ ap (λ n. get_or es (n - 1) 0) (sym many) in
    record {
      blocks = adds.full;
      bits = adds.bits;
      rises = c.self.invariant.rises;
      last = sym (last_stays es new x more last adds.indices) ∙ ap (λ n. get_or new (n - 1) 0) all;
      count = omega (arith, spare, c.requires.room, c.self.invariant.count);
      room = c.self.invariant.room;
    }

pub returns-clause-indices : goal.returns-clause-indices
returns-clause-indices c =
    let blocks = c.self.inside.blocks.items in
    let b = c.self.inside.newest in
    let count = c.self.inside.count in
    let x = c.self.inside.last in
    let more = c.args.more in
    let es = indices_from (blocks ++ b ∷ []) 0 count in
    let view : es ≡ c.args.self.now.indices = ap (λ (v : RoomyIndices). v.indices) c.self.view_is in
    let seen : length c.args.self.now.indices ≡ count = ap length (sym view) ∙ length-indices (blocks ++ b ∷ []) 0 count in
    let adds : Repeats blocks b count more x = repeats blocks b x more count c.self.invariant.blocks c.self.invariant.bits c.self.invariant.rises (omega (arith, seen, c.requires.within)) in
    adds.indices
    ∙ ap (λ l. l ++ replicate more x) view
    ∙ ap (λ y. c.args.self.now.indices ++ replicate more y) (last_seen (blocks ++ b ∷ []) c.args.self.now.indices x count view c.self.invariant.last)
