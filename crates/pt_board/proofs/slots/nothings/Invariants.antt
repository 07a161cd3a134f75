use Rattle.std.proofs.Common.{◌≡◌, vec_len, vec_capacity, replicate}
use Rattle.pt_board.specs.declared.table.Item.TheVariants.{Nothing}
use Rattle.pt_board.proofs.slots.nothings.Given as goal

abbrev pub invariant-loop-k : goal.invariant-loop-k
invariant-loop-k l = (l.items.items ≡ replicate l._k Nothing) × (vec_len l.items ≡ l._k) × (vec_capacity l.items ≡ 32)
