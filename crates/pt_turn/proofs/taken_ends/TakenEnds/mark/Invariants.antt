use Rattle.std.proofs.Common.{◌≡◌, ◌<◌, ◌||◌, ℕ, false, length, get_or, take}
use Rattle.std.specs.List.{list_any}
use Rattle.pt_turn.specs.TakenEnds.{is_end_on}
use Rattle.pt_turn.proofs.taken_ends.TakenEnds.mark.Given as goal

abbrev pub invariant-loop-message : goal.invariant-loop-message
invariant-loop-message l = record {
  len : length l.self-inside.flags.items ≡ length l.fn.self;
  flags : (k : ℕ) → k < length l.fn.self → get_or l.self-inside.flags.items k false ≡ (get_or l.fn.self k false || list_any (is_end_on k) (take l.message-index l.messages));
}
