use Rattle.std.proofs.Common.{◌-◌, ◌<◌, ◌≤◌, ◌∷◌, ℕ, List, length, get_or}
use Rattle.pt_history.proofs.ends.Ends.list_of.Given as goal

-- the item is in a list from `low` up to `high`, without that
pub record IsBetween (ends : List ℕ) (item low high : ℕ) : Type 0 where
  pub less : low < high
  pub few : high ≤ length ends
  pub starts : get_or (0 ∷ ends) low 0 ≤ item
  pub ends_before : high < length ends → item < get_or (0 ∷ ends) high 0

abbrev pub invariant-loop-high : goal.invariant-loop-high
invariant-loop-high l = IsBetween l.self.ends l.item l.low l.high

abbrev pub decreases-loop-high : goal.decreases-loop-high
decreases-loop-high l = l.high - l.low
