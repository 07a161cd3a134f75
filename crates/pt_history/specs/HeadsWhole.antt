-- The invariant of stored heads.
use Rattle.std.specs.Prelude.{◌≡◌, ◌+◌, ◌<◌, ◌^◌, length}
use Rattle.pt_history.specs.declared.heads.Heads.TheInside.{Inside}
use Rattle.pt_history.specs.Recents.{heads_in}

-- there are past heads only if there are two recent ones, and 32 bits hold the number of all, with those for which there is room
pub record AreHeads (h : Inside) : Type 0 where
  pub recent : length (heads_in h.recent) < 2 → length h.past.items ≡ 0
  pub fits : length h.past.items + h.past.spare + 2 < 2 ^ 32
