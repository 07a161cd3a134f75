-- The invariant of stored past heads.
use Rattle.std.specs.Prelude.{◌≡◌, ◌-◌, ◌≤◌, length, slice_get}
use Rattle.pt_history.specs.declared.past_heads.PastHeads.TheInside.{Inside}

-- each last reading has a list, and there is room for as many runs and lists as for readings
pub record ArePastHeads (h : Inside) : Type 0 where
  pub newest : h.newest ≡ slice_get h.lasts.items (length h.lasts.items - 1)
  pub same : length h.runs.lists ≡ length h.lasts.items
  pub lists_room : h.lasts.spare ≤ h.runs.spare_lists
  pub runs_room : h.lasts.spare ≤ h.runs.spare_items
