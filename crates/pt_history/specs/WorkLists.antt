-- The claims and the results of each turn.
use Rattle.std.specs.Prelude.{◌≡◌, ◌+◌, ◌<◌, ◌≤◌, ◌^◌, ℕ, List, length}
use Rattle.pt_types.specs.declared.firing.Done.{Done}
use Rattle.pt_types.specs.declared.firing.Task.{Task}
use Rattle.pt_history.specs.declared.work_lists.WorkLists.TheInside.{Inside}
use Rattle.pt_history.specs.Lists.{Rises, RoomyEnds, RoomyLists, pieces}

-- the claims and the results of each turn, and the room left
pub record RoomyWorkLists : Type 0 where
  pub claimed : RoomyLists Task
  pub posted : RoomyLists Done

-- the lists of flat items with these ends, and the room left
abbrev pub lists_at : {X : Type 0} → RoomyEnds → List X → ℕ → RoomyLists X
lists_at ends items spare = record { lists = pieces 0 ends.ends items; spare_items = spare; spare_lists = ends.spare }

abbrev pub work_lists : Inside → RoomyWorkLists
work_lists w = record { claimed = lists_at w.claimed w.work.tasks w.work.spare_tasks; posted = lists_at w.posted w.work.dones w.work.spare_dones }

-- the ends rise to the last of n items, and 32 bits hold each end
pub record AreListEnds (ends : RoomyEnds) (n spare : ℕ) : Type 0 where
  pub rises : Rises 0 ends.ends n
  pub total : ends.total ≡ n
  pub fits : n + spare < 2 ^ 32

pub record AreWorkLists (w : Inside) : Type 0 where
  pub claimed : AreListEnds w.claimed (length w.work.tasks) w.work.spare_tasks
  pub posted : AreListEnds w.posted (length w.work.dones) w.work.spare_dones

-- there is no less room
pub record IsRoomier (old new : RoomyWorkLists) : Type 0 where
  pub claims : old.claimed.spare_items ≤ new.claimed.spare_items
  pub claim_lists : old.claimed.spare_lists ≤ new.claimed.spare_lists
  pub results : old.posted.spare_items ≤ new.posted.spare_items
  pub result_lists : old.posted.spare_lists ≤ new.posted.spare_lists
