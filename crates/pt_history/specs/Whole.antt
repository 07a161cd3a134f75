-- The invariant of a history.
use Rattle.std.specs.Prelude.{◌≤◌, length}
use Rattle.pt_history.specs.declared.history.History.TheInside.{Inside}
use Rattle.pt_history.specs.Keeping.{HasRoomFor, Lists, TellQuiet, turns_from}
use Rattle.pt_history.specs.Turns.{RoomyTurns}

-- the five lists of each turn
abbrev pub lists_of : Inside → Lists
lists_of h = record { posted = h.work.posted.lists; rows = h.rows.lists; taken = h.taken.lists; claimed = h.work.claimed.lists; sent = h.sent.lists }

-- the turns and the room of a history
abbrev pub roomy_turns : Inside → RoomyTurns
roomy_turns h = record { turns = turns_from (lists_of h) 0 h.heads.items; room = h.room }

-- each turn has its five lists, the promised room is allocated, and the two flags say which of the last two turns are quiet
pub record IsWhole (h : Inside) : Type 0 where
  pub heads : h.room.turns ≤ h.heads.spare
  pub posted : HasRoomFor (length h.heads.items) h.room.turns h.room.posted h.work.posted
  pub rows : HasRoomFor (length h.heads.items) h.room.turns h.room.rows h.rows
  pub taken : HasRoomFor (length h.heads.items) h.room.turns h.room.taken h.taken
  pub claimed : HasRoomFor (length h.heads.items) h.room.turns h.room.claimed h.work.claimed
  pub sent : HasRoomFor (length h.heads.items) h.room.turns h.room.sent h.sent
  pub quiet : TellQuiet (lists_of h) (length h.heads.items) h.last_quiet h.before_quiet
