-- Recorded turns, and the room for more.
use Rattle.std.specs.Prelude.{ℕ, ◌++◌, [], List, map, max, option_map, slice_get, unwrap_or}
use Rattle.std.specs.List.{flat_map}
use Rattle.pt_types.specs.declared.firing.Done.{Done}
use Rattle.pt_types.specs.declared.firing.OnLink.{OnLink}
use Rattle.pt_types.specs.declared.firing.Task.{Task}
use Rattle.pt_types.specs.declared.rows.RowAt.{RowAt}
use Rattle.pt_semantics.specs.Turn.{Turn}
use Rattle.pt_history.specs.declared.head.Head.{Head}
use Rattle.pt_history.specs.declared.room.HistoryRoom.{HistoryRoom}

-- recorded turns, and the room for more turns and for more items in their lists
pub record RoomyTurns : Type 0 where
  pub turns : List Turn
  pub room : HistoryRoom

-- the greater of two rooms, number by number
abbrev pub larger : HistoryRoom → HistoryRoom → HistoryRoom
larger a b = record {
  turns = max a.turns b.turns;
  posted = max a.posted b.posted;
  rows = max a.rows b.rows;
  taken = max a.taken b.taken;
  claimed = max a.claimed b.claimed;
  sent = max a.sent b.sent;
}

-- the readings and the count of a turn
abbrev pub turn_head : Turn → Head
turn_head turn = record { first = turn.first; last = turn.last; count = turn.count }

-- a run of `count` quiet turns with this first and last reading
abbrev pub quiet : ℕ → ℕ → ℕ → Turn
quiet first last count = record { first = first; last = last; count = count; posted = []; rows = []; taken = []; claimed = []; sent = [] }

-- a turn at a reading, in which nothing has happened yet
abbrev pub fresh : ℕ → Turn
fresh reading = quiet reading reading 1

-- a turn with more results posted
abbrev pub posting : List Done → Turn → Turn
posting dones turn = record turn { posted = turn.posted ++ dones }

-- a turn with more rows entered
abbrev pub entering : List RowAt → Turn → Turn
entering rows turn = record turn { rows = turn.rows ++ rows }

-- a turn with more messages taken
abbrev pub taking : List OnLink → Turn → Turn
taking messages turn = record turn { taken = turn.taken ++ messages }

-- a turn with more tasks claimed
abbrev pub claiming : List Task → Turn → Turn
claiming tasks turn = record turn { claimed = turn.claimed ++ tasks }

-- a turn with more messages sent after it
abbrev pub sending : List OnLink → Turn → Turn
sending messages turn = record turn { sent = turn.sent ++ messages }

-- a result, with the last reading of the turn that posted it
pub record Dated : Type 0 where
  pub reading : ℕ
  pub done : Done

-- the results of a turn, and those of all turns, in order
abbrev pub dated : Turn → List Dated
dated turn = map (λ (done : Done). record { reading = turn.last; done = done }) turn.posted

abbrev pub all_dated : List Turn → List Dated
all_dated turns = flat_map dated turns

-- the results posted in turn `number`; none if there is no such turn
abbrev pub posted_in : List Turn → ℕ → List Done
posted_in turns number = unwrap_or (option_map (λ (turn : Turn). turn.posted) (slice_get turns number)) []

-- the tasks claimed in turn `number`; none if there is no such turn
abbrev pub claimed_in : List Turn → ℕ → List Task
claimed_in turns number = unwrap_or (option_map (λ (turn : Turn). turn.claimed) (slice_get turns number)) []
