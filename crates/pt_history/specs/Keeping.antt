-- Recorded turns, seen from their heads and the five lists.
use Rattle.std.specs.Prelude.{◌≡◌, ◌≤◌, ◌+◌, ◌++◌, ◌∷◌, ◌&&◌, [], ℕ, Bool, List, Some, length, option_map, slice_get, slice_index_or, take, true}
use Rattle.pt_types.specs.declared.firing.Done.{Done}
use Rattle.pt_types.specs.declared.firing.OnLink.{OnLink}
use Rattle.pt_types.specs.declared.firing.Task.{Task}
use Rattle.pt_types.specs.declared.rows.RowAt.{RowAt}
use Rattle.pt_history.specs.Lists.{RoomyLists}
use Rattle.pt_semantics.specs.Turn.{Turn, is_empty, is_quiet}
use Rattle.pt_semantics.specs.Kept.{settled}
use Rattle.pt_history.specs.declared.head.Head.{Head}
use Rattle.pt_history.specs.Turns.{quiet}

-- the five lists of each turn
pub record Lists : Type 0 where
  pub posted : List (List Done)
  pub rows : List (List RowAt)
  pub taken : List (List OnLink)
  pub claimed : List (List Task)
  pub sent : List (List OnLink)

-- turn `number`, from its head and its part of each list
abbrev pub turn_at : Lists → ℕ → Head → Turn
turn_at lists number head = record {
  first = head.first;
  last = head.last;
  count = head.count;
  posted = slice_index_or lists.posted number [];
  rows = slice_index_or lists.rows number [];
  taken = slice_index_or lists.taken number [];
  claimed = slice_index_or lists.claimed number [];
  sent = slice_index_or lists.sent number [];
}

-- whether all five lists of turn `number` are empty
abbrev pub are_empty : Lists → ℕ → Bool
are_empty lists number =
    is_empty (slice_index_or lists.posted number [])
    && is_empty (slice_index_or lists.rows number [])
    && is_empty (slice_index_or lists.taken number [])
    && is_empty (slice_index_or lists.claimed number [])
    && is_empty (slice_index_or lists.sent number [])

-- the turns with these heads, the first of which is turn `number`
abbrev pub turns_from : Lists → ℕ → List Head → List Turn
turns_from lists number [] = []
turns_from lists number (head ∷ heads) = turn_at lists number head ∷ turns_from lists (number + 1) heads

-- `last` says whether the last of that many turns is quiet, and `before` whether the one before it is, if there are any
pub record TellQuiet (lists : Lists) (turns : ℕ) (last before : Bool) : Type 0 where
  pub of_last : (number : ℕ) → number + 1 ≡ turns → last ≡ are_empty lists number
  pub of_before : (number : ℕ) → number + 2 ≡ turns → before ≡ are_empty lists number

-- pieces with one list for each turn, and with room for that many more lists and items
pub record HasRoomFor {X : Type 0} (turns more_turns more_items : ℕ) (pieces : RoomyLists X) : Type 0 where
  pub lists : length pieces.lists ≡ turns
  pub turns_fit : more_turns ≤ pieces.spare_lists
  pub items_fit : more_items ≤ pieces.spare_items

-- turn `number` exists and is quiet
abbrev pub IsQuietAt : List Turn → ℕ → Type 0
IsQuietAt turns number = option_map is_quiet (slice_get turns number) ≡ Some true

-- turns `number` and `number` + 1 are the last two, both are quiet, and they join to `run` when another turn begins
pub record Joins (turns : List Turn) (number : ℕ) (run : Head) : Type 0 where
  pub are_last : number + 2 ≡ length turns
  pub before : IsQuietAt turns number
  pub last : IsQuietAt turns (number + 1)
  pub settles : settled turns ≡ take number turns ++ quiet run.first run.last run.count ∷ []
