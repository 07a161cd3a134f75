-- The lists of a turn, and the lines of their items.
use Rattle.std.specs.Prelude.{◌≡◌, ◌-◌, ◌++◌, ℕ, List, Some, flat_map, length, map, option_map, slice_get, take}
use Rattle.pt_types.specs.declared.graph.Graph.{Graph}
use Rattle.pt_semantics.specs.Turn.{Turn}
use Rattle.pt_tables.specs.declared.turn_lists.TurnList.{TurnList}
use Rattle.pt_tables.specs.declared.turn_lists.TurnList.TheVariants.{Claimed, Posted, Rows, Sent, Taken}
use Rattle.pt_tables.specs.declared.turn_lists.TurnLists.{TurnLists}
use Rattle.pt_tables.specs.Log.{claim_line, list_lines, post_line, row_line, sent_line, take_line, turn_line}
use Rattle.pt_tables.specs.Walk.{AreThrough}

-- these are the lists of a turn, by its number
pub record AreListsOf (turns : List Turn) (lists : TurnLists) : Type 0 where
  pub results : lists.before.results ≡ length (flat_map (λ (turn : Turn). turn.posted) (take lists.number turns))
  pub claims : lists.before.claims ≡ length (flat_map (λ (turn : Turn). turn.claimed) (take lists.number turns))
  pub through : AreThrough turns lists.number lists.through
  pub rows : option_map (λ (turn : Turn). turn.rows) (slice_get turns lists.number) ≡ Some lists.rows.now
  pub taken : option_map (λ (turn : Turn). turn.taken) (slice_get turns lists.number) ≡ Some lists.taken.now
  pub sent : option_map (λ (turn : Turn). turn.sent) (slice_get turns lists.number) ≡ Some lists.sent.now

-- how many items a list has
abbrev pub count_of : TurnLists → TurnList → ℕ
count_of lists Posted = lists.through.results - lists.before.results
count_of lists Rows = length lists.rows.now
count_of lists Taken = length lists.taken.now
count_of lists Claimed = lists.through.claims - lists.before.claims
count_of lists Sent = length lists.sent.now

-- the lines of the items of a list of a turn
abbrev pub entry_lines : Graph → Turn → TurnList → List (List ℕ)
entry_lines g turn Posted = map post_line turn.posted
entry_lines g turn Rows = map (row_line g) turn.rows
entry_lines g turn Taken = map (take_line g) turn.taken
entry_lines g turn Claimed = map (claim_line g) turn.claimed
entry_lines g turn Sent = map (sent_line g) turn.sent

-- all of these lines
abbrev pub all_lines : List (List ℕ) → List ℕ
all_lines lines = flat_map (λ (line : List ℕ). line) lines

-- the lines of a turn of a platform with this name: its own, and then those of its lists
abbrev pub named_lines : Graph → List ℕ → Turn → List ℕ
named_lines g name turn = turn_line name turn.first turn.last turn.count ++ list_lines g turn
