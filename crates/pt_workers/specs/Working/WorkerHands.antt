-- Boards of a run, and hands at them.
use Rattle.std.specs.Prelude.{◌≡◌, ℕ, List, Option, None, Some, slice_get}
use Rattle.atomic_table.specs.Seated.{TableId}
use Rattle.pt_types.specs.declared.graph.Graph.{Graph}
use Rattle.pt_links.specs.Ends.{no_link}
use Rattle.pt_board.specs.Hands.{HandView, HoldsNone}
use Rattle.pt_board.specs.Keepers.{BoardView, KeeperView}

-- a hand at the board of a platform, for tasks of a graph, that holds no ticket
pub record IsWorkerHand (g : Graph) (table : ℕ → TableId) (platform : ℕ) (board : BoardView) (hand : HandView) : Type 0 where
  pub of_board : hand.table ≡ board.table
  pub named : hand.table ≡ table platform
  pub graph : hand.knows.graph ≡ Some g
  pub none : HoldsNone hand

-- a new board for tasks of a graph, and its keeper
pub record IsNewBoard (g : Graph) (board : BoardView) (keeper : KeeperView) : Type 0 where
  pub of_board : keeper.table ≡ board.table
  pub graph : keeper.knows.graph ≡ Some g
  pub none : keeper.next ≡ 0

-- the i-th board is that of platform i
abbrev pub AreBoards : (ℕ → TableId) → List TableId → Type 0
AreBoards table boards = (i : ℕ) (t : TableId) → slice_get boards i ≡ Some t → t ≡ table i

abbrev pub table_in : Option TableId → TableId
table_in None = no_link
table_in (Some t) = t
