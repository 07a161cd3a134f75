-- Theorems about runs in fixed order.
use Rattle.std.specs.Prelude.{◌≡◌, ◌<◌, ◌⊎◌, ◌+◌, ◌++◌, ◌∷◌, [], ℕ, List, length}
use Rattle.pt_types.specs.declared.graph.Graph.{Graph}
use Rattle.pt_types.specs.declared.rows.Row.{Row}
use Rattle.pt_semantics.specs.FixedOrder.{AreInTurn}
use Rattle.pt_semantics.specs.Turn.{Turn}

-- two lists of readings of one clock: one begins with the other
abbrev pub AreOfOneClock : List ℕ → List ℕ → Type 0
AreOfOneClock readings others = (more : List ℕ) × ((others ≡ readings ++ more) ⊎ (readings ≡ others ++ more))

-- runs in fixed order are one function of the graph, its rows and the readings of the clocks: how far a run goes is part of
-- what it returns, so where two runs go by the same clocks, they make the same visits and record the same histories, a late
-- message included
abbrev pub FixedOrderIsOne : Type 0
FixedOrderIsOne = (g : Graph) (level : ℕ → ℕ) (rows : ℕ → List Row) (clocks others : ℕ → List ℕ) (most : ℕ) (histories recorded : ℕ → List Turn) → ((i : ℕ) → i < length g.platforms → AreOfOneClock (clocks i) (others i)) →
    (run : AreInTurn g level rows clocks most histories) → (other : AreInTurn g level rows others most recorded) → (i : ℕ) → i < length g.platforms → (run.made ≡ other.made) × (histories i ≡ recorded i)

-- the number of readings that a history records
abbrev pub count_readings : List Turn → ℕ
count_readings [] = 0
count_readings (turn ∷ turns) = turn.count + count_readings turns
