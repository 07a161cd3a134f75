-- Theorems about cycles, ranks and levels.
use Rattle.std.specs.Prelude.{◌≡◌, ℕ, ◌≤◌, length}
use Rattle.pt_types.specs.declared.graph.Graph.{Graph}
use Rattle.pt_semantics.specs.Cycles.{NoFreeCycle}
use Rattle.pt_semantics.specs.Ranks.{AreRanks, AreLevels}
use Rattle.pt_semantics.specs.Wired.{IsWired}

-- if each cycle takes time, each actor has a rank
abbrev pub RanksExist : Type 0
RanksExist = (g : Graph) → IsWired g → NoFreeCycle g → (rank : ℕ → ℕ) × AreRanks g rank

-- if each cycle takes time, each actor has a level
abbrev pub LevelsExist : Type 0
LevelsExist = (g : Graph) → IsWired g → NoFreeCycle g → (level : ℕ → ℕ) × AreLevels g level

-- if actors have levels, each cycle takes time
abbrev pub LevelsForbidCycles : Type 0
LevelsForbidCycles = (g : Graph) (level : ℕ → ℕ) → AreLevels g level → NoFreeCycle g

-- no level is more than the number of actors
abbrev pub LevelsAreSmall : Type 0
LevelsAreSmall = (g : Graph) (level : ℕ → ℕ) → IsWired g → AreLevels g level → (a : ℕ) → level a ≤ length g.actors

-- an actor has at most one rank, and at most one level
abbrev pub RanksAreOne : Type 0
RanksAreOne = (g : Graph) (rank other : ℕ → ℕ) → AreRanks g rank → AreRanks g other → rank ≡ other

abbrev pub LevelsAreOne : Type 0
LevelsAreOne = (g : Graph) (level other : ℕ → ℕ) → AreLevels g level → AreLevels g other → level ≡ other
