-- The turns that stand in a log.
use Rattle.std.specs.Prelude.{◌≡◌, ◌<◌, ◌≤◌, ◌==◌, ◌∷◌, [], ℕ, List, Some, filter_map, length}
use Rattle.pt_types.specs.Ports.{when}
use Rattle.pt_types.specs.declared.graph.Graph.{Graph}
use Rattle.pt_types.specs.declared.rows.Row.{Row}
use Rattle.pt_semantics.specs.History.{IsLegal}
use Rattle.pt_semantics.specs.Lists.{Each}
use Rattle.pt_semantics.specs.Platform.{State}
use Rattle.pt_semantics.specs.Turn.{Turn}
use Rattle.pt_tables.specs.Log.{turn_lines}
use Rattle.pt_audit.specs.Parsing.Hints.{IsLoggable}
use Rattle.pt_audit.specs.Parsing.Lines.{Block}

-- a turn that stands in a log, and its platform
pub record LoggedTurn : Type 0 where
  pub platform : ℕ
  pub turn : Turn

-- the turns of platform i among these, in order
abbrev pub turns_of : ℕ → List LoggedTurn → List Turn
turns_of i logged = filter_map (λ (t : LoggedTurn). when (t.platform == i) (Some t.turn)) logged

-- each block is the text of one of these turns, in order, with numbers that 64 bits hold
abbrev pub AreLogged : Graph → List Block → List LoggedTurn → Type 0
AreLogged g [] [] = Unit {0}
AreLogged g [] (t ∷ logged) = ⊥
AreLogged g (b ∷ blocks) [] = ⊥
AreLogged g (b ∷ blocks) (t ∷ logged) = (b.text ≡ turn_lines g t.platform t.turn) × IsLoggable g t.platform t.turn × AreLogged g blocks logged

-- the turns stand in the order of their platforms
abbrev pub InPlatformOrder : List LoggedTurn → Type 0
InPlatformOrder [] = Unit {0}
InPlatformOrder (t ∷ logged) = Each (λ (later : LoggedTurn). t.platform ≤ later.platform) logged × InPlatformOrder logged

-- the turns stand in the order of their platforms, and those of each platform are a legal history that leads to its state
pub record AreLawful (g : Graph) (level : ℕ → ℕ) (rows : ℕ → List Row) (logged : List LoggedTurn) (ends : ℕ → State) : Type 0 where
  pub in_order : InPlatformOrder logged
  pub legal : (i : ℕ) → i < length g.platforms → IsLegal g level i rows (turns_of i logged) (ends i)

-- the turns of the blocks are lawful
abbrev pub BlocksAreLawful : Graph → (ℕ → ℕ) → (ℕ → List Row) → List Block → Type 0
BlocksAreLawful g level rows blocks = (logged : List LoggedTurn) × (ends : ℕ → State) × AreLogged g blocks logged × AreLawful g level rows logged ends
