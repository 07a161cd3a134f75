-- The turns of several platforms, one after another.
use Rattle.std.specs.Prelude.{ℕ, ◌+◌, List, [], ◌∷◌, ◌++◌, map}
use Rattle.pt_semantics.specs.Turn.{Turn}

-- the turns of platforms numbered from p on, in order, each with the number of its platform
abbrev pub numbered : ℕ → List (List Turn) → List (ℕ × Turn)
numbered p [] = []
numbered p (turns ∷ histories) = map (λ (turn : Turn). (p, turn)) turns ++ numbered (p + 1) histories
