-- The end message of one link.
use Rattle.std.specs.Prelude.{◌==◌, ℕ, List, [], ◌∷◌, if◌then◌else◌}
use Rattle.pt_tags.specs.declared.message.Message.{Message}
use Rattle.pt_tags.specs.declared.message.Message.TheVariants.{End}

-- what link l gets when platform `number` shuts link `link`, whose sender is on platform `from`
abbrev pub ended_on : ℕ → ℕ → ℕ → ℕ → List Message
ended_on l link from number = if l == link then (if from == number then End ∷ [] else []) else []
