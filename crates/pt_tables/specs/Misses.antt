-- The line of a miss.
use Rattle.std.specs.Prelude.{ℕ, ◌++◌, ◌∷◌, [], List, codes}
use Rattle.std.specs.Fmt.{decimal}
use Rattle.pt_tags.specs.declared.tag.Tag.{Tag}
use Rattle.pt_types.specs.declared.graph.Graph.{Graph}
use Rattle.pt_history.specs.declared.miss.Miss.{Miss}
use Rattle.pt_types.specs.Lookups.{actor_name}

-- missed NAME at TIME.STEP
abbrev pub missed_part : List ℕ → Tag → List ℕ
missed_part name tag = codes "missed " ++ name ++ codes " at " ++ decimal tag.time ++ 46 ∷ decimal tag.step

-- , reading N past L
abbrev pub reading_part : ℕ → ℕ → List ℕ
reading_part reading limit = codes ", reading " ++ decimal reading ++ codes " past " ++ decimal limit ++ 10 ∷ []

-- missed ACTOR at TIME.STEP, reading N past L
abbrev pub miss_line : Graph → Miss → List ℕ
miss_line g miss = missed_part (actor_name g miss.actor) miss.tag ++ reading_part miss.reading miss.limit
