-- What is proved about made inputs and every paced run over them.
use Rattle.std.specs.Prelude.{◌≤◌, ◌<◌, ℕ, ℤ, Option}
use Rattle.pt_tags.specs.declared.tag.Tag.{Tag}
use Rattle.pt_types.specs.declared.graph.Unit.{Unit}
use Rattle.pt_types.specs.Lawful.{IsLawful}
use Rattle.pt_semantics.specs.Cycles.{NoFreeCycle}
use Rattle.pt_semantics.specs.Kept.{kept}
use Rattle.pt_semantics.specs.Lists.{IsIn}
use Rattle.pt_semantics.specs.Missed.{IsMissed}
use Rattle.pt_semantics.specs.Offsets.{HasOffset, IsFeasible}
use Rattle.pt_semantics.specs.Ranks.{AreLevels}
use Rattle.pt_semantics.specs.Rounds.{IsWholeRun}
use Rattle.pt_semantics.specs.Turn.{Turn}
use Rattle.pt_semantics.specs.Visits.{RunState}
use Rattle.pt_sensors.specs.Places.{of_run}
use Rattle.pt_make.specs.Input.{made_graph, made_rows}
use Rattle.pt_types.specs.Limits.{usual_claims}

-- the graph can run: it is lawful, each cycle takes time, and each sender can send in time
abbrev pub MadeGraphsCanRun : Type 0
MadeGraphsCanRun = (n : ℕ) → n ≤ 100 → IsLawful (made_graph n) × NoFreeCycle (made_graph n) × IsFeasible (made_graph n)

-- no platform makes all the claims that it may
abbrev pub RunsAreShort : Type 0
RunsAreShort = (n : ℕ) (level : ℕ → ℕ) (offset : Unit → Option ℤ) (y : RunState) → n ≤ 100 → AreLevels (made_graph n) level → ((u : Unit) → HasOffset (made_graph n) u (offset u)) → IsWholeRun (made_graph n) level (of_run (made_graph n) (made_rows n)) y →
    (i : ℕ) → i < 4 → (y.at i).claims < usual_claims

-- no recorded turn has a miss
abbrev pub NothingIsMissed : Type 0
NothingIsMissed = (n : ℕ) (level : ℕ → ℕ) (offset : Unit → Option ℤ) (y : RunState) → n ≤ 100 → AreLevels (made_graph n) level → ((u : Unit) → HasOffset (made_graph n) u (offset u)) → IsWholeRun (made_graph n) level (of_run (made_graph n) (made_rows n)) y →
    (i a limit : ℕ) (turn : Turn) (t : Tag) → i < 4 → IsIn turn (kept (y.did i)) → IsMissed (made_graph n) turn a t limit → ⊥
