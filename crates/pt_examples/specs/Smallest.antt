-- The smallest run: one sensor with one row.
use Rattle.std.specs.Prelude.{codes, ℕ, zero, suc, List, [], ◌∷◌, Option, Some, None, ℤ, pos}
use Rattle.pt_types.specs.declared.graph.Graph.{Graph}
use Rattle.pt_types.specs.declared.kind.Kind.TheVariants.{Sensor}
use Rattle.pt_types.specs.declared.rows.Row.{Row}
use Rattle.pt_semantics.specs.Meaning.{ActorFiring, IsMeaning}
use Rattle.pt_semantics.specs.Wired.{IsWired}
use Rattle.pt_semantics.specs.Ranks.{AreRanks, AreLevels}
use Rattle.pt_semantics.specs.Rows.{FitRows}
use Rattle.pt_types.specs.declared.firing.Task.{Task}
use Rattle.pt_types.specs.declared.firing.Done.{Done}
use Rattle.pt_semantics.specs.Turn.{Turn}
use Rattle.pt_semantics.specs.Platform.{State}
use Rattle.pt_semantics.specs.History.{IsLegal}
use Rattle.pt_semantics.specs.Linked.{IsFinished}
use Rattle.pt_types.specs.Limits.{usual_claims}

abbrev pub one : Graph
one = record {
  until = 100;
  clock_error = 0;
  claims = usual_claims;
  platforms = codes "p" ∷ [];
  actors = record { name = codes "s"; platform = 0; kind = Sensor (codes "s.csv") 10; inputs = 0; outputs = 1 } ∷ [];
  wires = [];
  links = [];
  clock_errors = [];
}

abbrev pub row : Row
row = record { time = 50; seen = 55; value = pos 3 }

abbrev pub rows : ℕ → List Row
rows zero = row ∷ []
rows (suc a) = []

abbrev pub input_three : List (Option ℤ)
input_three = Some (pos 3) ∷ None ∷ None ∷ None ∷ None ∷ None ∷ None ∷ None ∷ []

abbrev pub task : Task
task = record { number = 0; actor = 0; tag = record { time = 50; step = 0 }; inputs = input_three; state = pos 0 }

abbrev pub done : Done
done = record { task = task; fired = record { state = pos 0; outputs = input_three } }

abbrev pub level : ℕ → ℕ
level a = 0

abbrev pub turns : List Turn
turns =
    record { first = 61; last = 61; count = 1; posted = []; rows = record { sensor = 0; row = row } ∷ []; taken = []; claimed = task ∷ []; sent = [] }
    ∷ record { first = 61; last = 61; count = 1; posted = done ∷ []; rows = []; taken = []; claimed = []; sent = [] }
    ∷ record { first = 111; last = 111; count = 1; posted = []; rows = []; taken = []; claimed = []; sent = [] }
    ∷ []

abbrev pub firing : ActorFiring
firing = record { actor = 0; tag = record { time = 50; step = 0 }; inputs = input_three; before = pos 0; after = pos 0; outputs = input_three }

-- this history is legal and finished, and this firing is the meaning
pub record IsSmallestRun : Type 0 where
  pub state : State
  pub legal : IsLegal one level 0 rows turns state
  pub finished : IsFinished one 0 state
  pub meaning : IsMeaning one level rows (firing ∷ [])
  -- the premises of confluence hold
  pub wired : IsWired one
  pub ranks : AreRanks one level
  pub levels : AreLevels one level
  pub fits : FitRows one rows
