-- The text of slacks.
use Rattle.std.specs.Prelude.{◌≡◌, ℕ, List, [], ◌∷◌, ◌++◌, codes}
use Rattle.std.specs.Fmt.{decimal}
use Rattle.pt_types.specs.declared.graph.Graph.{Graph}
use Rattle.pt_types.specs.Lookups.{actor_name}
use Rattle.pt_slacks.specs.declared.slack.Slack.{Slack}
use Rattle.pt_slacks.specs.Listed.{listed}
use Rattle.pt_slacks.specs.Slacks.{AreLeastSlacks}

-- actor,slack
abbrev pub slacks_head : List ℕ
slacks_head = codes "actor,slack" ++ 10 ∷ []

-- NAME,SLACK
abbrev pub slack_line : List ℕ → ℕ → List ℕ
slack_line name slack = name ++ 44 ∷ decimal slack ++ 10 ∷ []

abbrev pub slack_lines : Graph → List Slack → List ℕ
slack_lines g [] = []
slack_lines g (entry ∷ more) = slack_line (actor_name g entry.actor) entry.slack ++ slack_lines g more

-- the header, and a line for each slack
abbrev pub slacks_text : Graph → List Slack → List ℕ
slacks_text g slacks = slacks_head ++ slack_lines g slacks

-- the text has the least slacks of the graph's senders and the slacks of its actuators, in graph order
pub record IsSlacked (g : Graph) (text : List ℕ) : Type 0 where
  pub slack : ℕ → ℕ
  pub least : AreLeastSlacks g slack
  pub lines : text ≡ slacks_text g (listed g slack)
