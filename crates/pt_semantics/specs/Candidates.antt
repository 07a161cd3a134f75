-- All claims of a turn at once.
use Rattle.std.specs.Prelude.{◌≡◌, ◌<◌, ◌∷◌, ◌≤◌, ◌⊎◌, [], ℕ, ℤ, List, Option, drop, length, suc, take, true, ⊤}
use Rattle.pt_tags.specs.declared.tag.Tag.{Tag}
use Rattle.pt_types.specs.declared.graph.Graph.{Graph}
use Rattle.pt_types.specs.declared.graph.Unit.{Unit}
use Rattle.pt_types.specs.declared.firing.Task.{Task}
use Rattle.pt_semantics.specs.Claiming.{Claims, after_claim}
use Rattle.pt_semantics.specs.Lists.{Each, IsIn}
use Rattle.pt_semantics.specs.Behaviours.{Firing}
use Rattle.pt_semantics.specs.Safe.{IsSafe, NothingSafe}
use Rattle.pt_semantics.specs.Platform.{State}
use Rattle.pt_semantics.specs.Turn.{Turn}
use Rattle.pt_semantics.specs.History.{claims_of}
use Rattle.pt_semantics.specs.Units.{unit_inputs, unit_of}

-- a unit that can be claimed, and the tag
pub record Candidate : Type 0 where
  pub unit : Unit
  pub tag : Tag

-- the first candidate comes before the second: by tag, then actor, then group
abbrev pub IsClaimedBefore : Candidate → Candidate → Type 0
IsClaimedBefore c d = (c.tag.time ≤ d.tag.time) × (d.tag.time ≤ c.tag.time → (c.tag.step ≤ d.tag.step) × (d.tag.step ≤ c.tag.step → (c.unit.actor ≤ d.unit.actor) × (d.unit.actor ≤ c.unit.actor → c.unit.group < d.unit.group)))

-- the list is in the order of tag, actor and group
abbrev pub InClaimOrder : List Candidate → Type 0
InClaimOrder [] = ⊤
InClaimOrder (c ∷ cs) = Each (IsClaimedBefore c) cs × InClaimOrder cs

-- these are all units that are safe at a reading, each with its least tag, in the order of tag, actor and group
pub record AreCandidates (g : Graph) (s : State) (r : ℕ) (cs : List Candidate) : Type 0 where
  pub in_order : InClaimOrder cs
  pub safe : (c : Candidate) → IsIn c cs → IsSafe g s.waits s.busy r c.unit c.tag
  pub all : (u : Unit) (t : Tag) → IsSafe g s.waits s.busy r u t → IsIn (record { unit = u; tag = t }) cs

-- the task of a candidate that is claimed as number n
abbrev pub task_of : Graph → State → ℕ → Candidate → Task
task_of g s n c = record { number = n; actor = c.unit.actor; tag = c.tag; inputs = unit_inputs g s.waits c.unit c.tag; state = s.states c.unit.actor }

-- the tasks of several candidates, numbered from n on
abbrev pub tasks_of : Graph → State → ℕ → List Candidate → List Task
tasks_of g s n [] = []
tasks_of g s n (c ∷ cs) = task_of g s n c ∷ tasks_of g s (suc n) cs

-- the state after these tasks are claimed
abbrev pub after_claims : Graph → State → List Task → State
after_claims g s [] = s
after_claims g s (task ∷ tasks) = after_claims g (after_claim g s (unit_of g task) task) tasks

-- the first k candidates can be claimed for every k, every list of tasks that can be claimed is of this form, and after
-- it the safe units are the other candidates
pub record ClaimsAreFronts (g : Graph) (s : State) (r : ℕ) (cs : List Candidate) : Type 0 where
  pub claims : (k : ℕ) → Claims g r s (tasks_of g s s.claims (take k cs)) (after_claims g s (tasks_of g s s.claims (take k cs)))
  pub fronts : (tasks : List Task) (new : State) → Claims g r s tasks new → (length tasks ≤ length cs) × (tasks ≡ tasks_of g s s.claims (take (length tasks) cs)) × (new ≡ after_claims g s tasks)
  pub left : (k : ℕ) → AreCandidates g (after_claims g s (tasks_of g s s.claims (take k cs))) r (drop k cs)

-- what a turn claims: all safe units in order, or the first of them, cut at `most` tasks or at the graph's number of claims
pub record AreCut (g : Graph) (s : State) (r most : ℕ) (tasks : List Task) : Type 0 where
  pub claims : Claims g r s tasks (after_claims g s tasks)
  pub at_most : length tasks ≤ most
  pub in_all : (after_claims g s tasks).claims ≤ g.claims
  pub greedy : tasks ≡ [] → NothingSafe g (after_claims g s tasks).waits (after_claims g s tasks).busy r ⊎ (g.claims ≤ s.claims)
  pub all_or : NothingSafe g (after_claims g s tasks).waits (after_claims g s tasks).busy r ⊎ ((most ≤ length tasks) ⊎ (g.claims ≤ (after_claims g s tasks).claims))

-- these turns claim unit u at tag t, with these inputs
pub record IsClaimed (g : Graph) (turns : List Turn) (u : Unit) (t : Tag) (inputs : List (Option ℤ)) : Type 0 where
  pub firing : Firing
  pub claimed : IsIn firing (claims_of g turns u)
  pub tag : firing.tag ≡ t
  pub inputs_are : firing.inputs ≡ inputs

-- the turn posted, entered, claimed or closed something, or all claims were made before it and a unit is still safe
pub data HasMoved (g : Graph) (s : State) (turn : Turn) (ready new : State) : Type 0 where
  Posted : (turn.posted ≡ [] → ⊥) → HasMoved g s turn ready new
  Entered : (turn.rows ≡ [] → ⊥) → HasMoved g s turn ready new
  Claimed : (turn.claimed ≡ [] → ⊥) → HasMoved g s turn ready new
  Closed : new.closed ≡ true → HasMoved g s turn ready new
  Full : g.claims ≤ s.claims → (NothingSafe g ready.waits ready.busy turn.last → ⊥) → HasMoved g s turn ready new
