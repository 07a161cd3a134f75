-- Several results.
use Rattle.std.specs.Prelude.{◌≡◌, ◌⊎◌, ◌<◌, ℕ, List, [], ◌∷◌, ◌++◌, Option, Some, None, filter_map, length, slice_get}
use Rattle.pt_types.specs.declared.graph.Graph.{Graph}
use Rattle.pt_types.specs.declared.graph.Unit.{Unit}
use Rattle.pt_types.specs.declared.firing.Done.{Done}
use Rattle.pt_types.specs.declared.firing.OnLink.{OnLink}
use Rattle.pt_types.specs.declared.firing.Task.{Task}
use Rattle.pt_types.specs.Lawful.{IsLawful}
use Rattle.pt_semantics.specs.Behaviours.{Firings}
use Rattle.pt_semantics.specs.Edges.{wires}
use Rattle.pt_types.specs.Lookups.{kind_of}
use Rattle.pt_semantics.specs.Firing.{fired}
use Rattle.pt_semantics.specs.Floor.{Bounded, NothingThere}
use Rattle.pt_semantics.specs.Lists.{Each}
use Rattle.pt_semantics.specs.Meaning.{going}
use Rattle.pt_semantics.specs.Platform.{State, put_busy}
use Rattle.pt_semantics.specs.Posting.{Posts}
use Rattle.pt_semantics.specs.Ranks.{AreLevels}
use Rattle.pt_semantics.specs.Wired.{IsWired}
use Rattle.pt_semantics.specs.Units.{leaves_unit, unit_of}
use Rattle.pt_turn.specs.declared.state.fields.OpenClaim.{OpenClaim}
use Rattle.pt_turn.specs.declared.state.fields.Fields.{Fields}
use Rattle.pt_turn.specs.Fields.State.{state_of, busy_in, IsSound}
use Rattle.pt_turn.specs.Posts.Sent.{SumsFit}

-- after any results that can be posted, no event waits where those of the next result go
abbrev pub NeverPosts : Graph → State → Type 0
NeverPosts g s = (ds : List Done) (mid : State) (d : Done) → Posts g s ds mid → mid.busy (unit_of g d.task) ≡ Some d.task → NothingThere mid.waits (going g (wires g) (leaves_unit g (unit_of g d.task)) d.task.tag d.fired.outputs)

-- for each open claim, 64 bits hold its tag plus what each wire from its actor adds
abbrev pub ClaimsFit : Graph → List OpenClaim → Type 0
ClaimsFit g claims = Each (λ (c : OpenClaim). SumsFit g c.task.actor c.task.tag) claims

-- if the tags of a state are bounded, as in every state that a history without a late turn leads to, these sums fit
abbrev pub OpenClaimsFit : Type 0
OpenClaimsFit = (g : Graph) (level : ℕ → ℕ) (claimed : Firings) (f : Fields) (taken : List OnLink) → IsLawful g → IsWired g → AreLevels g level → IsSound g f → Bounded g level (state_of f taken) claimed → ClaimsFit g f.open_claims.items

-- a result is what the kind of its task's actor gives for the task
abbrev pub IsDone : Graph → Done → Type 0
IsDone g d = d.fired ≡ fired (kind_of g d.task.actor) d.task.state d.task.inputs

-- each result is what the kind of its task's actor gives
abbrev pub AreDone : Graph → List Done → Type 0
AreDone g dones = Each (IsDone g) dones

-- of these results, in order, exactly those are posted whose task is then the open claim of its unit
abbrev pub ArePosted : Graph → (Unit → Option Task) → List Done → List Done → Type 0
ArePosted g busy [] posted = posted ≡ []
ArePosted g busy (d ∷ ds) posted =
    ((busy (unit_of g d.task) ≡ Some d.task) × (rest : List Done) × (posted ≡ d ∷ rest) × ArePosted g (put_busy busy (unit_of g d.task) None) ds rest)
    ⊎ ((busy (unit_of g d.task) ≡ Some d.task → ⊥) × ArePosted g busy ds posted)

-- each of these places is that of a result, counted from 0
abbrev pub ArePlaces : List Done → List ℕ → Type 0
ArePlaces dones places = Each (λ (place : ℕ). place < length dones) places

-- the results at these places
abbrev pub picked : List Done → List ℕ → List Done
picked dones places = filter_map (slice_get dones) places

-- the posted results are appended to the earlier ones and change the state, and the open claims left still fit
pub record Posted (g : Graph) (old new : Fields) (dones before after : List Done) : Type 0 where
  pub posted : List Done
  pub appended : after ≡ before ++ posted
  pub are : ArePosted g (busy_in old.open_claims.items) dones posted
  pub posts : (taken : List OnLink) → Posts g (state_of old taken) posted (state_of new taken)
  pub fit : ClaimsFit g new.open_claims.items
