-- Claiming: safe units are claimed in the order of tag, actor and group.
use Rattle.std.specs.Prelude.{◌≡◌, ◌&&◌, ◌∷◌, ◌≤◌, [], ℕ, List, Some, not, suc}
use Rattle.pt_tags.specs.declared.tag.Tag.{Tag}
use Rattle.pt_tags.specs.Tags.{same_tag}
use Rattle.pt_types.specs.declared.graph.Graph.{Graph}
use Rattle.pt_types.specs.declared.graph.Unit.{Unit}
use Rattle.pt_types.specs.declared.firing.Task.{Task}
use Rattle.pt_types.specs.Ports.{when}
use Rattle.pt_semantics.specs.Safe.{IsSafe}
use Rattle.pt_semantics.specs.Platform.{State, put_busy}
use Rattle.pt_semantics.specs.Meaning.{Values}
use Rattle.pt_semantics.specs.Units.{at_input, same_part, unit_inputs, unit_of}

-- the values that wait, without a unit's events of a tag
abbrev pub without_unit : Graph → Values → Unit → Tag → Values
without_unit g waits u t a p w = when (not (same_part (at_input g a p) u && same_tag t w)) (waits a p w)

-- the state after unit u is claimed: the events of the task no longer wait, and the task is open
abbrev pub after_claim : Graph → State → Unit → Task → State
after_claim g s u task = record s {
  waits = without_unit g s.waits u task.tag;
  busy = put_busy s.busy u (Some task);
  claims = suc s.claims;
}

-- (t, u) isn't after (w, v) in the order of tag, actor and group
abbrev pub NoLater : Tag → Unit → Tag → Unit → Type 0
NoLater t u w v = (t.time ≤ w.time) × (w.time ≤ t.time → (t.step ≤ w.step) × (w.step ≤ t.step → (u.actor ≤ v.actor) × (v.actor ≤ u.actor → u.group ≤ v.group)))

-- the next task to claim: that of the safe unit with the least tag, actor and group
pub record IsNext (g : Graph) (s : State) (r : ℕ) (u : Unit) (task : Task) : Type 0 where
  pub safe : IsSafe g s.waits s.busy r u task.tag
  pub first : (v : Unit) (w : Tag) → IsSafe g s.waits s.busy r v w → NoLater task.tag u w v
  pub actor : task.actor ≡ u.actor
  pub inputs : task.inputs ≡ unit_inputs g s.waits u task.tag
  pub state : task.state ≡ s.states u.actor
  pub number : task.number ≡ s.claims

-- these tasks are claimed, one after another, each the next one
abbrev pub Claims : Graph → ℕ → State → List Task → State → Type 0
Claims g r s [] new = new ≡ s
Claims g r s (task ∷ tasks) new = IsNext g s r (unit_of g task) task × Claims g r (after_claim g s (unit_of g task) task) tasks new
