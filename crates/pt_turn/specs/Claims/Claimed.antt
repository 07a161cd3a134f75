-- What claiming does to the fields of a platform.
use Rattle.std.specs.Prelude.{◌≡◌, ℕ, ◌+◌, ◌≤◌, ◌⊎◌, List, ◌++◌, length}
use Rattle.pt_tags.specs.declared.tag.Tag.{Tag}
use Rattle.pt_types.specs.declared.graph.Graph.{Graph}
use Rattle.pt_types.specs.declared.graph.Unit.{Unit}
use Rattle.pt_types.specs.declared.firing.Task.{Task}
use Rattle.pt_types.specs.declared.firing.OnLink.{OnLink}
use Rattle.pt_semantics.specs.Claiming.{Claims}
use Rattle.pt_semantics.specs.Safe.{NothingSafe}
use Rattle.pt_semantics.specs.Units.{unit_inputs, unit_of}
use Rattle.pt_queue.specs.Events.{waiting_in}
use Rattle.pt_turn.specs.declared.state.fields.Fields.{Fields}
use Rattle.pt_turn.specs.Fields.State.{busy_in, state_of, states_in}

-- the task of a unit's events at t; its number is the number of claims made before
pub record IsTaskOf (g : Graph) (f : Fields) (u : Unit) (t : Tag) (task : Task) : Type 0 where
  pub unit : unit_of g task ≡ u
  pub actor : task.actor ≡ u.actor
  pub tag : task.tag ≡ t
  pub inputs : task.inputs ≡ unit_inputs g (waiting_in f.queue.events) u t
  pub state : task.state ≡ states_in f.states.items u.actor
  pub number : task.number ≡ f.claims

-- nothing changes but the events, the open claims and the number of claims
pub record OthersStay (old new : Fields) : Type 0 where
  pub spare : new.queue.spare ≡ old.queue.spare
  pub groups : new.queue.groups ≡ old.queue.groups
  pub states : new.states ≡ old.states
  pub sensors : new.sensors ≡ old.sensors
  pub outbox : new.outbox ≡ old.outbox
  pub reading : new.reading ≡ old.reading
  pub closed : new.closed ≡ old.closed

-- the first tasks of the greedy list are claimed and appended: all of it, or cut at `most` tasks or at the graph's number of claims
pub record AreClaimed (g : Graph) (r most : ℕ) (old new : Fields) (before after : List Task) : Type 0 where
  pub claimed : List Task
  pub appended : after ≡ before ++ claimed
  pub claims : (taken : List OnLink) → Claims g r (state_of old taken) claimed (state_of new taken)
  pub at_most : length claimed ≤ most
  pub count : new.claims ≡ old.claims + length claimed
  pub open_claims : new.open_claims.spare + length claimed ≡ old.open_claims.spare
  pub in_all : new.claims ≤ g.claims
  pub all_or : NothingSafe g (waiting_in new.queue.events) (busy_in new.open_claims.items) r ⊎ ((most ≤ length claimed) ⊎ (g.claims ≤ new.claims))
