-- One claim more.
use Rattle.std.proofs.Common.{◌≡◌, ℕ, List, [], ◌∷◌, ◌++◌, length, refl, sym, ap, subst, ◌∙◌}
use Rattle.pt_tags.specs.declared.tag.Tag.{Tag}
use Rattle.pt_types.specs.declared.firing.Task.{Task}
use Rattle.pt_types.specs.declared.graph.Graph.{Graph}
use Rattle.pt_types.specs.declared.graph.Unit.{Unit}
use Rattle.pt_semantics.specs.Units.{unit_inputs, unit_of}
use Rattle.pt_semantics.specs.Platform.{State}
use Rattle.pt_semantics.specs.Safe.{IsSafe}
use Rattle.pt_semantics.specs.Claiming.{IsNext, NoLater, Claims, after_claim}
use Rattle.pt_turn.specs.declared.state.fields.Fields.{Fields}
use Rattle.pt_types.specs.declared.firing.OnLink.{OnLink}
use Rattle.pt_turn.specs.Fields.State.{state_of}
use Rattle.pt_turn.specs.Claims.Claimed.{IsTaskOf, OthersStay}

pub claims_push : (g : Graph) (r : ℕ) (s mid : State) (xs : List Task) (task : Task) → Claims g r s xs mid → IsNext g mid r (unit_of g task) task → Claims g r s (xs ++ task ∷ []) (after_claim g mid (unit_of g task) task)
claims_push g r s mid [] task h n = subst (λ z. IsNext g z r (unit_of g task) task × (after_claim g mid (unit_of g task) task ≡ after_claim g z (unit_of g task) task)) h (n, refl)
claims_push g r s mid (x ∷ xs) task h n = (h.0, claims_push g r (after_claim g s (unit_of g x) x) mid xs task h.1 n)

pub is_next : (g : Graph) (f : Fields) (taken : List OnLink) (r : ℕ) (u : Unit) (tag : Tag) (task : Task) → IsSafe g (state_of f taken).waits (state_of f taken).busy r u tag → ((v : Unit) (w : Tag) → IsSafe g (state_of f taken).waits (state_of f taken).busy r v w → NoLater tag u w v) → IsTaskOf g f u tag task → IsNext g (state_of f taken) r (unit_of g task) task
is_next g f taken r u tag task safe first is =
    subst (λ z. IsNext g (state_of f taken) r z task) (sym is.unit) (record {
      safe = subst (IsSafe g (state_of f taken).waits (state_of f taken).busy r u) (sym is.tag) safe;
      first = λ v w other. subst (λ z. NoLater z u w v) (sym is.tag) (first v w other);
      actor = is.actor;
      inputs = is.inputs ∙ ap (unit_inputs g (state_of f taken).waits u) (sym is.tag);
      state = is.state;
      number = is.number;
    })

-- n tasks were claimed so far
pub record SoFar (g : Graph) (old new : Fields) (r n : ℕ) (before after : List Task) : Type 0 where
  pub claimed : List Task
  pub appended : after ≡ before ++ claimed
  pub claims : (taken : List OnLink) → Claims g r (state_of old taken) claimed (state_of new taken)
  pub len : length claimed ≡ n

-- what stayed twice stays
pub others_on : (a b c : Fields) → OthersStay a b → OthersStay b c → OthersStay a c
others_on a b c h k = record {
  spare = k.spare ∙ h.spare;
  groups = k.groups ∙ h.groups;
  states = k.states ∙ h.states;
  sensors = k.sensors ∙ h.sensors;
  outbox = k.outbox ∙ h.outbox;
  reading = k.reading ∙ h.reading;
  closed = k.closed ∙ h.closed;
}
