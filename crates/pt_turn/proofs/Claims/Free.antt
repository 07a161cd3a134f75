-- Units to which nothing leads.
use Rattle.std.proofs.Common.{◌≡◌, ℕ, ◌+◌, ◌<◌, ◌==◌, Bool, true, false, not, List, [], ◌∷◌, Some, None, length, eqb-true, refl, sym, ap, ◌∙◌, arith}
use Rattle.std.proofs.lemmas.Bool.{false≢true}
use Rattle.pt_tags.specs.declared.tag.Tag.{Tag}
use Rattle.pt_types.specs.declared.graph.Graph.{Graph}
use Rattle.pt_types.specs.declared.graph.Unit.{Unit}
use Rattle.pt_semantics.specs.Edges.{Edge}
use Rattle.pt_semantics.specs.Bounds.{Feeds}
use Rattle.pt_semantics.specs.Meaning.{Values}
use Rattle.pt_semantics.specs.Ranks.{sum_along}
use Rattle.pt_semantics.specs.Safe.{IsSafe}
use Rattle.pt_semantics.proofs.Lookups.{none_some}
use Rattle.pt_queue.specs.Events.{IsClear, IsLeastTag, IsOnlyUnit}
use Rattle.pt_turn.specs.declared.state.fields.OpenClaim.{OpenClaim}
use Rattle.pt_turn.specs.Fields.State.{busy_in}

pub not_true : (b : Bool) → not b ≡ true → b ≡ false
not_true true h = absurd (false≢true h)
not_true false h = refl

pub no_claims : (xs : List OpenClaim) → (length xs == 0) ≡ true → xs ≡ []
no_claims [] h = refl
no_claims (x ∷ xs) h = let none : length (x ∷ xs) ≡ 0 = eqb-true (length (x ∷ xs)) 0 h in absurd (omega (arith, none))

-- nothing leads to the only unit that has events
pub only_clear : (g : Graph) (waits : Values) (u : Unit) (t : Tag) → IsOnlyUnit g waits u → IsClear g waits u t
only_clear g waits u t only x w path differ other go = absurd (differ (only x w other))

-- without open claims a unit that is due is safe where no event leads to it
pub free_alone : (g : Graph) (waits : Values) (claims : List OpenClaim) (r : ℕ) (u : Unit) (t : Tag) → claims ≡ [] → IsLeastTag g waits u (Some t) → ((x b : ℕ) (path : List Edge) → Feeds g x b path u → t.time + b < r + (sum_along path).time)
    → IsClear g waits u t → IsSafe g waits (busy_in claims) r u t
free_alone g waits claims r u t none least due clear = record {
  event = least.0;
  least = least.1;
  free = idle u;
  bounds = due;
  events = clear;
  claims = λ x task path busy go. absurd (none_some task (sym (idle x) ∙ busy));
}
  where
    idle : (x : Unit) → busy_in claims x ≡ None
    idle x = ap (λ (cs : List OpenClaim). busy_in cs x) none
