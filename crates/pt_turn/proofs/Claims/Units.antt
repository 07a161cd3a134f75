-- The paced reading of a unit.
use Rattle.std.proofs.Common.{◌≡◌, ℕ, ◌≤◌, List, [], ◌∷◌, length, Option, Some, None, ℤ, min, refl, subst, arith}
use Rattle.pt_tags.specs.declared.tag.Tag.{Tag}
use Rattle.pt_types.specs.declared.firing.Task.{Task}
use Rattle.pt_types.specs.declared.graph.Graph.{Graph}
use Rattle.pt_types.specs.declared.graph.Unit.{Unit}
use Rattle.pt_semantics.specs.Meaning.{Values}
use Rattle.pt_semantics.specs.Offsets.{HasOffset}
use Rattle.pt_semantics.specs.Paced.{paced_by}
use Rattle.pt_semantics.proofs.Least.{paced_meets}
use Rattle.pt_queue.specs.Events.{IsLeastTag}
use Rattle.pt_turn.specs.declared.state.fields.OpenClaim.{OpenClaim}
use Rattle.pt_turn.specs.Fields.State.{busy_in}
use Rattle.pt_turn.proofs.Claims.SafeTags.{same_tags, bounds_paced}
use Rattle.pt_turn.specs.Claims.Least.{AtOrIn, IsLeastAmong}
use Rattle.pt_turn.specs.Claims.Next.{IsPacedNext}
use Rattle.pt_turn.proofs.Claims.Least.{least_one}

-- without open claims no unit has one
pub none_busy : (claims : List OpenClaim) (u : Unit) → length claims ≡ 0 → busy_in claims u ≡ None
none_busy [] u none = refl
none_busy (claim ∷ claims) u none = absurd (omega (arith, none))

-- a unit has no open claim, and t is the least tag of its events
pub paced_one : (g : Graph) (waits : Values) (busy : Unit → Option Task) (u : Unit) (t : Tag) (o : Option ℤ) (b r : ℕ) → busy u ≡ None → IsLeastTag g waits u (Some t) → HasOffset g u o → r ≡ min b (paced_by o t) → IsLeastAmong (AtOrIn b (IsPacedNext g waits busy u)) r
paced_one g waits busy u t o b r free least has is =
    least_one (IsPacedNext g waits busy u) b (paced_by o t) r is (t, least.0, least.1, free, (o, has, refl))
    (λ d h.
    let same : h.0 ≡ t = same_tags h.0 t (h.2 t least.0) (least.1 h.0 h.1) in
    subst (λ z. paced_by o z ≤ d) same (bounds_paced g u o h.0 d has (paced_meets g u h.0 d d h.4 (omega arith))))
