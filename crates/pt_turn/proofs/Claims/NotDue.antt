-- Until when no unit is safe.
use Rattle.std.proofs.Common.{◌≡◌, ℕ, ◌+◌, ◌*◌, ◌-◌, ◌^◌, ◌<◌, ◌≤◌, ◌⊎◌, Option, Some, None, ℤ, List, min, sym, subst, inl, inr, ⊎_elim, arith}
use Rattle.pt_tags.specs.declared.tag.Tag.{Tag}
use Rattle.pt_types.specs.declared.firing.Task.{Task}
use Rattle.pt_types.specs.declared.graph.Graph.{Graph}
use Rattle.pt_types.specs.declared.graph.Unit.{Unit}
use Rattle.pt_semantics.specs.Meaning.{Values}
use Rattle.pt_semantics.specs.Offsets.{HasOffset}
use Rattle.pt_semantics.specs.Paced.{paced_by}
use Rattle.pt_semantics.specs.Safe.{IsSafe, NothingSafe}
use Rattle.pt_queue.specs.declared.waiting.Waiting.{Waiting}
use Rattle.pt_queue.specs.Events.{IsFirstWaiting, IsLeastTag, waiting_in}
use Rattle.pt_turn.specs.declared.state.fields.Fields.{Fields}
use Rattle.pt_turn.specs.Fields.State.{NoneSafeBefore}
use Rattle.pt_turn.specs.Claiming.{IsIdle}
use Rattle.pt_turn.specs.Claims.Early.{IsDueAfter, IsDueAt, NoneDueBefore}
use Rattle.pt_turn.proofs.Claims.SafeTags.{bounds_paced, paced_bounds, same_tags}

-- a paced reading of 2 ^ 64 - 1 or more is past each reading below so_far
pub after_due : (g : Graph) (u : Unit) (o : Option ℤ) (t : Tag) (r due n : ℕ) → HasOffset g u o → due ≡ min (2 ^ 64 - 1) (paced_by o t) → n ≤ 2 ^ 64 - 1 → due ≤ r → IsDueAfter g r n u t
after_due g u o t r due n has is fits le not_due q lt at =
    let by : paced_by o t ≤ q = bounds_paced g u o t q has at in
    not_due (paced_bounds g u o t r has (low (2 ^ 64 - 1) (paced_by o t) q due r n is by lt fits le))
  where
    low : (top p q due r n : ℕ) → due ≡ min top p → p ≤ q → q < n → n ≤ top → due ≤ r → p ≤ r
    low top p q due r n is by lt fits le = grind arith

pub before_due : (g : Graph) (u : Unit) (o : Option ℤ) (t : Tag) (r due so_far n : ℕ) → HasOffset g u o → due ≡ min (2 ^ 64 - 1) (paced_by o t) → n ≡ min so_far due → IsDueAfter g r n u t
before_due g u o t r due so_far n has is least not_due q lt at =
    let by : paced_by o t ≤ q = bounds_paced g u o t q has at in
    low (2 ^ 64 - 1) (paced_by o t) q due so_far n is by lt least
  where
    low : (top p q due so_far n : ℕ) → due ≡ min top p → p ≤ q → q < n → n ≡ min so_far due → ⊥
    low top p q due so_far n is by lt least = grind arith

-- of the units whose place is before k, none that isn't due at r is due at a reading below n
abbrev pub NotDueBelow : Graph → Values → ℕ → ℕ → ℕ → Type 0
NotDueBelow g waits r k n = (u : Unit) (t : Tag) → IsLeastTag g waits u (Some t) → 8 * u.actor + u.group < k → IsDueAfter g r n u t

pub below_none : (g : Graph) (waits : Values) (r n : ℕ) → NotDueBelow g waits r 0 n
below_none g waits r n u t least lt = absurd (never (8 * u.actor + u.group) lt)
  where
    never : (k : ℕ) → k < 0 → ⊥
    never k l = omega (arith, l)

same_place : (u v : Unit) → u.group < 8 → v.group < 8 → 8 * u.actor + u.group ≡ 8 * v.actor + v.group → u ≡ v
same_place u v few less is =
    let actor : u.actor ≡ v.actor = omega (arith, few, less, is) in
    let group : u.group ≡ v.group = omega (arith, few, less, is) in
    λ i. record { actor = actor i; group = group i }

-- one unit more
pub below_more : (g : Graph) (waits : Values) (r k n m : ℕ) (w : Waiting) → IsFirstWaiting g waits k (Some w) → NotDueBelow g waits r k n → m ≤ n → IsDueAfter g r m w.unit w.tag → NotDueBelow g waits r (8 * w.unit.actor + w.unit.group + 1) m
below_more g waits r k n m w next below le one u t least less not_due q lt =
    let this = next.2 u t least.0 in
    ⊎_elim
    (λ (l : 8 * u.actor + u.group < k). below u t least l not_due q (omega (arith, lt, le)))
    (λ (from : 8 * w.unit.actor + w.unit.group ≤ 8 * u.actor + u.group).
    let same : u ≡ w.unit = same_place u w.unit this.0 (next.2 w.unit w.tag next.0.0).0 (omega (arith, less, from)) in
    let own : IsLeastTag g waits w.unit (Some t) = subst (λ z. IsLeastTag g waits z (Some t)) same least in
    let tags : t ≡ w.tag = same_tags t w.tag (own.1 w.tag next.0.0) (next.0.1 t own.0) in
    subst (λ z. IsDueAfter g r m z t) (sym same) (subst (IsDueAfter g r m w.unit) (sym tags) one) not_due q lt)
    this.1

-- behind the last unit there is none
pub below_all : (g : Graph) (waits : Values) (r k n : ℕ) → IsFirstWaiting g waits k None → NotDueBelow g waits r k n → NoneDueBefore g waits r n
below_all g waits r k n none below u t least = below u t least (none u t least.0).1

-- a unit that isn't safe at r, but at q, isn't due at r
pub none_safe : (g : Graph) (f : Fields) (r n : ℕ) → IsIdle g f r → NoneDueBefore g (waiting_in f.queue.events) r n → NoneSafeBefore g f n
none_safe g f r n idle before q lt u t safe = before u t (safe.event, safe.least) (λ due. idle u t (record { event = safe.event; least = safe.least; free = safe.free; bounds = due; events = safe.events; claims = safe.claims })) q lt safe.bounds

-- a unit that is safe at a reading is safe at a later one
pub none_safe_up_to : (g : Graph) (f : Fields) (r n : ℕ) → IsIdle g f r → n ≤ r + 1 → NoneSafeBefore g f n
none_safe_up_to g f r n idle le q lt u t safe = idle u t (record { event = safe.event; least = safe.least; free = safe.free; bounds = λ x b path feeds. let due = safe.bounds x b path feeds in omega (arith, due, lt, le); events = safe.events; claims = safe.claims })
