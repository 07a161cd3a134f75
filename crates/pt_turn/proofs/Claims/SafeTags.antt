-- When a unit is safe, by the tests of the program.
use Rattle.std.proofs.Common.{◌≡◌, ℕ, ◌+◌, ◌<◌, ◌≤◌, ◌↔◌, ◌||◌, Bool, true, false, List, [], ◌∷◌, Option, Some, None, ℤ, pos, negsuc, ◌+ℤ◌, ◌-ℤ◌, ◌≤ℤ◌, is_some, refl, sym, ap, subst, ◌∙◌, inl, inr, ⊎_elim, arith}
use Rattle.std.specs.List.{list_any}
use Rattle.std.proofs.lemmas.Bool.{false≢true}
use Rattle.std.proofs.lemmas.Int.{ints}
use Rattle.pt_tags.specs.declared.tag.Tag.{Tag}
use Rattle.pt_tags.specs.declared.tag.Delay.{Delay}
use Rattle.pt_tags.specs.Tags.{UpTo, Before, plus}
use Rattle.pt_types.specs.declared.firing.Task.{Task}
use Rattle.pt_types.specs.declared.graph.Graph.{Graph}
use Rattle.pt_types.specs.declared.graph.Unit.{Unit}
use Rattle.pt_types.specs.Ports.{when}
use Rattle.pt_semantics.specs.Lists.{IsIn, Each}
use Rattle.pt_semantics.specs.Edges.{Edge}
use Rattle.pt_semantics.specs.Meaning.{Values}
use Rattle.pt_semantics.specs.Bounds.{Feeds}
use Rattle.pt_semantics.specs.Paths.{Goes}
use Rattle.pt_semantics.specs.Ranks.{sum_along}
use Rattle.pt_semantics.specs.Offsets.{HasOffset}
use Rattle.pt_semantics.specs.Paced.{paced_by, at_least_zero}
use Rattle.pt_semantics.specs.Safe.{IsSafe}
use Rattle.pt_semantics.specs.Units.{same_part}
use Rattle.pt_semantics.proofs.Lookups.{same_some, when_found, first_of_found, same_part-true, Each-in}
use Rattle.pt_semantics.proofs.Least.{paced_meets}
use Rattle.pt_causality.specs.Delays.{AreLeast, IsUnit}
use Rattle.pt_queue.specs.Events.{IsLeastTag}
use Rattle.pt_queue.proofs.Found.{reach_past, past_reach}
use Rattle.pt_turn.specs.declared.state.fields.OpenClaim.{OpenClaim}
use Rattle.pt_turn.specs.Fields.State.{busy_in, IsOpen}
use Rattle.pt_turn.specs.Claims.Safe.{may_lead_to}

pub not_some : {X : Type 0} (x : Option X) → is_some x ≡ false → x ≡ None
not_some None h = refl
not_some (Some x) h = absurd (false≢true (sym h))

pub same_tags : (t u : Tag) → UpTo t u → UpTo u t → t ≡ u
same_tags t u a b = let time : t.time ≡ u.time = omega arith in let step : t.step ≡ u.step = omega arith in λ i. record { time = time i; step = step i }

-- a safe unit is safe at its least tag
pub only_tag : (g : Graph) (waits : Values) (busy : Unit → Option Task) (r : ℕ) (u : Unit) (t tag : Tag) → IsSafe g waits busy r u t → IsLeastTag g waits u (Some tag) → t ≡ tag
only_tag g waits busy r u t tag safe least = same_tags t tag (safe.least tag least.0) (least.1 t safe.event)

below : (z : ℤ) (r : ℕ) → z ≤ℤ pos r → at_least_zero z ≤ r
below (pos n) r h = omega (arith, ints)
below (negsuc n) r h = omega arith

meets_offset : (t b r d : ℕ) (o : ℤ) → (pos b -ℤ pos d) ≡ o → t + b < r + d → at_least_zero ((pos t +ℤ o) +ℤ pos 1) ≤ r
meets_offset t b r d o h k = below ((pos t +ℤ o) +ℤ pos 1) r (omega (arith, ints, h))

-- the bounds of safety are the paced reading
pub bounds_paced : (g : Graph) (u : Unit) (o : Option ℤ) (t : Tag) (r : ℕ) → HasOffset g u o → ((x b : ℕ) (path : List Edge) → Feeds g x b path u → t.time + b < r + (sum_along path).time) → paced_by o t ≤ r
bounds_paced g u None t r has h = omega arith
bounds_paced g u (Some o) t r has h = meets_offset t.time has.some.1 r (sum_along has.some.2).time o has.some.4 (h has.some.0 has.some.1 has.some.2 has.some.3)

pub paced_bounds : (g : Graph) (u : Unit) (o : Option ℤ) (t : Tag) (r : ℕ) → HasOffset g u o → paced_by o t ≤ r → (x b : ℕ) (path : List Edge) → Feeds g x b path u → t.time + b < r + (sum_along path).time
paced_bounds g u o t r has le = paced_meets g u t (paced_by o t) r (o, has, refl) le

-- open claims

either_false : (b c : Bool) → (b || c) ≡ false → (b ≡ false) × (c ≡ false)
either_false true c h = absurd (false≢true (sym h))
either_false false c h = (refl, h)

none_passes : (test : OpenClaim → Bool) (xs : List OpenClaim) → list_any test xs ≡ false → (e : OpenClaim) → IsIn e xs → test e ≡ false
none_passes test [] h e mem = absurd mem
none_passes test (x ∷ xs) h e mem =
    let parts = either_false (test x) (list_any test xs) h in
    ⊎_elim (λ (same : e ≡ x). ap test same ∙ parts.0) (λ (rest : IsIn e xs). none_passes test xs parts.1 e rest) mem

all_fail : (test : OpenClaim → Bool) (xs : List OpenClaim) → ((e : OpenClaim) → IsIn e xs → test e ≡ false) → list_any test xs ≡ false
all_fail test [] h = refl
all_fail test (x ∷ xs) h = ap (λ b. b || list_any test xs) (h x (inl refl)) ∙ all_fail test xs (λ e m. h e (inr m))

-- no open claim leads to a unit at a tag or before exactly where the test of none holds
pub open_clear : (g : Graph) (least : Unit → Unit → Option Delay) (claims : List OpenClaim) (u : Unit) (t : Tag) → AreLeast g least → IsUnit g u → Each (IsOpen g claims) claims → (list_any (may_lead_to least u t) claims ≡ false) ↔ ((x : Unit) (task : Task) (path : List Edge) → busy_in claims x ≡ Some task → Goes g x path u → Before t (plus task.tag (sum_along path)))
open_clear g least claims u t is unit sound = (
  (λ h x task path busy go.
      let f = first_of_found (λ (c : OpenClaim). when (same_part c.unit x) (Some c.task)) claims task busy in
      let w = when_found (same_part f.0.unit x) (Some f.0.task) task f.2 in
      let here : f.0.unit ≡ x = same_part-true f.0.unit x w.0 in
      let task_is : f.0.task ≡ task = same_some f.0.task task w.1 in
      let was : IsOpen g claims f.0 = Each-in (IsOpen g claims) claims sound f.0 f.1 in
      let far = reach_past g f.0.unit u (least f.0.unit u) t f.0.task.tag (is f.0.unit u was.is_unit unit) (none_passes (may_lead_to least u t) claims h f.0 f.1) in
      subst (λ (z : Task). Before t (plus z.tag (sum_along path))) task_is (far path (subst (λ z. Goes g z path u) (sym here) go))),
  (λ clear. all_fail (may_lead_to least u t) claims (λ c mem.
      let was : IsOpen g claims c = Each-in (IsOpen g claims) claims sound c mem in
      past_reach g c.unit u (least c.unit u) t c.task.tag (is c.unit u was.is_unit unit) (λ path go. clear c.unit c.task path was.found go))),
)
