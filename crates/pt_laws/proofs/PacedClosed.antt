-- Paced readings along wires, and at the ends of links.
use Rattle.std.proofs.Common.{◌≡◌, ℕ, ◌+◌, ◌≤◌, List, [], ◌∷◌, ◌++◌, Option, Some, None, ℤ, pos, negsuc, ◌+ℤ◌, ◌-ℤ◌, ◌≤ℤ◌, slice_get, arith, refl, sym, subst}
use Rattle.std.proofs.lemmas.Int.{ints}
use Rattle.pt_tags.specs.declared.tag.Tag.{Tag}
use Rattle.pt_types.specs.declared.graph.Graph.{Graph}
use Rattle.pt_types.specs.declared.graph.Link.{Link}
use Rattle.pt_types.specs.declared.graph.Unit.{Unit}
use Rattle.pt_tags.specs.Tags.{plus}
use Rattle.pt_semantics.specs.Lists.{IsIn}
use Rattle.pt_semantics.specs.Edges.{Edge, wires}
use Rattle.pt_semantics.specs.Units.{source, target, at_input, at_output}
use Rattle.pt_semantics.specs.Ranks.{sum_along}
use Rattle.pt_semantics.specs.Paths.{Goes}
use Rattle.pt_semantics.specs.Bounds.{Feeds, link_bound}
use Rattle.pt_types.specs.declared.kind.Kind.TheVariants.{Send}
use Rattle.pt_types.specs.Lookups.{kind_of}
use Rattle.pt_semantics.specs.Offsets.{IsOffset, IsFeasible, HasOffset}
use Rattle.pt_semantics.specs.Wired.{IsWired}
use Rattle.pt_semantics.specs.Paced.{paced_by, at_least_zero}
use Rattle.pt_semantics.proofs.Longest.{sum_time}
use Rattle.pt_semantics.proofs.Floor.{bound_of_link, receiver_unit}

goes_push : (g : Graph) (x : Unit) (path : List Edge) (e : Edge) → Goes g x path (source g e) → IsIn e (wires g) → Goes g x (path ++ e ∷ []) (target g e)
goes_push g x [] e h m = (m, sym h, refl)
goes_push g x (d ∷ path) e (md, src, rest) m = (md, src, goes_push g (target g d) path e rest m)

pub zero_below : (z w : ℤ) → z ≤ℤ w → at_least_zero z ≤ at_least_zero w
zero_below (pos m) (pos n) h = omega (arith, ints)
zero_below (pos m) (negsuc n) h = absurd (omega (arith, ints))
zero_below (negsuc m) w h = omega arith

pub paced_earlier : (o : Option ℤ) (s t : Tag) → s.time ≤ t.time → paced_by o s ≤ paced_by o t
paced_earlier None s t h = omega arith
paced_earlier (Some o) s t h = zero_below ((pos s.time +ℤ o) +ℤ pos 1) ((pos t.time +ℤ o) +ℤ pos 1) (omega (arith, ints))

-- what reaches a unit with b less d reaches the next with at least that, less the wire's time
pub paced_on : (p q : Option ℤ) (s time : ℕ) → ((o : ℤ) → p ≡ Some o → (r : ℤ) × (q ≡ Some r) × ((pos s +ℤ o) ≤ℤ (pos time +ℤ r))) → (ts tt2 : Tag) → ts.time ≡ s → tt2.time ≡ time → paced_by p ts ≤ paced_by q tt2
paced_on None q s time h ts tt2 es et = omega arith
paced_on (Some o) q s time h ts tt2 es et =
    let w = h o refl in
    let le : (pos s +ℤ o) ≤ℤ (pos time +ℤ w.0) = w.2 in
    subst (λ z. paced_by (Some o) ts ≤ paced_by z tt2) (sym w.1)
    (zero_below ((pos ts.time +ℤ o) +ℤ pos 1) ((pos tt2.time +ℤ w.0) +ℤ pos 1)
    (subst (λ m. ((pos m +ℤ o) +ℤ pos 1) ≤ℤ ((pos tt2.time +ℤ w.0) +ℤ pos 1)) (sym es)
    (subst (λ m. ((pos s +ℤ o) +ℤ pos 1) ≤ℤ ((pos m +ℤ w.0) +ℤ pos 1)) (sym et) (omega (arith, ints)))))

-- an offset that is there, from one that is absent or not
pub there : (g : Graph) (u : Unit) (o : Option ℤ) → HasOffset g u o → (a b : ℕ) (path : List Edge) → Feeds g a b path u → (r : ℤ) × (o ≡ Some r) × ((pos b -ℤ pos (sum_along path).time) ≤ℤ r)
there g u None h a b path feeds = absurd (h a b path feeds)
there g u (Some r) h a b path feeds = (r, refl, h.greatest a b path feeds)

pub from_some : (g : Graph) (u : Unit) (p : Option ℤ) (o : ℤ) → HasOffset g u p → p ≡ Some o → IsOffset g u o
from_some g u None o h e = absurd (none_some_z o e)
  where
    none_some_z : (z : ℤ) → None ≡ Some z → ⊥
    none_some_z z q = cc
from_some g u (Some r) o h e = subst (IsOffset g u) (same_z r o e) h
  where
    same_z : (y z : ℤ) → Some y ≡ Some z → y ≡ z
    same_z y z q = cc

pub along_wire : (g : Graph) (offset : Unit → Option ℤ) → ((u : Unit) → HasOffset g u (offset u)) → (e : Edge) (s : Tag) → IsIn e (wires g) → paced_by (offset (source g e)) s ≤ paced_by (offset (target g e)) (plus s e.weight)
along_wire g offset has e s mem =
    paced_on (offset (source g e)) (offset (target g e)) s.time (s.time + e.weight.time)
    (λ o is.
    let from = from_some g (source g e) (offset (source g e)) o (has (source g e)) is in
    let w = from.some in
    let feeds : Feeds g w.0 w.1 (w.2 ++ e ∷ []) (target g e) = record { bound = w.3.bound; goes = goes_push g (at_output g w.0 0) w.2 e w.3.goes mem } in
    let on = there g (target g e) (offset (target g e)) (has (target g e)) w.0 w.1 (w.2 ++ e ∷ []) feeds in
    let sum : (sum_along (w.2 ++ e ∷ [])).time ≡ (sum_along w.2).time + e.weight.time = sum_time w.2 e in
    (on.0, on.1, step w.1 (sum_along w.2).time (sum_along (w.2 ++ e ∷ [])).time e.weight.time s.time o on.0 w.4 sum on.2))
    s (plus s e.weight) refl refl
  where
    step : (b d d2 w t : ℕ) (o r : ℤ) → (pos b -ℤ pos d) ≡ o → d2 ≡ d + w → (pos b -ℤ pos d2) ≤ℤ r → (pos t +ℤ o) ≤ℤ (pos (t + w) +ℤ r)
    step b d d2 w t o r e1 e2 h = omega (arith, ints)

-- a receiver's paced reading is past its link's bound
pub past_bound : (g : Graph) (offset : Unit → Option ℤ) → IsWired g → ((u : Unit) → HasOffset g u (offset u)) → (l : ℕ) (link : Link) (t : Tag) → slice_get g.links l ≡ Some link → t.time + link_bound g link + 1 ≤ paced_by (offset (at_input g link.to 0)) t
past_bound g offset wired has l link t at =
    let feeds : Feeds g link.to (link_bound g link) [] (at_input g link.to 0) = record { bound = bound_of_link g l link wired at; goes = sym (receiver_unit g link.to 0 (wired.receives l link at)) } in
    let on = there g (at_input g link.to 0) (offset (at_input g link.to 0)) (has (at_input g link.to 0)) link.to (link_bound g link) [] feeds in
    subst (λ z. t.time + link_bound g link + 1 ≤ paced_by z t) (sym on.1) (step t.time (link_bound g link) on.0 on.2)
  where
    step : (time bound : ℕ) (r : ℤ) → (pos bound -ℤ pos 0) ≤ℤ r → time + bound + 1 ≤ at_least_zero ((pos time +ℤ r) +ℤ pos 1)
    step time bound r h = zero_below (pos (time + bound + 1)) ((pos time +ℤ r) +ℤ pos 1) (omega (arith, ints))

-- a sender's paced reading is within its slack
within_slack : (t slack : ℕ) (o : ℤ) → (o +ℤ pos 1) ≤ℤ pos slack → at_least_zero ((pos t +ℤ o) +ℤ pos 1) ≤ t + slack
within_slack t slack o h = zero_below ((pos t +ℤ o) +ℤ pos 1) (pos (t + slack)) (omega (arith, ints))

pub sends_in_time : (g : Graph) (a slack : ℕ) (o : Option ℤ) (t : Tag) → IsFeasible g → kind_of g a ≡ Send slack → HasOffset g (at_output g a 0) o → paced_by o t ≤ t.time + slack
sends_in_time g a slack None t feasible kind has = omega arith
sends_in_time g a slack (Some o) t feasible kind has =
    let w = has.some in
    let enough : w.1 + 1 ≤ slack + (sum_along w.2).time = feasible a slack w.0 w.1 w.2 kind w.3 in
    within_slack t.time slack o (step w.1 (sum_along w.2).time slack o w.4 enough)
  where
    step : (b d slack : ℕ) (o : ℤ) → (pos b -ℤ pos d) ≡ o → b + 1 ≤ slack + d → (o +ℤ pos 1) ≤ℤ pos slack
    step b d slack o e h = omega (arith, ints)
