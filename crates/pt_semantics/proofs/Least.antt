-- What holds over all paths holds at the least delay, and the other way round.
use Rattle.std.proofs.Common.{ℕ, ◌+◌, ◌<◌, ◌≤◌, ◌↔◌, List, Some, None, ℤ, pos, negsuc, ◌+ℤ◌, ◌-ℤ◌, ◌≤ℤ◌, arith, subst}
use Rattle.std.proofs.lemmas.Int.{ints}
use Rattle.pt_tags.specs.declared.tag.Tag.{Tag}
use Rattle.pt_tags.specs.declared.tag.Delay.{Delay}
use Rattle.pt_types.specs.declared.graph.Graph.{Graph}
use Rattle.pt_types.specs.declared.graph.Unit.{Unit}
use Rattle.pt_tags.specs.Tags.{Before, plus, AtMost}
use Rattle.pt_semantics.specs.Edges.{Edge}
use Rattle.pt_semantics.specs.Ranks.{sum_along}
use Rattle.pt_semantics.specs.Paths.{Goes, IsLeast}
use Rattle.pt_semantics.specs.Bounds.{Feeds}
use Rattle.pt_semantics.specs.Paced.{at_least_zero, IsPaced}

later_still : (t w : Tag) (d e : Delay) → Before t (plus w d) → AtMost d e → Before t (plus w e)
later_still t w d e h k = omega arith

-- an event at w is past t by every path where it is past t by the least delay
pub past_least : (g : Graph) (x u : Unit) (d : Delay) (t w : Tag) → IsLeast g x u d → Before t (plus w d) ↔ ((path : List Edge) → Goes g x path u → Before t (plus w (sum_along path)))
past_least g x u d t w least = (
  (λ h path go. later_still t w d (sum_along path) h (least.least path go)),
  (λ h. subst (λ z. Before t (plus w z)) least.along.2 (h least.along.0 least.along.1)),
)

-- a reading is past a bound by every path where it is by the least delay
pub bound_least : (g : Graph) (x u : Unit) (d : Delay) (t b r : ℕ) → IsLeast g x u d → (t + b < r + d.time) ↔ ((path : List Edge) → Goes g x path u → t + b < r + (sum_along path).time)
bound_least g x u d t b r least = (
  (λ h path go. let k : AtMost d (sum_along path) = least.least path go in omega arith),
  (λ h. subst (λ (z : Delay). t + b < r + z.time) least.along.2 (h least.along.0 least.along.1)),
)

at_most : (z : ℤ) (c : ℕ) → at_least_zero z ≤ c → z ≤ℤ pos c
at_most (pos n) c h = omega (arith, ints)
at_most (negsuc n) c h = omega (arith, ints)

offset_meets : (t b c d : ℕ) (o : ℤ) → (pos b -ℤ pos d) ≤ℤ o → at_least_zero ((pos t +ℤ o) +ℤ pos 1) ≤ c → t + b < c + d
offset_meets t b c d o h k = let z : ((pos t +ℤ o) +ℤ pos 1) ≤ℤ pos c = at_most ((pos t +ℤ o) +ℤ pos 1) c k in omega (arith, ints)

-- the paced reading is the least reading at which no row and no message can still come
pub paced_meets : (g : Graph) (u : Unit) (t : Tag) (c r : ℕ) → IsPaced g u t c → c ≤ r → (a b : ℕ) (path : List Edge) → Feeds g a b path u → t.time + b < r + (sum_along path).time
paced_meets g u t c r (None, none, e) le a b path feeds = absurd (none a b path feeds)
paced_meets g u t c r (Some o, is, e) le a b path feeds = offset_meets t.time b r (sum_along path).time o (is.greatest a b path feeds) (subst (λ n. n ≤ r) e le)
