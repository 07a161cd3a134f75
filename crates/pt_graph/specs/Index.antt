-- A map from names to numbers, and a set of inputs, as functions.
use Rattle.std.specs.Prelude.{◌≡◌, ℕ, ◌&&◌, [], List, Option, Some, None, Bool, Result, Ok, Err}
use Rattle.std.specs.Bool.{nat_eq}
use Rattle.std.specs.Ordering.{nat_cmp}
use Rattle.std.specs.Cmp.Lexicographic.{slice_cmp}
use Rattle.std.specs.BTreeMap.{BTreeMap, get_by}
use Rattle.std.specs.HashSet as set
use denote.Ref.{Bor}
use Rattle.pt_types.specs.declared.graph.Wire.{Wire}
use Rattle.pt_types.specs.Ends.{is_fed, fed_twice_from}
use Rattle.pt_graph.specs.declared.index.Twice.{Twice}
use Rattle.pt_graph.specs.declared.index.Twice.TheVariants as twice

-- the number that a map has for a name
abbrev pub at_name : BTreeMap (Bor (List ℕ)) ℕ → List ℕ → Option ℕ
at_name m n = get_by (λ k. slice_cmp nat_cmp n k.now) m

-- an input of an actor is in the set
abbrev pub has_input : {S : Type 0} → set.HashSet (ℕ × ℕ) S → ℕ → ℕ → Bool
has_input s actor input = set.contains_by (λ k. nat_eq actor k.0 && nat_eq input k.1) s

-- the set has exactly the inputs to which wires lead, and no two wires lead to one input
pub record HasFed {S : Type 0} (wires : List Wire) (s : set.HashSet (ℕ × ℕ) S) : Type 0 where
  pub once : fed_twice_from [] 0 wires ≡ None
  pub fed : has_input s ≡ is_fed wires

abbrev pub FeedsTwice : List Wire → Twice → Type 0
FeedsTwice wires twice.Memory = Unit {0}
FeedsTwice wires (twice.At i) = fed_twice_from [] 0 wires ≡ Some i

abbrev pub IsFeedIndex : {S : Type 0} → List Wire → Result (set.HashSet (ℕ × ℕ) S) Twice → Type 0
IsFeedIndex wires (Ok s) = HasFed wires s
IsFeedIndex wires (Err t) = FeedsTwice wires t
