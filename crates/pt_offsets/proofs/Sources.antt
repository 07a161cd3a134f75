-- The greatest of the offsets by all sources is the offset of a unit.
use Rattle.std.proofs.Common.{◌≡◌, ℕ, ℤ, pos, ◌<◌, ◌≤◌, ◌^◌, ◌≤ℤ◌, ◌-ℤ◌, neg_ℤ, IfSome, List, [], ◌∷◌, length, Option, Some, None, refl, sym, ap, ap₂, subst, ◌∙◌, arith}
use Rattle.std.proofs.lemmas.Int.{ints}
use Rattle.pt_tags.specs.declared.tag.Delay.{Delay}
use Rattle.pt_tags.specs.Tags.{AtMost}
use Rattle.pt_types.specs.declared.graph.Graph.{Graph}
use Rattle.pt_types.specs.declared.graph.Unit.{Unit}
use Rattle.pt_types.specs.declared.kind.Kind.{Kind}
use Rattle.pt_types.specs.declared.kind.Kind.TheVariants.{Lanes}
use Rattle.pt_types.specs.Lawful.{IsLawful}
use Rattle.pt_semantics.specs.Bounds.{Feeds}
use Rattle.pt_semantics.specs.Edges.{Edge, links, wires}
use Rattle.pt_types.specs.Lookups.{kind_of}
use Rattle.pt_semantics.specs.Offsets.{HasOffset, IsOffset}
use Rattle.pt_semantics.specs.Paths.{Goes, IsLeast}
use Rattle.pt_semantics.specs.Ranks.{sum_along}
use Rattle.pt_semantics.specs.Units.{at_output, target}
use Rattle.pt_types.specs.Groups.{output_group}
use Rattle.pt_semantics.specs.Wired.{IsWired}
use Rattle.pt_semantics.proofs.Lookups.{IsIn-append_left, none_some, same_some}
use Rattle.pt_types.proofs.LawfulActors.{any_kind}
use Rattle.pt_semantics.proofs.LawfulEdges.{wired}
use Rattle.pt_causality.specs.Delays.{AreLeast, AreSmall, HasLeast, IsUnit}
use Rattle.pt_offsets.specs.Bounded.{AreBounds, AreModest, bound_at, offset_by, offset_from}
use Rattle.pt_offsets.specs.Greatest.{HasGreatest, IsGreatest}
use Rattle.pt_offsets.specs.Margins.{unit_at}
use Rattle.pt_offsets.proofs.Small.{bound_below, some_group}

-- the first output of an actor is that of its first unit
first_group : (k : Kind) → output_group k 0 ≡ 0
first_group (Lanes cells) = refl
first_group _ = refl

pub first_unit : (g : Graph) (a : ℕ) → unit_at a 0 ≡ at_output g a 0
first_unit g a = ap (unit_at a) (sym (first_group (kind_of g a)))

first_is_unit : (g : Graph) (a : ℕ) → IsLawful g → a < length g.actors → IsUnit g (unit_at a 0)
first_is_unit g a lawful less = (less, some_group (kind_of g a) (any_kind g a lawful))

-- a path leads from a unit to a unit
to_unit : (g : Graph) (x : Unit) (path : List Edge) (a : Unit) → IsWired g → Goes g x path a → IsUnit g x → IsUnit g a
to_unit g x [] a wired goes unit = subst (IsUnit g) goes unit
to_unit g x (e ∷ path) a wired goes unit =
    let in_edges = IsIn-append_left e (wires g) (links g) goes.0 in
    to_unit g (target g e) path a wired goes.2 ((wired.ends e in_edges).1, wired.in_unit e in_edges)

-- what a source leads to is a unit
pub fed_unit : (g : Graph) (s b : ℕ) (path : List Edge) (u : Unit) → IsLawful g → Feeds g s b path u → IsUnit g u
fed_unit g s b path u lawful feeds =
    to_unit g (at_output g s 0) path u (wired g lawful) feeds.goes
    (subst (IsUnit g) (first_unit g s) (first_is_unit g s lawful (bound_below g s b lawful feeds.bound)))

-- what is no unit has no offset
pub no_offset : (g : Graph) (u : Unit) → IsLawful g → (IsUnit g u → ⊥) → HasOffset g u None
no_offset g u lawful outside s b path feeds = outside (fed_unit g s b path u lawful feeds)

pub offset_is_unit : (g : Graph) (u : Unit) (o : ℤ) → IsLawful g → IsOffset g u o → IsUnit g u
offset_is_unit g u o lawful is = fed_unit g is.some.0 is.some.1 is.some.2 u lawful is.some.3

-- a least delay that is there
pub record Reaches (g : Graph) (path : List Edge) (found : Option Delay) : Type 0 where
  pub delay : Delay
  pub there : found ≡ Some delay
  pub no_later : AtMost delay (sum_along path)

reaches : (g : Graph) (x a : Unit) (path : List Edge) (found : Option Delay) → HasLeast g x a found → Goes g x path a → Reaches g path found
reaches g x a path None has goes = absurd (has path goes)
reaches g x a path (Some d) has goes = record { delay = d; there = refl; no_later = has.least path goes }

-- an offset by a source has a bound and a delay
pub record Comes (bound : Option ℕ) (found : Option Delay) (o : ℤ) : Type 0 where
  pub number : ℕ
  pub delay : Delay
  pub bound_is : bound ≡ Some number
  pub delay_is : found ≡ Some delay
  pub offset_is : pos number -ℤ pos delay.time ≡ o

comes : (bound : Option ℕ) (found : Option Delay) (o : ℤ) → offset_by bound found ≡ Some o → Comes bound found o
comes None found o e = absurd (none_some o e)
comes (Some b) None o e = absurd (none_some o e)
comes (Some b) (Some d) o e = record { number = b; delay = d; bound_is = refl; delay_is = refl; offset_is = same_some (pos b -ℤ pos d.time) o e }

less_taken : (b t d : ℕ) (o : ℤ) → d ≤ t → (pos b -ℤ pos d) ≤ℤ o → (pos b -ℤ pos t) ≤ℤ o
less_taken b t d o h k = omega (arith, ints)

module _ (g : Graph) (bounds : List (Option ℕ)) (least : Unit → Unit → Option Delay) (u : Unit) (lawful : IsLawful g) (are : AreBounds g bounds) (all : AreLeast g least) (unit : IsUnit g u) where
  record Given (s b : ℕ) (path : List Edge) : Type 0 where
    delay : Delay
    below : s < length bounds
    there : offset_from bounds least u s ≡ Some (pos b -ℤ pos delay.time)
    no_later : delay.time ≤ (sum_along path).time

  -- what feeds the unit gives an offset
  given : (s b : ℕ) (path : List Edge) → Feeds g s b path u → Given s b path
  given s b path feeds =
      let less : s < length g.actors = bound_below g s b lawful feeds.bound in
      let goes : Goes g (unit_at s 0) path u = subst (λ (x : Unit). Goes g x path u) (sym (first_unit g s)) feeds.goes in
      let there = reaches g (unit_at s 0) u path (least (unit_at s 0) u) (all (unit_at s 0) u (first_is_unit g s lawful less) unit) goes in
      let len : length bounds ≡ length g.actors = are.len in
      record {
        delay = there.delay;
        below = omega arith;
        there = ap₂ offset_by (are.each s ∙ feeds.bound) there.there;
        no_later = there.no_later.0;
      }

  none : HasGreatest (length bounds) (offset_from bounds least u) None → HasOffset g u None
  none has s b path feeds =
      let one = given s b path feeds in
      none_some (pos b -ℤ pos one.delay.time) (sym (has s one.below) ∙ one.there)

  some_source : (k : ℕ) (o : ℤ) → k < length bounds → Comes (bound_at bounds k) (least (unit_at k 0) u) o → (s b : ℕ) × (path : List Edge) × Feeds g s b path u × (pos b -ℤ pos (sum_along path).time ≡ o)
  some_source k o less one =
      let len : length bounds ≡ length g.actors = are.len in
      let is : IsLeast g (unit_at k 0) u one.delay = subst (HasLeast g (unit_at k 0) u) one.delay_is (all (unit_at k 0) u (first_is_unit g k lawful (omega arith)) unit) in (
        k,
        one.number,
        is.along.0,
        record { bound = sym (are.each k) ∙ one.bound_is; goes = subst (λ (x : Unit). Goes g x is.along.0 u) (first_unit g k) is.along.1 },
        ap (λ (d : Delay). pos one.number -ℤ pos d.time) is.along.2 ∙ one.offset_is,
      )

  some : (o : ℤ) → IsGreatest (length bounds) (offset_from bounds least u) o → IsOffset g u o
  some o has = record {
    some = some_source has.at o has.below (comes (bound_at bounds has.at) (least (unit_at has.at 0) u) o has.there);
    greatest = λ s b path feeds.
        let one = given s b path feeds in
        less_taken b (sum_along path).time one.delay.time o one.no_later (has.greatest s (pos b -ℤ pos one.delay.time) one.below one.there);
  }

  -- the greatest of the offsets by all sources is the unit's
  pub has_offset : (o : Option ℤ) → HasGreatest (length bounds) (offset_from bounds least u) o → HasOffset g u o
  has_offset None has = none has
  has_offset (Some o) has = some o has

difference_small : (b d : ℕ) (o : ℤ) → b < 2 ^ 62 → d < 2 ^ 62 → pos b -ℤ pos d ≡ o → (neg_ℤ (pos (2 ^ 62)) ≤ℤ o) × (o ≤ℤ pos (2 ^ 62))
difference_small b d o h k e = (omega (arith, ints), omega (arith, ints))

some_small : (found : Option Delay) (d : Delay) → IfSome found (λ (x : Delay). (x.time < 2 ^ 62) × (x.step < 2 ^ 62)) → found ≡ Some d → d.time < 2 ^ 62
some_small found d small is =
    let both : (d.time < 2 ^ 62) × (d.step < 2 ^ 62) = subst (λ o. IfSome o (λ (x : Delay). (x.time < 2 ^ 62) × (x.step < 2 ^ 62))) is small in
    both.0

-- an offset that is there is small
pub small_offset : (bounds : List (Option ℕ)) (least : Unit → Unit → Option Delay) (u : Unit) (o : ℤ) → AreModest bounds → AreSmall least → IsGreatest (length bounds) (offset_from bounds least u) o → (neg_ℤ (pos (2 ^ 62)) ≤ℤ o) × (o ≤ℤ pos (2 ^ 62))
small_offset bounds least u o modest small has =
    let one = comes (bound_at bounds has.at) (least (unit_at has.at 0) u) o has.there in
    difference_small one.number one.delay.time o (modest has.at one.number one.bound_is) (some_small (least (unit_at has.at 0) u) one.delay (small (unit_at has.at 0) u) one.delay_is) one.offset_is
