-- More events than some firings can take.
use Rattle.std.specs.Prelude.{◌≡◌, ◌<◌, ◌*◌, ℕ, List, [], ◌∷◌, Option, ℤ, IsSome, length}
use Rattle.std.specs.declared.cmp.Ordering.TheVariants.{Less}
use Rattle.pt_semantics.specs.Lists.{Each}
use Rattle.pt_meaning.specs.declared.place.EventPlace.{EventPlace}
use Rattle.pt_meaning.specs.Waiting.{place_cmp}

-- each place is before those after it
abbrev pub PlacesRise : List EventPlace → Type 0
PlacesRise [] = Unit {0}
PlacesRise (x ∷ places) = Each (λ (y : EventPlace). place_cmp x y ≡ Less) places × PlacesRise places

-- more than eight times that many events wait, each at a place of its own; a firing takes eight at most
pub record IsCrowded (held : EventPlace → Option ℤ) (firings : ℕ) : Type 0 where
  pub places : List EventPlace
  pub rising : PlacesRise places
  pub there : Each (λ (x : EventPlace). IsSome (held x)) places
  pub many : 8 * firings < length places
