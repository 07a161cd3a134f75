-- A list of firings, seen from its marks, tags, cell numbers and values.
use Rattle.std.specs.Prelude.{◌≡◌, ◌<◌, ◌≤◌, ◌-◌, ℕ, zero, suc, List, [], ◌∷◌, ℤ, slice_index_or, length, take, drop}
use Rattle.pt_tags.specs.declared.tag.Tag.{Tag}
use Rattle.pt_types.specs.declared.firing.ActorFiring.{ActorFiring}
use Rattle.pt_meaning.specs.declared.firings.FiringEntry.{FiringEntry}
use Rattle.pt_meaning.specs.Flat.{with_cells, firing_from, empty_cells, no_tag}

-- the firing of a mark whose values begin at index `start`
abbrev pub firing_of_mark : List Tag → List ℕ → List ℤ → ℕ → FiringEntry → ActorFiring
firing_of_mark tags places values start m =
    firing_from m.actor (slice_index_or tags m.moment no_tag) (with_cells empty_cells (take (m.end - start) (drop start places)) (take (m.end - start) (drop start values)))

-- the firings of marks: the values of the first begin at `start`, and those of each other where the ones before it end
abbrev pub firings_from : List Tag → List ℕ → List ℤ → ℕ → List FiringEntry → List ActorFiring
firings_from tags places values start [] = []
firings_from tags places values start (m ∷ marks) = firing_of_mark tags places values start m ∷ firings_from tags places values m.end marks

-- the index at which the values of firing `i` begin
abbrev pub values_start_at : ℕ → List FiringEntry → ℕ → ℕ
values_start_at start marks zero = start
values_start_at start [] (suc i) = 0
values_start_at start (m ∷ marks) (suc i) = values_start_at m.end marks i

-- the index at which all values end
abbrev pub end_from : ℕ → List FiringEntry → ℕ
end_from start [] = start
end_from start (m ∷ marks) = end_from m.end marks

-- the tag of each mark exists, and its values do not end past n
abbrev pub MarksAreWithin : ℕ → ℕ → List FiringEntry → Type 0
MarksAreWithin tags n [] = Unit {0}
MarksAreWithin tags n (m ∷ marks) = (m.moment < tags) × (m.end ≤ n) × MarksAreWithin tags n marks

-- marks, tags, cell numbers and values fit together: each mark is within them, and no value is left over
pub record MarksFit (tags : List Tag) (places : List ℕ) (values : List ℤ) (marks : List FiringEntry) : Type 0 where
  pub within : MarksAreWithin (length tags) (length places) marks
  pub same : length places ≡ length values
  pub last : end_from 0 marks ≡ length places
