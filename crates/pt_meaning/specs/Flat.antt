-- The values of firings, stored one after another, each with its cell number.
use Rattle.std.specs.Prelude.{◌≡◌, ◌<◌, ◌+◌, ◌++◌, ℕ, List, [], ◌∷◌, Option, None, Some, ℤ, pos, unwrap_or, slice_index_or, slice_set, length, take, drop, if◌then◌else◌}
use Rattle.std.specs.Ordering.{int_eq}
use Rattle.pt_tags.specs.declared.tag.Tag.{Tag}
use Rattle.pt_types.specs.declared.firing.ActorFiring.{ActorFiring}

-- a state as a cell: None for 0
abbrev pub state_cell : ℤ → Option ℤ
state_cell q = if int_eq q (pos 0) then None else Some q

-- the cells of a firing: its inputs, its outputs, and its states before and after
abbrev pub cells_of_firing : ActorFiring → List (Option ℤ)
cells_of_firing x = x.inputs ++ (x.outputs ++ (state_cell x.before ∷ state_cell x.after ∷ []))

-- the 18 cells of a firing, without values
abbrev pub empty_cells : List (Option ℤ)
empty_cells = None ∷ None ∷ None ∷ None ∷ None ∷ None ∷ None ∷ None ∷ None ∷ None ∷ None ∷ None ∷ None ∷ None ∷ None ∷ None ∷ None ∷ None ∷ []

-- the firing with these cells
abbrev pub firing_from : ℕ → Tag → List (Option ℤ) → ActorFiring
firing_from actor tag cells = record {
  actor = actor;
  tag = tag;
  inputs = take 8 cells;
  before = unwrap_or (slice_index_or cells 16 None) (pos 0);
  after = unwrap_or (slice_index_or cells 17 None) (pos 0);
  outputs = take 8 (drop 8 cells);
}

-- the numbers of the cells that have a value; the first cell has number k
abbrev pub cell_numbers_from : ℕ → List (Option ℤ) → List ℕ
cell_numbers_from k [] = []
cell_numbers_from k (None ∷ cells) = cell_numbers_from (k + 1) cells
cell_numbers_from k (Some v ∷ cells) = k ∷ cell_numbers_from (k + 1) cells

-- the values of the cells that have one
abbrev pub cell_values : List (Option ℤ) → List ℤ
cell_values [] = []
cell_values (None ∷ cells) = cell_values cells
cell_values (Some v ∷ cells) = v ∷ cell_values cells

-- the cells, after these values are written at these cell numbers
abbrev pub with_cells : List (Option ℤ) → List ℕ → List ℤ → List (Option ℤ)
with_cells cells [] values = cells
with_cells cells (p ∷ places) [] = cells
with_cells cells (p ∷ places) (v ∷ values) = with_cells (slice_set cells p (Some v)) places values

-- the default past the end of a list of tags
abbrev pub no_tag : Tag
no_tag = record { time = 0; step = 0 }

-- the new tags are the old ones and more, and the tag is the one at index `moment`
pub record StandsAt (moment : ℕ) (tag : Tag) (old new : List Tag) : Type 0 where
  pub more : List Tag
  pub grows : new ≡ old ++ more
  pub within : moment < length new
  pub is : slice_index_or new moment no_tag ≡ tag
