-- Whether the End of each link was taken.
use Rattle.std.specs.Prelude.{◌≡◌, ◌==◌, ◌&&◌, ◌<◌, ℕ, Bool, true, false, List, length, slice_index_or}
use Rattle.std.specs.List.{list_any}
use Rattle.pt_tags.specs.declared.message.Message.{Message}
use Rattle.pt_tags.specs.declared.message.Message.TheVariants.{Event, End}
use Rattle.pt_types.specs.declared.firing.OnLink.{OnLink}

-- a message is End
abbrev pub is_end : Message → Bool
is_end End = true
is_end (Event t v) = false

-- a message is the End of link l
abbrev pub is_end_on : ℕ → OnLink → Bool
is_end_on l m = is_end m.message && m.link == l

-- there is a flag for each of n links: whether its End is among the messages taken
pub record MarksEnds (n : ℕ) (ends : List Bool) (taken : List OnLink) : Type 0 where
  pub len : length ends ≡ n
  pub flags : (l : ℕ) → l < n → slice_index_or ends l false ≡ list_any (is_end_on l) taken
