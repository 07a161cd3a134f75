-- The units from which a path leads to a unit, as bits: eight for each actor, 64 in a word.
use Rattle.std.specs.Prelude.{◌≡◌, ℕ, ◌+◌, ◌*◌, ◌/◌, ◌%◌, ◌<◌, true, List, [], Option, length, slice_index_or}
use Rattle.std.specs.Int.{bit_at}
use Rattle.std.specs.Option.{is_some}
use Rattle.pt_tags.specs.declared.tag.Delay.{Delay}
use Rattle.pt_types.specs.declared.graph.Unit.{Unit}
use Rattle.pt_causality.specs.Cells.{delay_at, number_in, delay_row_at}

-- bit n of these words
abbrev pub bit_of : List ℕ → ℕ → ℕ
bit_of words n = bit_at (slice_index_or words (n / 64) 0) (n % 64)

-- the unit may be among these: its bit is set, or it has none
abbrev pub MayHave : List ℕ → Unit → Type 0
MayHave words x = x.group < 8 → 8 * x.actor + x.group < 64 * length words → bit_of words (8 * x.actor + x.group) ≡ 1

-- the words at a place
abbrev pub words_at : List (List ℕ) → ℕ → List ℕ
words_at lists k = slice_index_or lists k []

-- x may be in the list of each place at which this row has a delay
abbrev pub MayBeListed : List (Option Delay) → List (List ℕ) → Unit → Type 0
MayBeListed row lists x = (k : ℕ) → is_some (delay_at row k) ≡ true → MayHave (words_at lists k) x

-- this holds for each unit and the row with its number
abbrev pub RowsAreListed : List ℕ → List (List (Option Delay)) → List (List ℕ) → Type 0
RowsAreListed firsts rows lists = (x : Unit) → MayBeListed (delay_row_at rows (number_in firsts x)) lists x

-- each unit that may be in an old list may be in the new one
abbrev pub HaveMore : List (List ℕ) → List (List ℕ) → Type 0
HaveMore old new = (k : ℕ) (x : Unit) → MayHave (words_at old k) x → MayHave (words_at new k) x
