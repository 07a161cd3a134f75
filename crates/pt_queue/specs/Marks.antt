-- Bits that are set, 64 in a word, and the least tags that they stand for.
use Rattle.std.specs.Prelude.{◌≡◌, ℕ, ◌+◌, ◌*◌, ◌/◌, ◌%◌, ◌^◌, ◌<◌, ◌≤◌, false, true, List, Option, Some, None, length, slice_index_or}
use Rattle.std.specs.Int.{bit_at}
use Rattle.pt_tags.specs.declared.tag.Tag.{Tag}
use Rattle.pt_tags.specs.declared.tag.Delay.{Delay}
use Rattle.pt_types.specs.declared.graph.Unit.{Unit}
use Rattle.pt_causality.specs.Before.{bit_of}
use Rattle.pt_queue.specs.declared.groups.Groups.{Groups}
use Rattle.pt_queue.specs.declared.waiting.Waiting.{Waiting}
use Rattle.pt_queue.specs.Tagged.{unit_holds_up}

-- the most places of units
abbrev pub most_places : ℕ
most_places = 8192

-- k is the highest bit of a word that is set; or, for None, none is set
abbrev pub IsTopBit : ℕ → Option ℕ → Type 0
IsTopBit word None = word ≡ 0
IsTopBit word (Some k) = (k < 64) × (2 ^ k ≤ word) × (word < 2 ^ (k + 1))

-- k is the lowest bit of a word that is set and isn't before bit n; or, for None, there is no such bit
abbrev pub IsNextBit : ℕ → ℕ → Option ℕ → Type 0
IsNextBit word n None = (i : ℕ) → n ≤ i → bit_at word i ≡ 0
IsNextBit word n (Some k) = (k < 64) × (n ≤ k) × (bit_at word k ≡ 1) × ((i : ℕ) → n ≤ i → i < k → bit_at word i ≡ 0)

-- p is the first bit of these words that is set and isn't before bit n; or, for None, there is no such bit
abbrev pub IsFirstMark : List ℕ → ℕ → Option ℕ → Type 0
IsFirstMark words n None = (m : ℕ) → n ≤ m → bit_of words m ≡ 0
IsFirstMark words n (Some p) = (n ≤ p) × (bit_of words p ≡ 1) × ((m : ℕ) → n ≤ m → m < p → bit_of words m ≡ 0)

-- a summary has a bit for each two words, which is set if a bit is set in one of them
abbrev pub AreSummed : List ℕ → ℕ → Type 0
AreSummed words summary = (n : ℕ) → bit_of words n ≡ 1 → bit_at summary (n / 128) ≡ 1

-- the unit with place n
abbrev pub unit_with : ℕ → Unit
unit_with n = record { actor = n / 8; group = n % 8 }

-- the unit with place n, with its tag; or, for None, it has no tag
abbrev pub IsWaitingAt : List (Option Tag) → ℕ → Option Waiting → Type 0
IsWaitingAt tags n None = slice_index_or tags n None ≡ None
IsWaitingAt tags n (Some w) = (w.unit ≡ unit_with n) × (slice_index_or tags n None ≡ Some w.tag)

-- 1 where there is a tag, else 0
abbrev pub one_if : Option Tag → ℕ
one_if None = 0
one_if (Some t) = 1

-- the bits are set exactly where there is a tag
abbrev pub AreMarks : List (Option Tag) → List ℕ → Type 0
AreMarks tags marks = (n : ℕ) → bit_of marks n ≡ one_if (slice_index_or tags n None)

-- the tags, and the bits that are set where there is one
pub record AreMarked (tags : List (Option Tag)) (marks : List ℕ) : Type 0 where
  pub marks_are : AreMarks tags marks
  pub words : length marks ≡ length tags / 64 + 1
  pub few : length tags ≤ most_places

-- h is a unit that holds up u; or, for None, none does
abbrev pub IsHolder : List Groups → (Unit → Unit → Option Delay) → Unit → Tag → List (Option Tag) → Option Unit → Type 0
IsHolder table least u t tags None = (x : Unit) → unit_holds_up table least u t tags x ≡ false
IsHolder table least u t tags (Some h) = unit_holds_up table least u t tags h ≡ true

-- h is a unit that holds up u; or, for None, no unit with a place in this word and a bit there does
abbrev pub IsHolderIn : List Groups → (Unit → Unit → Option Delay) → Unit → Tag → List (Option Tag) → ℕ → ℕ → Option Unit → Type 0
IsHolderIn table least u t tags index word None = (i : ℕ) → i < 64 → bit_at word i ≡ 1 → unit_holds_up table least u t tags (unit_with (64 * index + i)) ≡ false
IsHolderIn table least u t tags index word (Some h) = unit_holds_up table least u t tags h ≡ true

-- h is a unit that holds up u; or, for None, no unit with a place in the words from number start up to number end, without that, does
abbrev pub IsHolderAmong : List Groups → (Unit → Unit → Option Delay) → Unit → Tag → List (Option Tag) → ℕ → ℕ → Option Unit → Type 0
IsHolderAmong table least u t tags start end None = (n : ℕ) → 64 * start ≤ n → n < 64 * end → unit_holds_up table least u t tags (unit_with n) ≡ false
IsHolderAmong table least u t tags start end (Some h) = unit_holds_up table least u t tags h ≡ true
