-- What a page takes: it has room for a fixed number of bytes, and some calls fail after a given number of bytes.
use Rattle.std.specs.Prelude.{ℕ, ◌==◌, min, nat_lt, Bool, ◌||◌, List, Option, option_map, unwrap_or, find, is_some}

-- the most bytes that the call of this number takes, if it is one that fails
abbrev pub limit : List (ℕ × ℕ) → ℕ → Option ℕ
limit failing call = option_map (λ f. f.1) (find (λ f. f.0 == call) failing)

-- the call of this number fails: it is one of those that fail, or the piece is longer than the room left
abbrev pub refuses : List (ℕ × ℕ) → ℕ → ℕ → ℕ → Bool
refuses failing call room count = is_some (limit failing call) || nat_lt room count

-- the bytes that the call takes of a piece of `count` bytes: its limit, and at most the piece and the room left
abbrev pub taken : List (ℕ × ℕ) → ℕ → ℕ → ℕ → ℕ
taken failing call room count = min (unwrap_or (limit failing call) count) (min count room)
