-- Which bytes a name and a file name may have.
use Rattle.std.specs.Prelude.{ℕ, ◌==◌, ◌&&◌, ◌||◌, Bool, List, length, nat_le, slice_index}
use Rattle.std.specs.List.{list_all}

abbrev pub is_letter : ℕ → Bool
is_letter b = (nat_le 65 b && nat_le b 90) || (nat_le 97 b && nat_le b 122)

abbrev pub is_digit : ℕ → Bool
is_digit b = nat_le 48 b && nat_le b 57

-- an ASCII letter, a digit or `_`
abbrev pub in_name : ℕ → Bool
in_name b = is_letter b || is_digit b || b == 95

-- a name: 1 to 32 of these bytes, the first a letter
abbrev pub is_name : List ℕ → Bool
is_name n = nat_le 1 (length n) && nat_le (length n) 32 && is_letter (slice_index n 0) && list_all in_name n

-- a byte of a name, or `-`, `.` or `/`
abbrev pub in_file : ℕ → Bool
in_file b = in_name b || b == 45 || b == 46 || b == 47

-- a file name: 1 to 120 of these bytes
abbrev pub is_file : List ℕ → Bool
is_file n = nat_le 1 (length n) && nat_le (length n) 120 && list_all in_file n
