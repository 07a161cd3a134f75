-- What a call on a source or a sink did, by its count of faults and the bytes and names that it reports.
use Rattle.std.specs.Prelude.{◌≡◌, ℕ, ◌+◌, ◌-◌, ◌^◌, ◌≤◌, min, Bool, cond, List, [], ◌∷◌, ◌++◌, Option, Some, IfSome, take, length}

-- a counter plus one, at most its greatest value
abbrev pub counted : ℕ → ℕ
counted count = min (count + 1) (2 ^ 64 - 1)

-- the count rose, or is at its greatest value
abbrev pub Rose : ℕ → ℕ → Type 0
Rose before now = counted before ≤ now

-- the count after a call: plus one if the call failed, else the same
abbrev pub counted_if : Bool → ℕ → ℕ
counted_if failed count = cond failed (counted count) count

-- if bytes are reported, they grew by these
abbrev pub Appends : Option (List ℕ) → Option (List ℕ) → List ℕ → Type 0
Appends before now bytes = IfSome before (λ b. now ≡ Some (b ++ bytes))

-- if bytes are reported, they grew by a prefix of these
abbrev pub AppendsPart : Option (List ℕ) → Option (List ℕ) → List ℕ → Type 0
AppendsPart before now bytes = IfSome before (λ b. (n : ℕ) × (n ≤ length bytes) × (now ≡ Some (b ++ take n bytes)))

-- if bytes are reported, they are as before
abbrev pub Keeps : Option (List ℕ) → Option (List ℕ) → Type 0
Keeps before now = IfSome before (λ b. now ≡ Some b)

-- if names are reported, they grew by this one
abbrev pub AddsName : Option (List (List ℕ)) → Option (List (List ℕ)) → List ℕ → Type 0
AddsName before now name = IfSome before (λ names. now ≡ Some (names ++ name ∷ []))
