-- Eight ports, each with a value or none.
use Rattle.std.specs.Prelude.{ℕ, ◌==◌, Bool, true, false, List, [], ◌∷◌, Option, None, ℤ, slice_index_or}

-- a value if a test is true
abbrev pub when : {X : Type 0} → Bool → Option X → Option X
when true x = x
when false x = None

-- the value at a port
abbrev pub at_port : List (Option ℤ) → ℕ → Option ℤ
at_port ports p = slice_index_or ports p None

-- eight ports: port p has the value f p
abbrev pub eight : (ℕ → Option ℤ) → List (Option ℤ)
eight f = f 0 ∷ f 1 ∷ f 2 ∷ f 3 ∷ f 4 ∷ f 5 ∷ f 6 ∷ f 7 ∷ []

abbrev pub nothing : ℕ → Option ℤ
nothing p = None

-- this value at this port, and none elsewhere
abbrev pub only : ℕ → Option ℤ → ℕ → Option ℤ
only port value p = when (p == port) value
