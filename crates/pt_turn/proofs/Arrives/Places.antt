-- Where a sensor stands among those of a platform.
use Rattle.std.proofs.Common.{◌≡◌, ℕ, ◌<◌, ◌==◌, ◌∷◌, [], if◌then◌else◌, nat_lt, true, false, Bool, List, None, Some, length, arith, refl, sym, ap, ◌∙◌, inl, inr, eq-eqb, eqb-true, lt-ltb}
use Rattle.std.proofs.lemmas.Bool.{cond-true, false≢true}
use Rattle.std.specs.Prelude.{position}
use Rattle.std.specs.List.{position_or_len}
use Rattle.pt_types.specs.declared.graph.Graph.{Graph}
use Rattle.pt_types.specs.declared.rows.Row.{Row}
use Rattle.pt_types.specs.Lookups.{platform_of}
use Rattle.pt_semantics.specs.Lists.{IsIn}
use Rattle.pt_semantics.proofs.Lookups.{none_some}
use Rattle.pt_turn.specs.declared.state.fields.Sensor.{Sensor}
use Rattle.pt_live_laws.specs.Growth.Growing.{at_home, just}
use Rattle.pt_turn.specs.Arrives.Arrived.{is_of}

-- a sensor that is there has a place
place_below : (ss : List Sensor) (a : ℕ) (s : Sensor) → IsIn s ss → s.actor ≡ a → position_or_len (is_of a) ss < length ss
place_below [] a s is_in of = absurd is_in
place_below (x ∷ xs) a s (inl e) of = grind (arith, eq-eqb)
place_below (x ∷ xs) a s (inr later) of = let rest : position_or_len (is_of a) xs < length xs = place_below xs a s later of in grind (arith, rest)

pub no_place : (ss : List Sensor) (a : ℕ) (s : Sensor) → position (is_of a) ss ≡ None → IsIn s ss → s.actor ≡ a → ⊥
no_place ss a s none is_in of = none_some (position_or_len (is_of a) ss) (sym none ∙ cond-true (nat_lt (position_or_len (is_of a) ss) (length ss)) (Some (position_or_len (is_of a) ss)) None (lt-ltb (position_or_len (is_of a) ss) (length ss) (place_below ss a s is_in of)))

-- a row of a platform's sensor is one of its own rows
home_case : (g : Graph) (i a b : ℕ) (row : Row) → platform_of g a ≡ i → (c d : Bool) → (platform_of g b == i) ≡ c → (b == a) ≡ d → (if c then (if d then row ∷ [] else []) else []) ≡ (if d then row ∷ [] else [])
home_case g i a b row home true d e f = refl
home_case g i a b row home false false e f = refl
home_case g i a b row home false true e f = absurd (false≢true (sym e ∙ eq-eqb (platform_of g b) i (ap (platform_of g) (eqb-true b a f) ∙ home)))

pub just_at_home : (g : Graph) (i a : ℕ) (row : Row) → platform_of g a ≡ i → at_home g i (just a row) ≡ just a row
just_at_home g i a row home = λ k b. home_case g i a b row home (platform_of g b == i) (b == a) refl refl k
