-- The numbers of a file that passed their checks, without their signs and as 32 bits hold them.
use Rattle.std.proofs.Common.{◌≡◌, ℕ, suc, ◌≤◌, ℤ, pos, negsuc, true, List, [], ◌∷◌, length, map, refl, ap, subst, sym, nat_le, unsigned_abs, arith}
use Rattle.std.proofs.lemmas.Bool.{and_parts}
use Rattle.pt_types.specs.Kinds.{is_between, is_among, is_time}
use Rattle.pt_types.specs.Groups.{held}
use Rattle.pt_types.proofs.SmallKinds.{among}
use Rattle.pt_graph.specs.Ranges as ranges
use Rattle.pt_graph.specs.Graphs.{small}

-- a number from low to high, both not negative, is so without its sign
pub between : (low high : ℕ) (z : ℤ) → is_between (pos low) (pos high) z ≡ true → is_among low high (unsigned_abs z) ≡ true
between low high (pos n) h = h
between low high (negsuc n) h = absurd cc

pub time_of : (z : ℤ) → ranges.is_time_number z ≡ true → is_time (unsigned_abs z) ≡ true
time_of z h = (and_parts (nat_le 0 (unsigned_abs z)) (is_time (unsigned_abs z)) (between 0 1000000000000000 z h)).1

pub held_small : (n : ℕ) → n ≤ 1024 → held n ≡ n
held_small n h = omega arith

pub small_is : (low high : ℕ) (z : ℤ) → high ≤ 1024 → is_between (pos low) (pos high) z ≡ true → small z ≡ unsigned_abs z
small_is low high z few h = held_small (unsigned_abs z) (omega (arith, among low high (unsigned_abs z) (between low high z h)))

pub small_among : (low high : ℕ) (z : ℤ) → high ≤ 1024 → is_between (pos low) (pos high) z ≡ true → is_among low high (small z) ≡ true
small_among low high z few h = subst (λ n. is_among low high n ≡ true) (sym (small_is low high z few h)) (between low high z h)

pub length_map : {X Y : Type 0} (f : X → Y) (xs : List X) → length (map f xs) ≡ length xs
length_map f [] = refl
length_map f (x ∷ xs) = ap suc (length_map f xs)
