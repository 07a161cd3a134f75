-- Numbers of a file are read back from the numbers of its graph.
use Rattle.std.proofs.Common.{◌≡◌, ℕ, ◌+◌, ◌<◌, ◌≤◌, ◌^◌, ℤ, pos, negsuc, true, List, [], ◌∷◌, map, nat_lt, Option, Some, Ok, refl, ap, ◌∙◌, arith, unsigned_abs}
use Rattle.std.specs.Prelude.{⊤}
use Rattle.std.proofs.lemmas.Bool.{lt-ltb}
use Rattle.serde_json.specs.Data.{Data}
use Rattle.serde_json.specs.View.{items_of}
use Rattle.pt_types.specs.Kinds.{is_between}
use Rattle.pt_graph_text.specs.Decoding.{whole, each_from}
use Rattle.pt_graph.specs.Ranges.{is_time_number}
use Rattle.pt_graph.specs.Graphs.{small}
use Rattle.pt_graph.proofs.InRange.{between, small_is}
use Rattle.pt_types.proofs.SmallKinds.{among}
use Rattle.pt_graph_writer.specs.Text.{natural, whole_number, fits}

pub whole_natural : (n : ℕ) → nat_lt n (2 ^ 63) ≡ true → whole (natural n) ≡ Some (pos n)
whole_natural n h = rw h refl

pub whole_fits : (z : ℤ) → fits z ≡ true → whole (whole_number z) ≡ Some z
whole_fits (pos n) h = whole_natural n h
whole_fits (negsuc n) h = refl

-- a number from low to high, both not negative
pub whole_between : (low high : ℕ) (z : ℤ) → high ≤ 1000000000000000 → is_between (pos low) (pos high) z ≡ true → whole (natural (unsigned_abs z)) ≡ Some z
whole_between low high (pos n) few h =
    let most = (among low high n (between low high (pos n) h)).1 in
    let less : n < 9223372036854775808 = omega arith in
    whole_natural n (lt-ltb n 9223372036854775808 less)
whole_between low high (negsuc n) few h = absurd cc

pub whole_time : (z : ℤ) → is_time_number z ≡ true → whole (natural (unsigned_abs z)) ≡ Some z
whole_time z h = whole_between 0 1000000000000000 z (omega arith) h

pub whole_small : (low high : ℕ) (z : ℤ) → high ≤ 1024 → is_between (pos low) (pos high) z ≡ true → whole (natural (small z)) ≡ Some z
whole_small low high z few h = ap (λ n. whole (natural n)) (small_is low high z few h) ∙ whole_between low high z (omega arith) h

-- each of these is read back from what is written for it
abbrev pub AllBack : {A : Type 0} → (Data → Option A) → (A → Data) → List A → Type 0
AllBack f g [] = ⊤
AllBack f g (x ∷ xs) = (f (g x) ≡ Some x) × AllBack f g xs

pub each_back : {A : Type 0} (f : Data → Option A) (g : A → Data) (i : ℕ) (xs : List A) → AllBack f g xs → each_from f i (items_of (map g xs)) ≡ Ok xs
each_back f g i [] all = refl
each_back f g i (x ∷ xs) all = rw (all.0, each_back f g (i + 1) xs all.1) refl

pub map_map : {A B C : Type 0} (f : A → B) (g : B → C) (xs : List A) → map g (map f xs) ≡ map (λ x. g (f x)) xs
map_map f g [] = refl
map_map f g (x ∷ xs) = ap (λ ys. g (f x) ∷ ys) (map_map f g xs)

-- the same where each was turned into another form first
pub each_turned : {A B : Type 0} (f : Data → Option A) (g : B → Data) (h : A → B) (xs : List A) → AllBack f (λ x. g (h x)) xs → each_from f 0 (items_of (map g (map h xs))) ≡ Ok xs
each_turned f g h xs all = ap (λ ys. each_from f 0 (items_of ys)) (map_map h g xs) ∙ each_back f (λ x. g (h x)) 0 xs all
