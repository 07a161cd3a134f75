-- The inputs that are fed by a list of wires that grows at its end, and the set that is kept beside it.
use Rattle.std.proofs.Common.{◌≡◌, ◌∙◌, ℕ, ◌+◌, ◌<◌, ◌&&◌, ◌||◌, List, [], ◌∷◌, length, get_or, take, drop, Bool, true, false, cond, refl, sym, ap, add-one, drop-cons}
use Rattle.std.specs.Bool.{nat_eq}
use Rattle.std.specs.HashSet as set
use Rattle.std.proofs.Math.Seq.{take-suc}
use Rattle.std.proofs.lemmas.List.Folds.{list_any-append}
use Rattle.pt_types.specs.declared.graph.Wire.{Wire}
use Rattle.pt_types.specs.Ends.{is_fed, goes_to, fed_twice_from}
use Rattle.pt_graph.specs.Index.{has_input}

last_of : (a b : Bool) → (a || (b || false)) ≡ (a || b)
last_of true b = refl
last_of false true = refl
last_of false false = refl

added_or : (b x : Bool) → cond b true x ≡ (x || b)
added_or true true = refl
added_or true false = refl
added_or false true = refl
added_or false false = refl

fed_more : (xs : List Wire) (i : ℕ) (d : Wire) (a p : ℕ) → i < length xs → is_fed (take (i + 1) xs) a p ≡ (is_fed (take i xs) a p || goes_to a p (get_or xs i d))
fed_more xs i d a p less =
    rw (add-one, take-suc xs i d less) (list_any-append (goes_to a p) (take i xs) (get_or xs i d ∷ []) ∙ last_of (is_fed (take i xs) a p) (goes_to a p (get_or xs i d)))

-- after the input of the wire at hand was put in, the set has the inputs of one wire more
pub put_input : {S : Type 0} (xs : List Wire) (i : ℕ) (d : Wire) (m n : set.HashSet (ℕ × ℕ) S) → i < length xs
    → ((a p : ℕ) → has_input m a p ≡ is_fed (take i xs) a p)
    → set.UpdatesBy (λ x y. nat_eq x.0 y.0 && nat_eq x.1 y.1) (λ k. nat_eq (get_or xs i d).to k.0 && nat_eq (get_or xs i d).input k.1) m n true
    → (a p : ℕ) → has_input n a p ≡ is_fed (take (i + 1) xs) a p
put_input xs i d m n less known updates a p =
    updates.0 (a, p) ∙ (added_or (goes_to a p (get_or xs i d)) (has_input m a p) ∙ (ap (λ z. z || goes_to a p (get_or xs i d)) (known a p) ∙ sym (fed_more xs i d a p less)))

-- no wire before goes to the input of the wire at hand
pub other_input : (xs : List Wire) (i : ℕ) (d : Wire) → i < length xs → is_fed (take i xs) (get_or xs i d).to (get_or xs i d).input ≡ false
    → fed_twice_from (take (i + 1) xs) (i + 1) (drop (i + 1) xs) ≡ fed_twice_from (take i xs) i (drop i xs)
other_input xs i d less apart = rw (add-one, take-suc xs i d less, drop-cons xs i d less) (rw (apart, add-one) refl)
