-- What a loop over the items of an array has, and what is left of it.
use Rattle.std.proofs.Common.{◌≡◌, ℕ, ◌+◌, ◌<◌, List, [], ◌∷◌, ◌++◌, length, get_or, drop, refl, sym, ap, append_assoc, add-one, drop-cons, Option, Some, None, Result, Ok, Err}
use Rattle.serde_json.specs.Data.{Data}
use Rattle.serde_json.specs.View.{view, items_view}
use Rattle.serde_json.specs.declared.value.Value.{Value}
use Rattle.pt_graph_text.specs.Decoding.{each_from, in_front, at_index}

-- the front, and what else was read
abbrev pub prepend : {A : Type 0} → List A → Result (List A) ℕ → Result (List A) ℕ
prepend front (Ok xs) = Ok (front ++ xs)
prepend front (Err i) = Err i

pub prepend-in_front : {A : Type 0} (front : List A) (x : A) (r : Result (List A) ℕ) → prepend front (in_front (Ok x) r) ≡ prepend (front ++ x ∷ []) r
prepend-in_front front x (Ok xs) = ap Ok (sym (append_assoc front (x ∷ []) xs))
prepend-in_front front x (Err i) = refl

pub each_from-drop : {A : Type 0} (f : Data → Option A) (i : ℕ) (values : List Value) (d : Value) → i < length values
    → each_from f i (items_view (drop i values)) ≡ in_front (at_index i (f (view (get_or values i d)))) (each_from f (i + 1) (items_view (drop (i + 1) values)))
each_from-drop f i values d h = rw (drop-cons values i d) (rw add-one refl)

-- one more item was decoded
pub one_more : {A : Type 0} (f : Data → Option A) (i : ℕ) (values : List Value) (d : Value) (front : List A) (x : A) (all : Result (List A) ℕ) → i < length values
    → prepend front (each_from f i (items_view (drop i values))) ≡ all → f (view (get_or values i d)) ≡ Some x
    → prepend (front ++ x ∷ []) (each_from f (i + 1) (items_view (drop (i + 1) values))) ≡ all
one_more f i values d front x all h was decoded =
    rw (← prepend-in_front) (rw (each_from-drop f i values d h, decoded) at was)

-- the item at hand has another form
pub stops_here : {A : Type 0} (f : Data → Option A) (i : ℕ) (values : List Value) (d : Value) (front : List A) (all : Result (List A) ℕ) → i < length values
    → prepend front (each_from f i (items_view (drop i values))) ≡ all → f (view (get_or values i d)) ≡ None → all ≡ Err i
stops_here f i values d front all h was refused = sym (rw (each_from-drop f i values d h, refused) at was)
