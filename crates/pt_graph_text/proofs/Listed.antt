-- A loop that decodes the items of an array while they are read.
use Rattle.std.proofs.Common.{◌≡◌, ℕ, ◌+◌, List, [], ◌∷◌, ◌++◌, length, Option, Some, None, option_map, Result, Ok, Err, refl, sym, ap, ◌∙◌, append-nil}
use Rattle.std.proofs.lemmas.List.{length-append}
use Rattle.json.specs.Token.{Token}
use Rattle.json.specs.Json.{parse_map}
use Rattle.serde_json.specs.Data.{Data, Items, no_items, item}
use Rattle.pt_graph_text.specs.Decoding.{each_from, in_front, at_index}
use Rattle.pt_graph_text.specs.Apart.{and_part}
use Rattle.pt_graph_text.proofs.Each.{prepend, prepend-in_front}

abbrev pub count : {A : Type 0} → Result (List A) ℕ → ℕ
count (Ok front) = length front
count (Err i) = i

-- what was read, and then the rest
abbrev pub then_rest : {A : Type 0} → Result (List A) ℕ → Result (List A) ℕ → Result (List A) ℕ
then_rest (Ok front) rest = prepend front rest
then_rest (Err i) rest = Err i

abbrev pub joined : {A : Type 0} → (Data → Option A) → Result (List A) ℕ → Option (Items × List Token) → Option (Result (List A) ℕ × List Token)
joined f before o = option_map (λ q. (then_rest before (each_from f (count before) q.0), q.1)) o

then_part : {A : Type 0} (f : Data → Option A) (front : List A) (part : Option A) (ds : Items)
    → then_rest (Ok front) (in_front (at_index (length front) part) (each_from f (length front + 1) ds)) ≡ then_rest (and_part (Ok front) part) (each_from f (count (and_part (Ok front) part)) ds)
then_part f front None ds = refl
then_part f front (Some x) ds =
    let longer : length front + 1 ≡ length (front ++ x ∷ []) = sym (length-append front (x ∷ [])) in
    prepend-in_front front x _ ∙ ap (λ n. prepend (front ++ x ∷ []) (each_from f n ds)) longer

then_item : {A : Type 0} (f : Data → Option A) (before : Result (List A) ℕ) (d : Data) (ds : Items)
    → then_rest before (each_from f (count before) (item d ds)) ≡ then_rest (and_part before (f d)) (each_from f (count (and_part before (f d))) ds)
then_item f (Ok front) d ds = then_part f front (f d) ds
then_item f (Err i) d ds = refl

-- one item more was read and decoded
pub joined-item : {A : Type 0} (f : Data → Option A) (before : Result (List A) ℕ) (d : Data) (o : Option (Items × List Token)) → joined f before (parse_map (item d) o) ≡ joined f (and_part before (f d)) o
joined-item f before d None = refl
joined-item f before d (Some q) = ap (λ x. Some (x, q.1)) (then_item f before d q.0)

then_nothing : {A : Type 0} (before : Result (List A) ℕ) → then_rest before (Ok []) ≡ before
then_nothing (Ok front) = ap Ok (append-nil front)
then_nothing (Err i) = refl

pub joined-end : {A : Type 0} (f : Data → Option A) (before : Result (List A) ℕ) (rest : List Token) → joined f before (Some (no_items, rest)) ≡ Some (before, rest)
joined-end f before rest = ap (λ x. Some (x, rest)) (then_nothing before)

then_all : {A : Type 0} (r : Result (List A) ℕ) → prepend [] r ≡ r
then_all (Ok xs) = refl
then_all (Err i) = refl

abbrev listed_of : {A : Type 0} → Option (Result (List A) ℕ × List Token) → Result (List A) ℕ
listed_of None = Err 0
listed_of (Some p) = p.0

abbrev rest_of : {A : Type 0} → Option (A × List Token) → List Token
rest_of None = []
rest_of (Some p) = p.1

-- the whole array was read
pub joined-all : {A : Type 0} (f : Data → Option A) (o : Option (Items × List Token)) (listed : Result (List A) ℕ) (rest : List Token) → joined f (Ok []) o ≡ Some (listed, rest)
    → (ds : Items) × (o ≡ Some (ds, rest)) × (listed ≡ each_from f 0 ds)
joined-all f None listed rest e = absurd (cc)
joined-all f (Some q) listed rest e = (q.0, ap (λ r. Some (q.0, r)) (ap rest_of e), sym (ap listed_of e) ∙ then_all (each_from f 0 q.0))

-- the array cannot be read
pub joined-none : {A : Type 0} (f : Data → Option A) (o : Option (Items × List Token)) → joined f (Ok []) o ≡ None → o ≡ None
joined-none f None e = refl
joined-none f (Some q) e = absurd (cc)
