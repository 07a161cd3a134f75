-- The number of a name in a list that grows at its end, and in the map that is kept beside it.
use Rattle.std.proofs.Common.{◌≡◌, ◌∙◌, ℕ, suc, ◌+◌, ◌<◌, List, [], ◌∷◌, ◌++◌, length, get_or, take, drop, Bool, true, false, cond, ◌||◌, Option, Some, None, Bor, refl, sym, ap, add-one, arith, drop-cons}
use Rattle.std.specs.Prelude.{is_some, bytes_eq, position}
use Rattle.std.specs.List.{position_from, list_any}
use Rattle.std.specs.Ordering.{nat_cmp}
use Rattle.std.specs.Cmp.Lexicographic.{slice_cmp}
use Rattle.std.specs.BTreeMap as tree
use Rattle.std.proofs.Math.Seq.{take-suc}
use Rattle.std.proofs.lemmas.List.{length-take}
use Rattle.std.proofs.lemmas.Iterator.Adapters.{position_from-zero}
use Rattle.std.proofs.lemmas.Slice.Eq.{bytes_eq-Decides}
use Rattle.std.proofs.lemmas.Map.Text.{btree_map_updates_str}
use Rattle.pt_types.specs.Lawful.{is_named, repeated_from}
use Rattle.pt_graph.specs.Known.{first_named}
use Rattle.pt_graph.specs.Index.{at_name}

-- what was found, or the last where it passes
abbrev pub or_last : Option ℕ → Bool → ℕ → Option ℕ
or_last (Some k) b n = Some k
or_last None true n = Some n
or_last None false n = None

from_snoc : {A : Type 0} (p : A → Bool) (k : ℕ) (xs : List A) (x : A) → position_from p k (xs ++ x ∷ []) ≡ or_last (position_from p k xs) (p x) (k + length xs)
from_snoc p k [] x = elim (p x) as (λ b. cond b (Some k) None ≡ or_last None b (k + 0)) [ true ↦ ap Some (omega arith) | false ↦ refl ]
from_snoc p k (y ∷ ys) x =
    elim (p y) as (λ b. cond b (Some k) (position_from p (k + 1) (ys ++ x ∷ [])) ≡ or_last (cond b (Some k) (position_from p (k + 1) ys)) (p x) (k + suc (length ys))) [
      | true ↦ refl
      | false ↦ let e : k + suc (length ys) ≡ (k + 1) + length ys = omega arith in rw e (from_snoc p (k + 1) ys x)
    ]

position_snoc : {A : Type 0} (p : A → Bool) (xs : List A) (x : A) → position p (xs ++ x ∷ []) ≡ or_last (position p xs) (p x) (length xs)
position_snoc p xs x =
    let none_before : 0 + length xs ≡ length xs = omega arith in
    position_from-zero p (xs ++ x ∷ []) ∙ (from_snoc p 0 xs x ∙ (ap (or_last (position_from p 0 xs) (p x)) none_before ∙ ap (λ o. or_last o (p x) (length xs)) (sym (position_from-zero p xs))))

-- one item more
pub number_in_more : {A : Type 0} (f : A → List ℕ) (xs : List A) (i : ℕ) (d : A) (n : List ℕ) → i < length xs
    → first_named f (take (i + 1) xs) n ≡ or_last (first_named f (take i xs) n) (bytes_eq (f (get_or xs i d)) n) i
number_in_more f xs i d n less =
    let len : length (take i xs) ≡ i = simp length-take (omega arith) in
    rw (add-one, take-suc xs i d less) (position_snoc (λ x. bytes_eq (f x) n) (take i xs) (get_or xs i d) ∙ ap (λ k. or_last (first_named f (take i xs) n) (bytes_eq (f (get_or xs i d)) n) k) len)

some_from : {A : Type 0} (p : A → Bool) (k : ℕ) (xs : List A) → is_some (position_from p k xs) ≡ list_any p xs
some_from p k [] = refl
some_from p k (y ∷ ys) = elim (p y) as (λ b. is_some (cond b (Some k) (position_from p (k + 1) ys)) ≡ (b || list_any p ys)) [ true ↦ refl | false ↦ some_from p (k + 1) ys ]

-- a name has a number where an item has it
pub is_some-number_in : {A : Type 0} (f : A → List ℕ) (xs : List A) (n : List ℕ) → is_some (first_named f xs n) ≡ is_named f xs n
is_some-number_in f xs n = ap is_some (position_from-zero (λ x. bytes_eq (f x) n) xs) ∙ some_from (λ x. bytes_eq (f x) n) 0 xs

last_known : (o : Option ℕ) (i : ℕ) → or_last o false i ≡ o
last_known None i = refl
last_known (Some k) i = refl

last_there : (o : Option ℕ) (b : Bool) (i : ℕ) → is_some o ≡ true → or_last o b i ≡ o
last_there (Some k) b i h = refl
last_there None b i h = cc

none_from : (o : Option ℕ) → is_some o ≡ false → o ≡ None
none_from None h = refl
none_from (Some k) h = cc

-- after the name of the item at hand was put in, the map has the numbers of one item more
pub put_name : {A : Type 0} (f : A → List ℕ) (xs : List A) (i : ℕ) (d : A) (name : List ℕ) (m n : tree.BTreeMap (Bor (List ℕ)) ℕ) → i < length xs → name ≡ f (get_or xs i d)
    → ((q : List ℕ) → at_name m q ≡ first_named f (take i xs) q) → is_some (at_name m name) ≡ false
    → tree.UpdatesBy (λ x y. slice_cmp nat_cmp x.now y.now) (λ k. slice_cmp nat_cmp name k.now) m n (Some i)
    → (q : List ℕ) → at_name n q ≡ first_named f (take (i + 1) xs) q
put_name f xs i d name m n less same known absent updates q =
    btree_map_updates_str name m n (Some i) updates q ∙ sym (number_in_more f xs i d q less ∙ (
    let steps : or_last (first_named f (take i xs) q) (bytes_eq (f (get_or xs i d)) q) i ≡ cond (bytes_eq name q) (Some i) (at_name m q) =
    rw (← same, ← known q) (elim (bytes_eq name q) as (λ b. bytes_eq name q ≡ b → or_last (at_name m q) b i ≡ cond b (Some i) (at_name m q)) [
      | true ↦ λ e. let eq : name ≡ q = (bytes_eq-Decides name q).0 e in rw (← eq, none_from _ absent) refl
      | false ↦ λ e. last_known (at_name m q) i
    ] refl)
    in steps))

-- where the name of the item at hand was there, the map has the numbers of one item more already
pub keep_name : {A : Type 0} (f : A → List ℕ) (xs : List A) (i : ℕ) (d : A) (name : List ℕ) (m : tree.BTreeMap (Bor (List ℕ)) ℕ) → i < length xs → name ≡ f (get_or xs i d)
    → ((q : List ℕ) → at_name m q ≡ first_named f (take i xs) q) → is_some (at_name m name) ≡ true
    → (q : List ℕ) → at_name m q ≡ first_named f (take (i + 1) xs) q
keep_name f xs i d name m less same known there q =
    sym (number_in_more f xs i d q less ∙ (
    let steps : or_last (first_named f (take i xs) q) (bytes_eq (f (get_or xs i d)) q) i ≡ at_name m q =
    rw (← same, ← known q) (elim (bytes_eq name q) as (λ b. bytes_eq name q ≡ b → or_last (at_name m q) b i ≡ at_name m q) [
      | true ↦ λ e. let eq : name ≡ q = (bytes_eq-Decides name q).0 e in last_there (at_name m q) true i (ap (λ z. is_some (at_name m z)) (sym eq) ∙ there)
      | false ↦ λ e. last_known (at_name m q) i
    ] refl)
    in steps))

-- the item at hand has a name that none before it has
pub other_name : {A : Type 0} (f : A → List ℕ) (xs : List A) (i : ℕ) (d : A) (name : List ℕ) → i < length xs → name ≡ f (get_or xs i d) → is_some (first_named f (take i xs) name) ≡ false
    → repeated_from f (take (i + 1) xs) (i + 1) (drop (i + 1) xs) ≡ repeated_from f (take i xs) i (drop i xs)
other_name f xs i d name less same absent =
    let no : is_named f (take i xs) (f (get_or xs i d)) ≡ false = sym (is_some-number_in f (take i xs) _) ∙ (ap (λ z. is_some (first_named f (take i xs) z)) (sym same) ∙ absent) in
    rw (add-one, take-suc xs i d less, drop-cons xs i d less) (rw (no, add-one) refl)

-- it has the name of one before it
pub same_name : {A : Type 0} (f : A → List ℕ) (xs : List A) (i : ℕ) (d : A) (name : List ℕ) → i < length xs → name ≡ f (get_or xs i d) → is_some (first_named f (take i xs) name) ≡ true
    → Some i ≡ repeated_from f (take i xs) i (drop i xs)
same_name f xs i d name less same there =
    let yes : is_named f (take i xs) (f (get_or xs i d)) ≡ true = sym (is_some-number_in f (take i xs) _) ∙ (ap (λ z. is_some (first_named f (take i xs) z)) (sym same) ∙ there) in
    rw (drop-cons xs i d less) (rw yes refl)
