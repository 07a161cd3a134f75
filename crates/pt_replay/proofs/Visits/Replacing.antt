-- A loop over a list that replaces each item by what a function gives for it.
use Rattle.std.proofs.Common.{◌≡◌, ℕ, suc, ◌+◌, ◌<◌, List, [], ◌∷◌, ◌++◌, length, get_or, take, drop, set, refl, sym, ap, ap₂, ◌∙◌, append_assoc, append-nil, add-one, arith}
use Rattle.std.proofs.lemmas.List.{drop_more, drop-set-lt, take_more, take_more_set}
use Rattle.std.proofs.Math.Seq.{drop-length, take-length}
use Rattle.pt_semantics.specs.TrueTime.{map_from}

module _ {A B : Type 0} (f : ℕ → A → B) (n : ℕ) (xs : List A) (ys all : List B) (d : A) (within : n < length xs) (here : n < length ys) (so_far : all ≡ take n ys ++ map_from f n (drop n xs)) where
  opened : all ≡ take n ys ++ f n (get_or xs n d) ∷ map_from f (n + 1) (drop (n + 1) xs)
  opened =
      so_far
      ∙ ap (λ (z : List A). take n ys ++ map_from f n z) (drop_more xs n d within)
      ∙ ap (λ (k : ℕ). take n ys ++ f n (get_or xs n d) ∷ map_from f k (drop (n + 1) xs)) (sym (add-one n))

  -- the next item is stored
  pub stored : (y : B) → y ≡ f n (get_or xs n d) → all ≡ take (n + 1) (set ys n y) ++ map_from f (n + 1) (drop (n + 1) xs)
  stored y is =
      opened
      ∙ ap (λ (z : B). take n ys ++ z ∷ map_from f (n + 1) (drop (n + 1) xs)) (sym is)
      ∙ sym (append_assoc (take n ys) (y ∷ []) (map_from f (n + 1) (drop (n + 1) xs)))
      ∙ ap (λ (z : List B). z ++ map_from f (n + 1) (drop (n + 1) xs)) (sym (take_more_set ys n y here))

  -- the next item is there
  pub kept : (e : B) → get_or ys n e ≡ f n (get_or xs n d) → all ≡ take (n + 1) ys ++ map_from f (n + 1) (drop (n + 1) xs)
  kept e is =
      opened
      ∙ ap (λ (z : B). take n ys ++ z ∷ map_from f (n + 1) (drop (n + 1) xs)) (sym is)
      ∙ sym (append_assoc (take n ys) (get_or ys n e ∷ []) (map_from f (n + 1) (drop (n + 1) xs)))
      ∙ ap (λ (z : List B). z ++ map_from f (n + 1) (drop (n + 1) xs)) (sym (take_more ys n e here))

pub stored_in : {A : Type 0} (f : ℕ → A → A) (n : ℕ) (xs all : List A) (d y : A) → n < length xs → all ≡ take n xs ++ map_from f n (drop n xs) → y ≡ f n (get_or xs n d)
    → all ≡ take (n + 1) (set xs n y) ++ map_from f (n + 1) (drop (n + 1) (set xs n y))
stored_in {A} f n xs all d y within so_far is =
    stored f n xs xs all d within within so_far y is
    ∙ ap (λ (z : List A). take (n + 1) (set xs n y) ++ map_from f (n + 1) z) (sym (drop-set-lt (n + 1) xs n y (omega arith)))

-- all items are replaced
pub replaced : {A B : Type 0} (f : ℕ → A → B) (n : ℕ) (xs : List A) (ys all : List B) → length xs ≡ n → length ys ≡ n → all ≡ take n ys ++ map_from f n (drop n xs) → ys ≡ all
replaced {A} {B} f n xs ys all ends there so_far =
    let whole : take n ys ≡ ys = ap (λ (k : ℕ). take k ys) (sym there) ∙ take-length ys in
    let none : drop n xs ≡ [] = ap (λ (k : ℕ). drop k xs) (sym ends) ∙ drop-length xs in
    sym (so_far ∙ ap₂ (λ (z : List B) (w : List A). z ++ map_from f n w) whole none ∙ append-nil ys)

pub length-map_from : {A B : Type 0} (f : ℕ → A → B) (n : ℕ) (xs : List A) → length (map_from f n xs) ≡ length xs
length-map_from f n [] = refl
length-map_from f n (x ∷ xs) = ap suc (length-map_from f (suc n) xs)

-- one function after another
pub map_both : {A B C : Type 0} (f : ℕ → B → C) (h : ℕ → A → B) (n : ℕ) (xs : List A) → map_from f n (map_from h n xs) ≡ map_from (λ l x. f l (h l x)) n xs
map_both f h n [] = refl
map_both {A} {B} {C} f h n (x ∷ xs) = ap (λ (z : List C). f n (h n x) ∷ z) (map_both f h (suc n) xs)

pub map_alike : {A B : Type 0} (f h : ℕ → A → B) → ((l : ℕ) (x : A) → f l x ≡ h l x) → (n : ℕ) (xs : List A) → map_from f n xs ≡ map_from h n xs
map_alike f h same n [] = refl
map_alike f h same n (x ∷ xs) = ap₂ (λ y ys. y ∷ ys) (same n x) (map_alike f h same (suc n) xs)
