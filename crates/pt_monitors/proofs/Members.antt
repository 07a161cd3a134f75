-- Members of what a function gives along a list.
use Rattle.std.proofs.Common.{◌≡◌, ℕ, ◌+◌, ◌<◌, ◌⊎◌, List, [], ◌∷◌, ◌++◌, Option, Some, None, length, take, get_or, refl, sym, ap, ap₂, subst, ◌∙◌, inl, inr, ⊎_elim}
use Rattle.std.specs.Prelude.{flat_map, filter_map, option_map, option_to_list, slice_get}
use Rattle.std.specs.List.{cons_option}
use Rattle.std.proofs.lemmas.List.{append_assoc, take_more}
use Rattle.std.proofs.lemmas.List.Elements.{filter_map-append}
use Rattle.pt_semantics.specs.Lists.{IsIn}
use Rattle.pt_semantics.proofs.Lookups.{IsIn-append, IsIn-append_left, IsIn-append_right, none_some, same_some}
use Rattle.pt_history.proofs.InTurn.{take_next}

pub in_flat_map : {X Y : Type 0} (f : X → List Y) (xs : List X) (y : Y) → IsIn y (flat_map f xs) → (x : X) × IsIn x xs × IsIn y (f x)
in_flat_map f [] y m = absurd m
in_flat_map f (x ∷ xs) y m =
    ⊎_elim
    (λ (here : IsIn y (f x)). (x, inl refl, here))
    (λ (later : IsIn y (flat_map f xs)). let found = in_flat_map f xs y later in (found.0, inr found.1, found.2))
    (IsIn-append y (f x) (flat_map f xs) m)

pub flat_map_in : {X Y : Type 0} (f : X → List Y) (xs : List X) (x : X) (y : Y) → IsIn x xs → IsIn y (f x) → IsIn y (flat_map f xs)
flat_map_in f [] x y m h = absurd m
flat_map_in f (z ∷ xs) x y m h =
    ⊎_elim
    (λ (e : x ≡ z). IsIn-append_left y (f z) (flat_map f xs) (subst (λ w. IsIn y (f w)) e h))
    (λ (r : IsIn x xs). IsIn-append_right y (f z) (flat_map f xs) (flat_map_in f xs x y r h))
    m

in_cons : {Y : Type 0} (o : Option Y) (ys : List Y) (y : Y) → IsIn y (cons_option o ys) → (o ≡ Some y) ⊎ IsIn y ys
in_cons None ys y m = inr m
in_cons (Some z) ys y m = ⊎_elim (λ (e : y ≡ z). inl (ap Some (sym e))) (λ (r : IsIn y ys). inr r) m

cons_in : {Y : Type 0} (o : Option Y) (ys : List Y) (y : Y) → IsIn y ys → IsIn y (cons_option o ys)
cons_in None ys y m = m
cons_in (Some z) ys y m = inr m

pub in_filter_map : {X Y : Type 0} (h : X → Option Y) (xs : List X) (y : Y) → IsIn y (filter_map h xs) → (x : X) × IsIn x xs × (h x ≡ Some y)
in_filter_map h [] y m = absurd m
in_filter_map h (x ∷ xs) y m =
    ⊎_elim
    (λ (here : h x ≡ Some y). (x, inl refl, here))
    (λ (later : IsIn y (filter_map h xs)). let found = in_filter_map h xs y later in (found.0, inr found.1, found.2))
    (in_cons (h x) (filter_map h xs) y m)

pub filter_map_in : {X Y : Type 0} (h : X → Option Y) (xs : List X) (x : X) (y : Y) → IsIn x xs → h x ≡ Some y → IsIn y (filter_map h xs)
filter_map_in h [] x y m e = absurd m
filter_map_in h (z ∷ xs) x y m e =
    ⊎_elim
    (λ (s : x ≡ z). subst (λ o. IsIn y (cons_option o (filter_map h xs))) (sym (ap h (sym s) ∙ e)) (inl refl))
    (λ (r : IsIn x xs). cons_in (h z) (filter_map h xs) y (filter_map_in h xs x y r e))
    m

only_cons : {Y : Type 0} (o : Option Y) → cons_option o [] ≡ option_to_list o
only_cons None = refl
only_cons (Some y) = refl

-- what was appended for the members before a place, and then for the one there
pub filter_map_grows : {X Y : Type 0} (h : X → Option Y) (xs : List X) (n : ℕ) (d : X) (start old new : List Y) (o : Option Y) → n < length xs → old ≡ start ++ filter_map h (take n xs)
    → o ≡ h (get_or xs n d) → new ≡ old ++ option_to_list o → new ≡ start ++ filter_map h (take (n + 1) xs)
filter_map_grows h xs n d start old new o lt was is put =
    put ∙ ap₂ (λ l p. l ++ option_to_list p) was is ∙ append_assoc start (filter_map h (take n xs)) (option_to_list (h (get_or xs n d)))
    ∙ ap (λ l. start ++ (filter_map h (take n xs) ++ l)) (sym (only_cons (h (get_or xs n d))))
    ∙ ap (λ l. start ++ l) (sym (filter_map-append h (take n xs) (get_or xs n d ∷ [])))
    ∙ ap (λ l. start ++ filter_map h l) (sym (take_more xs n d lt))

-- the same, where the member is read of the list
pub filter_map_next : {X Y : Type 0} (h : X → Option Y) (xs : List X) (n : ℕ) (x : X) (start old new : List Y) (o : Option Y) → slice_get xs n ≡ Some x → old ≡ start ++ filter_map h (take n xs)
    → o ≡ h x → new ≡ old ++ option_to_list o → new ≡ start ++ filter_map h (take (n + 1) xs)
filter_map_next h xs n x start old new o at was is put =
    put ∙ ap₂ (λ l p. l ++ option_to_list p) was is ∙ append_assoc start (filter_map h (take n xs)) (option_to_list (h x))
    ∙ ap (λ l. start ++ (filter_map h (take n xs) ++ l)) (sym (only_cons (h x)))
    ∙ ap (λ l. start ++ l) (sym (filter_map-append h (take n xs) (x ∷ [])))
    ∙ ap (λ l. start ++ filter_map h l) (sym (take_next xs n x at))

-- what a function gives of a value that is there
pub mapped : {X Y : Type 0} (f : X → Y) (o : Option X) (y : Y) → option_map f o ≡ Some y → (x : X) × (o ≡ Some x) × (f x ≡ y)
mapped f None y is = absurd (none_some y is)
mapped f (Some x) y is = (x, refl, same_some (f x) y is)
