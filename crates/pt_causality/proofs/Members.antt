-- Members of lists, by their places and by the list's parts; options.
use Rattle.std.proofs.Common.{◌≤◌, ◌≡◌, ◌≢◌, ℕ, zero, suc, ◌<◌, ◌==◌, Bool, true, false, not, List, [], ◌∷◌, map, filter, length, slice_index_or, Option, Some, None, cond, refl, sym, ap, subst, ◌∙◌, arith, ◌⊎◌, inl, inr, ⊎_elim}
use Rattle.std.specs.List.{All, Contains}
use Rattle.std.specs.Option.{is_some}
use Rattle.std.proofs.lemmas.Bool.{eqb-true, eqb-false}
use Rattle.pt_tags.specs.declared.tag.Delay.{Delay}
use Rattle.pt_semantics.specs.Lists.{IsIn}
use Rattle.pt_causality.specs.declared.arcs.Arc.{Arc}
use Rattle.pt_causality.specs.Arcs.{arcs_from}

pub some_is : {X : Type 0} (x y : X) → Some x ≡ Some y → x ≡ y
some_is x y h = cc

pub not_both : {X : Type 0} (o : Option X) (x : X) → o ≡ None → o ≡ Some x → ⊥
not_both o x p q = cc

pub none_of : (o p : Option Delay) → is_some o ≡ false → o ≡ p → p ≡ None
none_of None p h e = sym e
none_of (Some d) p h e = absurd cc

not_not : (b : Bool) → not (not b) ≡ b
not_not true = refl
not_not false = refl

-- what a test of a place says
pub open_by : (o p : Option Delay) (r b : Bool) → o ≡ p → is_some o ≡ not r → r ≡ b → not (is_some p) ≡ b
open_by o p r b e h q = ap (λ z. not (is_some z)) (sym e) ∙ ap not h ∙ not_not r ∙ q

pub none_open : (o : Option Delay) → o ≡ None → not (is_some o) ≡ true
none_open o e = ap (λ z. not (is_some z)) e

pub some_of : (o p : Option Delay) → is_some o ≡ true → o ≡ p → (d : Delay) × (p ≡ Some d)
some_of None p h e = absurd cc
some_of (Some d) p h e = (d, sym e)

pub cases_nat : (m n : ℕ) → (m ≡ n) ⊎ (m ≢ n)
cases_nat m n = go (m == n) refl
  where
    go : (b : Bool) → (m == n) ≡ b → (m ≡ n) ⊎ (m ≢ n)
    go true e = inl (eqb-true m n e)
    go false e = inr (eqb-false m n e)

pub cases_option : {X : Type 0} (o : Option X) → (o ≡ None) ⊎ ((x : X) × (o ≡ Some x))
cases_option None = inl refl
cases_option (Some x) = inr (x, refl)

-- members, by their places and by the list's parts
pub in_place : {X : Type 0} (xs : List X) (k : ℕ) (d : X) → k < length xs → IsIn (slice_index_or xs k d) xs
in_place [] k d h = absurd (omega arith)
in_place (x ∷ xs) zero d h = inl refl
in_place (x ∷ xs) (suc k) d h = inr (in_place xs k d (omega arith))

pub same_default : {X : Type 0} (xs : List X) (k : ℕ) (d e : X) → k < length xs → slice_index_or xs k d ≡ slice_index_or xs k e
same_default [] k d e h = absurd (omega arith)
same_default (x ∷ xs) zero d e h = refl
same_default (x ∷ xs) (suc k) d e h = same_default xs k d e (omega arith)

pub leaving_from : (arcs : List (List Arc)) (k : ℕ) (these slice : List Arc) → k < length arcs → these ≡ slice_index_or arcs k these → slice ≡ these → slice ≡ arcs_from arcs k
leaving_from arcs k these slice h is same = same ∙ is ∙ same_default arcs k these [] h

pub all_in : {X : Type 0} (P : X → Type 0) (xs : List X) → ((x : X) → IsIn x xs → P x) → All P xs
all_in P xs h = λ k d less. h (slice_index_or xs k d) (in_place xs k d less)

pub contains_in : {X : Type 0} (x : X) (xs : List X) → IsIn x xs → Contains xs x
contains_in x [] h = absurd h
contains_in x (y ∷ xs) h = ⊎_elim
    (λ (e : x ≡ y). (zero, omega arith, sym e))
    (λ (e : IsIn x xs). let rest = contains_in x xs e in (suc rest.0, (let less : rest.0 < length xs = rest.1 in omega arith), rest.2))
    h

pub in_map : {X Y : Type 0} (f : X → Y) (x : X) (xs : List X) → IsIn x xs → IsIn (f x) (map f xs)
in_map f x [] h = h
in_map f x (y ∷ xs) h = ⊎_elim (λ (e : x ≡ y). inl (ap f e)) (λ (e : IsIn x xs). inr (in_map f x xs e)) h

pub first_or_rest : {X : Type 0} (w v : X) (xs : List X) → Contains (w ∷ xs) v → (v ≡ w) ⊎ Contains xs v
first_or_rest w v xs (zero, less, e) = inl (sym e)
first_or_rest w v xs (suc k, less, e) = inr (k, omega arith, e)

pub none_contained : {X : Type 0} (v : X) → Contains [] v → ⊥
none_contained v (k, less, e) = omega arith

-- what f gives of those that pass a test
pub of_filtered : {X Y : Type 0} (f : X → Y) (p : X → Bool) (y : Y) (xs : List X) → IsIn y (map f (filter p xs)) → (x : X) × IsIn x xs × (p x ≡ true) × (y ≡ f x)
of_filtered f p y [] h = absurd h
of_filtered {X} {Y} f p y (x ∷ xs) h = go (λ there. of_filtered f p y xs there) (p x) refl h
  where
    further : (z : X) × IsIn z xs × (p z ≡ true) × (y ≡ f z) → (z : X) × IsIn z (x ∷ xs) × (p z ≡ true) × (y ≡ f z)
    further (z, there, passes, is) = (z, inr there, passes, is)

    go : (IsIn y (map f (filter p xs)) → (z : X) × IsIn z xs × (p z ≡ true) × (y ≡ f z)) → (b : Bool) → p x ≡ b → IsIn y (map f (cond b (x ∷ filter p xs) (filter p xs))) → (z : X) × IsIn z (x ∷ xs) × (p z ≡ true) × (y ≡ f z)
    go on true e h = ⊎_elim (λ (is : y ≡ f x). (x, inl refl, e, is)) (λ (there : IsIn y (map f (filter p xs))). further (on there)) h
    go on false e h = further (on h)

pub in_filtered : {X Y : Type 0} (f : X → Y) (p : X → Bool) (x : X) (xs : List X) → IsIn x xs → p x ≡ true → IsIn (f x) (map f (filter p xs))
in_filtered f p x [] h e = h
in_filtered {X} {Y} f p x (y ∷ xs) h e = go (λ there. in_filtered f p x xs there e) (p y) refl h
  where
    differ : (b : Bool) → b ≡ false → b ≡ true → ⊥
    differ b q r = cc

    go : (IsIn x xs → IsIn (f x) (map f (filter p xs))) → (b : Bool) → p y ≡ b → (x ≡ y) ⊎ IsIn x xs → IsIn (f x) (map f (cond b (y ∷ filter p xs) (filter p xs)))
    go on true q h = ⊎_elim (λ (is : x ≡ y). inl (ap f is)) (λ (there : IsIn x xs). inr (on there)) h
    go on false q h = ⊎_elim (λ (is : x ≡ y). absurd (differ (p y) q (subst (λ z. p z ≡ true) is e))) on h

pub in_pass : {X : Type 0} (p : X → Bool) (x : X) (xs : List X) → IsIn x xs → p x ≡ true → IsIn x (filter p xs)
in_pass p x [] h e = h
in_pass {X} p x (y ∷ xs) h e = go (λ there. in_pass p x xs there e) (p y) refl h
  where
    differ : (b : Bool) → b ≡ false → b ≡ true → ⊥
    differ b q r = cc

    go : (IsIn x xs → IsIn x (filter p xs)) → (b : Bool) → p y ≡ b → (x ≡ y) ⊎ IsIn x xs → IsIn x (cond b (y ∷ filter p xs) (filter p xs))
    go on true q h = ⊎_elim (λ (is : x ≡ y). inl is) (λ (there : IsIn x xs). inr (on there)) h
    go on false q h = ⊎_elim (λ (is : x ≡ y). absurd (differ (p y) q (subst (λ z. p z ≡ true) is e))) on h

pub of_pass : {X : Type 0} (p : X → Bool) (x : X) (xs : List X) → IsIn x (filter p xs) → IsIn x xs
of_pass p x [] h = h
of_pass {X} p x (y ∷ xs) h = go (λ there. of_pass p x xs there) (p y) h
  where
    go : (IsIn x (filter p xs) → IsIn x xs) → (b : Bool) → IsIn x (cond b (y ∷ filter p xs) (filter p xs)) → (x ≡ y) ⊎ IsIn x xs
    go on true h = ⊎_elim (λ (is : x ≡ y). inl is) (λ (there : IsIn x (filter p xs)). inr (on there)) h
    go on false h = inr (on h)

pub few_pass : {X : Type 0} (p : X → Bool) (xs : List X) → length (filter p xs) ≤ length xs
few_pass p [] = omega arith
few_pass {X} p (x ∷ xs) = go (few_pass p xs) (p x)
  where
    go : length (filter p xs) ≤ length xs → (b : Bool) → length (cond b (x ∷ filter p xs) (filter p xs)) ≤ length (x ∷ xs)
    go few true = omega arith
    go few false = omega arith
