-- Cells that are kept and filled in again.
use Rattle.std.proofs.Common.{◌≡◌, ℕ, zero, suc, ◌+◌, ◌-◌, ◌<◌, ◌≤◌, Bool, true, false, Some, None, Option, ℤ, pos, List, [], ◌∷◌, ◌++◌, refl, sym, ap, ap₂, subst, ◌∙◌, arith, length, take, drop, slice_index_or, slice_set, unwrap_or, cond}
use Rattle.std.specs.Ordering.{int_eq}
use Rattle.std.proofs.lemmas.List.{append_assoc, set_at, get_or_at, take_at, drop_at, length_push, length-append, length-drop, drop_more, get_or-drop}
use Rattle.std.proofs.lemmas.Int.{ints}
use Rattle.pt_types.specs.declared.firing.ActorFiring.{ActorFiring}
use Rattle.pt_meaning.specs.Flat.{cells_of_firing, with_cells, firing_from, empty_cells, state_cell, cell_numbers_from, cell_values}

-- the places of cells and of those after them
pub places_append : (k : ℕ) (xs ys : List (Option ℤ)) → cell_numbers_from k (xs ++ ys) ≡ cell_numbers_from k xs ++ cell_numbers_from (k + length xs) ys
places_append k [] ys = ap (λ n. cell_numbers_from n ys) (let e : k ≡ k + 0 = omega arith in e)
places_append k (None ∷ xs) ys = places_append (k + 1) xs ys ∙ ap (λ n. cell_numbers_from (k + 1) xs ++ cell_numbers_from n ys) (let e : k + 1 + length xs ≡ k + suc (length xs) = omega arith in e)
places_append k (Some v ∷ xs) ys = ap (λ ps. k ∷ ps) (places_append (k + 1) xs ys ∙ ap (λ n. cell_numbers_from (k + 1) xs ++ cell_numbers_from n ys) (let e : k + 1 + length xs ≡ k + suc (length xs) = omega arith in e))

pub values_append : (xs ys : List (Option ℤ)) → cell_values (xs ++ ys) ≡ cell_values xs ++ cell_values ys
values_append [] ys = refl
values_append (None ∷ xs) ys = values_append xs ys
values_append (Some v ∷ xs) ys = ap (λ vs. v ∷ vs) (values_append xs ys)

-- as many places as values
pub same_many : (k : ℕ) (xs : List (Option ℤ)) → length (cell_numbers_from k xs) ≡ length (cell_values xs)
same_many k [] = refl
same_many k (None ∷ xs) = same_many (k + 1) xs
same_many k (Some v ∷ xs) = ap suc (same_many (k + 1) xs)

nones : ℕ → List (Option ℤ)
nones zero = []
nones (suc n) = None ∷ nones n

one_on : (done xs : List (Option ℤ)) (x : Option ℤ) → (done ++ x ∷ []) ++ xs ≡ done ++ x ∷ xs
one_on done xs x = append_assoc done (x ∷ []) xs

-- writing the values of cells at their places gives the cells
fills : (done xs : List (Option ℤ)) (k : ℕ) → k ≡ length done → with_cells (done ++ nones (length xs)) (cell_numbers_from k xs) (cell_values xs) ≡ done ++ xs
unfolding nones
fills done [] k e = refl
fills done (None ∷ xs) k e =
    ap (λ cells. with_cells cells (cell_numbers_from (k + 1) xs) (cell_values xs)) (sym (one_on done (nones (length xs)) None))
    ∙ fills (done ++ None ∷ []) xs (k + 1) (omega (arith, e, length_push done None))
    ∙ one_on done xs None
fills done (Some v ∷ xs) k e =
    ap (λ cells. with_cells cells (cell_numbers_from (k + 1) xs) (cell_values xs)) (set_at done None (nones (length xs)) (Some v) k (sym e) ∙ sym (one_on done (nones (length xs)) (Some v)))
    ∙ fills (done ++ Some v ∷ []) xs (k + 1) (omega (arith, e, length_push done (Some v)))
    ∙ one_on done xs (Some v)

many : (a b : List (Option ℤ)) (x y : Option ℤ) → length a ≡ 8 → length b ≡ 8 → length (a ++ (b ++ (x ∷ y ∷ []))) ≡ 18
many a b x y p q = simp length-append (omega (arith, p, q))

fills_all : (xs : List (Option ℤ)) → length xs ≡ 18 → with_cells empty_cells (cell_numbers_from 0 xs) (cell_values xs) ≡ xs
unfolding nones
fills_all xs h = subst (λ n. with_cells (nones n) (cell_numbers_from 0 xs) (cell_values xs) ≡ xs) h (fills [] xs 0 refl)

first_eight : (a b : List (Option ℤ)) → length a ≡ 8 → take 8 (a ++ b) ≡ a
first_eight a b h = take_at a b 8 h

after_eight : (a b : List (Option ℤ)) → length a ≡ 8 → drop 8 (a ++ b) ≡ b
after_eight a b h = drop_at a b 8 h

decides-true : (q : ℤ) → int_eq q (pos 0) ≡ true → q ≡ pos 0
decides-true q e = grind (arith, ints, e)

state_is : (q : ℤ) → unwrap_or (state_cell q) (pos 0) ≡ q
state_is q = by (int_eq q (pos 0)) refl
  where
    by : (b : Bool) → int_eq q (pos 0) ≡ b → unwrap_or (cond b None (Some q)) (pos 0) ≡ q
    by true e = sym (decides-true q e)
    by false e = refl

get_or_at_two : (a b : List (Option ℤ)) (x : Option ℤ) (more : List (Option ℤ)) (n : ℕ) → length a + length b ≡ n → slice_index_or (a ++ (b ++ x ∷ more)) n None ≡ x
get_or_at_two a b x more n h =
    ap (λ xs. slice_index_or xs n None) (sym (append_assoc a b (x ∷ more))) ∙ get_or_at (a ++ b) x more None n (length-append a b ∙ h)

cell_at : (a b : List (Option ℤ)) (x y : Option ℤ) → length a ≡ 8 → length b ≡ 8 → (slice_index_or (a ++ (b ++ (x ∷ y ∷ []))) 16 None ≡ x) × (slice_index_or (a ++ (b ++ (x ∷ y ∷ []))) 17 None ≡ y)
cell_at a b x y p q = (
  get_or_at_two a b x (y ∷ []) 16 (omega (arith, p, q)),
  ap (λ xs. slice_index_or xs 17 None) (ap (λ zs. a ++ zs) (sym (append_assoc b (x ∷ []) (y ∷ []))) ∙ refl) ∙ get_or_at_two a (b ++ x ∷ []) y [] 17 (omega (arith, p, q, length_push b x)),
)

-- a firing is what its cells say
pub same_firing : (x : ActorFiring) → length x.inputs ≡ 8 → length x.outputs ≡ 8 → firing_from x.actor x.tag (with_cells empty_cells (cell_numbers_from 0 (cells_of_firing x)) (cell_values (cells_of_firing x))) ≡ x
same_firing x p q =
    ap (firing_from x.actor x.tag) (fills_all (cells_of_firing x) (many x.inputs x.outputs (state_cell x.before) (state_cell x.after) p q))
    ∙ (λ i. record {
      actor = x.actor;
      tag = x.tag;
      inputs = first_eight x.inputs (x.outputs ++ (state_cell x.before ∷ state_cell x.after ∷ [])) p i;
      before = (ap (λ z. unwrap_or z (pos 0)) (cell_at x.inputs x.outputs (state_cell x.before) (state_cell x.after) p q).0 ∙ state_is x.before) i;
      after = (ap (λ z. unwrap_or z (pos 0)) (cell_at x.inputs x.outputs (state_cell x.before) (state_cell x.after) p q).1 ∙ state_is x.after) i;
      outputs = (ap (take 8) (after_eight x.inputs (x.outputs ++ (state_cell x.before ∷ state_cell x.after ∷ [])) p) ∙ first_eight x.outputs (state_cell x.before ∷ state_cell x.after ∷ []) q) i;
    })

-- the values between two places begin with the first of them
window : {X : Type 0} (xs : List X) (n e : ℕ) (d : X) → n < e → e ≤ length xs → take (e - n) (drop n xs) ≡ slice_index_or xs n d ∷ take (e - (n + 1)) (drop (n + 1) xs)
window xs n e d low within =
    let one : e - n ≡ suc (e - (n + 1)) = omega (arith, low) in
    let inside : n < length xs = omega (arith, low, within) in
    ap₂ (λ k ys. take k ys) one (drop_more xs n d inside)

-- one cell more is filled in
pub fill_more : (cells now : List (Option ℤ)) (places : List ℕ) (values : List ℤ) (n e : ℕ) → n < e → e ≤ length places → e ≤ length values
    → now ≡ slice_set cells (slice_index_or places n 0) (Some (slice_index_or values n (pos 0)))
    → with_cells now (take (e - (n + 1)) (drop (n + 1) places)) (take (e - (n + 1)) (drop (n + 1) values)) ≡ with_cells cells (take (e - n) (drop n places)) (take (e - n) (drop n values))
fill_more cells now places values n e low p v is =
    ap (λ z. with_cells z (take (e - (n + 1)) (drop (n + 1) places)) (take (e - (n + 1)) (drop (n + 1) values))) is
    ∙ sym (ap₂ (with_cells cells) (window places n e 0 low p) (window values n e (pos 0) low v))

pub fill_none : (cells : List (Option ℤ)) (places : List ℕ) (values : List ℤ) (n e : ℕ) → e ≤ n → with_cells cells (take (e - n) (drop n places)) (take (e - n) (drop n values)) ≡ cells
fill_none cells places values n e h = let none : e - n ≡ 0 = omega (arith, h) in rw none refl

-- inputs, outputs and states, one after another
pub joined_places : (old one two three : List ℕ) (inputs outputs states : List (Option ℤ)) → length inputs ≡ 8 → length outputs ≡ 8
    → one ≡ old ++ cell_numbers_from 0 inputs → two ≡ one ++ cell_numbers_from 8 outputs → three ≡ two ++ cell_numbers_from 16 states → three ≡ old ++ cell_numbers_from 0 (inputs ++ (outputs ++ states))
joined_places old one two three inputs outputs states p q a b c =
    c ∙ ap (λ xs. xs ++ cell_numbers_from 16 states) (b ∙ ap (λ xs. xs ++ cell_numbers_from 8 outputs) a)
    ∙ append_assoc (old ++ cell_numbers_from 0 inputs) (cell_numbers_from 8 outputs) (cell_numbers_from 16 states)
    ∙ append_assoc old (cell_numbers_from 0 inputs) (cell_numbers_from 8 outputs ++ cell_numbers_from 16 states)
    ∙ ap (λ xs. old ++ xs)
    (ap (λ xs. cell_numbers_from 0 inputs ++ xs) (ap (λ n. cell_numbers_from 8 outputs ++ cell_numbers_from n states) (let e : 16 ≡ 8 + length outputs = omega (arith, q) in e)
    ∙ sym (places_append 8 outputs states) ∙ ap (λ n. cell_numbers_from n (outputs ++ states)) (let e : 8 ≡ 0 + length inputs = omega (arith, p) in e))
    ∙ sym (places_append 0 inputs (outputs ++ states)))

pub joined_values : (old one two three : List ℤ) (inputs outputs states : List (Option ℤ))
    → one ≡ old ++ cell_values inputs → two ≡ one ++ cell_values outputs → three ≡ two ++ cell_values states → three ≡ old ++ cell_values (inputs ++ (outputs ++ states))
joined_values old one two three inputs outputs states a b c =
    c ∙ ap (λ xs. xs ++ cell_values states) (b ∙ ap (λ xs. xs ++ cell_values outputs) a)
    ∙ append_assoc (old ++ cell_values inputs) (cell_values outputs) (cell_values states)
    ∙ append_assoc old (cell_values inputs) (cell_values outputs ++ cell_values states)
    ∙ ap (λ xs. old ++ xs) (ap (λ xs. cell_values inputs ++ xs) (sym (values_append outputs states)) ∙ sym (values_append inputs (outputs ++ states)))

pub eight_front : (cs : List (Option ℤ)) → 8 ≤ length cs
    → slice_index_or cs 0 None ∷ slice_index_or cs 1 None ∷ slice_index_or cs 2 None ∷ slice_index_or cs 3 None ∷ slice_index_or cs 4 None ∷ slice_index_or cs 5 None ∷ slice_index_or cs 6 None ∷ slice_index_or cs 7 None ∷ [] ≡ take 8 cs
eight_front [] n = absurd (omega arith)
eight_front (a ∷ []) n = absurd (omega arith)
eight_front (a ∷ b ∷ []) n = absurd (omega arith)
eight_front (a ∷ b ∷ c ∷ []) n = absurd (omega arith)
eight_front (a ∷ b ∷ c ∷ d ∷ []) n = absurd (omega arith)
eight_front (a ∷ b ∷ c ∷ d ∷ e ∷ []) n = absurd (omega arith)
eight_front (a ∷ b ∷ c ∷ d ∷ e ∷ f ∷ []) n = absurd (omega arith)
eight_front (a ∷ b ∷ c ∷ d ∷ e ∷ f ∷ g ∷ []) n = absurd (omega arith)
eight_front (a ∷ b ∷ c ∷ d ∷ e ∷ f ∷ g ∷ h ∷ cs) n = refl

pub eight_back : (cs : List (Option ℤ)) → 16 ≤ length cs
    → slice_index_or cs 8 None ∷ slice_index_or cs 9 None ∷ slice_index_or cs 10 None ∷ slice_index_or cs 11 None ∷ slice_index_or cs 12 None ∷ slice_index_or cs 13 None ∷ slice_index_or cs 14 None ∷ slice_index_or cs 15 None ∷ [] ≡ take 8 (drop 8 cs)
eight_back cs n =
    sym (λ i. get_or-drop 8 cs 0 None i ∷ get_or-drop 8 cs 1 None i ∷ get_or-drop 8 cs 2 None i ∷ get_or-drop 8 cs 3 None i ∷ get_or-drop 8 cs 4 None i ∷ get_or-drop 8 cs 5 None i ∷ get_or-drop 8 cs 6 None i ∷ get_or-drop 8 cs 7 None i ∷ [])
    ∙ eight_front (drop 8 cs) (simp length-drop (omega (arith, n)))
