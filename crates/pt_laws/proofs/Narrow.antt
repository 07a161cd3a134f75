-- The part of a firing that one unit has: each output rests on the inputs of its own unit.
use Rattle.std.proofs.Common.{◌≡◌, ℕ, zero, suc, ◌+◌, ◌-◌, ◌<◌, ◌≤◌, ◌==◌, ◌⊎◌, true, false, List, [], ◌∷◌, Option, Some, None, ℤ, nat_lt, take, drop, arith, refl, sym, ap, ap₂, subst, ◌∙◌, inl, inr, ⊎_elim, eq-eqb}
use Rattle.std.proofs.lemmas.Bool.{cases_lt, cond-true, cond-false, false≢true, lt-ltb, le-ltb}
use Rattle.std.proofs.lemmas.Bool.Decides.{nat_tests}
use Rattle.std.proofs.lemmas.List.{get_or_past}
use Rattle.pt_types.specs.declared.kind.Kind.{Kind}
use Rattle.pt_types.specs.declared.kind.Kind.TheVariants.{Lanes}
use Rattle.pt_types.specs.Ports.{when, eight, at_port}
use Rattle.pt_types.specs.Groups.{input_group, output_group, cell_of}
use Rattle.pt_semantics.specs.Firing.{fired, any_present, lane_outputs, present_sum}
use Rattle.pt_semantics.specs.Laws.{nearest}
use Rattle.pt_semantics.specs.Parts.{narrowed}
use Rattle.pt_semantics.proofs.Words.{when-true, when-false}
use Rattle.pt_semantics.proofs.Lookups.{at_eight, eight_below}

-- each element by its place
abbrev pub by_place : (ℕ → Option ℤ → Option ℤ) → List (Option ℤ) → List (Option ℤ)
by_place f [] = []
by_place f (x ∷ xs) = f 0 x ∷ by_place (λ p. f (suc p)) xs

by_place_same : (f h : ℕ → Option ℤ → Option ℤ) (xs : List (Option ℤ)) → ((p : ℕ) (x : Option ℤ) → f p x ≡ h p x) → by_place f xs ≡ by_place h xs
by_place_same f h [] e = refl
by_place_same f h (x ∷ xs) e = ap₂ (λ a b. a ∷ b) (e 0 x) (by_place_same (λ p. f (suc p)) (λ p. h (suc p)) xs (λ p. e (suc p)))

take_by_place : (f : ℕ → Option ℤ → Option ℤ) (n : ℕ) (xs : List (Option ℤ)) → ((p : ℕ) (x : Option ℤ) → p < n → f p x ≡ x) → take n (by_place f xs) ≡ take n xs
take_by_place f zero xs e = refl
take_by_place f (suc n) [] e = refl
take_by_place f (suc n) (x ∷ xs) e = ap₂ (λ a b. a ∷ b) (e 0 x (omega arith)) (take_by_place (λ p. f (suc p)) n xs (λ p y lt. e (suc p) y (omega arith)))

drop_by_place : (f : ℕ → Option ℤ → Option ℤ) (n : ℕ) (xs : List (Option ℤ)) → drop n (by_place f xs) ≡ by_place (λ p. f (n + p)) (drop n xs)
drop_by_place f zero xs = by_place_same f (λ p. f (0 + p)) xs (λ p x. ap (λ q. f q x) (plus_none p))
  where
    plus_none : (p : ℕ) → p ≡ 0 + p
    plus_none p = omega arith
drop_by_place f (suc n) [] = refl
drop_by_place f (suc n) (x ∷ xs) = drop_by_place (λ p. f (suc p)) n xs ∙ by_place_same (λ p. f (suc (n + p))) (λ p. f (suc n + p)) (drop n xs) (λ p y. ap (λ q. f q y) (plus_one n p))
  where
    plus_one : (n p : ℕ) → suc (n + p) ≡ suc n + p
    plus_one n p = omega arith

suc_test : (a b : ℕ) → (suc a == suc b) ≡ (a == b)
suc_test a b = grind (arith, nat_tests)

in_cell : (n : ℕ) (ns : List ℕ) (p : ℕ) → p < n → cell_of (n ∷ ns) p ≡ 0
in_cell n ns p lt = cond-true (nat_lt p n) 0 (suc (cell_of ns (p - n))) (lt-ltb p n lt)

past_cell : (n : ℕ) (ns : List ℕ) (p : ℕ) → cell_of (n ∷ ns) (n + p) ≡ suc (cell_of ns p)
past_cell n ns p =
    let ge : n ≤ n + p = omega arith in
    let back : (n + p) - n ≡ p = omega arith in
    cond-false (nat_lt (n + p) n) 0 (suc (cell_of ns ((n + p) - n))) (le-ltb (n + p) n ge) ∙ ap (λ q. suc (cell_of ns q)) back

abbrev own : List ℕ → ℕ → ℕ → Option ℤ → Option ℤ
own cells o p x = when (cell_of cells p == o) x

lane_own : (cells : List ℕ) (o : ℕ) (xs : List (Option ℤ)) → lane_outputs cells (by_place (own cells o) xs) o ≡ lane_outputs cells xs o
lane_own [] o xs = refl
lane_own (n ∷ ns) zero xs =
    ap (λ ys. when (any_present ys) (Some (nearest (present_sum ys))))
    (take_by_place (own (n ∷ ns) 0) n xs (λ p x lt. when-true (cell_of (n ∷ ns) p == 0) x (eq-eqb (cell_of (n ∷ ns) p) 0 (in_cell n ns p lt))))
lane_own (n ∷ ns) (suc o) xs =
    ap (λ ys. lane_outputs ns ys o)
    (drop_by_place (own (n ∷ ns) (suc o)) n xs
    ∙ by_place_same (λ p. own (n ∷ ns) (suc o) (n + p)) (own ns o) (drop n xs) (λ p x. ap (λ c. when (c == suc o) x) (past_cell n ns p) ∙ ap (λ b. when b x) (suc_test (cell_of ns p) o)))
    ∙ lane_own ns o (drop n xs)

absent_take : (n : ℕ) (xs : List (Option ℤ)) → any_present xs ≡ false → any_present (take n xs) ≡ false
absent_take zero xs h = refl
absent_take (suc n) [] h = refl
absent_take (suc n) (None ∷ xs) h = absent_take n xs h
absent_take (suc n) (Some x ∷ xs) h = absurd (false≢true (sym h))

absent_drop : (n : ℕ) (xs : List (Option ℤ)) → any_present xs ≡ false → any_present (drop n xs) ≡ false
absent_drop zero xs h = h
absent_drop (suc n) [] h = refl
absent_drop (suc n) (None ∷ xs) h = absent_drop n xs h
absent_drop (suc n) (Some x ∷ xs) h = absurd (false≢true (sym h))

lane_absent : (cells : List ℕ) (o : ℕ) (xs : List (Option ℤ)) → any_present xs ≡ false → lane_outputs cells xs o ≡ None
lane_absent [] o xs h = refl
lane_absent (n ∷ ns) zero xs h = when-false (any_present (take n xs)) _ (absent_take n xs h)
lane_absent (n ∷ ns) (suc o) xs h = lane_absent ns o (drop n xs) (absent_drop n xs h)

-- an actor's inputs and outputs are of one group, or it is lanes
kind_io : (k : Kind) → ((p o : ℕ) → input_group k p ≡ output_group k o) ⊎ ((cells : List ℕ) × (k ≡ Lanes cells))
kind_io (Lanes cells) = inr (cells, refl)
kind_io _ = inl (λ p o. refl)

pub narrowed_whole : (k : Kind) (group : ℕ) (f : ℕ → Option ℤ) → ((p : ℕ) → input_group k p ≡ group) → narrowed k group (eight f) ≡ eight f
narrowed_whole k group f same = eight_below _ f (λ p lt. when-true (input_group k p == group) (at_port (eight f) p) (eq-eqb (input_group k p) group (same p)) ∙ at_eight f p lt)

at_lanes : (h f : ℕ → Option ℤ) (o : ℕ) → h o ≡ f o → at_port (eight h) o ≡ at_port (eight f) o
at_lanes h f o e =
    ⊎_elim
    (λ (lt : o < 8). at_eight h o lt ∙ e ∙ sym (at_eight f o lt))
    (λ (ge : 8 ≤ o). get_or_past (eight h) o None ge ∙ sym (get_or_past (eight f) o None ge))
    (cases_lt o 8)

at_lanes_none : (h : ℕ → Option ℤ) (o : ℕ) → h o ≡ None → at_port (eight h) o ≡ None
at_lanes_none h o e =
    ⊎_elim (λ (lt : o < 8). at_eight h o lt ∙ e) (λ (ge : 8 ≤ o). get_or_past (eight h) o None ge) (cases_lt o 8)

-- an output of a unit's part is that output of the whole
pub part_output : (k : Kind) (q : ℤ) (f : ℕ → Option ℤ) (o : ℕ) → at_port (fired k q (narrowed k (output_group k o) (eight f))).outputs o ≡ at_port (fired k q (eight f)).outputs o
part_output k q f o =
    ⊎_elim
    (λ (one : (p n : ℕ) → input_group k p ≡ output_group k n). ap (λ i. at_port (fired k q i).outputs o) (narrowed_whole k (output_group k o) f (λ p. one p o)))
    (λ (lanes : (cells : List ℕ) × (k ≡ Lanes cells)).
    subst (λ z. at_port (fired z q (narrowed z (output_group z o) (eight f))).outputs o ≡ at_port (fired z q (eight f)).outputs o) (sym lanes.1)
    (at_lanes (lane_outputs lanes.0 (narrowed (Lanes lanes.0) o (eight f))) (lane_outputs lanes.0 (eight f)) o (lane_own lanes.0 o (eight f))))
    (kind_io k)

-- where a unit has no input, the whole has no output there
pub no_output : (k : Kind) (q : ℤ) (f : ℕ → Option ℤ) (o : ℕ) → any_present (eight f) ≡ true → any_present (narrowed k (output_group k o) (eight f)) ≡ false → at_port (fired k q (eight f)).outputs o ≡ None
no_output k q f o present none =
    ⊎_elim
    (λ (one : (p n : ℕ) → input_group k p ≡ output_group k n). absurd (false≢true (sym none ∙ ap any_present (narrowed_whole k (output_group k o) f (λ p. one p o)) ∙ present)))
    (λ (lanes : (cells : List ℕ) × (k ≡ Lanes cells)).
    sym (part_output k q f o)
    ∙ subst (λ z. any_present (narrowed z (output_group z o) (eight f)) ≡ false → at_port (fired z q (narrowed z (output_group z o) (eight f))).outputs o ≡ None) (sym lanes.1)
    (λ n. at_lanes_none (lane_outputs lanes.0 (narrowed (Lanes lanes.0) o (eight f))) o (lane_absent lanes.0 o (narrowed (Lanes lanes.0) o (eight f)) n))
    none)
    (kind_io k)
