-- The first value found along a list.
use Rattle.std.proofs.Common.{◌≡◌, ℕ, zero, suc, ◌<◌, ◌==◌, ◌⊎◌, ◌≢◌, Bool, true, false, List, [], ◌∷◌, ◌++◌, Option, Some, None, ℤ, slice_get, arith, refl, sym, ap, ap₂, subst, ◌∙◌, inl, inr, ⊎_elim, eqb-true}
use Rattle.std.proofs.lemmas.Bool.{cases_Bool, and_parts, and_from, false≢true}
use Rattle.pt_types.specs.declared.graph.Unit.{Unit}
use Rattle.pt_semantics.specs.Lists.{first_of, or_else, IsIn, Each}
use Rattle.pt_types.specs.Ports.{when, eight, at_port}
use Rattle.pt_semantics.specs.Firing.{any_present}
use Rattle.pt_semantics.specs.Units.{same_part}
use Rattle.pt_semantics.proofs.Words.{when-true, when-false}

pub none_some : {X : Type 0} (x : X) → None ≡ Some x → ⊥
none_some x h = cc

pub same_some : {X : Type 0} (x y : X) → Some x ≡ Some y → x ≡ y
same_some x y h = cc

pub or_else_none : {X : Type 0} (x : Option X) → or_else x None ≡ x
or_else_none None = refl
or_else_none (Some x) = refl

pub or_else_assoc : {X : Type 0} (x y z : Option X) → or_else (or_else x y) z ≡ or_else x (or_else y z)
or_else_assoc None y z = refl
or_else_assoc (Some x) y z = refl

-- a value of two comes from one of them
pub or_else_found : {X : Type 0} (x y : Option X) (v : X) → or_else x y ≡ Some v → (x ≡ Some v) ⊎ (y ≡ Some v)
or_else_found None y v h = inr h
or_else_found (Some x) y v h = inl h

pub when_found : {X : Type 0} (b : Bool) (x : Option X) (v : X) → when b x ≡ Some v → (b ≡ true) × (x ≡ Some v)
when_found true x v h = (refl, h)
when_found false x v h = absurd (none_some v h)

pub when_or_else : {X : Type 0} (b : Bool) (x y : Option X) → when b (or_else x y) ≡ or_else (when b x) (when b y)
when_or_else true x y = refl
when_or_else false x y = refl

pub when_none : (X : Type 0) (b : Bool) → ◌≡◌ {A = Option X} (when b None) None
when_none X true = refl
when_none X false = refl

pub first_of_found : {X Y : Type 0} (h : X → Option Y) (xs : List X) (v : Y) → first_of h xs ≡ Some v → (x : X) × IsIn x xs × (h x ≡ Some v)
first_of_found h [] v e = absurd (none_some v e)
first_of_found h (x ∷ xs) v e =
    ⊎_elim
    (λ (f : h x ≡ Some v). (x, inl refl, f))
    (λ (f : first_of h xs ≡ Some v). let r = first_of_found h xs v f in (r.0, inr r.1, r.2))
    (or_else_found (h x) (first_of h xs) v e)

pub first_of_none : {X Y : Type 0} (h : X → Option Y) (xs : List X) → ((x : X) → IsIn x xs → h x ≡ None) → first_of h xs ≡ None
first_of_none h [] e = refl
first_of_none h (x ∷ xs) e = ap₂ or_else (e x (inl refl)) (first_of_none h xs (λ y m. e y (inr m)))

pub first_of-append : {X Y : Type 0} (h : X → Option Y) (xs ys : List X) → first_of h (xs ++ ys) ≡ or_else (first_of h xs) (first_of h ys)
first_of-append h [] ys = refl
first_of-append h (x ∷ xs) ys = ap (or_else (h x)) (first_of-append h xs ys) ∙ sym (or_else_assoc (h x) (first_of h xs) (first_of h ys))

-- by index, where no other place has a value
pub first_of_at : {X Y : Type 0} (h : X → Option Y) (xs : List X) (l : ℕ) (x : X) (v : Y) → slice_get xs l ≡ Some x → h x ≡ Some v → ((k : ℕ) (y : X) → slice_get xs k ≡ Some y → (h y ≡ None) ⊎ (k ≡ l)) → first_of h xs ≡ Some v
first_of_at h [] l x v at e others = absurd (none_some x at)
first_of_at h (y ∷ ys) zero x v at e others = ap (λ o. or_else o (first_of h ys)) (ap h (same_some y x at) ∙ e)
first_of_at h (y ∷ ys) (suc l) x v at e others =
    ⊎_elim
    (λ (no_value : h y ≡ None).
    ap (λ o. or_else o (first_of h ys)) no_value
    ∙ first_of_at h ys l x v at e (λ k z atk. ⊎_elim (λ (n : h z ≡ None). inl n) (λ (s : suc k ≡ suc l). inr (omega arith)) (others (suc k) z atk)))
    (λ (s : zero ≡ suc l). absurd (omega arith))
    (others zero y refl)

pub IsIn-append_left : {X : Type 0} (x : X) (xs ys : List X) → IsIn x xs → IsIn x (xs ++ ys)
IsIn-append_left x [] ys h = absurd h
IsIn-append_left x (y ∷ xs) ys h = ⊎_elim (λ (e : x ≡ y). inl e) (λ (m : IsIn x xs). inr (IsIn-append_left x xs ys m)) h

pub IsIn-append_right : {X : Type 0} (x : X) (xs ys : List X) → IsIn x ys → IsIn x (xs ++ ys)
IsIn-append_right x [] ys h = h
IsIn-append_right x (y ∷ xs) ys h = inr (IsIn-append_right x xs ys h)

pub IsIn-append : {X : Type 0} (x : X) (xs ys : List X) → IsIn x (xs ++ ys) → IsIn x xs ⊎ IsIn x ys
IsIn-append x [] ys h = inr h
IsIn-append x (y ∷ xs) ys h =
    ⊎_elim (λ (e : x ≡ y). inl (inl e)) (λ (m : IsIn x (xs ++ ys)). ⊎_elim (λ (l : IsIn x xs). inl (inr l)) (λ (r : IsIn x ys). inr r) (IsIn-append x xs ys m)) h

pub Each-in : {X : Type 0} (P : X → Type 0) (xs : List X) → Each P xs → (x : X) → IsIn x xs → P x
Each-in P [] e x m = absurd m
Each-in P (y ∷ xs) e x m = ⊎_elim (λ (s : x ≡ y). subst P (sym s) e.0) (λ (r : IsIn x xs). Each-in P xs e.1 x r) m

pub Each-from : {X : Type 0} (P : X → Type 0) (xs : List X) → ((x : X) → IsIn x xs → P x) → Each P xs
Each-from P [] e = tt
Each-from P (x ∷ xs) e = (e x (inl refl), Each-from P xs (λ y m. e y (inr m)))

pub Each-append : {X : Type 0} (P : X → Type 0) (xs ys : List X) → Each P xs → Each P ys → Each P (xs ++ ys)
Each-append P [] ys a b = b
Each-append P (x ∷ xs) ys a b = (a.0, Each-append P xs ys a.1 b)

-- the one member that passes a test
abbrev pub pick : {X : Type 0} → (X → Bool) → List X → Option X
pick b xs = first_of (λ x. when (b x) (Some x)) xs

abbrev pub at_pick : {X Y : Type 0} → (X → Option Y) → Option X → Option Y
at_pick h None = None
at_pick h (Some x) = h x

picked_first : {X Y : Type 0} (b : X → Bool) (h : X → Option Y) (x : X) (xs : List X) → ((y : X) → IsIn y xs → b y ≡ true → y ≡ x) → (o : Option Y) → h x ≡ o → or_else (h x) (first_of (λ y. when (b y) (h y)) xs) ≡ h x
picked_first b h x xs one (Some v) e = ap (λ o. or_else o (first_of (λ y. when (b y) (h y)) xs)) e ∙ sym e
picked_first b h x xs one None e =
    ap₂ or_else e (first_of_none (λ y. when (b y) (h y)) xs (λ y m.
    ⊎_elim
    (λ (yes_y : b y ≡ true). when-true (b y) (h y) yes_y ∙ ap h (one y m yes_y) ∙ e)
    (λ (no_y : b y ≡ false). when-false (b y) (h y) no_y)
    (cases_Bool (b y))))
    ∙ sym e

pub picked : {X Y : Type 0} (b : X → Bool) (h : X → Option Y) (xs : List X) → ((x y : X) → IsIn x xs → IsIn y xs → b x ≡ true → b y ≡ true → x ≡ y) → first_of (λ x. when (b x) (h x)) xs ≡ at_pick h (pick b xs)
picked b h [] one = refl
picked b h (x ∷ xs) one =
    ⊎_elim
    (λ (yes_x : b x ≡ true).
    ap (λ o. or_else o (first_of (λ y. when (b y) (h y)) xs)) (when-true (b x) (h x) yes_x)
    ∙ picked_first b h x xs (λ y m yes_y. one y x (inr m) (inl refl) yes_y yes_x) (h x) refl
    ∙ ap (at_pick h) (sym (ap (λ o. or_else o (pick b xs)) (when-true (b x) (Some x) yes_x))))
    (λ (no_x : b x ≡ false).
    ap (λ o. or_else o (first_of (λ y. when (b y) (h y)) xs)) (when-false (b x) (h x) no_x)
    ∙ picked b h xs (λ y z my mz. one y z (inr my) (inr mz))
    ∙ ap (at_pick h) (sym (ap (λ o. or_else o (pick b xs)) (when-false (b x) (Some x) no_x))))
    (cases_Bool (b x))

pub at_pick_or : {X Y : Type 0} (h k : X → Option Y) (o : Option X) → at_pick (λ x. or_else (h x) (k x)) o ≡ or_else (at_pick h o) (at_pick k o)
at_pick_or h k None = refl
at_pick_or h k (Some x) = refl

-- units
pub same_part-refl : (u : Unit) → same_part u u ≡ true
same_part-refl u = and_from (u.actor == u.actor) (u.group == u.group) (same_ℕ u.actor) (same_ℕ u.group)
  where
    same_ℕ : (n : ℕ) → (n == n) ≡ true
    same_ℕ n = grind arith

pub same_part-true : (u v : Unit) → same_part u v ≡ true → u ≡ v
same_part-true u v h =
    let both = and_parts (u.actor == v.actor) (u.group == v.group) h in
    let ea : u.actor ≡ v.actor = eqb-true u.actor v.actor both.0 in
    let eg : u.group ≡ v.group = eqb-true u.group v.group both.1 in
    λ i. record { actor = ea i; group = eg i }

pub same_part_not : (u v : Unit) → u ≢ v → same_part u v ≡ false
same_part_not u v h = ⊎_elim (λ (t : same_part u v ≡ true). absurd (h (same_part-true u v t))) (λ (f : same_part u v ≡ false). f) (cases_Bool (same_part u v))

pub cases_part : (u v : Unit) → (u ≡ v) ⊎ (u ≢ v)
cases_part u v = ⊎_elim (λ (t : same_part u v ≡ true). inl (same_part-true u v t)) (λ (f : same_part u v ≡ false). inr (λ e. false≢true (sym f ∙ subst (λ w. same_part u w ≡ true) e (same_part-refl u)))) (cases_Bool (same_part u v))

-- eight ports
pub at_eight : (f : ℕ → Option ℤ) (p : ℕ) → p < 8 → at_port (eight f) p ≡ f p
at_eight f zero h = refl
at_eight f (suc zero) h = refl
at_eight f (suc (suc zero)) h = refl
at_eight f (suc (suc (suc zero))) h = refl
at_eight f (suc (suc (suc (suc zero)))) h = refl
at_eight f (suc (suc (suc (suc (suc zero))))) h = refl
at_eight f (suc (suc (suc (suc (suc (suc zero)))))) h = refl
at_eight f (suc (suc (suc (suc (suc (suc (suc zero))))))) h = refl
at_eight f (suc (suc (suc (suc (suc (suc (suc (suc p)))))))) h = absurd (omega arith)

pub eight_below : (f h : ℕ → Option ℤ) → ((p : ℕ) → p < 8 → f p ≡ h p) → eight f ≡ eight h
eight_below f h e =
    let e0 = e 0 (omega arith) in let e1 = e 1 (omega arith) in let e2 = e 2 (omega arith) in let e3 = e 3 (omega arith) in
    let e4 = e 4 (omega arith) in let e5 = e 5 (omega arith) in let e6 = e 6 (omega arith) in let e7 = e 7 (omega arith) in
    λ i. e0 i ∷ e1 i ∷ e2 i ∷ e3 i ∷ e4 i ∷ e5 i ∷ e6 i ∷ e7 i ∷ []

-- a present port, and none
present_in : (x : Option ℤ) (xs : List (Option ℤ)) → any_present (x ∷ xs) ≡ true → ((v : ℤ) × (x ≡ Some v)) ⊎ (any_present xs ≡ true)
present_in None xs h = inr h
present_in (Some v) xs h = inl (v, refl)

absent_end : any_present [] ≡ true → ⊥
absent_end h = false≢true h

pub eight_found : (f : ℕ → Option ℤ) → any_present (eight f) ≡ true → (p : ℕ) × (v : ℤ) × (p < 8) × (f p ≡ Some v)
eight_found f h = ⊎_elim (λ (w : (v : ℤ) × (f 0 ≡ Some v)). (0, w.0, omega arith, w.1)) (λ h1.
    ⊎_elim (λ (w : (v : ℤ) × (f 1 ≡ Some v)). (1, w.0, omega arith, w.1)) (λ h2.
    ⊎_elim (λ (w : (v : ℤ) × (f 2 ≡ Some v)). (2, w.0, omega arith, w.1)) (λ h3.
    ⊎_elim (λ (w : (v : ℤ) × (f 3 ≡ Some v)). (3, w.0, omega arith, w.1)) (λ h4.
    ⊎_elim (λ (w : (v : ℤ) × (f 4 ≡ Some v)). (4, w.0, omega arith, w.1)) (λ h5.
    ⊎_elim (λ (w : (v : ℤ) × (f 5 ≡ Some v)). (5, w.0, omega arith, w.1)) (λ h6.
    ⊎_elim (λ (w : (v : ℤ) × (f 6 ≡ Some v)). (6, w.0, omega arith, w.1)) (λ h7.
    ⊎_elim (λ (w : (v : ℤ) × (f 7 ≡ Some v)). (7, w.0, omega arith, w.1)) (λ h8. absurd (absent_end h8))
    (present_in (f 7) [] h7)) (present_in (f 6) _ h6)) (present_in (f 5) _ h5)) (present_in (f 4) _ h4)) (present_in (f 3) _ h3)) (present_in (f 2) _ h2)) (present_in (f 1) _ h1)) (present_in (f 0) _ h)

present_more : (x : Option ℤ) (xs : List (Option ℤ)) → any_present xs ≡ true → any_present (x ∷ xs) ≡ true
present_more None xs h = h
present_more (Some v) xs h = refl

present_here : (x : Option ℤ) (xs : List (Option ℤ)) (v : ℤ) → x ≡ Some v → any_present (x ∷ xs) ≡ true
present_here x xs v e = ap (λ y. any_present (y ∷ xs)) e

-- a value at a port shows that one is present
pub present_at : (xs : List (Option ℤ)) (p : ℕ) (v : ℤ) → at_port xs p ≡ Some v → any_present xs ≡ true
present_at [] p v h = absurd (none_some v h)
present_at (x ∷ xs) zero v h = present_here x xs v h
present_at (x ∷ xs) (suc p) v h = present_more x xs (present_at xs p v h)

pub eight_present : (f : ℕ → Option ℤ) (p : ℕ) (v : ℤ) → p < 8 → f p ≡ Some v → any_present (eight f) ≡ true
eight_present f p v l e = present_at (eight f) p v (at_eight f p l ∙ e)
