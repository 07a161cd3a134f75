-- Laws of the words on lists and firings.
use Rattle.std.proofs.Common.{◌≡◌, ℕ, ◌⊎◌, Bool, true, false, cond, List, [], ◌∷◌, Option, Some, None, ℤ, refl, sym, ap, ap₂, subst, ◌∙◌, inl, inr, ⊎_elim}
use Rattle.std.proofs.lemmas.Bool.{cases_Bool, cond-true, cond-false}
use Rattle.pt_tags.specs.declared.tag.Tag.{Tag}
use Rattle.pt_tags.specs.Tags.{Before, same_tag, tag_lt}
use Rattle.pt_semantics.specs.Lists.{first_of, or_else, IsIn, Each}
use Rattle.pt_types.specs.Ports.{when, eight}
use Rattle.pt_semantics.specs.Behaviours.{Firing, Rising, firing_at, state_before}
use Rattle.pt_semantics.proofs.Tags.{Before-trans, cases_tags, same_tag-refl, same_tag-true, same_tag-after, tag_lt-true, tag_lt-from}

pub first_of_same : {X Y : Type 0} (h k : X → Option Y) (xs : List X) → ((x : X) → IsIn x xs → h x ≡ k x) → first_of h xs ≡ first_of k xs
first_of_same h k [] e = refl
first_of_same h k (x ∷ xs) e = ap₂ or_else (e x (inl refl)) (first_of_same h k xs (λ y i. e y (inr i)))

pub when_same : {X : Type 0} (b : Bool) (x y : Option X) → (b ≡ true → x ≡ y) → when b x ≡ when b y
when_same true x y e = e refl
when_same false x y e = refl

pub when-true : {X : Type 0} (b : Bool) (x : Option X) → b ≡ true → when b x ≡ x
when-true b x e = ap (λ c. when c x) e

pub when-false : {X : Type 0} (b : Bool) (x : Option X) → b ≡ false → when b x ≡ None
when-false b x e = ap (λ c. when c x) e

pub eight_same : (f g : ℕ → Option ℤ) → ((p : ℕ) → f p ≡ g p) → eight f ≡ eight g
eight_same f g e = λ i. eight (λ p. e p i)

pub Each-map : {X : Type 0} (P Q : X → Type 0) (xs : List X) → ((x : X) → P x → Q x) → Each P xs → Each Q xs
Each-map P Q [] e h = tt
Each-map P Q (x ∷ xs) e h = (e x h.0, Each-map P Q xs e h.1)

-- nothing fires at a tag that each firing is past
pub firing_at_none : (xs : List Firing) (s : Tag) → Each (λ (y : Firing). Before s y.tag) xs → firing_at xs s ≡ None
firing_at_none [] s h = refl
firing_at_none (x ∷ xs) s h = ap₂ or_else (when-false _ (Some x) (same_tag-after x.tag s h.0)) (firing_at_none xs s h.1)

pub firing_at_head : (x : Firing) (xs : List Firing) → firing_at (x ∷ xs) x.tag ≡ Some x
firing_at_head x xs = ap (λ o. or_else o (firing_at xs x.tag)) (when-true _ (Some x) (same_tag-refl x.tag))

pub firing_at_tail : (x : Firing) (xs : List Firing) (s : Tag) → same_tag x.tag s ≡ false → firing_at (x ∷ xs) s ≡ firing_at xs s
firing_at_tail x xs s h = ap (λ o. or_else o (firing_at xs s)) (when-false _ (Some x) h)

pub past : (s : Tag) (x : Firing) (xs : List Firing) → Before s x.tag → Rising (x ∷ xs) → Each (λ (y : Firing). Before s y.tag) (x ∷ xs)
past s x xs h r = (h, Each-map _ (λ (y : Firing). Before s y.tag) xs (λ y l. Before-trans s x.tag y.tag h l) r.0)

-- the firings up to the first whose tag fails a test
abbrev pub front : (Tag → Bool) → List Firing → List Firing
front p [] = []
front p (x ∷ xs) = cond (p x.tag) (x ∷ front p xs) []

front_stops : (p : Tag → Bool) (x : Firing) (xs : List Firing) → p x.tag ≡ false → front p (x ∷ xs) ≡ []
front_stops p x xs h = cond-false (p x.tag) (x ∷ front p xs) [] h

pub some_none : (x : Firing) → Some x ≡ None → ⊥
some_none x h = cc

some_some : (x y : Firing) → Some x ≡ Some y → x ≡ y
some_some x y h = cc

module _ (p : Tag → Bool) (down : (s t : Tag) → Before s t → p t ≡ true → p s ≡ true) where
  -- where two rising lists agree on the tags that pass, a first firing that passes is in both
  stops : (x y : Firing) (xs ys : List Firing) → Rising (y ∷ ys) → Before x.tag y.tag → ((s : Tag) → p s ≡ true → firing_at (x ∷ xs) s ≡ firing_at (y ∷ ys) s) → p x.tag ≡ true → ⊥
  stops x y xs ys ry l same h = some_none x (sym (firing_at_head x xs) ∙ same x.tag h ∙ firing_at_none (y ∷ ys) x.tag (past x.tag y ys l ry))

  not_passing : (s t : Tag) → Before s t → (p s ≡ true → ⊥) → p t ≡ false
  not_passing s t l never = ⊎_elim (λ (h : p t ≡ true). absurd (never (down s t l h))) (λ (h : p t ≡ false). h) (cases_Bool (p t))

  failing : (s : Tag) → (p s ≡ true → ⊥) → p s ≡ false
  failing s never = ⊎_elim (λ (h : p s ≡ true). absurd (never h)) (λ (h : p s ≡ false). h) (cases_Bool (p s))

  tails : (x y : Firing) (xs ys : List Firing) → Rising (x ∷ xs) → Rising (y ∷ ys) → x.tag ≡ y.tag → ((s : Tag) → p s ≡ true → firing_at (x ∷ xs) s ≡ firing_at (y ∷ ys) s) → (s : Tag) → p s ≡ true → firing_at xs s ≡ firing_at ys s
  tails x y xs ys rx ry e same s h =
      ⊎_elim
      (λ (k : same_tag x.tag s ≡ true).
      let es : x.tag ≡ s = same_tag-true x.tag s k in
      firing_at_none xs s (subst (λ w. Each (λ (z : Firing). Before w z.tag) xs) es rx.0)
      ∙ sym (firing_at_none ys s (subst (λ w. Each (λ (z : Firing). Before w z.tag) ys) (sym e ∙ es) ry.0)))
      (λ (k : same_tag x.tag s ≡ false).
      sym (firing_at_tail x xs s k) ∙ same s h ∙ firing_at_tail y ys s (subst (λ w. same_tag w s ≡ false) e k))
      (cases_Bool (same_tag x.tag s))

  pub fronts_agree : (xs ys : List Firing) → Rising xs → Rising ys → ((s : Tag) → p s ≡ true → firing_at xs s ≡ firing_at ys s) → front p xs ≡ front p ys
  fronts_agree [] [] rx ry same = refl
  fronts_agree [] (y ∷ ys) rx ry same =
      sym (front_stops p y ys (failing y.tag (λ h. some_none y (sym (firing_at_head y ys) ∙ sym (same y.tag h)))))
  fronts_agree (x ∷ xs) [] rx ry same =
      front_stops p x xs (failing x.tag (λ h. some_none x (sym (firing_at_head x xs) ∙ same x.tag h)))
  fronts_agree (x ∷ xs) (y ∷ ys) rx ry same =
      ⊎_elim
      (λ (e : x.tag ≡ y.tag).
      ⊎_elim
      (λ (h : p x.tag ≡ true).
      let hy : p y.tag ≡ true = subst (λ w. p w ≡ true) e h in
      let exy : x ≡ y = some_some x y (sym (firing_at_head x xs) ∙ same x.tag h ∙ subst (λ w. firing_at (y ∷ ys) w ≡ Some y) (sym e) (firing_at_head y ys)) in
      cond-true (p x.tag) (x ∷ front p xs) [] h
      ∙ ap₂ (λ a b. a ∷ b) exy (fronts_agree xs ys rx.1 ry.1 (tails x y xs ys rx ry e same))
      ∙ sym (cond-true (p y.tag) (y ∷ front p ys) [] hy))
      (λ (h : p x.tag ≡ false).
      front_stops p x xs h ∙ sym (front_stops p y ys (subst (λ w. p w ≡ false) e h)))
      (cases_Bool (p x.tag)))
      (λ (o : Before x.tag y.tag ⊎ Before y.tag x.tag).
      ⊎_elim
      (λ (l : Before x.tag y.tag).
      let never : p x.tag ≡ true → ⊥ = stops x y xs ys ry l same in
      front_stops p x xs (failing x.tag never) ∙ sym (front_stops p y ys (not_passing x.tag y.tag l never)))
      (λ (l : Before y.tag x.tag).
      let never : p y.tag ≡ true → ⊥ = stops y x ys xs rx l (λ s h. sym (same s h)) in
      front_stops p x xs (not_passing y.tag x.tag l never) ∙ sym (front_stops p y ys (failing y.tag never)))
      o)
      (cases_tags x.tag y.tag)

-- two rising lists that agree at each tag are equal
front_all : (xs : List Firing) → front (λ s. true) xs ≡ xs
front_all [] = refl
front_all (x ∷ xs) = ap (λ r. x ∷ r) (front_all xs)

pub firings_agree : (xs ys : List Firing) → Rising xs → Rising ys → ((s : Tag) → firing_at xs s ≡ firing_at ys s) → xs ≡ ys
firings_agree xs ys rx ry same =
    sym (front_all xs) ∙ fronts_agree (λ s. true) (λ s t l h. refl) xs ys rx ry (λ s h. same s) ∙ front_all ys

-- the state before a tag rests on the firings before it
state_front : (q : ℤ) (xs : List Firing) (t : Tag) → state_before q (front (λ s. tag_lt s t) xs) t ≡ state_before q xs t
state_front q [] t = refl
state_front q (x ∷ xs) t =
    ⊎_elim
    (λ (h : tag_lt x.tag t ≡ true).
    ap (λ r. state_before q r t) (cond-true (tag_lt x.tag t) (x ∷ front (λ s. tag_lt s t) xs) [] h)
    ∙ cond-true (tag_lt x.tag t) _ q h
    ∙ state_front x.after xs t
    ∙ sym (cond-true (tag_lt x.tag t) _ q h))
    (λ (h : tag_lt x.tag t ≡ false).
    ap (λ r. state_before q r t) (cond-false (tag_lt x.tag t) (x ∷ front (λ s. tag_lt s t) xs) [] h)
    ∙ sym (cond-false (tag_lt x.tag t) _ q h))
    (cases_Bool (tag_lt x.tag t))

lt_down : (t : Tag) (s u : Tag) → Before s u → tag_lt u t ≡ true → tag_lt s t ≡ true
lt_down t s u l h = tag_lt-from s t (Before-trans s u t l (tag_lt-true u t h))

pub states_agree : (q : ℤ) (xs ys : List Firing) (t : Tag) → Rising xs → Rising ys → ((s : Tag) → Before s t → firing_at xs s ≡ firing_at ys s) → state_before q xs t ≡ state_before q ys t
states_agree q xs ys t rx ry same =
    sym (state_front q xs t)
    ∙ ap (λ r. state_before q r t) (fronts_agree (λ s. tag_lt s t) (lt_down t) xs ys rx ry (λ s h. same s (tag_lt-true s t h)))
    ∙ state_front q ys t
