-- Tasks in order, joined: their order, and what each of them is made of.
use Rattle.std.proofs.Common.{◌≡◌, ◌==◌, ◌<◌, ◌⊎◌, ℕ, ℤ, Bool, true, false, if◌then◌else◌, List, [], ◌∷◌, Option, Some, None, map, refl, sym, ap, subst, ◌∙◌, inl, inr, ⊎_elim, eqb-true, eq-eqb}
use Rattle.std.proofs.lemmas.Bool.{and_from, and_parts, cases_Bool, false≢true}
use Rattle.pt_tags.specs.Tags.{same_tag}
use Rattle.pt_tags.specs.declared.tag.Tag.{Tag}
use Rattle.pt_types.specs.Ports.{at_port, eight}
use Rattle.pt_types.specs.declared.firing.ActorFiring.{ActorFiring}
use Rattle.pt_types.specs.declared.firing.Task.{Task}
use Rattle.pt_types.specs.declared.graph.Graph.{Graph}
use Rattle.pt_semantics.specs.Firing.{any_present}
use Rattle.pt_semantics.specs.Lists.{Each, IsIn, or_else}
use Rattle.pt_semantics.specs.Meaning.{NotAfter}
use Rattle.pt_semantics.specs.Sorted.{InKeyOrder, IsFull, Sooner}
use Rattle.pt_semantics.proofs.Lookups.{at_eight, eight_below, or_else_assoc, eight_found, eight_present, or_else_found}
use Rattle.pt_laws.proofs.MeaningWalk.{sooner_strict, sooner_then, sooner_weak, tag_from}
use Rattle.pt_semantics.proofs.Tags.{same_tag-refl, same_tag-true}
use Rattle.pt_semantics.proofs.Words.{Each-map}
use Rattle.pt_confluence.specs.Joined.{TasksInOrder, joined_in_front, both, is_same_firing, neighbours_joined, whole_firing}

-- of one actor and tag
pub record AreOne (x y : Task) : Type 0 where
  pub actor : x.actor ≡ y.actor
  pub tag : x.tag ≡ y.tag

pub one_from : (x y : Task) → is_same_firing x y ≡ true → AreOne x y
one_from x y h =
    let two = and_parts (x.actor == y.actor) (same_tag x.tag y.tag) h in
    record { actor = eqb-true x.actor y.actor two.0; tag = same_tag-true x.tag y.tag two.1 }

pub one_test : (x y : Task) → AreOne x y → is_same_firing x y ≡ true
one_test x y one =
    and_from (x.actor == y.actor) (same_tag x.tag y.tag) (eq-eqb x.actor y.actor one.actor)
    (subst (λ t. same_tag x.tag t ≡ true) one.tag (same_tag-refl x.tag))

-- the two forms of a task before others
before_cases : (x y : Task) (ys : List Task) → (AreOne x y × (joined_in_front x (y ∷ ys) ≡ both x y ∷ ys)) ⊎ ((AreOne x y → ⊥) × (joined_in_front x (y ∷ ys) ≡ x ∷ y ∷ ys))
before_cases x y ys =
    ⊎_elim
    (λ (on : is_same_firing x y ≡ true). inl (one_from x y on, ap (λ b. if b then both x y ∷ ys else x ∷ y ∷ ys) on))
    (λ (off : is_same_firing x y ≡ false). inr (λ one. false≢true (sym off ∙ one_test x y one), ap (λ b. if b then both x y ∷ ys else x ∷ y ∷ ys) off))
    (cases_Bool (is_same_firing x y))

-- what holds of each task holds of each that is joined, where it holds of two together
module _ (P : Task → Type 0) (together : (x y : Task) → P x → P y → P (both x y)) where
  each_before : (x : Task) (ys : List Task) → P x → Each P ys → Each P (joined_in_front x ys)
  each_before x [] p h = (p, tt)
  each_before x (y ∷ ys) p h =
      ⊎_elim
      (λ (on : AreOne x y × (joined_in_front x (y ∷ ys) ≡ both x y ∷ ys)). subst (Each P) (sym on.1) (together x y p h.0, h.1))
      (λ (off : (AreOne x y → ⊥) × (joined_in_front x (y ∷ ys) ≡ x ∷ y ∷ ys)). subst (Each P) (sym off.1) (p, h))
      (before_cases x y ys)

  pub each_joined : (xs : List Task) → Each P xs → Each P (neighbours_joined xs)
  each_joined [] h = tt
  each_joined (x ∷ xs) h = each_before x (neighbours_joined xs) h.0 (each_joined xs h.1)

-- in order, no two alike
abbrev pub Strict : (ℕ → ℕ) → List Task → Type 0
Strict rank [] = Unit {0}
Strict rank (x ∷ xs) = Each (λ (y : Task). Sooner rank x.tag x.actor y.tag y.actor) xs × Strict rank xs

module _ (rank : ℕ → ℕ) where
  strict_before : (x : Task) (ys : List Task) → Each (λ (y : Task). NotAfter rank x.tag x.actor y.tag y.actor) ys → Strict rank ys → Strict rank (joined_in_front x ys)
  strict_before x [] after h = (tt, tt)
  strict_before x (y ∷ ys) after h =
      ⊎_elim
      (λ (on : AreOne x y × (joined_in_front x (y ∷ ys) ≡ both x y ∷ ys)).
      subst (Strict rank) (sym on.1) (
        subst (λ a. Each (λ (z : Task). Sooner rank x.tag a z.tag z.actor) ys) (sym on.0.actor)
            (subst (λ t. Each (λ (z : Task). Sooner rank t y.actor z.tag z.actor) ys) (sym on.0.tag) h.0),
        h.1,
      ))
      (λ (off : (AreOne x y → ⊥) × (joined_in_front x (y ∷ ys) ≡ x ∷ y ∷ ys)).
      let sooner : Sooner rank x.tag x.actor y.tag y.actor =
      sooner_strict x.tag y.tag x.actor y.actor (rank x.actor) (rank y.actor) after.0 (λ ea et es. off.0 (record { actor = ea; tag = tag_from x.tag y.tag et es })) in
      subst (Strict rank) (sym off.1) (
        (
          sooner,
          Each-map (λ (z : Task). Sooner rank y.tag y.actor z.tag z.actor) (λ (z : Task). Sooner rank x.tag x.actor z.tag z.actor) ys
              (λ z later. sooner_then x.tag y.tag z.tag x.actor y.actor z.actor (rank x.actor) (rank y.actor) (rank z.actor) sooner (sooner_weak y.tag z.tag y.actor z.actor (rank y.actor) (rank z.actor) later)) h.0,
        ),
        h,
      ))
      (before_cases x y ys)

  pub strict_joined : (xs : List Task) → TasksInOrder rank xs → Strict rank (neighbours_joined xs)
  strict_joined [] h = tt
  strict_joined (x ∷ xs) h =
      strict_before x (neighbours_joined xs) (each_joined (λ (y : Task). NotAfter rank x.tag x.actor y.tag y.actor) (λ y z p q. p) xs h.0) (strict_joined xs h.1)

  each_whole : (g : Graph) (t : Tag) (a : ℕ) (xs : List Task) → Each (λ (y : Task). Sooner rank t a y.tag y.actor) xs → Each (λ (y : ActorFiring). Sooner rank t a y.tag y.actor) (map (whole_firing g) xs)
  each_whole g t a [] h = tt
  each_whole g t a (x ∷ xs) h = (h.0, each_whole g t a xs h.1)

  strict_whole : (g : Graph) (xs : List Task) → Strict rank xs → InKeyOrder rank (map (whole_firing g) xs)
  strict_whole g [] h = tt
  strict_whole g (x ∷ xs) h = (each_whole g x.tag x.actor xs h.0, strict_whole g xs h.1)

  pub in_key_order : (g : Graph) (xs : List Task) → TasksInOrder rank xs → InKeyOrder rank (map (whole_firing g) (neighbours_joined xs))
  in_key_order g xs h = strict_whole g (neighbours_joined xs) (strict_joined xs h)

-- a task that has an input
pub record HasInput (x : Task) : Type 0 where
  pub ports : x.inputs ≡ eight (λ p. at_port x.inputs p)
  pub present : any_present x.inputs ≡ true

some_or : (x y : Option ℤ) (v : ℤ) → x ≡ Some v → or_else x y ≡ Some v
some_or x y v h = ap (λ o. or_else o y) h

both_has : (x y : Task) → HasInput x → HasInput y → HasInput (both x y)
both_has x y hx hy =
    let at = eight_found (λ p. at_port x.inputs p) (ap any_present (sym hx.ports) ∙ hx.present) in
    record {
      ports = refl;
      present = eight_present (λ p. or_else (at_port x.inputs p) (at_port y.inputs p)) at.0 at.1 at.2 (some_or (at_port x.inputs at.0) (at_port y.inputs at.0) at.1 at.3);
    }

all_full : (g : Graph) (xs : List Task) → Each HasInput xs → Each (IsFull g) (map (whole_firing g) xs)
all_full g [] h = tt
all_full g (x ∷ xs) h = (record { ports = h.0.ports; present = h.0.present; after = refl; outputs = refl }, all_full g xs h.1)

pub are_full : (g : Graph) (xs : List Task) → Each HasInput xs → Each (IsFull g) (map (whole_firing g) (neighbours_joined xs))
are_full g xs h = all_full g (neighbours_joined xs) (each_joined HasInput both_has xs h)

-- an input of a joined task is one of a task of its actor and tag
pub record IsMadeOf (xs : List Task) (y : Task) : Type 0 where
  pub first : (t : Task) × IsIn t xs × AreOne t y × (t.state ≡ y.state)
  pub found : (p : ℕ) (v : ℤ) → p < 8 → at_port y.inputs p ≡ Some v → (t : Task) × IsIn t xs × AreOne t y × (at_port t.inputs p ≡ Some v)

made_more : (x : Task) (xs : List Task) (y : Task) → IsMadeOf xs y → IsMadeOf (x ∷ xs) y
made_more x xs y h = record {
  first = let (t, mem, one, state) = h.first in (t, inr mem, one, state);
  found = λ p v lt at. let (t, mem, one, there) = h.found p v lt at in (t, inr mem, one, there);
}

made_itself : (x : Task) (xs : List Task) → IsMadeOf (x ∷ xs) x
made_itself x xs = record {
  first = (x, inl refl, record { actor = refl; tag = refl }, refl);
  found = λ p v lt at. (x, inl refl, record { actor = refl; tag = refl }, at);
}

made_both : (x : Task) (xs : List Task) (y : Task) → AreOne x y → IsMadeOf xs y → IsMadeOf (x ∷ xs) (both x y)
made_both x xs y one h = record {
  first = (x, inl refl, record { actor = refl; tag = refl }, refl);
  found = λ p v lt at.
      ⊎_elim
      (λ (mine : at_port x.inputs p ≡ Some v). (x, inl refl, record { actor = refl; tag = refl }, mine))
      (λ (other : at_port y.inputs p ≡ Some v).
      let (t, mem, of, there) = h.found p v lt other in
      (t, inr mem, record { actor = of.actor ∙ sym one.actor; tag = of.tag ∙ sym one.tag }, there))
      (or_else_found (at_port x.inputs p) (at_port y.inputs p) v (sym (at_eight (λ q. or_else (at_port x.inputs q) (at_port y.inputs q)) p lt) ∙ at));
}

made_before : (x : Task) (xs ys : List Task) → ((y : Task) → IsIn y ys → IsMadeOf xs y) → (y : Task) → IsIn y (joined_in_front x ys) → IsMadeOf (x ∷ xs) y
made_before x xs [] made y mem = ⊎_elim (λ (e : y ≡ x). subst (IsMadeOf (x ∷ xs)) (sym e) (made_itself x xs)) (λ (no : ⊥). absurd no) mem
made_before x xs (z ∷ ys) made y mem =
    ⊎_elim
    (λ (on : AreOne x z × (joined_in_front x (z ∷ ys) ≡ both x z ∷ ys)).
    ⊎_elim
    (λ (e : y ≡ both x z). subst (IsMadeOf (x ∷ xs)) (sym e) (made_both x xs z on.0 (made z (inl refl))))
    (λ (later : IsIn y ys). made_more x xs y (made y (inr later)))
    (subst (IsIn y) on.1 mem))
    (λ (off : (AreOne x z → ⊥) × (joined_in_front x (z ∷ ys) ≡ x ∷ z ∷ ys)).
    ⊎_elim
    (λ (e : y ≡ x). subst (IsMadeOf (x ∷ xs)) (sym e) (made_itself x xs))
    (λ (later : IsIn y (z ∷ ys)). made_more x xs y (made y later))
    (subst (IsIn y) off.1 mem))
    (before_cases x z ys)

pub made_of : (xs : List Task) (y : Task) → IsIn y (neighbours_joined xs) → IsMadeOf xs y
made_of [] y mem = absurd mem
made_of (x ∷ xs) y mem = made_before x xs (neighbours_joined xs) (made_of xs) y mem

-- tasks of one actor and tag do not tell two values of an input
abbrev pub AgreeWith : List Task → Task → Type 0
AgreeWith xs x = (y : Task) → IsIn y xs → AreOne x y → (p : ℕ) (v w : ℤ) → p < 8 → at_port x.inputs p ≡ Some v → at_port y.inputs p ≡ Some w → v ≡ w

-- each task is in a joined one
pub record IsWithin (x y : Task) : Type 0 where
  pub one : AreOne x y
  pub ports : (p : ℕ) (v : ℤ) → p < 8 → at_port x.inputs p ≡ Some v → at_port y.inputs p ≡ Some v

or_agrees : (x y : Option ℤ) (v : ℤ) → ((w : ℤ) → x ≡ Some w → w ≡ v) → y ≡ Some v → or_else x y ≡ Some v
or_agrees None y v agree h = h
or_agrees (Some w) y v agree h = ap Some (agree w refl)

within_before : (x : Task) (xs ys : List Task) → ((t : Task) → IsIn t (x ∷ xs) → AgreeWith (x ∷ xs) t) → ((t : Task) → IsIn t xs → (y : Task) × IsIn y ys × IsWithin t y) → (t : Task) → IsIn t (x ∷ xs) → (y : Task) × IsIn y (joined_in_front x ys) × IsWithin t y
within_before x xs [] agree old t mem =
    ⊎_elim
    (λ (e : t ≡ x). (x, inl refl, record { one = record { actor = ap (λ (z : Task). z.actor) e; tag = ap (λ (z : Task). z.tag) e }; ports = λ p v lt at. subst (λ (z : Task). at_port z.inputs p ≡ Some v) e at }))
    (λ (later : IsIn t xs). let (y, none, w) = old t later in absurd none)
    mem
within_before x xs (z ∷ ys) agree old t mem =
    ⊎_elim
    (λ (on : AreOne x z × (joined_in_front x (z ∷ ys) ≡ both x z ∷ ys)).
    ⊎_elim
    (λ (e : t ≡ x). (
      both x z,
      subst (IsIn (both x z)) (sym on.1) (inl refl),
      record {
        one = record { actor = ap (λ (k : Task). k.actor) e; tag = ap (λ (k : Task). k.tag) e };
        ports = λ p v lt at. at_eight (λ q. or_else (at_port x.inputs q) (at_port z.inputs q)) p lt ∙ some_or (at_port x.inputs p) (at_port z.inputs p) v (subst (λ (k : Task). at_port k.inputs p ≡ Some v) e at);
      },
    ))
    (λ (later : IsIn t xs).
    let (y, at, w) = old t later in
    ⊎_elim
    (λ (e : y ≡ z).
    let one : AreOne t z = subst (AreOne t) e w.one in (
      both x z,
      subst (IsIn (both x z)) (sym on.1) (inl refl),
      record {
        one = record { actor = one.actor ∙ sym on.0.actor; tag = one.tag ∙ sym on.0.tag };
        ports = λ p v lt here.
            at_eight (λ q. or_else (at_port x.inputs q) (at_port z.inputs q)) p lt
            ∙ or_agrees (at_port x.inputs p) (at_port z.inputs p) v
            (λ u mine. agree x (inl refl) t (inr later) (record { actor = on.0.actor ∙ sym one.actor; tag = on.0.tag ∙ sym one.tag }) p u v lt mine here)
            (subst (λ (k : Task). at_port k.inputs p ≡ Some v) e (w.ports p v lt here));
      },
    ))
    (λ (rest : IsIn y ys). (y, subst (IsIn y) (sym on.1) (inr rest), w))
    at)
    mem)
    (λ (off : (AreOne x z → ⊥) × (joined_in_front x (z ∷ ys) ≡ x ∷ z ∷ ys)).
    ⊎_elim
    (λ (e : t ≡ x). (
      x,
      subst (IsIn x) (sym off.1) (inl refl),
      record { one = record { actor = ap (λ (k : Task). k.actor) e; tag = ap (λ (k : Task). k.tag) e }; ports = λ p v lt at. subst (λ (k : Task). at_port k.inputs p ≡ Some v) e at },
    ))
    (λ (later : IsIn t xs). let (y, at, w) = old t later in (y, subst (IsIn y) (sym off.1) (inr at), w))
    mem)
    (before_cases x z ys)

pub within_joined : (xs : List Task) → ((x : Task) → IsIn x xs → AgreeWith xs x) → (x : Task) → IsIn x xs → (y : Task) × IsIn y (neighbours_joined xs) × IsWithin x y
within_joined [] agree x mem = absurd mem
within_joined (x ∷ xs) agree t mem =
    within_before x xs (neighbours_joined xs) agree (within_joined xs (λ k m y at one p v w lt hv hw. agree k (inr m) y (inr at) one p v w lt hv hw)) t mem

if_true : (b : Bool) (x y : List Task) → b ≡ true → (if b then x else y) ≡ x
if_true true x y h = refl
if_true false x y h = absurd (false≢true h)

if_false : (b : Bool) (x y : List Task) → b ≡ false → (if b then x else y) ≡ y
if_false true x y h = absurd (false≢true (sym h))
if_false false x y h = refl

-- a task that does not join the next one stands alone
pub before_apart : (x y : Task) (zs : List Task) → is_same_firing x y ≡ false → joined_in_front x (joined_in_front y zs) ≡ x ∷ joined_in_front y zs
before_apart x y [] off = if_false (is_same_firing x y) (both x y ∷ []) (x ∷ y ∷ []) off
before_apart x y (z ∷ zs) off = by (is_same_firing y z) refl
  where
    by : (b : Bool) → is_same_firing y z ≡ b → joined_in_front x (joined_in_front y (z ∷ zs)) ≡ x ∷ joined_in_front y (z ∷ zs)
    by true e =
        let here : joined_in_front y (z ∷ zs) ≡ both y z ∷ zs = if_true (is_same_firing y z) (both y z ∷ zs) (y ∷ z ∷ zs) e in
        ap (joined_in_front x) here ∙ if_false (is_same_firing x y) (both x (both y z) ∷ zs) (x ∷ both y z ∷ zs) off ∙ ap (λ l. x ∷ l) (sym here)
    by false e =
        let here : joined_in_front y (z ∷ zs) ≡ y ∷ z ∷ zs = if_false (is_same_firing y z) (both y z ∷ zs) (y ∷ z ∷ zs) e in
        ap (joined_in_front x) here ∙ if_false (is_same_firing x y) (both x y ∷ z ∷ zs) (x ∷ y ∷ z ∷ zs) off ∙ ap (λ l. x ∷ l) (sym here)

-- and one that joins it joins what follows with it
pub before_both : (x y : Task) (zs : List Task) → is_same_firing x y ≡ true → joined_in_front (both x y) zs ≡ joined_in_front x (joined_in_front y zs)
before_both x y [] on = sym (if_true (is_same_firing x y) (both x y ∷ []) (x ∷ y ∷ []) on)
before_both x y (z ∷ zs) on = by (is_same_firing y z) refl
  where
    one : AreOne x y
    one = one_from x y on

    inputs : (p : ℕ) → p < 8 → or_else (at_port (both x y).inputs p) (at_port z.inputs p) ≡ or_else (at_port x.inputs p) (at_port (both y z).inputs p)
    inputs p lt =
        ap (λ o. or_else o (at_port z.inputs p)) (at_eight (λ q. or_else (at_port x.inputs q) (at_port y.inputs q)) p lt)
        ∙ or_else_assoc (at_port x.inputs p) (at_port y.inputs p) (at_port z.inputs p)
        ∙ ap (or_else (at_port x.inputs p)) (sym (at_eight (λ q. or_else (at_port y.inputs q) (at_port z.inputs q)) p lt))

    all : both (both x y) z ≡ both x (both y z)
    all = ap (λ is. record x { inputs = is }) (eight_below (λ p. or_else (at_port (both x y).inputs p) (at_port z.inputs p)) (λ p. or_else (at_port x.inputs p) (at_port (both y z).inputs p)) inputs)

    by : (b : Bool) → is_same_firing y z ≡ b → joined_in_front (both x y) (z ∷ zs) ≡ joined_in_front x (joined_in_front y (z ∷ zs))
    by true e =
        let next = one_from y z e in
        let through : is_same_firing x z ≡ true = one_test x z (record { actor = one.actor ∙ next.actor; tag = one.tag ∙ next.tag }) in
        if_true (is_same_firing x z) (both (both x y) z ∷ zs) (both x y ∷ z ∷ zs) through
        ∙ ap (λ t. t ∷ zs) all
        ∙ sym (ap (joined_in_front x) (if_true (is_same_firing y z) (both y z ∷ zs) (y ∷ z ∷ zs) e) ∙ if_true (is_same_firing x y) (both x (both y z) ∷ zs) (x ∷ both y z ∷ zs) on)
    by false e =
        let apart : is_same_firing x z ≡ false = not_true (is_same_firing x z) (λ t.
        let past = one_from x z t in
        false≢true (sym e ∙ one_test y z (record { actor = sym one.actor ∙ past.actor; tag = sym one.tag ∙ past.tag }))) in
        if_false (is_same_firing x z) (both (both x y) z ∷ zs) (both x y ∷ z ∷ zs) apart
        ∙ sym (ap (joined_in_front x) (if_false (is_same_firing y z) (both y z ∷ zs) (y ∷ z ∷ zs) e) ∙ if_true (is_same_firing x y) (both x y ∷ z ∷ zs) (x ∷ y ∷ z ∷ zs) on)
      where
        not_true : (b : Bool) → (b ≡ true → ⊥) → b ≡ false
        not_true true h = absurd (h refl)
        not_true false h = refl
