-- Tags by the places of units.
use Rattle.std.proofs.Common.{◌≡◌, ◌≢◌, ℕ, ◌+◌, ◌*◌, ◌/◌, ◌%◌, ◌<◌, ◌≤◌, ◌⊎◌, ⊎_elim, nat_lt, true, false, if◌then◌else◌, IsSome, List, Option, Some, None, length, replicate, slice_index_or, slice_set, refl, sym, ap, subst, ◌∙◌, arith}
use Rattle.std.proofs.lemmas.Bool.{cases_Bool, false≢true, lt-ltb}
use Rattle.std.proofs.lemmas.List.{get_or-replicate, get_or-set_same, get_or-set_other, get_or_past, length-replicate}
use Rattle.pt_tags.specs.declared.tag.Tag.{Tag}
use Rattle.pt_types.specs.declared.graph.Unit.{Unit}
use Rattle.pt_semantics.specs.Units.{same_part}
use Rattle.pt_semantics.proofs.Lookups.{none_some, same_part-true, same_part-refl}
use Rattle.pt_queue.specs.Tagged.{FitsIn, tag_in}
use Rattle.pt_queue.specs.Marks.{unit_with}

either : (n m : ℕ) → (n < m) ⊎ (m ≤ n)
either n m = grind arith

-- the tag of a unit with a place
pub in_place : (tags : List (Option Tag)) (u : Unit) → u.group < 8 → tag_in tags u ≡ slice_index_or tags (8 * u.actor + u.group) None
in_place tags u l = ap (λ b. if b then slice_index_or tags (8 * u.actor + u.group) None else None) (lt-ltb u.group 8 l)

pub no_place : (tags : List (Option Tag)) (u : Unit) → 8 ≤ u.group → tag_in tags u ≡ None
no_place tags u m = ap (λ b. if b then slice_index_or tags (8 * u.actor + u.group) None else None) (past u.group 8 m)
  where
    past : (n m : ℕ) → m ≤ n → nat_lt n m ≡ false
    past n m l = grind arith

-- a unit with a tag has a place
pub has_place : (tags : List (Option Tag)) (u : Unit) (t : Tag) → tag_in tags u ≡ Some t → u.group < 8
has_place tags u t e = ⊎_elim
    (λ (l : u.group < 8). l)
    (λ (m : 8 ≤ u.group). absurd (none_some t (sym (no_place tags u m) ∙ e)))
    (either u.group 8)

-- two units have two places
places_apart : (u x : Unit) → u.group < 8 → x.group < 8 → same_part u x ≡ false → 8 * x.actor + x.group ≢ 8 * u.actor + u.group
places_apart u x l m h e =
    let actor : u.actor ≡ x.actor = plain u.actor u.group x.actor x.group l m e in
    let group : u.group ≡ x.group = omega (arith, e, actor) in
    let same : u ≡ x = λ i. record { actor = actor i; group = group i } in
    false≢true (sym h ∙ subst (λ z. same_part u z ≡ true) same (same_part-refl u))
  where
    plain : (a g b k : ℕ) → g < 8 → k < 8 → 8 * b + k ≡ 8 * a + g → a ≡ b
    plain a g b k l m e = omega (arith, l, m, e)

-- a unit's tag is set
pub tags_set : (tags : List (Option Tag)) (u x : Unit) (tag : Option Tag) → u.group < 8 → 8 * u.actor + u.group < length tags → tag_in (slice_set tags (8 * u.actor + u.group) tag) x ≡ (if same_part u x then tag else tag_in tags x)
tags_set tags u x tag l there = ⊎_elim
    (λ (y : same_part u x ≡ true).
    ap (tag_in (slice_set tags (8 * u.actor + u.group) tag)) (sym (same_part-true u x y))
    ∙ in_place (slice_set tags (8 * u.actor + u.group) tag) u l
    ∙ get_or-set_same tags (8 * u.actor + u.group) tag None there
    ∙ sym (ap (λ b. if b then tag else tag_in tags x) y))
    (λ (n : same_part u x ≡ false).
    ⊎_elim
    (λ (m : x.group < 8).
    in_place (slice_set tags (8 * u.actor + u.group) tag) x m
    ∙ get_or-set_other tags (8 * u.actor + u.group) (8 * x.actor + x.group) tag None (places_apart u x l m n)
    ∙ sym (in_place tags x m))
    (λ (m : 8 ≤ x.group). no_place (slice_set tags (8 * u.actor + u.group) tag) x m ∙ sym (no_place tags x m))
    (either x.group 8)
    ∙ sym (ap (λ b. if b then tag else tag_in tags x) n))
    (cases_Bool (same_part u x))

-- a unit without a place has no tag, and is given none
pub tags_stay : (tags : List (Option Tag)) (u x : Unit) (tag : Option Tag) → (IsSome tag → FitsIn (length tags) u) → ((8 ≤ u.group) ⊎ (length tags ≤ 8 * u.actor + u.group)) → tag_in tags x ≡ (if same_part u x then tag else tag_in tags x)
tags_stay tags u x (Some t) fits out = absurd (let f = fits refl in ⊎_elim (λ (m : 8 ≤ u.group). omega (arith, f.0, m)) (λ (m : length tags ≤ 8 * u.actor + u.group). omega (arith, f.0, f.1, m)) out)
tags_stay tags u x None fits out = ⊎_elim
    (λ (y : same_part u x ≡ true). ap (tag_in tags) (sym (same_part-true u x y)) ∙ none ∙ sym (ap (λ b. if b then None else tag_in tags x) y))
    (λ (n : same_part u x ≡ false). sym (ap (λ b. if b then None else tag_in tags x) n))
    (cases_Bool (same_part u x))
  where
    none : tag_in tags u ≡ None
    none = ⊎_elim
        (λ (l : u.group < 8). in_place tags u l ∙ ⊎_elim
        (λ (m : 8 ≤ u.group). absurd (omega (arith, l, m)))
        (λ (m : length tags ≤ 8 * u.actor + u.group). get_or_past tags (8 * u.actor + u.group) None m)
        out)
        (λ (m : 8 ≤ u.group). no_place tags u m)
        (either u.group 8)

-- no unit has a tag
pub nowhere : (n k : ℕ) → slice_index_or (replicate {A = Option Tag} n None) k None ≡ None
nowhere n k = ⊎_elim
    (λ (l : k < n). get_or-replicate {A = Option Tag} n k None None l)
    (λ (m : n ≤ k). get_or_past (replicate {A = Option Tag} n None) k None (omega (arith, m, length-replicate {A = Option Tag} n None)))
    (either k n)

pub no_tags : (n : ℕ) (u : Unit) → tag_in (replicate {A = Option Tag} n None) u ≡ None
no_tags n u = ⊎_elim
    (λ (l : u.group < 8). in_place (replicate {A = Option Tag} n None) u l ∙ nowhere n (8 * u.actor + u.group))
    (λ (m : 8 ≤ u.group). no_place (replicate {A = Option Tag} n None) u m)
    (either u.group 8)

-- a unit, by its place
pub with_place : (u : Unit) → u.group < 8 → unit_with (8 * u.actor + u.group) ≡ u
with_place u l =
    let a : (8 * u.actor + u.group) / 8 ≡ u.actor = omega (arith, l) in
    let b : (8 * u.actor + u.group) % 8 ≡ u.group = omega (arith, l) in
    λ i. record { actor = a i; group = b i }

pub tag_with : (tags : List (Option Tag)) (n : ℕ) → tag_in tags (unit_with n) ≡ slice_index_or tags n None
tag_with tags n =
    let l : n % 8 < 8 = omega arith in
    let same : 8 * (n / 8) + n % 8 ≡ n = omega arith in
    in_place tags (unit_with n) l ∙ ap (λ k. slice_index_or tags k None) same
