-- The first that is to come of a sensor.
use Rattle.std.proofs.Common.{◌≡◌, ℕ, zero, suc, ◌+◌, ◌<◌, ◌==◌, get_or, List, [], ◌∷◌, length, true, false, cond, not, arith, refl, ap, ◌∙◌, sym, Some, None, subst}
use Rattle.std.specs.List.{position_or_len, position, slice_get}
use Rattle.std.specs.Prelude.{nat_lt, find, remove, if◌then◌else◌}
use Rattle.std.proofs.lemmas.Bool.Decides.{nat_tests}
use Rattle.std.proofs.lemmas.List.Folds.{find_at}
use Rattle.pt_feeds.specs.Coming.{is_there, left_after, list_gives, next_gives}
use Rattle.pt_feeds.specs.declared.feeds.Fed.TheVariants as fed
use Rattle.pt_feeds.specs.declared.list_feeds.Coming.{Coming}

abbrev first : List Coming → ℕ → ℕ
first coming sensor = position_or_len (λ c. c.sensor == sensor) coming

first-some : (coming : List Coming) (sensor n : ℕ) → Some n ≡ position (λ c. c.sensor == sensor) coming → (n ≡ first coming sensor) × (first coming sensor < length coming)
first-some coming sensor n e =
    elim (nat_lt (first coming sensor) (length coming)) as (λ b. nat_lt (first coming sensor) (length coming) ≡ b → Some n ≡ cond b (Some (first coming sensor)) None → (n ≡ first coming sensor) × (first coming sensor < length coming)) [
      | true ↦ λ t e. (grind arith, grind (arith, nat_tests))
      | false ↦ λ t e. absurd cc
    ] refl e

first-none : (coming : List Coming) (sensor : ℕ) → None ≡ position (λ c. c.sensor == sensor) coming → first coming sensor < length coming → ⊥
first-none coming sensor e less =
    elim (nat_lt (first coming sensor) (length coming)) as (λ b. nat_lt (first coming sensor) (length coming) ≡ b → None ≡ cond b (Some (first coming sensor)) None → ⊥) [
      | true ↦ λ t e. cc
      | false ↦ λ t e. grind (arith, nat_tests)
    ] refl e

get-past : (coming : List Coming) (n : ℕ) → (n < length coming → ⊥) → slice_get coming n ≡ None
get-past [] n h = refl
get-past (c ∷ coming) zero h = absurd (h (omega arith))
get-past (c ∷ coming) (suc n) h = get-past coming n (λ less. h (omega arith))

got : (coming : List Coming) (n : ℕ) (c : Coming) → n < length coming → c ≡ get_or coming n c → slice_get coming n ≡ Some c
got [] n c h e = absurd (omega arith)
got (x ∷ coming) zero c h e = ap Some (sym e)
got (x ∷ coming) (suc n) c h e = got coming n c (omega arith) e

-- what is at the index of the first
at-first : (coming : List Coming) (sensor n : ℕ) (c : Coming) → Some n ≡ position (λ c. c.sensor == sensor) coming → c ≡ get_or coming n c
    → slice_get coming (first coming sensor) ≡ Some c
at-first coming sensor n c e at =
    let place = first-some coming sensor n e in
    got coming (first coming sensor) c place.1 (subst (λ i. c ≡ get_or coming i c) place.0 at)

pub gives-none : (coming : List Coming) (sensor reading : ℕ) → None ≡ position (λ c. c.sensor == sensor) coming → fed.End ≡ list_gives coming sensor reading
gives-none coming sensor reading e =
    let gone : find (λ c. c.sensor == sensor) coming ≡ None = find_at _ coming ∙ get-past coming _ (first-none coming sensor e) in
    rw gone refl

pub gives-some : (coming : List Coming) (sensor reading n : ℕ) (c : Coming) → Some n ≡ position (λ c. c.sensor == sensor) coming → c ≡ get_or coming n c
    → next_gives reading (Some c) ≡ list_gives coming sensor reading
gives-some coming sensor reading n c e at =
    let found : find (λ c. c.sensor == sensor) coming ≡ Some c = find_at _ coming ∙ at-first coming sensor n c e at in
    rw found refl

left-past : (coming : List Coming) (sensor reading : ℕ) → (first coming sensor < length coming → ⊥) → coming ≡ left_after coming sensor reading
left-past [] sensor reading h = refl
left-past (x ∷ coming) sensor reading h =
    elim (x.sensor == sensor) as (λ b. (cond (not b) (1 + first coming sensor) 0 < length (x ∷ coming) → ⊥) → x ∷ coming ≡ (if b then (if is_there reading x then coming else x ∷ coming) else x ∷ left_after coming sensor reading)) [
      | true ↦ λ h. absurd (h (omega arith))
      | false ↦ λ h. ap (λ l. x ∷ l) (left-past coming sensor reading (λ less. h (omega arith)))
    ] h

pub left-none : (coming : List Coming) (sensor reading : ℕ) → None ≡ position (λ c. c.sensor == sensor) coming → coming ≡ left_after coming sensor reading
left-none coming sensor reading e = left-past coming sensor reading (first-none coming sensor e)

not-yet : (coming : List Coming) (sensor reading : ℕ) (c : Coming) → slice_get coming (first coming sensor) ≡ Some c → is_there reading c ≡ false → coming ≡ left_after coming sensor reading
not-yet [] sensor reading c at there = refl
not-yet (x ∷ coming) sensor reading c at there =
    elim (x.sensor == sensor) as (λ b. slice_get (x ∷ coming) (cond (not b) (1 + first coming sensor) 0) ≡ Some c → x ∷ coming ≡ (if b then (if is_there reading x then coming else x ∷ coming) else x ∷ left_after coming sensor reading)) [
      | true ↦ λ at. let same : x ≡ c = grind arith in let no : is_there reading x ≡ false = ap (is_there reading) same ∙ there in rw no refl
      | false ↦ λ at. let front : 1 + first coming sensor ≡ suc (first coming sensor) = omega arith in
          let inner : slice_get coming (first coming sensor) ≡ Some c = subst (λ n. slice_get (x ∷ coming) n ≡ Some c) front at in
          ap (λ l. x ∷ l) (not-yet coming sensor reading c inner there)
    ] at

taken : (coming : List Coming) (sensor reading : ℕ) (c : Coming) → slice_get coming (first coming sensor) ≡ Some c → is_there reading c ≡ true → remove coming (first coming sensor) ≡ left_after coming sensor reading
taken [] sensor reading c at there = refl
taken (x ∷ coming) sensor reading c at there =
    elim (x.sensor == sensor) as (λ b. slice_get (x ∷ coming) (cond (not b) (1 + first coming sensor) 0) ≡ Some c → remove (x ∷ coming) (cond (not b) (1 + first coming sensor) 0) ≡ (if b then (if is_there reading x then coming else x ∷ coming) else x ∷ left_after coming sensor reading)) [
      | true ↦ λ at. let same : x ≡ c = grind arith in let yes : is_there reading x ≡ true = ap (is_there reading) same ∙ there in rw yes refl
      | false ↦ λ at. let front : 1 + first coming sensor ≡ suc (first coming sensor) = omega arith in
          let inner : slice_get coming (first coming sensor) ≡ Some c = subst (λ n. slice_get (x ∷ coming) n ≡ Some c) front at in
          rw front (ap (λ l. x ∷ l) (taken coming sensor reading c inner there))
    ] at

pub left-not : (coming : List Coming) (sensor reading n : ℕ) (c : Coming) → Some n ≡ position (λ c. c.sensor == sensor) coming → c ≡ get_or coming n c
    → is_there reading c ≡ false → coming ≡ left_after coming sensor reading
left-not coming sensor reading n c e at there = not-yet coming sensor reading c (at-first coming sensor n c e at) there

pub left-taken : (coming : List Coming) (sensor reading n : ℕ) (c : Coming) → Some n ≡ position (λ c. c.sensor == sensor) coming → c ≡ get_or coming n c
    → is_there reading c ≡ true → remove coming n ≡ left_after coming sensor reading
left-taken coming sensor reading n c e at there =
    ap (λ i. remove coming i) (first-some coming sensor n e).0 ∙ taken coming sensor reading c (at-first coming sensor n c e at) there
