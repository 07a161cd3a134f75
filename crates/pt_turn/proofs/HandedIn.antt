-- Rows that were handed in, as those of sensors of which none has entered.
use Rattle.std.proofs.Common.{◌≡◌, ℕ, ◌<◌, ◌≤◌, ◌==◌, Bool, true, false, if◌then◌else◌, List, [], ◌∷◌, Option, Some, drop, length, map, unwrap_or, refl, sym, ap, subst, ◌∙◌, ⊎_elim, eqb-true, eq-eqb, arith, suc, ◌-◌, ◌&&◌, nat_lt, nat_le, sum, leb-true, lt-ltb}
use Rattle.std.proofs.lemmas.Bool.{cases_Bool, cond-true, cond-false, false≢true, and_parts}
use Rattle.std.specs.List.{list_all}
use Rattle.pt_types.specs.Kinds.{is_among, kind_is_lawful}
use Rattle.pt_types.specs.Lawful.{IsLawful}
use Rattle.pt_types.specs.declared.kind.Kind.{Kind}
use Rattle.pt_types.specs.declared.kind.Kind.TheVariants.{Lanes}
use Rattle.pt_types.proofs.LawfulActors.{any_kind}
use Rattle.pt_types.specs.declared.graph.Graph.{Graph}
use Rattle.pt_types.specs.declared.rows.Row.{Row}
use Rattle.pt_types.specs.Ports.{when}
use Rattle.pt_sensors.specs.declared.sensor_rows.SensorRows.{SensorRows}
use Rattle.pt_types.specs.Lookups.{kind_of, platform_of}
use Rattle.pt_semantics.specs.Lists.{Each, first_of, or_else}
use Rattle.pt_semantics.specs.Rows.{FitRows, FitsRow, NeverFalls, TimesRise}
use Rattle.pt_semantics.specs.Units.{groups}
use Rattle.pt_types.specs.Groups.{cell_of, input_group}
use Rattle.pt_turn.specs.Fields.State.{left_in, rows_at_sensors}
use Rattle.pt_turn.specs.Fields.Sensors.{AreSensors, IsSensor}
use Rattle.pt_turn.specs.Handed.{rows_handed, unentered, AreHanded, IsHanded}

-- input 0 is one of a unit's
first_cell : (cells : List ℕ) → 1 ≤ length cells → list_all (is_among 1 8) cells ≡ true → cell_of cells 0 < length cells
first_cell [] some h = absurd (omega (arith, some))
first_cell (n ∷ ns) some h =
    let among = and_parts (is_among 1 8 n) (list_all (is_among 1 8) ns) h in
    let one : 1 ≤ n = leb-true 1 n (and_parts (nat_le 1 n) (nat_le n 8) among.0).0 in
    subst (λ c. c < length (n ∷ ns)) (sym (cond-true (nat_lt 0 n) 0 (suc (cell_of ns (0 - n))) (lt-ltb 0 n one))) (omega arith)

first_group : (kind : Kind) → kind_is_lawful kind ≡ true → input_group kind 0 < groups kind
first_group (Lanes cells) h =
    let all = and_parts (is_among 1 8 (length cells) && list_all (is_among 1 8) cells) (nat_le (sum cells) 8) h in
    let some = and_parts (is_among 1 8 (length cells)) (list_all (is_among 1 8) cells) all.0 in
    first_cell cells (leb-true 1 (length cells) (and_parts (nat_le 1 (length cells)) (nat_le (length cells) 8) some.0).0) some.1
first_group _ h = omega arith

are_each : (g : Graph) (i : ℕ) (handed : List SensorRows) → IsLawful g → Each (IsHanded g i) handed → Each (IsSensor g) (map unentered handed)
are_each g i [] lawful h = tt
are_each g i (s ∷ ss) lawful h = (record { unit = (h.0.there, first_group (kind_of g s.actor) (any_kind g s.actor lawful)); entered = omega arith; times = h.0.times }, are_each g i ss lawful h.1)

pub are_sensors : (g : Graph) (i : ℕ) (handed : List SensorRows) → IsLawful g → AreHanded g i handed → AreSensors g (map unentered handed)
are_sensors g i handed lawful h = (h.0, are_each g i handed lawful h.1)

pub rows_same : (handed : List SensorRows) → rows_at_sensors (map unentered handed) ≡ rows_handed handed
rows_same handed = λ i a. at handed a i
  where
    at : (handed : List SensorRows) (a : ℕ) → rows_at_sensors (map unentered handed) a ≡ rows_handed handed a
    at [] a = refl
    at (s ∷ ss) a = one (s.actor == a) s.rows _ _ (at ss a)
      where
        one : (b : Bool) (rows : List Row) (x y : Option (List Row)) → unwrap_or x [] ≡ unwrap_or y [] → unwrap_or (or_else (when b (Some rows)) x) [] ≡ unwrap_or (or_else (when b (Some rows)) y) []
        one true rows x y e = refl
        one false rows x y e = e

one_more : (s : SensorRows) (ss : List SensorRows) (a : ℕ) (b : Bool) → (s.actor == a) ≡ b → rows_handed (s ∷ ss) a ≡ (if b then s.rows else rows_handed ss a)
one_more s ss a true e = ap (λ b. unwrap_or (or_else (when b (Some s.rows)) (first_of (λ (x : SensorRows). when (x.actor == a) (Some x.rows)) ss)) []) e
one_more s ss a false e = ap (λ b. unwrap_or (or_else (when b (Some s.rows)) (first_of (λ (x : SensorRows). when (x.actor == a) (Some x.rows)) ss)) []) e

-- what holds of the rows of each sensor, and of none, holds of those of every actor
each_actor : (P : ℕ → List Row → Type 0) (handed : List SensorRows) → ((a : ℕ) → P a []) → Each (λ (s : SensorRows). P s.actor s.rows) handed → (a : ℕ) → P a (rows_handed handed a)
each_actor P [] none h a = none a
each_actor P (s ∷ ss) none h a =
    ⊎_elim
    (λ (e : (s.actor == a) ≡ true). subst (P a) (sym (one_more s ss a true e)) (subst (λ n. P n s.rows) (eqb-true s.actor a e) h.0))
    (λ (e : (s.actor == a) ≡ false). subst (P a) (sym (one_more s ss a false e)) (each_actor P ss none h.1 a))
    (cases_Bool (s.actor == a))

each_as : (P Q : SensorRows → Type 0) (handed : List SensorRows) → ((s : SensorRows) → P s → Q s) → Each P handed → Each Q handed
each_as P Q [] f h = tt
each_as P Q (s ∷ ss) f h = (f s h.0, each_as P Q ss f h.1)

pub rows_fit : (g : Graph) (i : ℕ) (handed : List SensorRows) → AreHanded g i handed → FitRows g (rows_handed handed)
rows_fit g i handed h = record {
  fit = each_actor (λ a rows. Each (FitsRow g a) rows) handed (λ a. tt) (each_as (IsHanded g i) (λ s. Each (FitsRow g s.actor) s.rows) handed (λ s k. k.fit) h.1);
  in_order = each_actor (λ a rows. NeverFalls rows) handed (λ a. tt) (each_as (IsHanded g i) (λ s. NeverFalls s.rows) handed (λ s k. k.in_order) h.1);
  times = each_actor (λ a rows. TimesRise rows) handed (λ a. tt) (each_as (IsHanded g i) (λ s. TimesRise s.rows) handed (λ s k. k.times) h.1);
}

left_all : (handed : List SensorRows) (a : ℕ) → left_in (map unentered handed) a ≡ rows_handed handed a
left_all [] a = refl
left_all (s ∷ ss) a = one (s.actor == a) s.rows _ _ (left_all ss a)
  where
    one : (b : Bool) (rows : List Row) (x y : Option (List Row)) → unwrap_or x [] ≡ unwrap_or y [] → unwrap_or (or_else (when b (Some (drop 0 rows))) x) [] ≡ unwrap_or (or_else (when b (Some rows)) y) []
    one true rows x y e = refl
    one false rows x y e = e

-- no row has entered, and only this platform's sensors have rows
pub left_rows : (g : Graph) (i : ℕ) (handed : List SensorRows) → AreHanded g i handed → left_in (map unentered handed) ≡ (λ a. if platform_of g a == i then rows_handed handed a else [])
left_rows g i handed h = λ j a. (left_all handed a ∙ at a) j
  where
    at : (a : ℕ) → rows_handed handed a ≡ (if platform_of g a == i then rows_handed handed a else [])
    at a =
        ⊎_elim
        (λ (e : (platform_of g a == i) ≡ true). sym (cond-true (platform_of g a == i) (rows_handed handed a) [] e))
        (λ (e : (platform_of g a == i) ≡ false).
        each_actor (λ b rows. (platform_of g b == i) ≡ false → rows ≡ []) handed (λ b f. refl)
        (each_as (IsHanded g i) (λ s. (platform_of g s.actor == i) ≡ false → s.rows ≡ []) handed (λ s k f. absurd (false≢true (sym f ∙ eq-eqb (platform_of g s.actor) i k.home))) h.1) a e
        ∙ sym (cond-false (platform_of g a == i) (rows_handed handed a) [] e))
        (cases_Bool (platform_of g a == i))
