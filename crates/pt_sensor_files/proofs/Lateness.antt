-- The first late row of a list.
use Rattle.std.proofs.Common.{◌≡◌, ℕ, ◌+◌, ◌-◌, ◌<◌, List, Option, Some, None, refl, sym, ap, subst, ◌∙◌, arith, slice_index_or, true}
use Rattle.std.specs.Prelude.{option_map, position, nat_le, nat_lt}
use Rattle.std.proofs.lemmas.List.Quantifiers.{position-Some}
use Rattle.std.proofs.lemmas.Option.{slice_get-get_or}
use Rattle.std.proofs.lemmas.Bool.{and_parts}
use Rattle.std.proofs.lemmas.Bool.Decides.{nat_tests}
use Rattle.pt_types.specs.declared.rows.Row.{Row}
use Rattle.pt_sensors.specs.Late.{is_late_row, late_row}
use Rattle.pt_sensor_files.specs.Recorded.{IsLateRow}

later : (t b s : ℕ) → nat_lt (t + b) s ≡ true → t + b < s
later t b s h = grind (arith, nat_tests)

by_place : (rows : List Row) (bound until n : ℕ) (d : Row) (o : Option ℕ) → position (λ (row : Row). is_late_row bound until row) rows ≡ o → option_map (λ i. i + 1) o ≡ Some n
    → IsLateRow rows until bound n (slice_index_or rows (n - 1) d).seen ((slice_index_or rows (n - 1) d).time + bound)
by_place rows bound until n d None at h = absurd cc
by_place rows bound until n d (Some i) at h =
    let found = position-Some (λ (row : Row). is_late_row bound until row) rows i d at in
    let next : i + 1 ≡ n = cc in
    let back : n - 1 ≡ i = omega (arith, next) in
    let is_at : n ≡ i + 1 = sym next in
    let test = and_parts (nat_le (slice_index_or rows i d).time until) (nat_lt ((slice_index_or rows i d).time + bound) (slice_index_or rows i d).seen) found.1 in
    let here : IsLateRow rows until bound n (slice_index_or rows i d).seen ((slice_index_or rows i d).time + bound) = record {
      first = ap (option_map (λ j. j + 1)) at ∙ ap Some next;
      it = slice_index_or rows i d;
      there = (i, is_at, slice_get-get_or rows i d found.0);
      seen_then = refl;
      by = refl;
      past = later (slice_index_or rows i d).time bound (slice_index_or rows i d).seen test.1;
    } in
    subst (λ j. IsLateRow rows until bound n (slice_index_or rows j d).seen ((slice_index_or rows j d).time + bound)) (sym back) here

-- what a search for late rows finds
pub late_found : (rows : List Row) (bound until n : ℕ) (d : Row) → late_row bound until rows ≡ Some n
    → IsLateRow rows until bound n (slice_index_or rows (n - 1) d).seen ((slice_index_or rows (n - 1) d).time + bound)
late_found rows bound until n d h = by_place rows bound until n d (position (λ (row : Row). is_late_row bound until row) rows) refl h
