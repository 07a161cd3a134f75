-- The rows that are given are in order.
use Rattle.std.proofs.Common.{◌≡◌, ℕ, zero, suc, ◌+◌, ◌≤◌, List, [], ◌∷◌, true, false, cond, Bool, Option, Some, None, Result, Ok, Err, refl, sym, length, arith, ap, ◌∙◌, subst, ℤ}
use Rattle.std.specs.Prelude.{nat_lt, option_and_then, IfOk}
use Rattle.std.proofs.lemmas.Bool.Decides.{nat_tests}
use Rattle.csv.specs.Machine.{Read}
use Rattle.csv.specs.declared.parser.State.{State}
use Rattle.csv.specs.declared.parser.State.TheVariants as st
use Rattle.csv.specs.Reading.{strip_bom}
use Rattle.pt_types.specs.declared.rows.Row.{Row}
use Rattle.pt_sensors.specs.declared.limits.FileLimits.{FileLimits}
use Rattle.pt_sensors.specs.declared.fault.RowFault.{RowFault}
use Rattle.pt_sensors.specs.declared.fault.RowFault.TheVariants as fault
use Rattle.pt_sensors.specs.Numbers.{at_most, limited, field_number, signed}
use Rattle.pt_sensors.specs.Rows.{Cells, cells, numbers_of, order_fault, or_row_fault, unless, row_of, is_header, ◌>>=◌}
use Rattle.pt_sensors.specs.RowsOf.{next, row_in_front, goes_on, ends, rows_from, rows_of, rows_in, after_header, GivesRows}
use Rattle.pt_sensors.specs.Order.{RowFollows, IsRow, RowsInOrder, RowsAreInOrder}

limited-le : (limit : ℕ) (o : Option ℕ) (n : ℕ) → option_and_then (at_most limit) o ≡ Some n → n ≤ limit
limited-le limit None n h = absurd cc
limited-le limit (Some m) n h = grind (arith, nat_tests)

parts : (time seen : Option ℕ) (value : Option ℤ) (row : Row)
    → option_and_then (λ t. option_and_then (λ s. option_and_then (λ v. Some (record { time = t; seen = s; value = v })) value) seen) time ≡ Some row
    → (time ≡ Some row.time) × (seen ≡ Some row.seen)
parts None seen value row h = absurd cc
parts (Some t) None value row h = absurd cc
parts (Some t) (Some s) None row h = absurd cc
parts (Some t) (Some s) (Some v) row h = (cc, cc)

numbers_of-bounds : (c : Cells) (row : Row) → numbers_of c ≡ Some row → (row.time ≤ 1000000000000000) × (row.seen ≤ 10000000000000000)
unfolding numbers_of
numbers_of-bounds c row h =
    let p = parts (limited 1000000000000000 c.0) (limited 10000000000000000 c.1) (signed c.2) row h in
    (limited-le _ (field_number c.0) _ p.0, limited-le _ (field_number c.1) _ p.1)

order_fault-none : (n : ℕ) (before : Option Row) (row : Row) → order_fault n before row ≡ None → (row.time ≤ row.seen) × RowFollows before row
order_fault-none n None row h = (grind (arith, nat_tests), tt)
order_fault-none n (Some before) row h = (grind (arith, nat_tests), (grind (arith, nat_tests), grind (arith, nat_tests)))

ordered : (n : ℕ) (before : Option Row) (c : Cells) (found row : Row) (e : Option RowFault) → numbers_of c ≡ Some found → order_fault n before found ≡ e
    → unless e found ≡ Ok row → IsRow before row
ordered n before c found row None numbers order h =
    let same : found ≡ row = cc in
    let b = numbers_of-bounds c row (numbers ∙ ap Some same) in
    let o = order_fault-none n before row (ap (order_fault n before) (sym same) ∙ order) in
    record { time = b.0; seen = b.1; seen_after = o.0; follows = o.1 }
ordered n before c found row (Some e) numbers order h = absurd cc

numbered : (n : ℕ) (before : Option Row) (c : Cells) (row : Row) (o : Option Row) → numbers_of c ≡ o
    → (or_row_fault (fault.Number n) o >>= λ found. unless (order_fault n before found) found) ≡ Ok row → IsRow before row
numbered n before c row None is h = absurd cc
numbered n before c row (Some found) is h = ordered n before c found row (order_fault n before found) is refl h

celled : (n : ℕ) (before : Option Row) (row : Row) (o : Option Cells)
    → (or_row_fault (fault.Fields n) o >>= λ c. or_row_fault (fault.Number n) (numbers_of c) >>= λ found. unless (order_fault n before found) found) ≡ Ok row → IsRow before row
celled n before row None h = absurd cc
celled n before row (Some c) h = numbered n before c row (numbers_of c) refl h

row_of-is_row : (n : ℕ) (before : Option Row) (fields : List (List ℕ)) (row : Row) → row_of n before fields ≡ Ok row → IsRow before row
unfolding row_of
row_of-is_row n before fields row h = celled n before row (cells fields) h

abbrev Bounded : ℕ → Option Row → List Row → Type 0
Bounded left before rows = (length rows ≤ left) × RowsInOrder before rows

put_in_front : (left : ℕ) (before : Option Row) (row : Row) (r : Result (List Row) RowFault) (rows : List Row) → IsRow before row
    → ((rest : List Row) → r ≡ Ok rest → Bounded left (Some row) rest) → row_in_front row r ≡ Ok rows → Bounded (suc left) before rows
put_in_front left before row (Err e) rows is rest h = absurd cc
put_in_front left before row (Ok more) rows is rest h =
    let same : row ∷ more ≡ rows = cc in
    let b = rest more refl in
    let P : List Row → Type 0 = Bounded (suc left) before in
    subst P same (omega arith, (is, b.1))

abbrev Rest : ℕ → Type 0
Rest left = (n : ℕ) (before : Option Row) (s : State) (xs : List ℕ) (rows : List Row) → rows_from left n before s xs ≡ Ok rows → Bounded left before rows

found_row : (left n : ℕ) (before : Option Row) (p : Read) (rows : List Row) (r : Result Row RowFault) → row_of n before p.0 ≡ r → Rest left
    → (r >>= λ row. row_in_front row (rows_from left (n + 1) (Some row) p.1 p.2)) ≡ Ok rows → Bounded (suc left) before rows
found_row left n before p rows (Err e) is rest h = absurd cc
found_row left n before p rows (Ok row) is rest h =
    put_in_front left before row (rows_from left (n + 1) (Some row) p.1 p.2) rows (row_of-is_row n before p.0 row is) (rest (n + 1) (Some row) p.1 p.2) h

abbrev no_rows : Result (List Row) RowFault
no_rows = Ok []

none_left : (left : ℕ) (before : Option Row) (rows : List Row) → no_rows ≡ Ok rows → Bounded left before rows
none_left left before [] h = (omega arith, tt)
none_left left before (row ∷ rows) h = absurd cc

found : (left n : ℕ) (before : Option Row) (o : Option Read) (rows : List Row) → Rest left
    → goes_on n before (λ row. rows_from left (n + 1) (Some row)) o ≡ Ok rows → Bounded (suc left) before rows
found left n before None rows rest h = none_left (suc left) before rows h
found left n before (Some p) rows rest h = found_row left n before p rows (row_of n before p.0) refl rest h

ended : (before : Option Row) (o : Option Read) (rows : List Row) → ends o ≡ Ok rows → Bounded 0 before rows
ended before None rows h = none_left 0 before rows h
ended before (Some p) rows h = absurd cc

rows_from-in_order : (left : ℕ) → Rest left
unfolding rows_from
rows_from-in_order zero n before s xs rows h = ended before (next s xs) rows h
rows_from-in_order (suc left) n before s xs rows h = found left n before (next s xs) rows (rows_from-in_order left) h

headed : (limits : FileLimits) (b : Bool) (r : Result (List Row) RowFault) (rows : List Row) → (r ≡ Ok rows → RowsAreInOrder limits rows) → cond b r (Err fault.Header) ≡ Ok rows → RowsAreInOrder limits rows
headed limits true r rows f h = f h
headed limits false r rows f h = absurd cc

after_header-in_order : (limits : FileLimits) (o : Option Read) (rows : List Row) → after_header limits o ≡ Ok rows → RowsAreInOrder limits rows
after_header-in_order limits None rows h = absurd cc
after_header-in_order limits (Some p) rows h =
    headed limits (is_header p.0) (rows_from limits.rows 1 None p.1 p.2) rows (λ h. let b = rows_from-in_order limits.rows 1 None p.1 p.2 rows h in record { most = b.0; order = b.1 }) h

not_too_long : (limits : FileLimits) (b : Bool) (r : Result (List Row) RowFault) (rows : List Row) → (r ≡ Ok rows → RowsAreInOrder limits rows) → cond b (Err fault.TooLong) r ≡ Ok rows → RowsAreInOrder limits rows
not_too_long limits true r rows f h = absurd cc
not_too_long limits false r rows f h = f h

-- what is given is in order
pub in_order : (limits : FileLimits) (bytes : List ℕ) (r : Result (List Row) RowFault) → GivesRows (rows_of limits bytes) r → IfOk r (RowsAreInOrder limits)
unfolding rows_of
in_order limits bytes (Err e) h = tt
in_order limits bytes (Ok rows) h =
    not_too_long limits (nat_lt limits.bytes (length bytes)) (rows_in limits bytes) rows (after_header-in_order limits (next st.StartRecord (strip_bom bytes)) rows) h
