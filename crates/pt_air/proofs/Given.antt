-- The rows of a file are few, and state no long times.
use Rattle.std.proofs.Common.{◌≡◌, ℕ, zero, suc, ◌+◌, ◌≤◌, List, [], ◌∷◌, ◌++◌, true, false, cond, Bool, Option, Some, None, Result, Ok, Err, refl, length, arith, subst, length-append}
use Rattle.std.specs.Prelude.{nat_lt, option_and_then}
use Rattle.std.proofs.lemmas.Bool.Decides.{nat_tests}
use Rattle.csv.specs.Machine.{Read}
use Rattle.csv.specs.declared.parser.State.{State}
use Rattle.csv.specs.declared.parser.State.TheVariants as st
use Rattle.csv.specs.Reading.{strip_bom}
use Rattle.pt_types.specs.declared.graph.Graph.{Graph}
use Rattle.pt_semantics.specs.Lists.{Each}
use Rattle.pt_sensors.specs.Limits.{file_limits}
use Rattle.pt_sensors.specs.Numbers.{at_most, limited, field_number}
use Rattle.pt_sensors.specs.Rows.{Cells, cells}
use Rattle.pt_sensors.specs.RowsOf.{next}
use Rattle.pt_air.specs.declared.fault.AirFault.{AirFault}
use Rattle.pt_air.specs.declared.fault.AirFault.TheVariants as fault
use Rattle.pt_air.specs.declared.row.AirRow.{AirRow}
use Rattle.pt_air.specs.declared.row.Subject.{Subject}
use Rattle.pt_air.specs.AirOf.{air_after_header, air_ends, air_goes_on, air_rows_from, air_rows_of}
use Rattle.pt_air.specs.Rows.{◌>>=◌, formed, is_air_header, is_repeated, or_air_fault, air_row_of, subject_of}
use Rattle.pt_air.proofs.Loop.{Rows}

abbrev pub IsRow : AirRow → Type 0
IsRow row = row.time ≤ 1000000000000000

pub record AreRows (most : ℕ) (rows : List AirRow) : Type 0 where
  pub few : length rows ≤ most
  pub each : Each IsRow rows

limited-le : (limit : ℕ) (o : Option ℕ) (n : ℕ) → option_and_then (at_most limit) o ≡ Some n → n ≤ limit
limited-le limit None n h = absurd cc
limited-le limit (Some m) n h = grind (arith, nat_tests)

made : (n : ℕ) (s : Subject) (time : ℕ) (row : AirRow) (again : Bool) → time ≤ 1000000000000000
    → cond again (Err (fault.Repeated n)) (Ok (record { subject = s; time = time })) ≡ Ok row → IsRow row
made n s time row true small h = absurd cc
made n s time row false small h =
    let found : AirRow = record { subject = s; time = time } in
    let same : found ≡ row = cc in
    subst IsRow same small

timed : (n : ℕ) (before : List AirRow) (s : Subject) (row : AirRow) (o : Option ℕ) → ((time : ℕ) → o ≡ Some time → time ≤ 1000000000000000)
    → (or_air_fault (fault.Number n) o >>= λ time. cond (is_repeated before s) (Err (fault.Repeated n)) (Ok (record { subject = s; time = time }))) ≡ Ok row → IsRow row
timed n before s row None small h = absurd cc
timed n before s row (Some time) small h = made n s time row (is_repeated before s) (small time refl) h

about : (n : ℕ) (before : List AirRow) (c : Cells) (row : AirRow) (o : Option Subject)
    → (or_air_fault (fault.Unknown n) o >>= λ s. or_air_fault (fault.Number n) (limited 1000000000000000 c.2) >>= λ time. cond (is_repeated before s) (Err (fault.Repeated n)) (Ok (record { subject = s; time = time }))) ≡ Ok row → IsRow row
about n before c row None h = absurd cc
about n before c row (Some s) h =
    timed n before s row (limited 1000000000000000 c.2) (λ time it. limited-le 1000000000000000 (field_number c.2) time it) h

celled : (g : Graph) (n : ℕ) (before : List AirRow) (row : AirRow) (o : Option Cells)
    → (or_air_fault (fault.Form n) o >>= λ c. or_air_fault (fault.Unknown n) (subject_of g c) >>= λ s. or_air_fault (fault.Number n) (limited 1000000000000000 c.2) >>= λ time. cond (is_repeated before s) (Err (fault.Repeated n)) (Ok (record { subject = s; time = time }))) ≡ Ok row → IsRow row
celled g n before row None h = absurd cc
celled g n before row (Some c) h = about n before c row (subject_of g c) h

row_of-is_row : (g : Graph) (n : ℕ) (before : List AirRow) (fields : List (List ℕ)) (row : AirRow) → air_row_of g n before fields ≡ Ok row → IsRow row
unfolding air_row_of
row_of-is_row g n before fields row h = celled g n before row (option_and_then formed (cells fields)) h

Each-push : {X : Type 0} (P : X → Type 0) (xs : List X) (y : X) → Each P xs → P y → Each P (xs ++ y ∷ [])
Each-push P [] y h last = (last, tt)
Each-push P (x ∷ xs) y h last = (h.0, Each-push P xs y h.1 last)

-- what is found after good rows is good
abbrev Rest : Graph → ℕ → Type 0
Rest g left = (rows all : List AirRow) (s : State) (xs : List ℕ) (most : ℕ) → length rows + left ≤ most → Each IsRow rows → air_rows_from g left rows s xs ≡ Ok all → AreRows most all

same_rows : (most : ℕ) (rows all : List AirRow) (r : Rows) → r ≡ Ok rows → length rows ≤ most → Each IsRow rows → r ≡ Ok all → AreRows most all
same_rows most rows all r is few each h =
    let same : rows ≡ all = cc in
    subst (AreRows most) same (record { few = few; each = each })

found_row : (g : Graph) (left : ℕ) (rows all : List AirRow) (p : Read) (most : ℕ) (r : Result AirRow AirFault) → air_row_of g (length rows + 1) rows p.0 ≡ r → Rest g left
    → length rows + suc left ≤ most → Each IsRow rows → (r >>= λ row. air_rows_from g left (rows ++ row ∷ []) p.1 p.2) ≡ Ok all → AreRows most all
found_row g left rows all p most (Err e) is rest few each h = absurd cc
found_row g left rows all p most (Ok row) is rest few each h =
    rest (rows ++ row ∷ []) all p.1 p.2 most (omega (arith, length-append rows (row ∷ []))) (Each-push IsRow rows row each (row_of-is_row g (length rows + 1) rows p.0 row is)) h

found : (g : Graph) (left : ℕ) (rows all : List AirRow) (o : Option Read) (most : ℕ) → Rest g left
    → length rows + suc left ≤ most → Each IsRow rows → air_goes_on g rows (λ more. air_rows_from g left more) o ≡ Ok all → AreRows most all
found g left rows all None most rest few each h = same_rows most rows all (Ok rows) refl (omega arith) each h
found g left rows all (Some p) most rest few each h = found_row g left rows all p most (air_row_of g (length rows + 1) rows p.0) refl rest few each h

ended : (rows all : List AirRow) (o : Option Read) (most : ℕ) → length rows ≤ most → Each IsRow rows → air_ends rows o ≡ Ok all → AreRows most all
ended rows all None most few each h = same_rows most rows all (Ok rows) refl few each h
ended rows all (Some p) most few each h = absurd cc

rows_from-rows : (g : Graph) (left : ℕ) → Rest g left
unfolding air_rows_from
rows_from-rows g zero rows all s xs most few each h = ended rows all (next s xs) most (omega arith) each h
rows_from-rows g (suc left) rows all s xs most few each h = found g left rows all (next s xs) most (rows_from-rows g left) few each h

headed : (most : ℕ) (b : Bool) (r : Rows) (rows : List AirRow) → (r ≡ Ok rows → AreRows most rows) → cond b r (Err fault.Header) ≡ Ok rows → AreRows most rows
headed most true r rows f h = f h
headed most false r rows f h = absurd cc

after_header-rows : (g : Graph) (o : Option Read) (rows : List AirRow) → air_after_header g o ≡ Ok rows → AreRows (file_limits g.claims).rows rows
after_header-rows g None rows h = absurd cc
after_header-rows g (Some p) rows h =
    headed (file_limits g.claims).rows (is_air_header p.0) (air_rows_from g (file_limits g.claims).rows [] p.1 p.2) rows (λ is. rows_from-rows g (file_limits g.claims).rows [] rows p.1 p.2 (file_limits g.claims).rows (omega arith) tt is) h

not_too_long : (most : ℕ) (b : Bool) (r : Rows) (rows : List AirRow) → (r ≡ Ok rows → AreRows most rows) → cond b (Err fault.TooLong) r ≡ Ok rows → AreRows most rows
not_too_long most true r rows f h = absurd cc
not_too_long most false r rows f h = f h

-- the rows of a file
pub rows_of-rows : (g : Graph) (bytes : List ℕ) (rows : List AirRow) → air_rows_of g bytes ≡ Ok rows → AreRows (file_limits g.claims).rows rows
unfolding air_rows_of
rows_of-rows g bytes rows h =
    not_too_long (file_limits g.claims).rows (nat_lt (file_limits g.claims).bytes (length bytes)) (air_after_header g (next st.StartRecord (strip_bom bytes))) rows (after_header-rows g (next st.StartRecord (strip_bom bytes)) rows) h
