-- The rows so far, and what the bytes that are left make of them.
use Rattle.std.proofs.Common.{◌≡◌, ℕ, suc, ◌+◌, List, [], ◌∷◌, ◌++◌, true, false, Option, Some, None, Result, Ok, Err, refl, sym, ap, append_assoc, ◌∙◌}
use Rattle.std.proofs.lemmas.List.{append-nil}
use Rattle.csv.specs.Machine.{Read}
use Rattle.csv.specs.Reading.{reader_state}
use Rattle.csv.specs.declared.parser.State.{State}
use Rattle.csv.specs.declared.reader.Reader.{Reader}
use Rattle.pt_sensors.specs.Rows.{IsPlain, Finds, bytes_left, row_of}
use Rattle.pt_sensors.specs.RowsOf.{next, row_in_front, goes_on, ends, rows_from}
use Rattle.pt_types.specs.declared.rows.Row.{Row}
use Rattle.pt_sensors.specs.declared.fault.RowFault.{RowFault}
use Rattle.pt_sensors.specs.declared.fault.RowFault.TheVariants as fault

abbrev pub prepend : List Row → Result (List Row) RowFault → Result (List Row) RowFault
prepend front (Ok rows) = Ok (front ++ rows)
prepend front (Err e) = Err e

prepend-in_front : (front : List Row) (row : Row) (r : Result (List Row) RowFault) → prepend front (row_in_front row r) ≡ prepend (front ++ row ∷ []) r
prepend-in_front front row (Ok rows) = ap Ok (sym (append_assoc front (row ∷ []) rows))
prepend-in_front front row (Err e) = refl

-- a record was found, and it is a row
pub record More {R : Type 0} (rem : R → Option (List ℕ)) (reader : Reader R) (left n : ℕ) (row : Row) (front : List Row) (all : Result (List Row) RowFault) : Type 0 where
  pub plain : IsPlain rem reader
  pub rows : prepend (front ++ row ∷ []) (rows_from left (n + 1) (Some row) (reader_state reader) (bytes_left rem reader)) ≡ all

more_go : {R : Type 0} (rem : R → Option (List ℕ)) (reader : Reader R) (fields : List (List ℕ)) (left n : ℕ) (before : Option Row) (row : Row) (front : List Row) (all : Result (List Row) RowFault)
    (o : Option Read) → Finds rem o true reader fields → row_of n before fields ≡ Ok row
    → prepend front (goes_on n before (λ r. rows_from left (n + 1) (Some r)) o) ≡ all → More rem reader left n row front all
more_go rem reader fields left n before row front all None f r was = absurd cc
more_go rem reader fields left n before row front all (Some p) f r was =
    record { plain = f.2; rows = rw (← prepend-in_front, f.3, f.4) (rw (← f.1, r) at was) }

pub more : {R : Type 0} (rem : R → Option (List ℕ)) (reader : Reader R) (fields : List (List ℕ)) (left n : ℕ) (before : Option Row) (row : Row) (front : List Row) (all : Result (List Row) RowFault)
    (s : State) (xs : List ℕ) → Finds rem (next s xs) true reader fields → row_of n before fields ≡ Ok row
    → prepend front (rows_from (suc left) n before s xs) ≡ all → More rem reader left n row front all
unfolding rows_from
more rem reader fields left n before row front all s xs f r was = more_go rem reader fields left n before row front all (next s xs) f r was

-- a record was found that is no row
odd_go : {R : Type 0} (rem : R → Option (List ℕ)) (reader : Reader R) (fields : List (List ℕ)) (left n : ℕ) (before : Option Row) (e : RowFault) (front : List Row) (all : Result (List Row) RowFault)
    (o : Option Read) → Finds rem o true reader fields → row_of n before fields ≡ Err e
    → prepend front (goes_on n before (λ r. rows_from left (n + 1) (Some r)) o) ≡ all → all ≡ Err e
odd_go rem reader fields left n before e front all None f r was = absurd cc
odd_go rem reader fields left n before e front all (Some p) f r was = sym (rw (← f.1, r) at was)

pub odd : {R : Type 0} (rem : R → Option (List ℕ)) (reader : Reader R) (fields : List (List ℕ)) (left n : ℕ) (before : Option Row) (e : RowFault) (front : List Row) (all : Result (List Row) RowFault)
    (s : State) (xs : List ℕ) → Finds rem (next s xs) true reader fields → row_of n before fields ≡ Err e
    → prepend front (rows_from (suc left) n before s xs) ≡ all → all ≡ Err e
unfolding rows_from
odd rem reader fields left n before e front all s xs f r was = odd_go rem reader fields left n before e front all (next s xs) f r was

-- no record was found
done_go : {R : Type 0} (rem : R → Option (List ℕ)) (reader : Reader R) (fields : List (List ℕ)) (left n : ℕ) (before : Option Row) (front : List Row) (all : Result (List Row) RowFault)
    (o : Option Read) → Finds rem o false reader fields
    → prepend front (goes_on n before (λ r. rows_from left (n + 1) (Some r)) o) ≡ all → all ≡ Ok front
done_go rem reader fields left n before front all None f was = sym was ∙ ap Ok (append-nil front)
done_go rem reader fields left n before front all (Some p) f was = absurd cc

pub done : {R : Type 0} (rem : R → Option (List ℕ)) (reader : Reader R) (fields : List (List ℕ)) (left n : ℕ) (before : Option Row) (front : List Row) (all : Result (List Row) RowFault)
    (s : State) (xs : List ℕ) → Finds rem (next s xs) false reader fields
    → prepend front (rows_from (suc left) n before s xs) ≡ all → all ≡ Ok front
unfolding rows_from
done rem reader fields left n before front all s xs f was = done_go rem reader fields left n before front all (next s xs) f was

-- the last read: a record is one too many
too_many_go : {R : Type 0} (rem : R → Option (List ℕ)) (reader : Reader R) (fields : List (List ℕ)) (front : List Row) (all : Result (List Row) RowFault)
    (o : Option Read) → Finds rem o true reader fields → prepend front (ends o) ≡ all → all ≡ Err fault.TooManyRows
too_many_go rem reader fields front all None f was = absurd cc
too_many_go rem reader fields front all (Some p) f was = sym was

pub too_many : {R : Type 0} (rem : R → Option (List ℕ)) (reader : Reader R) (fields : List (List ℕ)) (n : ℕ) (before : Option Row) (front : List Row) (all : Result (List Row) RowFault)
    (s : State) (xs : List ℕ) → Finds rem (next s xs) true reader fields → prepend front (rows_from 0 n before s xs) ≡ all → all ≡ Err fault.TooManyRows
unfolding rows_from
too_many rem reader fields n before front all s xs f was = too_many_go rem reader fields front all (next s xs) f was

full_go : {R : Type 0} (rem : R → Option (List ℕ)) (reader : Reader R) (fields : List (List ℕ)) (front : List Row) (all : Result (List Row) RowFault)
    (o : Option Read) → Finds rem o false reader fields → prepend front (ends o) ≡ all → all ≡ Ok front
full_go rem reader fields front all None f was = sym was ∙ ap Ok (append-nil front)
full_go rem reader fields front all (Some p) f was = absurd cc

pub full : {R : Type 0} (rem : R → Option (List ℕ)) (reader : Reader R) (fields : List (List ℕ)) (n : ℕ) (before : Option Row) (front : List Row) (all : Result (List Row) RowFault)
    (s : State) (xs : List ℕ) → Finds rem (next s xs) false reader fields → prepend front (rows_from 0 n before s xs) ≡ all → all ≡ Ok front
unfolding rows_from
full rem reader fields n before front all s xs f was = full_go rem reader fields front all (next s xs) f was
