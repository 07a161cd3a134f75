-- The rows so far, and what the bytes that are left make of them.
use Rattle.std.proofs.Common.{◌≡◌, ℕ, suc, ◌+◌, List, [], ◌∷◌, ◌++◌, true, false, Option, Some, None, Result, Ok, Err, sym, length}
use Rattle.csv.specs.Machine.{Read}
use Rattle.csv.specs.Reading.{reader_state}
use Rattle.csv.specs.declared.parser.State.{State}
use Rattle.csv.specs.declared.reader.Reader.{Reader}
use Rattle.pt_sensors.specs.Rows.{IsPlain, Finds, bytes_left}
use Rattle.pt_sensors.specs.RowsOf.{next}
use Rattle.pt_types.specs.declared.graph.Graph.{Graph}
use Rattle.pt_air.specs.declared.fault.AirFault.{AirFault}
use Rattle.pt_air.specs.declared.fault.AirFault.TheVariants as fault
use Rattle.pt_air.specs.declared.row.AirRow.{AirRow}
use Rattle.pt_air.specs.AirOf.{air_ends, air_goes_on, air_rows_from}
use Rattle.pt_air.specs.Rows.{air_row_of}

abbrev pub Rows : Type 0
Rows = Result (List AirRow) AirFault

-- a record was found, and it is a row
pub record More {R : Type 0} (rem : R → Option (List ℕ)) (reader : Reader R) (g : Graph) (left : ℕ) (rows : List AirRow) (all : Rows) : Type 0 where
  pub plain : IsPlain rem reader
  pub rest : air_rows_from g left rows (reader_state reader) (bytes_left rem reader) ≡ all

more_go : {R : Type 0} (rem : R → Option (List ℕ)) (reader : Reader R) (fields : List (List ℕ)) (g : Graph) (left : ℕ) (rows : List AirRow) (row : AirRow) (all : Rows)
    (o : Option Read) → Finds rem o true reader fields → air_row_of g (length rows + 1) rows fields ≡ Ok row
    → air_goes_on g rows (λ more. air_rows_from g left more) o ≡ all → More rem reader g left (rows ++ row ∷ []) all
more_go rem reader fields g left rows row all None f r was = absurd cc
more_go rem reader fields g left rows row all (Some p) f r was =
    record { plain = f.2; rest = rw (f.3, f.4) (rw (← f.1, r) at was) }

pub more : {R : Type 0} (rem : R → Option (List ℕ)) (reader : Reader R) (fields : List (List ℕ)) (g : Graph) (left : ℕ) (rows : List AirRow) (row : AirRow) (all : Rows)
    (s : State) (xs : List ℕ) → Finds rem (next s xs) true reader fields → air_row_of g (length rows + 1) rows fields ≡ Ok row
    → air_rows_from g (suc left) rows s xs ≡ all → More rem reader g left (rows ++ row ∷ []) all
unfolding air_rows_from
more rem reader fields g left rows row all s xs f r was = more_go rem reader fields g left rows row all (next s xs) f r was

-- a record was found that is no row
odd_go : {R : Type 0} (rem : R → Option (List ℕ)) (reader : Reader R) (fields : List (List ℕ)) (g : Graph) (left : ℕ) (rows : List AirRow) (e : AirFault) (all : Rows)
    (o : Option Read) → Finds rem o true reader fields → air_row_of g (length rows + 1) rows fields ≡ Err e
    → air_goes_on g rows (λ more. air_rows_from g left more) o ≡ all → all ≡ Err e
odd_go rem reader fields g left rows e all None f r was = absurd cc
odd_go rem reader fields g left rows e all (Some p) f r was = sym (rw (← f.1, r) at was)

pub odd : {R : Type 0} (rem : R → Option (List ℕ)) (reader : Reader R) (fields : List (List ℕ)) (g : Graph) (left : ℕ) (rows : List AirRow) (e : AirFault) (all : Rows)
    (s : State) (xs : List ℕ) → Finds rem (next s xs) true reader fields → air_row_of g (length rows + 1) rows fields ≡ Err e
    → air_rows_from g (suc left) rows s xs ≡ all → all ≡ Err e
unfolding air_rows_from
odd rem reader fields g left rows e all s xs f r was = odd_go rem reader fields g left rows e all (next s xs) f r was

-- no record was found
done_go : {R : Type 0} (rem : R → Option (List ℕ)) (reader : Reader R) (fields : List (List ℕ)) (g : Graph) (left : ℕ) (rows : List AirRow) (all : Rows)
    (o : Option Read) → Finds rem o false reader fields → air_goes_on g rows (λ more. air_rows_from g left more) o ≡ all → all ≡ Ok rows
done_go rem reader fields g left rows all None f was = sym was
done_go rem reader fields g left rows all (Some p) f was = absurd cc

pub done : {R : Type 0} (rem : R → Option (List ℕ)) (reader : Reader R) (fields : List (List ℕ)) (g : Graph) (left : ℕ) (rows : List AirRow) (all : Rows)
    (s : State) (xs : List ℕ) → Finds rem (next s xs) false reader fields → air_rows_from g (suc left) rows s xs ≡ all → all ≡ Ok rows
unfolding air_rows_from
done rem reader fields g left rows all s xs f was = done_go rem reader fields g left rows all (next s xs) f was

-- the last read: a record is one too many
too_many_go : {R : Type 0} (rem : R → Option (List ℕ)) (reader : Reader R) (fields : List (List ℕ)) (rows : List AirRow) (all : Rows)
    (o : Option Read) → Finds rem o true reader fields → air_ends rows o ≡ all → all ≡ Err fault.TooManyRows
too_many_go rem reader fields rows all None f was = absurd cc
too_many_go rem reader fields rows all (Some p) f was = sym was

pub too_many : {R : Type 0} (rem : R → Option (List ℕ)) (reader : Reader R) (fields : List (List ℕ)) (g : Graph) (rows : List AirRow) (all : Rows)
    (s : State) (xs : List ℕ) → Finds rem (next s xs) true reader fields → air_rows_from g 0 rows s xs ≡ all → all ≡ Err fault.TooManyRows
unfolding air_rows_from
too_many rem reader fields g rows all s xs f was = too_many_go rem reader fields rows all (next s xs) f was

full_go : {R : Type 0} (rem : R → Option (List ℕ)) (reader : Reader R) (fields : List (List ℕ)) (rows : List AirRow) (all : Rows)
    (o : Option Read) → Finds rem o false reader fields → air_ends rows o ≡ all → all ≡ Ok rows
full_go rem reader fields rows all None f was = sym was
full_go rem reader fields rows all (Some p) f was = absurd cc

pub full : {R : Type 0} (rem : R → Option (List ℕ)) (reader : Reader R) (fields : List (List ℕ)) (g : Graph) (rows : List AirRow) (all : Rows)
    (s : State) (xs : List ℕ) → Finds rem (next s xs) false reader fields → air_rows_from g 0 rows s xs ≡ all → all ≡ Ok rows
unfolding air_rows_from
full rem reader fields g rows all s xs f was = full_go rem reader fields rows all (next s xs) f was
