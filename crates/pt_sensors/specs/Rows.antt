-- The state of a CSV reader, and which records are rows.
use Rattle.std.specs.Prelude.{◌≡◌, ℕ, List, [], Bool, true, false, Option, Some, None, Result, Ok, Err, nat_le, nat_lt, option_and_then, if◌then◌else◌, codes, bytes_eq, ◌&&◌, ◌==◌, length, option_map, unwrap_or}
use Rattle.csv.specs.Records.{field_at}
use Rattle.csv.specs.Machine.{Read}
use Rattle.csv.specs.Reading.{Ready, source_of, reader_config, reader_trim, reader_state, default_config}
use Rattle.csv.specs.declared.reader.Reader.{Reader}
use Rattle.csv.specs.declared.reader.Trim.TheVariants as trim
use Rattle.pt_sensors.specs.Numbers.{limited, signed}
use Rattle.pt_types.specs.declared.rows.Row.{Row}
use Rattle.pt_sensors.specs.declared.fault.RowFault.{RowFault}
use Rattle.pt_sensors.specs.declared.fault.RowFault.TheVariants as fault

-- the bytes that a reader has left
abbrev pub bytes_left : {R : Type 0} → (R → Option (List ℕ)) → Reader R → List ℕ
bytes_left rem reader = unwrap_or (source_of rem reader) []

-- a reader of known bytes, with the default configuration and no trimming
pub record IsPlain {R : Type 0} (rem : R → Option (List ℕ)) (reader : Reader R) : Type 0 where
  pub config : reader_config reader ≡ default_config
  pub trim : reader_trim reader ≡ trim.None
  pub ready : Ready reader
  pub known : source_of rem reader ≡ Some (bytes_left rem reader)

-- a read found the next record, or there is none
abbrev pub Finds : {R : Type 0} → (R → Option (List ℕ)) → Option Read → Bool → Reader R → List (List ℕ) → Type 0
Finds rem None found reader fields = found ≡ false
Finds rem (Some p) found reader fields =
    (found ≡ true) × (fields ≡ p.0) × IsPlain rem reader × (reader_state reader ≡ p.1) × (bytes_left rem reader ≡ p.2)

-- the three fields of a record, if it has three
abbrev pub Cells : Type 0
Cells = List ℕ × List ℕ × List ℕ

abbrev pub three : Option (List ℕ) → Option (List ℕ) → Option (List ℕ) → Option Cells
three t s v = option_and_then (λ t. option_and_then (λ s. option_map (λ v. (t, s, v)) v) s) t

unfoldable pub cells : List (List ℕ) → Option Cells
cells fields = if length fields == 3 then three (field_at fields 0) (field_at fields 1) (field_at fields 2) else None

infixl 10 ◌>>=◌
abbrev pub ◌>>=◌ : {A B : Type 0} → Result A RowFault → (A → Result B RowFault) → Result B RowFault
(Ok x) >>= f = f x
(Err e) >>= f = Err e

abbrev pub or_row_fault : {A : Type 0} → RowFault → Option A → Result A RowFault
or_row_fault e None = Err e
or_row_fault e (Some x) = Ok x

-- the numbers of a row
unfoldable pub numbers_of : Cells → Option Row
numbers_of c =
    option_and_then (λ time.
    option_and_then (λ seen.
    option_and_then (λ value.
    Some (record { time = time; seen = seen; value = value })) (signed c.2)) (limited 10000000000000000 c.1)) (limited 1000000000000000 c.0)

-- the first fault in the order of a row and the row before it, if there is one
abbrev pub order_fault : ℕ → Option Row → Row → Option RowFault
order_fault n None row = if nat_lt row.seen row.time then Some (fault.SeenEarly n) else None
order_fault n (Some before) row =
    if nat_le row.time before.time then Some (fault.TimeOrder n)
    else if nat_lt row.seen before.seen then Some (fault.SeenOrder n)
    else if nat_lt row.seen row.time then Some (fault.SeenEarly n)
    else None

abbrev pub unless : {A : Type 0} → Option RowFault → A → Result A RowFault
unless None x = Ok x
unless (Some e) x = Err e

-- the row of record number n, or its first fault
unfoldable pub row_of : ℕ → Option Row → List (List ℕ) → Result Row RowFault
row_of n before fields = do
  three ← or_row_fault (fault.Fields n) (cells fields)
  row ← or_row_fault (fault.Number n) (numbers_of three)
  unless (order_fault n before row) row

abbrev pub are_titles : Cells → Bool
are_titles c = bytes_eq c.0 (codes "time") && bytes_eq c.1 (codes "seen") && bytes_eq c.2 (codes "value")

abbrev pub is_header : List (List ℕ) → Bool
is_header fields = unwrap_or (option_map are_titles (cells fields)) false
