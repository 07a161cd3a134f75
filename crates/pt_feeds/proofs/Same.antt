-- Lines say what they say in sensor files.
use Rattle.std.proofs.Common.{◌≡◌, ℕ, ℤ, [], ◌∷◌, length, Option, Some, None, Result, Ok, refl, true, false, ◌==◌, arith}
use Rattle.std.proofs.lemmas.Bool.Decides.{nat_tests}
use Rattle.std.specs.Prelude.{option_and_then, nat_le, nat_lt, if◌then◌else◌}
use Rattle.csv.specs.Records.{field_at}
use Rattle.pt_types.specs.declared.rows.Row.{Row}
use Rattle.pt_sensors.specs.Numbers.{limited, signed}
use Rattle.pt_sensors.specs.Rows.{row_of, cells, numbers_of, order_fault, unless, or_row_fault, ◌>>=◌}
use Rattle.pt_sensors.specs.declared.fault.RowFault.TheVariants as file
use Rattle.pt_feeds.specs.AsInFiles.{SaysTheSame, SaysAsInFiles}
use Rattle.pt_feeds.specs.Lines.{sample_of, number_in}
use Rattle.pt_feeds.specs.Lines as line
use Rattle.pt_feeds.specs.declared.fault.RowFault.{RowFault}
use Rattle.pt_feeds.specs.declared.sample.Sample.{Sample}
use Rattle.pt_feeds.specs.declared.fault.Column.TheVariants as column

-- a row whose order is judged says the same, or is only out of order
in_order : (number : ℕ) (before : Option Row) (row : Row) → SaysTheSame (unless (order_fault number before row) row) (Ok (record { time = Some row.time; value = row.value }))
in_order number None row =
    elim (nat_lt row.seen row.time) as (λ b. SaysTheSame (unless (if b then Some (file.SeenEarly number) else None) row) (Ok (record { time = Some row.time; value = row.value })))
    [ true ↦ (record { time = Some row.time; value = row.value }, refl) | false ↦ refl ]
in_order number (Some before) row =
    elim (nat_le row.time before.time) as (λ b. SaysTheSame (unless (if b then Some (file.TimeOrder number) else if nat_lt row.seen before.seen then Some (file.SeenOrder number) else if nat_lt row.seen row.time then Some (file.SeenEarly number) else None) row) (Ok (record { time = Some row.time; value = row.value }))) [
      | true ↦ (record { time = Some row.time; value = row.value }, refl)
      | false ↦ elim (nat_lt row.seen before.seen) as (λ b. SaysTheSame (unless (if b then Some (file.SeenOrder number) else if nat_lt row.seen row.time then Some (file.SeenEarly number) else None) row) (Ok (record { time = Some row.time; value = row.value }))) [
        | true ↦ (record { time = Some row.time; value = row.value }, refl)
        | false ↦ elim (nat_lt row.seen row.time) as (λ b. SaysTheSame (unless (if b then Some (file.SeenEarly number) else None) row) (Ok (record { time = Some row.time; value = row.value })))
            [ true ↦ (record { time = Some row.time; value = row.value }, refl) | false ↦ refl ]
      ]
    ]

-- what a line with these numbers says
abbrev result_of : Option ℕ → Option ℕ → Option ℤ → Result Sample RowFault
result_of time seen value =
    line.◌>>=◌ (number_in column.Time time) (λ time. line.◌>>=◌ (number_in column.Seen seen) (λ seen. line.◌>>=◌ (number_in column.Value value) (λ value. Ok (record { time = Some time; value = value }))))

-- the same, whatever numbers the three fields have
by_numbers : (number : ℕ) (before : Option Row) (time seen : Option ℕ) (value : Option ℤ)
    → SaysTheSame
    (or_row_fault (file.Number number) (option_and_then (λ t. option_and_then (λ s. option_and_then (λ v. Some (record { time = t; seen = s; value = v })) value) seen) time)
    >>= (λ row. unless (order_fault number before row) row))
    (result_of time seen value)
by_numbers number before None seen value = (column.Time, refl)
by_numbers number before (Some t) None value = (column.Seen, refl)
by_numbers number before (Some t) (Some s) None = (column.Value, refl)
by_numbers number before (Some t) (Some s) (Some v) = in_order number before (record { time = t; seen = s; value = v })

pub says_as_in_files : SaysAsInFiles
unfolding row_of cells numbers_of field_at
says_as_in_files number before [] = refl
says_as_in_files number before (a ∷ []) = refl
says_as_in_files number before (a ∷ (b ∷ [])) = refl
says_as_in_files number before (a ∷ (b ∷ (c ∷ []))) = by_numbers number before (limited 1000000000000000 a) (limited 10000000000000000 b) (signed c)
says_as_in_files number before (a ∷ (b ∷ (c ∷ (d ∷ others)))) =
    let more : (length (a ∷ (b ∷ (c ∷ (d ∷ others)))) == 3) ≡ false = grind (arith, nat_tests) in
    rw more refl
