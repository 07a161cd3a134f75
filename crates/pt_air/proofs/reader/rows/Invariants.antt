use Rattle.std.proofs.Common.{◌≡◌, ◌-◌, [], length, Some}
use Rattle.csv.specs.Reading.{reader_state}
use Rattle.pt_sensors.specs.Rows.{IsPlain, bytes_left}
use Rattle.pt_air.specs.AirOf.{air_rows_from}
use Rattle.pt_air.proofs.reader.rows.Given as goal

abbrev pub invariant-loop-index : goal.invariant-loop-index
invariant-loop-index l = record {
  plain : IsPlain (λ r. Some r.now) l.reader;
  count : length l.rows.items ≡ l.index;
  rows : air_rows_from l.graph (l.most - l.index) l.rows.items (reader_state l.reader) (bytes_left (λ r. Some r.now) l.reader)
      ≡ air_rows_from l.graph l.most [] (reader_state l.fn.reader) (bytes_left (λ r. Some r.now) l.fn.reader);
}
