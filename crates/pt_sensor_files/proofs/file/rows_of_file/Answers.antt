use Rattle.std.proofs.Common.{◌+◌, Ok, Err, [], ◌∷◌, sym, subst}
use Rattle.pt_io.specs.Calls.{SourceCall, reading}
use Rattle.pt_sensors.specs.RowsOf.{rows_of}
use Rattle.pt_sensor_files.proofs.Fetched.{rows_of-fetched}
use Rattle.pt_sensor_files.specs.Asked.{AsksBy}
use Rattle.pt_sensor_files.specs.Counts.{LeavesCount}
use Rattle.pt_sensor_files.specs.Files.{CauseOfFile}
use Rattle.pt_sensor_files.proofs.Asking.{asks_before_fault, of_content}
use Rattle.pt_sensor_files.proofs.Counting.{rows_leave_count}
use Rattle.pt_sensor_files.proofs.Recording.{rows_fail}
use Rattle.pt_sensor_files.proofs.file.rows_of_file.Goals as goal

pub returns-in-Ok-read_rows-clause-rows : goal.returns-in-Ok-read_rows-clause-rows
returns-in-Ok-read_rows-clause-rows g c =
    of_content (rows_of c.args.limits) (c.args.limits.bytes + 1) (rows_of-fetched c.args.limits) (g.S.Source.contents c.args.source.now c.args.name.now) c.in-Ok.bytes.items (Ok c.in-Ok-read_rows.rows) c.in-Ok.ensures.bytes
    (rw c.as_slice.ensures.value at c.in-Ok-read_rows.ensures.rows)

pub returns-clause-fault : goal.returns-clause-fault
returns-clause-fault g c =
    let contents = g.S.Source.contents c.args.source.now in
    let r : SourceCall = reading g.S.Source c.args.source.now c.fetch.new.self in
    subst (λ f. CauseOfFile c.args.limits c.args.actor f contents c.args.name.now r) (sym c.fault_of_rows.ensures)
    (rows_fail c.args.limits contents c.args.actor c.args.name.now c.in-Err.fault r (λ other.
    of_content (rows_of c.args.limits) (c.args.limits.bytes + 1) (rows_of-fetched c.args.limits) (contents c.args.name.now) c.in-Ok.bytes.items (Err c.in-Err.fault) c.in-Ok.ensures.bytes (rw c.as_slice.ensures.value at (c.in-Err.ensures.rows other))))

pub returns-clause-counted : goal.returns-clause-counted
returns-clause-counted g c =
    let before = g.S.Source.faults c.args.source.now in
    let now = g.S.Source.faults c.fetch.new.self in
    subst (λ f. LeavesCount f before now) (sym c.fault_of_rows.ensures) (rows_leave_count c.args.actor c.in-Err.fault before now c.in-Ok.ensures.uncounted)

pub returns-clause-asks_by : goal.returns-clause-asks_by
returns-clause-asks_by g c =
    let before = g.S.Source.asked c.args.source.now in
    let now = g.S.Source.asked c.fetch.new.self in
    let names = c.args.name.now ∷ [] in
    subst (λ f. AsksBy f before now names) (sym c.fault_of_rows.ensures) (asks_before_fault c.args.actor c.in-Err.fault before now names c.in-Ok.ensures.names)
