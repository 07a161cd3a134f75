-- What an audit or a replay reads after the graph file: the rows of all sensors, and then one last file.
use Rattle.std.specs.Prelude.{◌≡◌, ◌+◌, ℕ, List, [], IfSome, take}
use Rattle.pt_types.specs.declared.graph.Graph.{Graph}
use Rattle.pt_audit.specs.Limits.{log_limit}
use Rattle.pt_sensors.specs.Limits.{file_limits}
use Rattle.pt_semantics.specs.Rows.{FitRows}
use Rattle.pt_offsets.specs.Plans.{IsAdmitted, Parts}
use Rattle.pt_sensor_files.specs.declared.recorded_fault.LateRows.TheVariants.{Refused}
use Rattle.pt_sensors.specs.declared.sensor_rows.SensorRows.{SensorRows}
use Rattle.pt_io.specs.Calls.{Contents}
use Rattle.pt_sensors.specs.Listed.{rows_for}
use Rattle.pt_sensors.specs.Places.{StandInPlace, of_run}
use Rattle.pt_sensor_files.specs.Recorded.{AllPass, AreRows}
use Rattle.pt_run.specs.declared.fault.Fault.{Fault}
use Rattle.pt_run.specs.declared.fault.Fault.TheVariants as fault
use Rattle.pt_run.specs.declared.last_file.LastFile.{LastFile}
use Rattle.pt_run.specs.declared.last_file.LastFile.TheVariants.{Log, Air}
use Rattle.pt_run.specs.Auditing.{LastFails}
use Rattle.pt_run.specs.Due.{AfterAdmission, Answer, RefusedWith}

-- the most bytes that the last file may have, by the most claims of a platform
abbrev pub most_of : LastFile → ℕ → ℕ
most_of Log claims = log_limit claims
most_of Air claims = (file_limits claims).bytes

-- the fault if it can't be read
abbrev pub unread_of : LastFile → Fault
unread_of Log = fault.ReadLog
unread_of Air = fault.ReadAir

-- the plan is admitted, and these are the rows of its sensors, none of which is late
pub record HasAllRows (contents : Contents) (plan : Parts) (entries : List SensorRows) : Type 0 where
  pub admitted : IsAdmitted plan
  pub sensors : AreRows contents plan.graph (rows_for entries)
  pub in_time : AllPass Refused plan.graph (rows_for entries)
  pub places : StandInPlace plan.graph entries
  pub fit : FitRows plan.graph (of_run plan.graph (rows_for entries))

-- these bytes begin the content of the file with this name, if that is known: they are all of it, or one more than the file may have
abbrev pub HasFetched : LastFile → ℕ → Contents → List ℕ → List ℕ → Type 0
HasFetched last claims contents name bytes = IfSome (contents name) (λ content. bytes ≡ take (most_of last claims + 1) content)

-- a call over this graph is refused up to the last file: by its admission, or since the last file can't be read
abbrev pub IsUnread : LastFile → List ℕ → Contents → Graph → Answer → Type 0
IsUnread last name contents g a = AfterAdmission contents g [] a (λ plan rows. RefusedWith (unread_of last) a × LastFails g [] name a.read)
