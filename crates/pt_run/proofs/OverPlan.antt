-- How a call ends that has an admitted plan, by what it finds of the files after the graph file.
use Rattle.std.proofs.Common.{◌≡◌, ℕ, ◌≤◌, List, [], ◌∷◌, Option, refl, subst, inl, inr}
use Rattle.pt_io.specs.Causes.{Rose}
use Rattle.pt_types.specs.declared.graph.Graph.{Graph}
use Rattle.pt_types.specs.declared.rows.Row.{Row}
use Rattle.pt_offsets.specs.Plans.{IsAdmitted, Parts}
use Rattle.pt_sensor_files.specs.declared.recorded_fault.RecordedFault.{RecordedFault}
use Rattle.pt_sensor_files.specs.declared.recorded_fault.LateRows.TheVariants.{Refused}
use Rattle.pt_sensors.specs.declared.sensor_rows.SensorRows.{SensorRows}
use Rattle.pt_sensor_files.specs.Asked.{Asks, ReadFails}
use Rattle.pt_io.specs.Calls.{Contents, SourceCall}
use Rattle.pt_sensors.specs.Listed.{rows_for}
use Rattle.pt_sensors.specs.Places.{of_run}
use Rattle.pt_sensor_files.specs.Recorded.{AllPass, AreRows, CauseOfRows}
use Rattle.pt_sensor_files.proofs.Asking.{append_none, read_after}
use Rattle.pt_run.specs.Asks.{all_sensors}
use Rattle.pt_run.specs.Auditing.{LastFails}
use Rattle.pt_run.specs.Due.{AfterAdmission, AfterRows, Answer, RefusesAsDue, UnlessMemory, WithPlan}
use Rattle.pt_run.specs.Faults.{fault_of_rows}
use Rattle.pt_run.specs.LastFiles.{HasAllRows}
use Rattle.pt_run.proofs.Endings.{rows_due}

module _ (contents : Contents) (p : Parts) (g : Graph) (Then : Answer → Parts → (ℕ → List Row) → Type 0) (admitted : IsAdmitted p) (same : g ≡ p.graph) where
  -- what is due after the rows
  abbrev Planned : Answer → (ℕ → List Row) → Type 0
  Planned a rows = WithPlan p.graph (λ plan. Then a plan (of_run p.graph rows))

  on_graph : (a : Answer) → UnlessMemory a (λ a. AfterRows Refused contents p.graph [] a (Planned a)) → UnlessMemory a (λ a. AfterAdmission contents p.graph [] a (Then a))
  on_graph a (inl out) = inl out
  on_graph a (inr k) = inr (inr (admitted.no_free_cycle, inr (admitted.feasible, k)))

  -- its sensors have no rows
  pub no_rows : (f : RecordedFault) (r : SourceCall) → CauseOfRows Refused f contents g [] r → RefusesAsDue (fault_of_rows f) r (λ a. AfterAdmission contents p.graph [] a (Then a))
  no_rows f r cause a is out = on_graph a (rows_due (λ (text : List ℕ). text) Refused f contents p.graph r Planned (subst (λ (z : Graph). CauseOfRows Refused f contents z [] r) same cause) a is out)

  -- its sensors have these rows, and the call goes on
  pub past_rows : (rows : ℕ → List Row) → AreRows contents g rows → AllPass Refused g rows → (a : Answer) → UnlessMemory a (λ a. Then a p (of_run p.graph rows)) → UnlessMemory a (λ a. AfterAdmission contents p.graph [] a (Then a))
  past_rows rows are pass a (inl out) = inl out
  past_rows rows are pass a (inr k) = on_graph a (inr (inr (inr (inr (rows, subst (λ (z : Graph). AreRows contents z rows) same are, subst (λ (z : Graph). AllPass Refused z rows) same pass, (p, refl, admitted, k))))))

-- all of its sensors have rows, and the call goes on
pub past_all_rows : (contents : Contents) (p : Parts) (entries : List SensorRows) (Then : Answer → Parts → (ℕ → List Row) → Type 0) → HasAllRows contents p entries → (a : Answer) →
    UnlessMemory a (λ a. Then a p (of_run p.graph (rows_for entries))) → UnlessMemory a (λ a. AfterAdmission contents p.graph [] a (Then a))
past_all_rows contents p entries Then has a due = past_rows contents p p.graph Then has.admitted refl (rows_for entries) has.sensors has.in_time a due

-- a last file could not be read after the files of the sensors
pub last_unread : (file : List ℕ) (p : Parts) (g : Graph) (first asked now : Option (List (List ℕ))) (start before last : ℕ) → g ≡ p.graph → Asks first asked (all_sensors g) → start ≤ before → Asks asked now (file ∷ []) → Rose before last →
    LastFails p.graph [] file (record { asked_before = first; asked_now = now; before = start; now = last })
last_unread file p g first asked now start before last same files grew one rose =
    subst (λ (z : Graph). LastFails z [] file (record { asked_before = first; asked_now = now; before = start; now = last })) same
    (subst (λ xs. ReadFails xs file (record { asked_before = first; asked_now = now; before = start; now = last })) (append_none (all_sensors g))
    (read_after (all_sensors g) [] file first asked now start before last files grew (record { asked = one; rose = rose })))
