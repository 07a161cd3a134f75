-- An audit and a replay end as a paced run is refused, or the rows of the sensors were read and none is late.
use Rattle.std.proofs.Common.{ℕ, Bool, List, Option, Some, None}
use Rattle.pt_types.specs.declared.rows.Row.{Row}
use Rattle.pt_blocks.specs.declared.blocks.Named.{Named}
use Rattle.pt_offsets.specs.Plans.{Parts}
use Rattle.pt_io.specs.Calls.{Contents, SourceCall, SinkCall}
use Rattle.pt_run.specs.declared.fault.Fault.{Fault}
use Rattle.pt_run.specs.declared.fault.Fault.TheVariants as fault
use Rattle.pt_run.specs.Leaving.{RunWith}
use Rattle.pt_run.specs.Reporting.{paced_run}
use Rattle.pt_run.specs.Written.{Leaves}
use Rattle.pt_run.proofs.ByFault.{EndsAudit, EndsBy, EndsReplay}
use Rattle.pt_run.proofs.Stages.{not_true}
use Rattle.pt_words.specs.Grammar.{GraphFile}

-- the graph file defines an admitted graph, and its sensors' files have rows, none of which is late
abbrev pub HasRows : Contents → List Named → GraphFile → Type 0
HasRows contents blocks graph_file = RunWith contents blocks graph_file (λ plan rows. Unit {0})

pub data PastRows (left : Leaves) (graph_file : GraphFile) (contents : Contents) (blocks : List Named) (r : SourceCall) (w : SinkCall) (outcome : Option Fault) : Type 0 where
  past_rows : HasRows contents blocks graph_file → PastRows left graph_file contents blocks r w outcome
  as_run : EndsBy outcome left (Some (paced_run, graph_file)) contents blocks r w → PastRows left graph_file contents blocks r w outcome

module _ (left : Leaves) (graph_file : GraphFile) (contents : Contents) (blocks : List Named) (r : SourceCall) (w : SinkCall) where
  rows_of : (Fact : Parts → (ℕ → List Row) → Type 0) → RunWith contents blocks graph_file Fact → HasRows contents blocks graph_file
  rows_of Fact h = record { plan = h.plan; file = h.file; over = record { admitted = h.over.admitted; rows = h.over.rows; sensors = h.over.sensors; in_time = h.over.in_time; fact = tt } }

  module _ (log : List ℕ) where
    pub audit_past : (o : Option Fault) → EndsAudit o left graph_file log contents blocks r w → PastRows left graph_file contents blocks r w o
    audit_past None k = past_rows (rows_of _ k.1)
    audit_past (Some fault.Write) k = past_rows (rows_of _ k.1)
    audit_past (Some (fault.Unlawful v)) k = past_rows (rows_of _ k.1)
    audit_past (Some fault.ReadLog) k = past_rows (rows_of _ k.1)
    audit_past (Some fault.Memory) k = as_run k
    audit_past (Some (fault.Graph f)) k = as_run k.2
    audit_past (Some (fault.Cycle actors)) k = as_run k.2
    audit_past (Some (fault.Infeasible send offset slack)) k = as_run k.2
    audit_past (Some (fault.Read sensor)) k = as_run k.2
    audit_past (Some (fault.Sensor actor f)) k = as_run k.2
    audit_past (Some (fault.LateRow actor row seen limit)) k = as_run k.2
    audit_past (Some fault.Usage) k = absurd (not_true k.0)
    audit_past (Some (fault.Ring sends gain)) k = absurd (not_true k.0)
    audit_past (Some (fault.LateMessage platform actor tag reading limit)) k = absurd (not_true k.0)
    audit_past (Some (fault.LateAir platform actor tag reading limit row)) k = absurd (not_true k.0)
    audit_past (Some (fault.Long platform)) k = absurd (not_true k.0)
    audit_past (Some (fault.Air f)) k = absurd (not_true k.0)
    audit_past (Some fault.ReadAir) k = absurd (not_true k.0)

  module _ (air : List ℕ) (log : Bool) where
    pub replay_past : (o : Option Fault) → EndsReplay o left graph_file air log contents blocks r w → PastRows left graph_file contents blocks r w o
    replay_past None k = past_rows (rows_of _ k)
    replay_past (Some fault.Write) k = past_rows (rows_of _ k.1)
    replay_past (Some (fault.Long (Some platform))) k = past_rows (rows_of _ k)
    replay_past (Some (fault.LateAir platform actor tag reading limit row)) k = past_rows (rows_of _ k)
    replay_past (Some (fault.Air f)) k = past_rows (rows_of _ k.1)
    replay_past (Some fault.ReadAir) k = past_rows (rows_of _ k.1)
    replay_past (Some fault.Memory) k = as_run k
    replay_past (Some (fault.Graph f)) k = as_run k.2
    replay_past (Some (fault.Cycle actors)) k = as_run k.2
    replay_past (Some (fault.Infeasible send offset slack)) k = as_run k.2
    replay_past (Some (fault.Read sensor)) k = as_run k.2
    replay_past (Some (fault.Sensor actor f)) k = as_run k.2
    replay_past (Some (fault.LateRow actor row seen limit)) k = as_run k.2
    replay_past (Some fault.Usage) k = absurd (not_true k.0)
    replay_past (Some (fault.Ring sends gain)) k = absurd (not_true k.0)
    replay_past (Some (fault.LateMessage platform actor tag reading limit)) k = absurd (not_true k.0)
    replay_past (Some (fault.Long None)) k = absurd (not_true k.0)
    replay_past (Some fault.ReadLog) k = absurd (not_true k.0)
    replay_past (Some (fault.Unlawful v)) k = absurd (not_true k.0)
