-- Completeness: how a run ends if no read and no write fails.
use Rattle.std.specs.Prelude.{◌≡◌, ◌<◌, ◌≤◌, ◌⊎◌, ℕ, Bool, List, Option, None, Ok, Some, flat_map, length, slice_get}
use Rattle.pt_io.specs.Causes.{Rose}
use Rattle.pt_tags.specs.declared.tag.Tag.{Tag}
use Rattle.pt_types.specs.declared.graph.Graph.{Graph}
use Rattle.pt_types.specs.declared.rows.Row.{Row}
use Rattle.pt_blocks.specs.declared.blocks.Named.{Named}
use Rattle.pt_semantics.specs.Counts.{unit_firings}
use Rattle.pt_semantics.specs.Cycles.{NoFreeCycle}
use Rattle.pt_semantics.specs.Meaning.{ActorFiring}
use Rattle.pt_semantics.specs.Offsets.{IsFeasible}
use Rattle.pt_semantics.specs.Parts.{parts}
use Rattle.pt_paced_laws.specs.Schedule.{IsMissedByMeaning}
use Rattle.pt_sensor_files.specs.declared.recorded_fault.LateRows.TheVariants.{Refused}
use Rattle.pt_io.specs.Calls.{Contents, SourceCall, SinkCall}
use Rattle.pt_sensor_files.specs.Recorded.{AllPass, AreRows}
use Rattle.pt_run.specs.RunsAgreeing.{ReportsSensors}
use Rattle.pt_turn.specs.Platforms.{PlatformView, state_at}
use Rattle.pt_turn.specs.Running.{ShowsLate, ShowsLong}
use Rattle.pt_monitors.specs.Platforms.{missed_by}
use Rattle.pt_words.specs.declared.orders.ClockChoice.{ClockChoice}
use Rattle.pt_words.specs.declared.orders.ClockChoice.TheVariants.{Paced}
use Rattle.pt_run.specs.declared.fault.Fault.{Fault}
use Rattle.pt_run.specs.declared.fault.Fault.TheVariants.{LateMessage, Long, Memory}
use Rattle.pt_words.specs.declared.orders.Command.TheVariants.{Run}
use Rattle.pt_run.specs.Written.{Leaves, Means}
use Rattle.pt_words.specs.Grammar.{GraphFile, Order, over}
use Rattle.pt_run.specs.GraphFiles.{graph_by}

-- the files are known and a run can begin: the graph file defines this graph, which is admitted, and each sensor's file has
-- rows, none of which is late
pub record CanBegin (contents : Contents) (blocks : List Named) (graph_file : GraphFile) (g : Graph) : Type 0 where
  pub bytes : List ℕ
  pub reported : contents graph_file.name ≡ Some bytes
  pub graph : graph_by blocks graph_file bytes ≡ Ok g
  pub no_free_cycle : NoFreeCycle g
  pub feasible : IsFeasible g
  pub files : ReportsSensors contents g
  pub rows : ℕ → List Row
  pub sensors : AreRows contents g rows
  pub in_time : AllPass Refused g rows

-- and their program can run: these firings are the meaning
pub record CanRun (contents : Contents) (blocks : List Named) (graph_file : GraphFile) (g : Graph) (firings : List ActorFiring) : Type 0 where
  pub begins : CanBegin contents blocks graph_file g
  pub means : Means g begins.rows firings

-- on no platform does the meaning have more firings of units than the platform may claim
abbrev pub FitsClaims : Graph → List ActorFiring → Type 0
FitsClaims g firings = (i : ℕ) → i < length g.platforms → unit_firings g i (parts g firings) ≤ g.claims

-- an actuator fires with its paced reading past its tag's time plus its slack
abbrev pub MissesSome : Graph → List ActorFiring → Type 0
MissesSome g firings = (actor : ℕ) × (tag : Tag) × (reading : ℕ) × (limit : ℕ) × IsMissedByMeaning g firings actor tag reading limit

-- the status depends on the meaning alone: 0, or 5 if an actuator acts after its deadline, or 6 if a platform has too many
-- firings of units; or memory ran out (9)
abbrev pub StatusIsMeant : ℕ → Graph → List ActorFiring → Type 0
StatusIsMeant status g firings =
    ((status ≡ 0) × FitsClaims g firings × (MissesSome g firings → ⊥))
    ⊎ (((status ≡ 5) × FitsClaims g firings × MissesSome g firings)
    ⊎ (((status ≡ 6) × (FitsClaims g firings → ⊥))
    ⊎ (status ≡ 9)))

-- for a paced run of such a program, if neither the source's nor the sink's count of faults rose
abbrev pub IsComplete : ℕ → Option Order → Contents → List Named → SourceCall → SinkCall → Type 0
IsComplete status order contents blocks r w = (workers : ℕ) (log : Bool) (graph_file : GraphFile) (g : Graph) (firings : List ActorFiring) →
    order ≡ Some (over (Run workers Paced log) graph_file) → CanRun contents blocks graph_file g firings → (Rose r.before r.now → ⊥) → (Rose w.before w.now → ⊥) → StatusIsMeant status g firings

-- a fact holds of this platform of those that are left, which is one of this graph
abbrev pub OnPlatform : Leaves → Graph → ℕ → (PlatformView → Type 0) → Type 0
OnPlatform left g platform Fact = (v : PlatformView) × (slice_get left.platforms platform ≡ Some v) × (v.plan.graph ≡ g) × Fact v

-- a run finished, with the misses of its histories; or a platform met a late message, or needed more
-- claims than it may make, as its recorded turns show; or memory ran out
abbrev pub EndsAsShown : Option Fault → Leaves → Graph → Type 0
EndsAsShown None left g = left.misses ≡ flat_map missed_by left.platforms
EndsAsShown (Some (LateMessage platform actor tag reading limit)) left g = OnPlatform left g platform (λ v. ShowsLate g v.turns actor tag reading limit)
EndsAsShown (Some (Long (Some platform))) left g = OnPlatform left g platform (λ v. ShowsLong g (state_at v))
EndsAsShown (Some Memory) left g = Unit {0}
EndsAsShown (Some f) left g = ⊥

-- so ends a run that can begin, by whatever clock, if neither count rose
abbrev pub IsCompleteByAnyClock : Option Fault → Leaves → Option Order → Contents → List Named → SourceCall → SinkCall → Type 0
IsCompleteByAnyClock outcome left order contents blocks r w = (workers : ℕ) (clock : ClockChoice) (log : Bool) (graph_file : GraphFile) (g : Graph) →
    order ≡ Some (over (Run workers clock log) graph_file) → CanBegin contents blocks graph_file g → (Rose r.before r.now → ⊥) → (Rose w.before w.now → ⊥) → EndsAsShown outcome left g
