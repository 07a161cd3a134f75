-- Clocks, platforms, pipes and pending results, before each visit and after it.
use Rattle.std.specs.Prelude.{◌≡◌, ◌≢◌, ◌<◌, ◌≤◌, ◌^◌, [], ℕ, List, Option, None, Some, false, length, slice_get}
use Rattle.pt_tags.specs.declared.message.Message.{Message}
use Rattle.pt_io.specs.Clocks.{AreAsAhead, ClockView, HandedOut}
use Rattle.pt_types.specs.declared.firing.Done.{Done}
use Rattle.pt_types.specs.declared.rows.Row.{Row}
use Rattle.pt_semantics.specs.Readings.{IsReadBy, greatest_of, later_of}
use Rattle.pt_semantics.specs.Rows.{FitRows}
use Rattle.pt_semantics.specs.Visits.{IsVisit, VisitRecord, RunState}
use Rattle.pt_causality.specs.Ranked.{level_of}
use Rattle.pt_offsets.specs.Plans.{IsAdmitted, Parts}
use Rattle.pt_turn.specs.Platforms.{PlatformView}
use Rattle.pt_turn.specs.Turned.{is_late}
use Rattle.pt_fixed_order_laws.specs.SoFar.{IsAllTaken, RunSoFar, with_reading}
use Rattle.pt_fixed_order_laws.specs.Sound.{Sound}
use Rattle.pt_engine.specs.Shown.{AreShown, AreThere, is_fault}

-- a platform's last reading is the greatest of these readings; it has none if there are none
abbrev pub IsLastOf : List ℕ → Option ℕ → Type 0
IsLastOf readings None = readings ≡ []
IsLastOf readings (Some p) = (p ≡ greatest_of 0 readings) × (p < 2 ^ 64)

-- these are the readings that the clocks handed out and the platforms were visited at
pub record WereReadBetween (began now : List ClockView) (platforms : List PlatformView) (readings : ℕ → List ℕ) : Type 0 where
  pub count : length now ≡ length platforms
  pub ahead : (i : ℕ) (b n : ClockView) → slice_get began i ≡ Some b → slice_get now i ≡ Some n → n.ahead ≡ b.ahead
  pub handed : (i : ℕ) (b n : ClockView) → slice_get began i ≡ Some b → slice_get now i ≡ Some n → HandedOut b.readings n.readings (readings i) × AreAsAhead b.ahead b.readings n.readings (readings i)
  pub read : (i : ℕ) (v : PlatformView) → slice_get platforms i ≡ Some v → IsReadBy v.turns (readings i)
  pub last : (i : ℕ) (v : PlatformView) → slice_get platforms i ≡ Some v → IsLastOf (readings i) v.reading
  pub none_past : (i : ℕ) → length platforms ≤ i → readings i ≡ []

-- all is as before the visit of platform j, in a run that is not over
pub record BeforeVisit (plan : Parts) (rows : ℕ → List Row) (most j : ℕ) (began now : List ClockView) (platforms : List PlatformView) (pipes : List (List Message)) (results : List (List Done)) : Type 0 where
  pub admitted : IsAdmitted plan
  pub fit : FitRows plan.graph rows
  pub together : RunState
  pub readings : ℕ → List ℕ
  pub next : j < length plan.graph.platforms
  pub goes : RunSoFar plan.graph (level_of plan.ranks) rows most readings j together
  pub free : IsAllTaken plan.graph j together
  pub sound : Sound plan.graph (level_of plan.ranks) rows together
  pub shown : AreShown plan rows together platforms pipes results
  pub clocks : WereReadBetween began now platforms readings
  pub no_fault : (i : ℕ) (v : PlatformView) → slice_get platforms i ≡ Some v → v.fault ≡ None

-- all is as after the visit of platform j. If a message was late, nothing is said of pipes and results
pub record AfterVisit (plan : Parts) (rows : ℕ → List Row) (most j : ℕ) (began now : List ClockView) (platforms : List PlatformView) (pipes : List (List Message)) (results : List (List Done)) : Type 0 where
  pub admitted : IsAdmitted plan
  pub fit : FitRows plan.graph rows
  pub before : RunState
  pub readings : ℕ → List ℕ
  pub next : j < length plan.graph.platforms
  pub goes : RunSoFar plan.graph (level_of plan.ranks) rows most readings j before
  pub free : IsAllTaken plan.graph j before
  pub sound : Sound plan.graph (level_of plan.ranks) rows before
  pub reading : ℕ
  pub made : VisitRecord
  pub together : RunState
  pub platform : made.platform ≡ j
  pub visit : IsVisit plan.graph (level_of plan.ranks) most (λ l. 64) (later_of (greatest_of 0 (readings j)) reading) before made together
  pub there : AreThere plan rows together platforms
  pub shown : made.late ≡ false → AreShown plan rows together platforms pipes results
  pub none_past : (i : ℕ) → length plan.graph.platforms ≤ i → readings i ≡ []
  pub clocks : WereReadBetween began now platforms (with_reading readings j reading)
  pub fault : (v : PlatformView) → slice_get platforms j ≡ Some v → (made.fault ≡ is_fault v.fault) × (made.late ≡ is_late v.fault)
  pub others : (i : ℕ) (v : PlatformView) → i ≢ j → slice_get platforms i ≡ Some v → v.fault ≡ None
