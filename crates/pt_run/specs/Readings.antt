-- The clocks of a run, and the readings that its platforms went by.
use Rattle.std.specs.Prelude.{◌≡◌, ◌<◌, ◌≤◌, ◌^◌, [], ℕ, List, length, Option, Some, slice_get}
use Rattle.pt_io.specs.Clocks.{AreAsAhead, ClockView, HandedOut, first_readings, step_reading}
use Rattle.pt_types.specs.declared.rows.Row.{Row}
use Rattle.pt_semantics.specs.FixedOrder.{AreInTurn}
use Rattle.pt_semantics.specs.History.{LegalOnTime}
use Rattle.pt_semantics.specs.Lists.{Each}
use Rattle.pt_semantics.specs.Platform.{opened}
use Rattle.pt_semantics.specs.Readings.{IsReadBy}
use Rattle.pt_paced_laws.specs.Schedule.{IsOnSchedule}
use Rattle.pt_causality.specs.Ranked.{level_of}
use Rattle.pt_offsets.specs.Plans.{Parts}
use Rattle.pt_turn.specs.declared.fault.TurnFault.{TurnFault}
use Rattle.pt_turn.specs.Platforms.{PlatformView, state_at}
use Rattle.pt_turn.specs.All.{histories_of}
use Rattle.pt_fixed_order.specs.Outcome.{LastVisitEnds}
use Rattle.pt_rounds.specs.Outcome.{IsAfter}
use Rattle.pt_words.specs.declared.orders.ClockChoice.{ClockChoice}
use Rattle.pt_words.specs.declared.orders.ClockChoice.TheVariants.{Machine, Paced, Step}

-- the clock of a run, the number of its workers, and what the clocks handed in showed before the run and after it
pub record RunClocks : Type 0 where
  pub choice : ClockChoice
  pub workers : ℕ
  pub before : List ClockView
  pub now : List ClockView

-- the clocks handed in, if the run is by the machine's clock, which reads the first of them, one for each platform; else none
abbrev pub read_by : ClockChoice → List ClockView → List ClockView
read_by Machine views = views
read_by _ views = []

-- a clock of steps that handed out nothing
abbrev pub step_clock : ℕ → ℕ → ClockView
step_clock start step = record { readings = Some []; ahead = Some (step_reading start step) }

-- a fact holds of each of these platforms and its number
abbrev pub EachOf : List PlatformView → (ℕ → PlatformView → Type 0) → Type 0
EachOf platforms Fact = (i : ℕ) (v : PlatformView) → slice_get platforms i ≡ Some v → Fact i v

-- the paced clock: the recorded turns are those of the paced rounds, each claim is made at exactly the paced reading of its
-- unit and tag, and no message is late
pub record ReadPaced (plan : Parts) (rows : ℕ → List Row) (platforms : List PlatformView) : Type 0 where
  pub rounds : IsAfter plan rows (level_of plan.ranks) platforms
  pub on_schedule : EachOf platforms (λ i v. Each (IsOnSchedule plan.graph) v.turns)
  pub none_late : EachOf platforms (λ i v. LegalOnTime plan.graph (level_of plan.ranks) i (opened plan.graph i rows) v.turns (state_at v))

-- the platforms are visited in turn, again and again, each at the next of its readings, and at each visit a platform claims 8
-- units at most. The platform that stopped the run is the one visited last
pub record AreVisitedInTurn (plan : Parts) (rows : ℕ → List Row) (platforms : List PlatformView) (fault : Option (ℕ × TurnFault)) (readings : ℕ → List ℕ) : Type 0 where
  pub visits : AreInTurn plan.graph (level_of plan.ranks) rows readings 8 (histories_of platforms)
  pub last : LastVisitEnds visits.made fault

-- a clock of steps: each history is read by START, START + STEP and so on (up to 2 ^ 64 - 1), as long as these are fewer than
-- 2 ^ 64 readings
pub record ReadBySteps (start step : ℕ) (plan : Parts) (rows : ℕ → List Row) (platforms : List PlatformView) (fault : Option (ℕ × TurnFault)) : Type 0 where
  pub readings : ℕ → List ℕ
  pub steps : EachOf platforms (λ i v. length (readings i) < 2 ^ 64 → readings i ≡ first_readings (step_reading start step) (length (readings i)))
  pub read : EachOf platforms (λ i v. IsReadBy v.turns (readings i))
  pub in_turn : AreVisitedInTurn plan rows platforms fault readings

-- a clock handed out these readings, as far as it shows what it handed out, and they are those fixed ahead, if any are
abbrev pub HandsOut : Option ClockView → Option ClockView → List ℕ → Type 0
HandsOut (Some before) (Some now) readings = HandedOut before.readings now.readings readings × AreAsAhead before.ahead before.readings now.readings readings
HandsOut _ _ readings = ⊥

-- clocks handed in: each history is read by what the clock of its platform handed out, if there is one worker, the platforms are
-- visited in turn, and the clocks left over are as before
pub record ReadByClocks (workers : ℕ) (before now : List ClockView) (plan : Parts) (rows : ℕ → List Row) (platforms : List PlatformView) (fault : Option (ℕ × TurnFault)) : Type 0 where
  pub readings : ℕ → List ℕ
  pub handed : EachOf platforms (λ i v. HandsOut (slice_get before i) (slice_get now i) (readings i))
  pub read : EachOf platforms (λ i v. IsReadBy v.turns (readings i))
  pub in_turn : workers ≡ 1 → AreVisitedInTurn plan rows platforms fault readings
  pub others : (i : ℕ) → length platforms ≤ i → slice_get now i ≡ slice_get before i

-- the readings that the platforms of a run went by until it ended or this platform stopped it, for each choice of a clock
abbrev pub ReadAs : ClockChoice → RunClocks → Parts → (ℕ → List Row) → List PlatformView → Option (ℕ × TurnFault) → Type 0
ReadAs Paced c plan rows platforms fault = ReadPaced plan rows platforms
ReadAs (Step start step) c plan rows platforms fault = ReadBySteps start step plan rows platforms fault
ReadAs Machine c plan rows platforms fault = ReadByClocks c.workers c.before c.now plan rows platforms fault

-- and for the clock that was chosen
abbrev pub ReadBy : RunClocks → Parts → (ℕ → List Row) → List PlatformView → Option (ℕ × TurnFault) → Type 0
ReadBy c plan rows platforms fault = ReadAs c.choice c plan rows platforms fault
