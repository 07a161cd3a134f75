-- Platforms after a run by clocks of their own.
use Rattle.std.specs.Prelude.{◌≡◌, ℕ, List, Option, None, Some, length, slice_get}
use Rattle.pt_io.specs.Clocks.{AreAsAhead, ClockView, HandedOut}
use Rattle.pt_types.specs.declared.rows.Row.{Row}
use Rattle.pt_semantics.specs.History.{IsLegal}
use Rattle.pt_semantics.specs.Linked.{AreLinked, AreMatched}
use Rattle.pt_semantics.specs.Readings.{IsReadBy}
use Rattle.pt_semantics.specs.Rows.{FitRows}
use Rattle.pt_causality.specs.Ranked.{level_of}
use Rattle.pt_offsets.specs.Plans.{IsAdmitted, Parts}
use Rattle.pt_turn.specs.declared.fault.TurnFault.{TurnFault}
use Rattle.pt_turn.specs.Platforms.{PlatformView, state_at}
use Rattle.pt_turn.specs.All.{AreAll, histories_of}
use Rattle.pt_engine.specs.Asked.{EndsAt}

-- all platforms of a plan after a run over these rows, each by its own clock, whatever the order of the visits. The clocks were
-- `began` before the run and are `now` after it
pub record IsOutcome (plan : Parts) (rows : ℕ → List Row) (began now : List ClockView) (platforms : List PlatformView) (fault : Option (ℕ × TurnFault)) : Type 0 where
  pub admitted : IsAdmitted plan
  pub fit : FitRows plan.graph rows
  pub all : AreAll plan rows platforms
  -- a clock for each platform
  pub count : length now ≡ length platforms
  -- the readings of each clock, in order: those that it handed out, as far as it says so
  pub readings : ℕ → List ℕ
  pub handed : (i : ℕ) (b n : ClockView) → slice_get began i ≡ Some b → slice_get now i ≡ Some n → HandedOut b.readings n.readings (readings i) × AreAsAhead b.ahead b.readings n.readings (readings i)
  pub read : (i : ℕ) (v : PlatformView) → slice_get platforms i ≡ Some v → IsReadBy v.turns (readings i)
  pub legal : (i : ℕ) (v : PlatformView) → slice_get platforms i ≡ Some v → IsLegal plan.graph (level_of plan.ranks) i rows v.turns (state_at v)
  pub matched : AreMatched plan.graph (histories_of platforms)
  pub linked : fault ≡ None → AreLinked plan.graph (histories_of platforms)
  pub ends : EndsAt plan.graph platforms fault
