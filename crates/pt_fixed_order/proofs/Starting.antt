-- Before the first visit.
use Rattle.std.proofs.Common.{◌≡◌, ◌∙◌, ◌<◌, ℕ, List, [], Option, Some, None, length, refl, sym, ap, subst}
use Rattle.pt_tags.specs.declared.message.Message.{Message}
use Rattle.pt_io.specs.Clocks.{AreAsAhead, ClockView, HandedOut}
use Rattle.pt_io.proofs.Stepping.{none_handed}
use Rattle.pt_types.specs.declared.firing.Done.{Done}
use Rattle.pt_types.specs.declared.rows.Row.{Row}
use Rattle.pt_semantics.specs.Platform.{State}
use Rattle.pt_semantics.specs.Readings.{IsReadBy}
use Rattle.pt_semantics.specs.Visits.{run_at_start}
use Rattle.pt_semantics.proofs.Lookups.{same_some}
use Rattle.pt_causality.specs.Ranked.{level_of}
use Rattle.pt_offsets.specs.Plans.{Parts}
use Rattle.pt_turn.specs.Platforms.{PlatformView}
use Rattle.pt_fixed_order_laws.proofs.Sound.{sound_at_start}
use Rattle.pt_engine.specs.Shown.{AreShown}
use Rattle.pt_engine.proofs.First.{AreOpened, shown_first}
use Rattle.pt_fixed_order.specs.Between.{IsLastOf, BeforeVisit}

none_ahead : (ahead : Option (ℕ → ℕ)) (reported : Option (List ℕ)) → AreAsAhead ahead reported reported []
none_ahead None readings = tt
none_ahead (Some f) None = λ e. tt
none_ahead (Some f) (Some all) = λ e. refl

module _ (plan : Parts) (rows : ℕ → List Row) (most : ℕ) (clocks : List ClockView) (platforms : List PlatformView) (pipes : List (List Message)) (results : List (List Done)) (new : AreOpened plan rows platforms pipes results) (count : length clocks ≡ length platforms) where
  shown_here : AreShown plan rows (run_at_start plan.graph rows) platforms pipes results
  shown_here = shown_first plan rows platforms pipes results new

  pub before_first : BeforeVisit plan rows most 0 clocks clocks platforms pipes results
  before_first = record {
    admitted = new.admitted;
    fit = new.ready.fit;
    together = run_at_start plan.graph rows;
    readings = λ i. [];
    next = subst (λ n. 0 < n) new.ready.all.count new.some;
    goes = record { made = []; visits = (refl, refl, λ k. refl) };
    free = λ l link at w. refl;
    sound = sound_at_start plan.graph (level_of plan.ranks) rows;
    shown = shown_here;
    clocks = record {
      count = count;
      ahead = λ i b n at_b at_n. ap (λ (z : ClockView). z.ahead) (same_some n b (sym at_n ∙ at_b));
      handed = λ i b n at_b at_n. subst (λ (z : ClockView). HandedOut b.readings z.readings [] × AreAsAhead b.ahead b.readings z.readings []) (same_some b n (sym at_b ∙ at_n)) (none_handed b.readings, none_ahead b.ahead b.readings);
      read = λ i v at. subst (λ ts. IsReadBy ts []) (sym (new.ready.fresh.turns i v at)) refl;
      last = λ i v at. subst (IsLastOf []) (ap (λ (z : State). z.reading) (shown_here.states i v at)) refl;
      none_past = λ i le. refl;
    };
    no_fault = new.ready.fresh.faults;
  }
