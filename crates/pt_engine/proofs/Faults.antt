-- A run ends at the first platform with a fault.
use Rattle.std.proofs.Common.{◌≡◌, ◌∙◌, ℕ, ◌<◌, List, Some, slice_get, sym, ap, subst}
use Rattle.pt_types.specs.declared.rows.Row.{Row}
use Rattle.pt_offsets.specs.Plans.{Parts}
use Rattle.pt_turn.specs.declared.fault.TurnFault.{TurnFault}
use Rattle.pt_turn.specs.All.{AreAll}
use Rattle.pt_turn.specs.Platforms.{PlatformView, state_at}
use Rattle.pt_turn.specs.Running.{Shows}
use Rattle.pt_engine.specs.Asked.{EndsAt, IsFirstFault}

pub ends_at_first : (plan : Parts) (rows : ℕ → List Row) (platforms : List PlatformView) → AreAll plan rows platforms → (fault : ℕ × TurnFault) → IsFirstFault platforms fault → EndsAt plan.graph platforms (Some fault)
ends_at_first plan rows platforms all fault first =
    let place_is : first.place ≡ fault.0 = sym (all.numbers first.place first.view first.at) ∙ sym first.number in (
      first.view,
      ap (slice_get platforms) (sym place_is) ∙ first.at,
      first.is,
      subst (λ (p : Parts). Shows p.graph first.view.turns (state_at first.view) fault.1) (all.plans first.place first.view first.at) first.shows,
      (λ j w lt at. first.before j w (subst (λ n. j < n) (sym place_is) lt) at),
    )
