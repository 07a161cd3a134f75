-- A turn that a platform made from hints.
use Rattle.std.specs.Prelude.{◌≡◌, ◌≤◌, Bool, None}
use Rattle.pt_semantics.specs.Kept.{kept_with}
use Rattle.pt_semantics.specs.Platform.{State}
use Rattle.pt_semantics.specs.Turn.{IsLast, IsTurn, Turn}
use Rattle.pt_turn.specs.Platforms.{PlatformView, level_at, state_at}
use Rattle.pt_turn.specs.Turned.{FaultsIfLast, StaysThere, is_late}
use Rattle.pt_audit.specs.declared.parse.hints.Hints.{Hints}
use Rattle.pt_audit.specs.Remaking.Following.{CanFollow}
use Rattle.pt_audit.specs.Parsing.Hints.{AreHints}

-- the turn as one turn at its last reading
abbrev pub at_last : Turn → Turn
at_last turn = record turn { first = turn.last; count = 1 }

-- a turn with these hints leads from the platform's old state to its new one, and the platform records it as one turn at its
-- last reading. This does not say that a turn with a count above 1 is quiet
pub record HasRemade (hints : Hints) (old new : PlatformView) : Type 0 where
  pub no_fault : old.fault ≡ None
  pub turn : Turn
  pub hints_are : AreHints old.number turn hints
  pub counts : (1 ≤ turn.count) × (turn.count ≡ 1 → turn.first ≡ turn.last)
  pub is : IsTurn old.plan.graph (level_at old) old.number (state_at old) turn (is_late new.fault) (state_at new)
  pub last : FaultsIfLast new.fault (IsLast old.plan.graph (state_at old) turn.last (is_late new.fault) is.ready)
  pub kept : new.turns ≡ kept_with old.turns (at_last turn)
  pub stays : StaysThere old new

-- each turn with these hints that leads from the old state is the one that the platform recorded, and leads to the new state
abbrev pub IsOnly : Hints → PlatformView → PlatformView → Type 0
IsOnly hints old new = (turn : Turn) (late : Bool) (s : State) → AreHints old.number turn hints → IsTurn old.plan.graph (level_at old) old.number (state_at old) turn late s →
    (new.turns ≡ kept_with old.turns (at_last turn)) × (late ≡ is_late new.fault) × (s ≡ state_at new)

-- no turn with these hints may follow
abbrev pub NoneFollows : Hints → PlatformView → Type 0
NoneFollows hints old = (turn : Turn) → AreHints old.number turn hints → CanFollow old turn → ⊥
