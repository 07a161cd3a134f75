-- A turn that a platform made from its text in a log.
use Rattle.std.specs.Prelude.{◌≡◌, ℕ, List}
use Rattle.pt_semantics.specs.History.{IsCounted}
use Rattle.pt_semantics.specs.Turn.{Turn}
use Rattle.pt_tables.specs.Log.{turn_lines}
use Rattle.pt_turn.specs.Platforms.{PlatformView}
use Rattle.pt_audit.specs.Parsing.Hints.{AreHints}
use Rattle.pt_audit.specs.declared.parse.hints.Hints.{Hints}
use Rattle.pt_audit.specs.Remaking.Following.{CanFollow}
use Rattle.pt_audit.specs.Remaking.Remade.{HasRemade}

-- the platform made the turn of this text
pub record HasMadeFromText (text : List ℕ) (hints : Hints) (old new : PlatformView) : Type 0 where
  pub made : HasRemade hints old new
  pub text_of : text ≡ turn_lines old.plan.graph old.number made.turn
  pub counted : IsCounted made.turn

-- no turn of this text, with these hints, may follow
abbrev pub NoneFromText : List ℕ → Hints → PlatformView → Type 0
NoneFromText text hints old = (turn : Turn) → AreHints old.number turn hints → text ≡ turn_lines old.plan.graph old.number turn → CanFollow old turn → ⊥
