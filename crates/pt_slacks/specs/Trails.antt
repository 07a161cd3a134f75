-- Trails of hops whose senders raised one another, from one that rose in a round to one that rose in the last round.
use Rattle.std.specs.Prelude.{◌≡◌, ◌+◌, ◌∷◌, [], ℕ, List, Option, length, reverse, slice_index, ⊤}
use Rattle.pt_tags.specs.declared.tag.Delay.{Delay}
use Rattle.pt_types.specs.declared.graph.Unit.{Unit}
use Rattle.pt_causality.specs.Ranking.{Apart}
use Rattle.pt_semantics.specs.Lists.{IsIn}
use Rattle.pt_slacks.specs.declared.hop.Hop.{Hop}
use Rattle.pt_slacks.specs.Hops.{hop_at}
use Rattle.pt_slacks.specs.Needs.{by_hop}
use Rattle.pt_slacks.specs.Rows.{HasRisen, slack_row_at}

-- hop v gave the first of these the slack that it has after round k + 1
abbrev pub Raises : List Hop → (Unit → Unit → Option Delay) → List (List ℕ) → ℕ → ℕ → List ℕ → Type 0
Raises hops least rows k v [] = ⊤
Raises hops least rows k v (u ∷ us) = slice_index (slack_row_at rows ((k + 1) + 1)) u ≡ by_hop hops least (slice_index (slack_row_at rows (k + 1))) (hop_at hops u).from v

-- the first of these rose in round k, and each raised the next, which rose in the round after
abbrev pub Trails : List Hop → (Unit → Unit → Option Delay) → List (List ℕ) → ℕ → List ℕ → Type 0
Trails hops least rows k [] = ⊤
Trails hops least rows k (v ∷ vs) = HasRisen (length hops) (slack_row_at rows k) (slack_row_at rows (k + 1)) v × Raises hops least rows k v vs × Trails hops least rows (k + 1) vs

-- a trail of different hops up to the last round
pub record IsTrail (hops : List Hop) (least : Unit → Unit → Option Delay) (rows : List (List ℕ)) (k : ℕ) (trail : List ℕ) : Type 0 where
  pub on : Trails hops least rows k trail
  pub apart : Apart trail
  pub whole : k + length trail ≡ length hops + 1

-- after this many steps back the walk is at this hop, whose trail is the list from its end
pub record IsWalkBack (hops : List Hop) (least : Unit → Unit → Option Delay) (rows : List (List ℕ)) (step : ℕ) (trail : List ℕ) (at : ℕ) : Type 0 where
  pub risen : ℕ
  pub place : risen + step ≡ length hops
  pub others : List ℕ
  pub are : reverse trail ≡ at ∷ others
  pub is_trail : IsTrail hops least rows risen (at ∷ others)

-- the sender of a hop of the trail has raised the one at the trail's end in this round
pub record IsRaisedByTrail (hops : List Hop) (least : Unit → Unit → Option Delay) (rows : List (List ℕ)) (trail : List ℕ) (round from : ℕ) : Type 0 where
  pub risen : ℕ
  pub place : round ≡ risen + 1
  pub rose : HasRisen (length hops) (slack_row_at rows risen) (slack_row_at rows (risen + 1)) from
  pub raises : Raises hops least rows risen from (reverse trail)
  pub is_trail : IsTrail hops least rows (risen + 1) (reverse trail)
  pub there : IsIn from (reverse trail)
