-- A turn of a platform.
use Rattle.std.specs.Prelude.{◌≡◌, ◌&&◌, ◌∷◌, ◌≤◌, ◌+◌, ◌⊎◌, [], ℕ, Bool, List, Some, false, length, true}
use Rattle.pt_types.specs.declared.firing.Done.{Done}
use Rattle.pt_types.specs.declared.graph.Graph.{Graph}
use Rattle.pt_types.specs.declared.firing.OnLink.{OnLink}
use Rattle.pt_types.specs.declared.rows.RowAt.{RowAt}
use Rattle.pt_types.specs.declared.firing.Task.{Task}
use Rattle.pt_semantics.specs.Claiming.{Claims}
use Rattle.pt_semantics.specs.Closing.{Closes, Sends}
use Rattle.pt_semantics.specs.Safe.{NothingSafe}
use Rattle.pt_semantics.specs.Posting.{Posts}
use Rattle.pt_semantics.specs.Platform.{State, raised}
use Rattle.pt_semantics.specs.Taking.{Takes}
use Rattle.pt_semantics.specs.Entering.{after_rows, all_due}

-- a turn as a history records it: its first and last reading, how many turns were joined to it, and what was posted,
-- entered, taken, claimed and sent
pub record Turn : Type 0 where
  pub first : ℕ
  pub last : ℕ
  pub count : ℕ
  pub posted : List Done
  pub rows : List RowAt
  pub taken : List OnLink
  pub claimed : List Task
  pub sent : List OnLink

-- a recorded turn of platform i leads from state s to state new, at its last reading; `late` if a message was late
pub record IsTurn (g : Graph) (level : ℕ → ℕ) (i : ℕ) (s : State) (turn : Turn) (late : Bool) (new : State) : Type 0 where
  -- readings never fall
  pub rises : (p : ℕ) → s.reading ≡ Some p → p ≤ turn.first
  pub span : turn.first ≤ turn.last
  -- post
  pub posted : State
  pub posts : Posts g s turn.posted posted
  -- enter
  pub rows : turn.rows ≡ all_due g turn.last s.left
  -- take
  pub got : State
  pub takes : Takes g level i (after_rows posted turn.last) turn.taken late got
  -- claim the first safe units; no unit is claimed only if a message was late, no unit is safe, or all claims were made
  pub ready : State
  pub claims : Claims g turn.last (raised got turn.last) turn.claimed ready
  pub idle_if_late : late ≡ true → turn.claimed ≡ []
  pub greedy : turn.claimed ≡ [] → (late ≡ true) ⊎ (NothingSafe g ready.waits ready.busy turn.last ⊎ (g.claims ≤ s.claims))
  pub at_most : (length turn.claimed ≤ 64) × (ready.claims ≤ g.claims)
  -- close, and send
  pub done : State
  pub closes : Closes g i ready turn.last late done
  pub sends : Sends done turn.sent new

-- no turn follows this one: a message was late, or all claims were made before it and a unit is still safe
abbrev pub IsLast : Graph → State → ℕ → Bool → State → Type 0
IsLast g s r late ready = (late ≡ true) ⊎ ((g.claims ≤ s.claims) × (NothingSafe g ready.waits ready.busy r → ⊥))

-- the list is empty
abbrev pub is_empty : {X : Type 0} → List X → Bool
is_empty [] = true
is_empty (x ∷ xs) = false

-- a turn in which nothing was posted, entered, taken, claimed or sent
abbrev pub is_quiet : Turn → Bool
is_quiet turn = is_empty turn.posted && is_empty turn.rows && is_empty turn.taken && is_empty turn.claimed && is_empty turn.sent

-- two quiet turns in a row, joined to one quiet turn at the later reading
abbrev pub joined : Turn → Turn → Turn
joined x y = record y { first = x.first; count = x.count + y.count }
