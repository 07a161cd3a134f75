-- A log that is being verified, block by block.
use Rattle.std.specs.Prelude.{◌≡◌, ◌==◌, ◌-◌, ◌^◌, ◌≤◌, ◌++◌, ◌∷◌, [], if◌then◌else◌, ℕ, Bool, List, None, Option, Some, nat_lt, slice_get, true}
use Rattle.pt_tags.specs.declared.message.Message.{Message}
use Rattle.pt_types.specs.declared.graph.Graph.{Graph}
use Rattle.pt_types.specs.declared.rows.Row.{Row}
use Rattle.pt_semantics.specs.History.{AreJoined, IsCounted, Legal}
use Rattle.pt_semantics.specs.Linked.{all_sent, all_taken}
use Rattle.pt_semantics.specs.Lists.{Each}
use Rattle.pt_semantics.specs.Platform.{State, opened}
use Rattle.pt_semantics.specs.Turn.{Turn, is_quiet}
use Rattle.pt_causality.specs.Ranked.{level_of}
use Rattle.pt_offsets.specs.Plans.{IsAdmitted, Parts}
use Rattle.pt_turn.specs.All.{AreAll}
use Rattle.pt_turn.specs.Platforms.{PlatformView, state_at}
use Rattle.pt_turn.specs.Running.{GoesOn}
use Rattle.pt_audit.specs.Parsing.Lines.{Block}
use Rattle.pt_audit.specs.Remaking.Lasts.{AreLast}
use Rattle.pt_audit.specs.Logged.{AreLogged, InPlatformOrder, LoggedTurn, turns_of}
use Rattle.pt_audit.specs.declared.order.Order.{Order}

-- the count of a turn, if it is quiet
abbrev pub quiet_count : Turn → Option ℕ
quiet_count turn = if is_quiet turn then Some turn.count else None

-- before the first turn of a platform
abbrev pub fresh_order : ℕ → Order
fresh_order i = record { platform = i; before = None; last = None }

-- one more turn, with its count if it is quiet
abbrev pub with_turn : Option ℕ → Order → Order
with_turn quiet order = record { platform = order.platform; before = order.last; last = quiet }

-- more turns
abbrev pub with_turns : List Turn → Order → Order
with_turns [] order = order
with_turns (turn ∷ turns) order = with_turns turns (with_turn (quiet_count turn) order)

-- whether a third turn may stand after two with these counts, if they are quiet
abbrev pub is_joined : Option ℕ → Option ℕ → Bool
is_joined None last = true
is_joined (Some count) None = true
is_joined (Some count) (Some last) = count == 2 ^ 64 - 1

-- the order when a turn of platform i follows; None if none may
abbrev pub entered : ℕ → Order → Option Order
entered i order =
    if nat_lt i order.platform then None
    else (if nat_lt order.platform i then Some (fresh_order i) else (if is_joined order.before order.last then Some order else None))

-- a platform has made these logged turns. If it has a fault, none may follow
pub record HasMadeLogged (g : Graph) (level : ℕ → ℕ) (i : ℕ) (rows : ℕ → List Row) (v : PlatformView) (turns : List Turn) : Type 0 where
  pub goes_on : v.fault ≡ None → GoesOn g level i (opened g i rows) turns (state_at v)
  pub leads : Legal g level i (opened g i rows) turns (state_at v)
  pub over : (v.fault ≡ None → ⊥) → (turn : Turn) (new : State) → Legal g level i (opened g i rows) (turns ++ turn ∷ []) new → ⊥
  pub counted : Each IsCounted turns
  pub joined : AreJoined turns
  pub sent : (l : ℕ) → all_sent l v.turns ≡ all_sent l turns
  pub taken : (l : ℕ) → all_taken l v.turns ≡ all_taken l turns

-- these blocks are verified: they are the text of turns which the platforms have made
pub record AreVerified (plan : Parts) (rows : ℕ → List Row) (blocks : List Block) (order : Order) (last : List (Option Message)) (platforms : List PlatformView) : Type 0 where
  pub admitted : IsAdmitted plan
  pub all : AreAll plan rows platforms
  pub logged : List LoggedTurn
  pub are_logged : AreLogged plan.graph blocks logged
  pub in_order : InPlatformOrder logged
  -- `order` is that after the last turn
  pub up_to : Each (λ (t : LoggedTurn). t.platform ≤ order.platform) logged
  pub reached : (i : ℕ) → Each (λ (t : LoggedTurn). t.platform ≤ i) logged → order.platform ≤ i
  pub two : order ≡ with_turns (turns_of order.platform logged) (fresh_order order.platform)
  -- `last` has, by link, the last message taken
  pub lasts : (i : ℕ) (v : PlatformView) → slice_get platforms i ≡ Some v → AreLast plan.graph i (state_at v).taken last
  pub made : (i : ℕ) (v : PlatformView) → slice_get platforms i ≡ Some v → HasMadeLogged plan.graph (level_of plan.ranks) i rows v (turns_of i logged)
