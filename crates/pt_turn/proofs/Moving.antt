-- Turns of platforms do something.
use Rattle.std.proofs.Common.{◌≡◌, ℕ, ◌≤◌, [], List, None, Bool, true, false, sym, subst}
use Rattle.std.proofs.lemmas.Bool.{false≢true}
use Rattle.pt_types.specs.declared.graph.Graph.{Graph}
use Rattle.pt_types.specs.declared.graph.Unit.{Unit}
use Rattle.pt_types.specs.declared.rows.Row.{Row}
use Rattle.pt_semantics.proofs.LawfulEdges.{wired}
use Rattle.pt_semantics.specs.Candidates.{HasMoved}
use Rattle.pt_semantics.specs.History.{Legal}
use Rattle.pt_semantics.specs.Paced.{IsNextReading}
use Rattle.pt_semantics.specs.Platform.{State, opened}
use Rattle.pt_semantics.specs.Ranks.{AreLevels}
use Rattle.pt_semantics.specs.Rows.{FitRows}
use Rattle.pt_semantics.specs.Turn.{IsTurn, Turn}
use Rattle.pt_semantics.specs.Wired.{IsWired}
use Rattle.pt_laws.proofs.Progress.{turns_move}
use Rattle.pt_laws.proofs.Idle.{idle_before}
use Rattle.pt_offsets.specs.Timings.{offset_of}
use Rattle.pt_turn.specs.Laws.{PlatformsMove, PlatformsWait}
use Rattle.pt_turn.specs.Platforms.{level_at, rows_at, state_at}
use Rattle.pt_turn.specs.Turned.{is_late}

moves : (g : Graph) (level : ℕ → ℕ) (i : ℕ) (rows : ℕ → List Row) (turns : List Turn) (turn : Turn) (s new : State) (c : ℕ) (late : Bool) → late ≡ false → IsWired g → AreLevels g level → FitRows g rows → Legal g level i (opened g i rows) turns s → s.closed ≡ false → ((l : ℕ) → s.outbox l ≡ []) → IsNextReading g i s c → c ≤ turn.last →
    (is : IsTurn g level i s turn late new) → ((u : Unit) → is.posted.busy u ≡ None) → HasMoved g s turn is.ready new
moves g level i rows turns turn s new c true on wired levels fit legal is_open sent next late is handed = absurd (false≢true (sym on))
moves g level i rows turns turn s new c false on wired levels fit legal is_open sent next late is handed = turns_move g level i rows turns turn s new c wired levels fit legal is_open sent next late is handed

pub platforms_move : PlatformsMove
platforms_move old new reading most next dones messages running made on is_open sent handed is_next late =
    moves old.plan.graph (level_at old) old.number (rows_at old) old.turns made.turn (state_at old) (state_at new) next (is_late new.fault) on (wired old.plan.graph running.admitted.lawful) running.admitted.levels running.rows running.legal.leads is_open sent is_next
    (subst (λ r. next ≤ r) (sym made.at.1) late) made.is handed

pub platforms_wait : PlatformsWait
platforms_wait v next closing reading running closes is_next before = idle_before v.plan.graph v.number (state_at v) (offset_of v.plan.offsets) next closing reading running.admitted.offsets.units closes is_next before
