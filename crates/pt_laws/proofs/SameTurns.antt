-- Turns to states that are the same.
use Rattle.std.proofs.Common.{◌≡◌, ℕ, Bool, subst}
use Rattle.pt_types.specs.declared.graph.Graph.{Graph}
use Rattle.pt_semantics.specs.Closing.{Sends}
use Rattle.pt_semantics.specs.Platform.{State}
use Rattle.pt_semantics.specs.Turn.{IsTurn, Turn}

-- the same turn, to a state that is the same
abbrev pub turn_to : (g : Graph) (level : ℕ → ℕ) (i : ℕ) (s new end : State) (turn : Turn) (late : Bool) → new ≡ end → IsTurn g level i s turn late new → IsTurn g level i s turn late end
turn_to g level i s new end turn late e is = record {
  rises = is.rises;
  span = is.span;
  posted = is.posted;
  posts = is.posts;
  rows = is.rows;
  got = is.got;
  takes = is.takes;
  ready = is.ready;
  claims = is.claims;
  idle_if_late = is.idle_if_late;
  greedy = is.greedy;
  at_most = is.at_most;
  done = is.done;
  closes = is.closes;
  sends = subst (λ (z : State). Sends is.done turn.sent z) e is.sends;
}
