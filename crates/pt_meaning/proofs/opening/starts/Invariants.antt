use Rattle.std.proofs.Common.{◌≡◌, length}
use Rattle.pt_meaning.specs.Waiting.{rank_in}
use Rattle.pt_meaning.specs.Early.{early_waits, AreEarly}
use Rattle.pt_meaning.specs.Opening.{starts_below}
use Rattle.pt_meaning.proofs.Opens.{none_waits}
use Rattle.pt_meaning.proofs.opening.starts.Given as goal

abbrev pub invariant-loop-number : goal.invariant-loop-number
invariant-loop-number l = record {
  waits : early_waits l.fn.events.items ≡ none_waits → early_waits l.events.items ≡ starts_below l.graph l.number;
  sound : AreEarly (rank_in l.ranks) (length l.graph.actors) l.fn.events.items → AreEarly (rank_in l.ranks) (length l.graph.actors) l.events.items;
}
