use Rattle.std.proofs.Common.{◌≡◌, ◌<◌, ℕ, drop}
use Rattle.pt_semantics.specs.Meaning.{added}
use Rattle.pt_meaning.specs.Waiting.{rank_in}
use Rattle.pt_meaning.specs.Early.{early_waits, AreEarly}
use Rattle.pt_meaning.specs.Opening.{rows_of_actor}
use Rattle.pt_meaning.proofs.opening.enter_rows.Given as goal

abbrev pub invariant-loop-row : goal.invariant-loop-row
invariant-loop-row l = record {
  waits : added (early_waits l.events.items) (rows_of_actor l.until l.actor (drop l.row-index l.rows)) ≡ added (early_waits l.fn.events.items) (rows_of_actor l.until l.actor l.rows);
  sound : (actors : ℕ) → l.actor < actors → AreEarly (rank_in l.ranks) actors l.fn.events.items → AreEarly (rank_in l.ranks) actors l.events.items;
}
