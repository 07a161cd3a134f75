use Rattle.std.proofs.Common.{◌≡◌, ◌++◌, drop}
use Rattle.pt_tables.proofs.Gathering.{no_texts}
use Rattle.pt_tables.proofs.actor_tables.ActorTables.new.Given as goal

abbrev pub invariant-loop : goal.invariant-loop
invariant-loop l = l.tables.items ++ no_texts (drop l.index l.actors) ≡ no_texts l.actors
