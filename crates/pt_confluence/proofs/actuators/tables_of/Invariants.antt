use Rattle.std.proofs.Common.{◌≡◌, map, take}
use Rattle.std.specs.List.{flat_map}
use Rattle.pt_tables.specs.Gathered.{texts_from}
use Rattle.pt_confluence.specs.Gathered.{AreLegal, by_task, claimed_tasks}
use Rattle.pt_confluence.proofs.actuators.tables_of.Given as goal

abbrev pub invariant-loop-platform : goal.invariant-loop-platform
invariant-loop-platform l = record {
  texts : l.tables ≡ texts_from 0 l.actors (map by_task (flat_map claimed_tasks (take l.platform-index l.platforms)));
  legal : AreLegal (take l.platform-index l.platforms);
}
