use Rattle.std.proofs.Common.{◌≡◌, take}
use Rattle.pt_tables.specs.Gathered.{texts_from}
use Rattle.pt_tables.proofs.text.tables.Given as goal

abbrev pub invariant-loop-place : goal.invariant-loop-place
invariant-loop-place l = l.tables ≡ texts_from 0 l.graph.actors (take l.place l.firings)
