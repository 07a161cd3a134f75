use Rattle.std.proofs.Common.{Some}
use Rattle.std.specs.Prelude.{slice_get}
use Rattle.std.specs.Arc.{arc_value}
use Rattle.pt_io.specs.Clocks.{viewed}
use Rattle.pt_workers.proofs.Naming.{ahead_in, link_in, rows_of_all, readings_of_clock}
use Rattle.pt_workers.proofs.engine.threaded.Given as goal

abbrev pub ghosts-run_named : goal.ghosts-run_named
ghosts-run_named g a = record {
  plan = Some (arc_value a.plan);
  rows = rows_of_all (arc_value a.plan) a.platforms.items;
  link = λ l. link_in (slice_get a.ends.outlets.items l);
  began = λ i. readings_of_clock (slice_get (viewed g.C.Clock.readings g.C.Clock.ahead a.clocks.items) i);
  fixed = λ i. ahead_in (slice_get (viewed g.C.Clock.readings g.C.Clock.ahead a.clocks.items) i);
}
