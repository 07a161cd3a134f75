use Rattle.std.proofs.Common.{rules}
use Rattle.std.specs.Prelude.{string_bytes}
use Rattle.std.specs.declared.alloc.Global.{Global}
use Rattle.pt_causality.specs.Ranked.{rank_of}
use Rattle.pt_sensors.specs.Listed.{rows_for}
use Rattle.pt_run.specs.Causes.{IsTooLongForAll}
use Rattle.pt_run.specs.Written.{FitOnAll, IsTables}
use Rattle.pt_run.proofs.Endings.{long_due, meant_due}
use Rattle.pt_run.proofs.meaning.meaning_tables.Goals as goal

pub returns-in-Err-Long : goal.returns-in-Err-Long
returns-in-Err-Long c = λ r.
    let long : IsTooLongForAll c.args.graph.now (rows_for c.args.sensors.now) = record { rank = rank_of c.args.ranks.now; ranks = c.requires.ranks; longer = rw (c.ranks.ensures, c.most_firings.ensures) at (c.in-Err-Long.ensures.long (search rules)) } in
    long_due (string_bytes {Z = Global}) c.args.graph.now (rows_for c.args.sensors.now) r long

pub returns-in-Ok : goal.returns-in-Ok
returns-in-Ok c = λ r.
    let tables : IsTables c.args.graph.now (rows_for c.args.sensors.now) (FitOnAll c.args.graph.now) (string_bytes c.in-Ok.text) = record {
      firings = c.in-Ok.ensures.text.firings;
      means = record { rank = rank_of c.args.ranks.now; ranks = c.requires.ranks; meaning = rw c.ranks.ensures at c.in-Ok.ensures.text.meaning };
      fact = rw c.most_firings.ensures at c.in-Ok.ensures.text.few;
      tables = c.in-Ok.ensures.text.took;
    } in
    meant_due string_bytes c.in-Ok.text c.args.graph.now (rows_for c.args.sensors.now) r tables
