-- From the headline to what a run has written.
use Rattle.std.proofs.Common.{append-nil, ap, false, refl, subst}
use Rattle.pt_io.specs.Causes.{Appends}
use Rattle.pt_semantics.specs.Tables.{tables_text}
use Rattle.pt_run.specs.WritesTables.{WritesTables}
use Rattle.pt_run.specs.Written.{has_run}

pub writes_tables : WritesTables
writes_tables contents blocks workers clock graph_file outcome left w headline none =
    let run = (headline workers clock false graph_file refl).run (ap has_run none) in
    let put = run.leaves.written none in (
      run.graph,
      run.rows,
      run.file,
      run.sensors,
      record {
        rank = run.rank;
        ranks = run.leaves.admitted.ranks;
        firings = put.firings;
        meaning = put.meaning;
        written = subst (Appends w.written_before w.written_now) (append-nil (tables_text run.graph put.firings)) put.text;
      },
    )
