use Rattle.std.specs.Prelude.{string_bytes}
use Rattle.pt_offsets.specs.Timings.{actor_offset_of, margin_in}
use Rattle.pt_run.specs.Written.{IsChecked}
use Rattle.pt_run.proofs.Endings.{checked_due}
use Rattle.pt_run.proofs.check.check_text.Goals as goal

pub returns : goal.returns
returns c =
    let checked : IsChecked c.args.graph.now (string_bytes c.in_ok-text.text) = record {
      feasible = c.in-Ok.ensures.feasible;
      offset = actor_offset_of c.in-Ok.offsets;
      margin = margin_in c.in-Ok.offsets;
      offsets = c.in-Ok.ensures.actors;
      margins = c.in-Ok.ensures.margins;
      lines = c.in_ok-text.ensures;
    } in
    λ r. checked_due string_bytes c.in_ok-text.text c.args.graph.now r checked
