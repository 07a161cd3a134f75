use Rattle.pt_io.specs.Clocks.{viewed}
use Rattle.pt_run.specs.Texts.{left_of}
use Rattle.pt_words.specs.Grammar.{order_of}
use Rattle.pt_program.proofs.call.status.Goals as goal

pub returns : goal.returns
returns g c =
    let order = order_of c.args.words.now in record {
      ended = (
        c.ptides-outcome.result.fault,
        left_of c.ptides-outcome.result order (viewed g.C.Clock.readings g.C.Clock.ahead c.args.clocks.items) (viewed g.C.Clock.readings g.C.Clock.ahead c.ptides-outcome.result.clocks.items),
        c.ptides-outcome.ensures.status,
        c.ptides-outcome.ensures.due,
      );
      complete = c.ptides-outcome.ensures.complete;
      complete_in_bounds = c.ptides-outcome.ensures.complete_in_bounds;
    }
