use Rattle.std.proofs.Common.{◌∙◌, ap}
use Rattle.pt_tables.specs.Gathered.{texts_from}
use Rattle.pt_tables.proofs.meaning.tables_of_meaning.Goals as goal

pub returns-clause-text : goal.returns-clause-text
returns-clause-text c =
    let handed = c.in_ok-reference.ensures.meaning in
    record {
      firings = handed.firings;
      meaning = handed.meaning;
      few = handed.few;
      took = c.in_ok-text.ensures c.args.graph.now handed.firings (handed.took.1 ∙ ap (λ actors. texts_from 0 actors handed.firings) c.as_slice-actors.ensures);
    }
