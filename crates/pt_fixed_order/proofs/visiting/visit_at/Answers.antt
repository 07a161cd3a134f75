use Rattle.std.proofs.Common.{Err, Ok, arith, get_or}
use Rattle.std.specs.Prelude.{OnOk, Result}
use Rattle.std.proofs.lemmas.Option.{slice_get-get_or}
use Rattle.pt_fixed_order.proofs.Steps.{are_done, has_come, has_links, visit_done}
use Rattle.pt_fixed_order.proofs.visiting.visit_at.Goals as goal

-- a fact on a result that is Ok, from another
ok : {T E P Q : Type 0} (r : Result T E) → (P → Q) → OnOk r P → OnOk r Q
ok (Ok x) f p = f p
ok (Err x) f p = tt

pub visit-requires-clause-no_fault : goal.visit-requires-clause-no_fault
visit-requires-clause-no_fault g c =
    let (plan, rows, began, s) = c.requires.begun in
    s.no_fault c.args.number (get_or c.args.platforms.now c.args.number c.index-platforms-number.result) (slice_get-get_or c.args.platforms.now c.args.number c.index-platforms-number.result c.requires.within.0)

pub visit-requires-clause-links : goal.visit-requires-clause-links
visit-requires-clause-links g c =
    let (plan, rows, began, s) = c.requires.begun in
    has_links g.C.Clock.readings g.C.Clock.ahead plan rows c.args.most c.args.number began c.args.clocks.now c.args.platforms.now c.args.pipes.now c.args.results.now s
    (get_or c.args.platforms.now c.args.number c.index-platforms-number.result) (slice_get-get_or c.args.platforms.now c.args.number c.index-platforms-number.result c.requires.within.0)

pub visit-requires-clause-done : goal.visit-requires-clause-done
visit-requires-clause-done g c =
    let (plan, rows, began, s) = c.requires.begun in
    are_done g.C.Clock.readings g.C.Clock.ahead plan rows c.args.most c.args.number began c.args.clocks.now c.args.platforms.now c.args.pipes.now c.args.results.now s
    (get_or c.args.platforms.now c.args.number c.index-platforms-number.result) (slice_get-get_or c.args.platforms.now c.args.number c.index-platforms-number.result c.requires.within.0)
    (get_or c.args.results.now c.args.number c.index-results-number.result) (slice_get-get_or c.args.results.now c.args.number c.index-results-number.result c.requires.within.2)

pub visit-requires-clause-taken : goal.visit-requires-clause-taken
visit-requires-clause-taken g c =
    let (plan, rows, began, s) = c.requires.begun in
    has_come g.C.Clock.readings g.C.Clock.ahead plan rows c.args.most c.args.number began c.args.clocks.now c.args.platforms.now c.args.pipes.now c.args.results.now s
    (get_or c.args.platforms.now c.args.number c.index-platforms-number.result) (slice_get-get_or c.args.platforms.now c.args.number c.index-platforms-number.result c.requires.within.0)

pub returns : goal.returns
returns g c = record {
  visited = ok c.visit.result
      (λ visited plan rows began s.
      visit_done g.C.Clock.readings g.C.Clock.ahead plan rows c.args.most c.args.number began c.args.clocks.now c.args.platforms.now c.args.pipes.now c.args.results.now s
      (get_or c.args.platforms.now c.args.number c.index-platforms-number.result) (slice_get-get_or c.args.platforms.now c.args.number c.index-platforms-number.result c.requires.within.0)
      (get_or c.args.results.now c.args.number c.index-results-number.result) (slice_get-get_or c.args.results.now c.args.number c.index-results-number.result c.requires.within.2)
      c.visit.new.platform c.visit.new.results c.visit.new.pipes c.read-reading.result
      (get_or c.args.clocks.now c.args.number c.index-clocks-number.result) c.read-reading.new.self
      (omega arith) visited
      (slice_get-get_or c.args.clocks.now c.args.number c.index-clocks-number.result c.requires.within.1)
      c.read-reading.ensures.readings c.read-reading.ensures.ahead c.read-reading.ensures.as_ahead)
      c.visit.ensures.visited;
}
