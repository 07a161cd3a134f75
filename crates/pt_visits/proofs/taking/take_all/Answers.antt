use Rattle.std.proofs.Common.{◌≡◌, ◌++◌, true, List, sym, ap, ◌∙◌, Ok, Err}
use Rattle.std.specs.Prelude.{OnOk, Result}
use Rattle.std.proofs.lemmas.Bool.{false≢true}
use Rattle.std.specs.List.{list_all}
use Rattle.std.proofs.lemmas.List.{append-nil}
use Rattle.pt_types.specs.declared.firing.OnLink.{OnLink}
use Rattle.pt_semantics.specs.Turn.{is_empty}
use Rattle.pt_visits.proofs.Emptied.{arriving_none, emptied_same}
use Rattle.pt_visits.proofs.taking.take_all.Goals as goal

pub returns-then-not-under_way : goal.returns-then-not-under_way
returns-then-not-under_way c =
    let none : list_all is_empty c.args.pipes.now ≡ true = c.requires.none c.if-not-under_way.true in
    record {
      taken = sym (ap (λ (z : List OnLink). c.args.taken.now.items ++ z) (arriving_none c.args.graph.now c.args.number 0 c.args.pipes.now none) ∙ append-nil c.args.taken.now.items);
      pipes = sym (emptied_same c.args.graph.now c.args.number 0 c.args.pipes.now none);
      none = c.requires.none;
    }

pub returns-then-are_empty : goal.returns-then-are_empty
returns-then-are_empty c =
    let none : list_all is_empty c.args.pipes.now ≡ true = sym c.are_empty.ensures ∙ c.if-are_empty.true in
    record {
      taken = sym (ap (λ (z : List OnLink). c.args.taken.now.items ++ z) (arriving_none c.args.graph.now c.args.number 0 c.args.pipes.now none) ∙ append-nil c.args.taken.now.items);
      pipes = sym (emptied_same c.args.graph.now c.args.number 0 c.args.pipes.now none);
      none = λ _. none;
    }

-- what is true anyway is true of a result with a value
always : {T E P : Type 0} (r : Result T E) → P → OnOk r P
always (Ok x) p = p
always (Err x) p = tt

pub returns-clause-none : goal.returns-clause-none
returns-clause-none c = always c.take_each.result (λ e. absurd (false≢true (sym e ∙ c.if-not-under_way.false)))
