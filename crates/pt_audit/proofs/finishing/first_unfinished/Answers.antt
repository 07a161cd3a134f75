use Rattle.std.proofs.Common.{◌≡◌, Some, slice_get, subst, sym, ap, ◌∙◌, arith}
use Rattle.std.proofs.lemmas.Bool.{false≢true}
use Rattle.std.proofs.lemmas.Option.{slice_get-get_or, slice_get_within}
use Rattle.pt_semantics.proofs.Lookups.{same_some}
use Rattle.pt_audit.specs.Finishing.{IsAtEnd}
use Rattle.pt_tables.proofs.Members.{one_more}
use Rattle.pt_audit.proofs.finishing.first_unfinished.Goals as goal

pub returns-then-not-finished : goal.returns-then-not-finished
returns-then-not-finished c =
    let one = c.index-platforms-i.result in
    let two = c.index-platforms-i-then-not-finished.result in
    let at : slice_get c.args.platforms.now c.loop-i.i ≡ Some one = slice_get-get_or c.args.platforms.now c.loop-i.i one c.loop-i-test.true ∙ ap Some (sym c.index-platforms-i.is) in
    let there : slice_get c.args.platforms.now c.loop-i.i ≡ Some two = slice_get-get_or c.args.platforms.now c.loop-i.i two c.loop-i-test.true ∙ ap Some (sym c.index-platforms-i-then-not-finished.is) in
    record {
      place = c.loop-i.i;
      view = two;
      at = there;
      is = c.number.ensures;
      unfinished = λ (h : IsAtEnd two). false≢true (sym c.if-not-finished.true ∙ c.finished.ensures.1 (subst IsAtEnd (same_some two one (sym there ∙ at)) h));
      first = c.loop-i.invariant;
    }

pub loop-i-preserved : goal.loop-i-preserved
loop-i-preserved c =
    let one = c.index-platforms-i.result in
    let at : slice_get c.args.platforms.now c.loop-i.i ≡ Some one = slice_get-get_or c.args.platforms.now c.loop-i.i one c.loop-i-test.true ∙ ap Some (sym c.index-platforms-i.is) in
    let step = one_more IsAtEnd c.args.platforms.now c.loop-i.i one at (c.finished.ensures.0 c.if-not-finished.false) (λ k y lt there. c.loop-i.invariant k y lt there) in
    λ j v lt there. step j v lt there

pub returns : goal.returns
returns c = λ j v at. let lt = slice_get_within c.args.platforms.now j v at in c.loop-i.invariant j v (omega (arith, lt, c.loop-i-test.false)) at
