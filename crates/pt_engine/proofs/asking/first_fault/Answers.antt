use Rattle.std.proofs.Common.{◌≡◌, ◌∙◌, None, Some, sym, ap, arith}
use Rattle.std.proofs.lemmas.Option.{slice_get-get_or, slice_get_within}
use Rattle.pt_turn.specs.Platforms.{PlatformView}
use Rattle.pt_engine.proofs.Listed.{one_more}
use Rattle.pt_engine.proofs.asking.first_fault.Goals as goal

pub returns-in-Some : goal.returns-in-Some
returns-in-Some c = record {
  place = c.loop-i.i;
  view = c.index-platforms-i.result;
  at = slice_get-get_or c.args.platforms.now c.loop-i.i c.index-platforms-i.result c.loop-i-test.true ∙ ap Some (sym c.index-platforms-i.is);
  number = c.number.ensures;
  is = sym c.in-Some.ensures.fault;
  shows = c.in-Some.ensures.shows;
  before = c.loop-i.invariant;
}

pub loop-i-preserved : goal.loop-i-preserved
loop-i-preserved c =
    one_more (λ (v : PlatformView). v.fault ≡ None) c.args.platforms.now c.loop-i.i c.index-platforms-i.result
    (slice_get-get_or c.args.platforms.now c.loop-i.i c.index-platforms-i.result c.loop-i-test.true ∙ ap Some (sym c.index-platforms-i.is))
    (sym c.in_default.ensures.fault)
    c.loop-i.invariant

pub returns : goal.returns
returns c = λ i v at. let lt = slice_get_within c.args.platforms.now i v at in c.loop-i.invariant i v (omega (arith, lt, c.loop-i-test.false)) at
