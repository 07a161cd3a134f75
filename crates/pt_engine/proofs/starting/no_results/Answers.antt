use Rattle.std.proofs.Common.{get_or, subst, arith}
use Rattle.std.proofs.lemmas.Option.{slice_get-get_or, slice_get_within}
use Rattle.pt_semantics.specs.History.{IsLegal}
use Rattle.pt_turn.specs.Platforms.{PlatformView, level_at, rows_at, state_at}
use Rattle.pt_engine.proofs.Listed.{one_list_more, one_more}
use Rattle.pt_engine.proofs.starting.no_results.Goals as goal

pub loop-i-preserved : goal.loop-i-preserved
loop-i-preserved c =
    let h = c.push.ensures.items in
    let k = c.if-is_err.ensures in record {
      none = rw h (rw k.negation (one_list_more c.loop-i.lists.items c.new.result c.loop-i.i c.loop-i.invariant.none c.new.ensures.items));
      legal = one_more (λ (v : PlatformView). IsLegal v.plan.graph (level_at v) v.number (rows_at v) v.turns (state_at v)) c.args.platforms.now c.loop-i.i (get_or c.args.platforms.now c.loop-i.i c.index-platforms-i.result)
          (slice_get-get_or c.args.platforms.now c.loop-i.i c.index-platforms-i.result c.loop-i-test.true)
          (subst (λ (v : PlatformView). IsLegal v.plan.graph (level_at v) v.number (rows_at v) v.turns (state_at v)) c.index-platforms-i.is c.history.ensures.legal)
          c.loop-i.invariant.legal;
    }

pub returns-clause-legal : goal.returns-clause-legal
returns-clause-legal c = λ i v at. let lt = slice_get_within c.args.platforms.now i v at in c.loop-i.invariant.legal i v (omega (arith, lt, c.loop-i-test.false)) at
