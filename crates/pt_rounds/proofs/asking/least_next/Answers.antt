use Rattle.std.proofs.Common.{◌+◌, Option, ℕ, get_or, sym, subst, MatchOption}
use Rattle.std.proofs.lemmas.Option.{slice_get-get_or}
use Rattle.pt_turn.specs.Platforms.{PlatformView}
use Rattle.pt_rounds.specs.Asked.{IsLeastOf, NoneIsOpen}
use Rattle.pt_rounds.proofs.Leasts.{Next, least_more}
use Rattle.pt_rounds.proofs.asking.least_next.Goals as goal

pub loop-i-preserved : goal.loop-i-preserved
loop-i-preserved c =
    subst (λ (o : Option ℕ). MatchOption o (NoneIsOpen (c.loop-i.i + 1) c.args.platforms.now) (IsLeastOf (c.loop-i.i + 1) c.args.platforms.now)) (sym c.lesser-least.ensures)
    (least_more c.args.platforms.now c.loop-i.i (get_or c.args.platforms.now c.loop-i.i c.index-platforms-i.result)
    (slice_get-get_or c.args.platforms.now c.loop-i.i c.index-platforms-i.result c.loop-i-test.true)
    c.loop-i.least c.next_reading.result c.loop-i.invariant
    (subst (λ (v : PlatformView). Next v c.next_reading.result) c.index-platforms-i.is c.next_reading.ensures))
