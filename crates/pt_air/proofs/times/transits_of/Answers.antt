use Rattle.std.proofs.Common.{◌≡◌, arith, true, is_ok, rules}
use Rattle.std.proofs.lemmas.List.FromFn.{map-range_with_len_more}
use Rattle.pt_air.specs.AirOf.{row_transits}
use Rattle.pt_air.proofs.times.transits_of.Goals as goal

pub loop-link-preserved : goal.loop-link-preserved
loop-link-preserved c =
    let pushed : is_ok c.push.result ≡ true = search rules in
    let items = rw pushed at c.push.ensures.items in
    cc (items, c.new.ensures, c.in_ok-transits.ensures, map-range_with_len_more (row_transits c.args.rows.now) 0 c.loop-link.link c.loop-link.link (omega arith))
