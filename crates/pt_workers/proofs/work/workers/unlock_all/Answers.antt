use Rattle.std.proofs.Common.{◌≡◌, ◌+◌, ◌^◌, List, vec_len, ap, sym, ◌∙◌, arith}
use Rattle.pt_pool.specs.LinkedPlatform.{LinkedPlatformView}
use Rattle.pt_pool.specs.Stations.Stations.{StationView}
use Rattle.pt_workers.specs.Working.Orders.{order_weight, numbers}
use Rattle.pt_workers.proofs.Working.Numbers.{weighed}
use Rattle.pt_workers.proofs.work.workers.unlock_all.Goals as goal

pub loop-guarded-preserved : goal.loop-guarded-preserved
loop-guarded-preserved g c =
    let inv = c.loop-guarded.invariant in
    let guarded = c.into_inner-station.result in
    let len : vec_len c.pop.new.self + 1 ≡ vec_len c.loop-guarded.stations = c.in-Some.ensures.cases in
    let same : c.into_linked.result ≡ guarded.station.linked = c.into_linked.ensures ∙ ap (λ (v : StationView). v.linked) c.dismiss.ensures in record {
      parts = omega (arith, c.merge.ensures.parts, guarded.one_part);
      linked_platforms = omega (arith, c.push_reserved.ensures.len);
      room = c.push_reserved.ensures.capacity ∙ inv.room;
      weight = ap (λ (xs : List LinkedPlatformView). order_weight (numbers xs)) c.push_reserved.ensures.items ∙ weighed c.loop-guarded.linked_platforms.items c.into_linked.result ∙ (λ i. inv.weight i + (ap (λ (v : LinkedPlatformView). 2 ^ v.platform.number) same ∙ sym guarded.amount) i) ∙ sym c.merge.ensures.amount;
    }

pub returns-clause-weight : goal.returns-clause-weight
returns-clause-weight g c =
    let inv = c.loop-guarded.invariant in
    let none : vec_len c.loop-guarded.stations ≡ 0 = c.in_default.ensures.cases.0 in
    inv.weight ∙ c.audit.ensures.whole (omega arith)
