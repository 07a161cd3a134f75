use Rattle.std.proofs.Common.{◌≡◌, ◌<◌, ◌≤◌, List, Some, length, get_or, ap, subst, ◌∙◌, arith}
use Rattle.std.specs.Prelude.{slice_get, slice_index_or}
use Rattle.std.proofs.lemmas.Option.{slice_get-get_or}
use Rattle.pt_types.specs.declared.graph.Link.{Link}
use Rattle.pt_types.specs.Lookups.{platform_of}
use Rattle.pt_semantics.specs.Lists.{Each}
use Rattle.pt_types.specs.declared.air.InAir.{InAir}
use Rattle.pt_semantics.specs.Arrivals.{AirwayView}
use Rattle.pt_replay.proofs.Visits.Awaited.{all_links, from_first, none_first, one_more}
use Rattle.pt_replay.proofs.visit.arrivals.find_arrivals.Goals as goal

abbrev no_link : Link
no_link = record { from = 0; to = 0; delay = 0 }

pub loop-l-init : goal.loop-l-init
loop-l-init c = none_first c.args.graph.now c.fill.new.self c.args.airways.now

pub loop-l-preserved : goal.loop-l-preserved
loop-l-preserved c =
    let links = c.as_slice-links.ensures in
    let below : c.loop-l.l < length c.args.graph.now.links = omega (arith, ap length c.as_slice-links.ensures) in
    let at : slice_get c.args.graph.now.links c.loop-l.l ≡ Some (get_or c.args.graph.now.links c.loop-l.l no_link) = slice_get-get_or c.args.graph.now.links c.loop-l.l no_link below in
    let at_a : slice_get c.args.airways.now c.loop-l.l ≡ Some (get_or c.args.airways.now c.loop-l.l c.index-airways-l.result) = slice_get-get_or c.args.airways.now c.loop-l.l c.index-airways-l.result (omega (arith, below, c.requires.airways)) in
    let home : c.platform_of.result ≡ platform_of c.args.graph.now (get_or c.args.graph.now.links c.loop-l.l no_link).to = c.platform_of.ensures ∙ ap (λ (xs : List Link). platform_of c.args.graph.now (get_or xs c.loop-l.l no_link).to) c.as_slice-links.ensures in
    one_more c.loop-l.l c.args.graph.now c.loop-l.arrivals c.lower.new.arrivals c.args.airways.now (get_or c.args.graph.now.links c.loop-l.l no_link) (get_or c.args.airways.now c.loop-l.l c.index-airways-l.result) c.unwrap_or-next.result c.loop-l.invariant at at_a
    (subst (λ (a : AirwayView). Each (λ (m : InAir). c.unwrap_or-next.result ≤ m.arrives) a.on_way) c.index-airways-l.is (from_first c.index-airways-l.result.on_way c.index-airways-l.result.latest _ c.unwrap_or-next.result c.next_arrival.result c.next_arrival.ensures.order c.next_arrival.ensures.next c.unwrap_or-next.ensures))
    (subst (λ i. slice_index_or c.lower.new.arrivals i 0 ≤ c.unwrap_or-next.result) home c.lower.ensures.here)
    c.lower.ensures.not_raised

pub returns : goal.returns
returns c = all_links c.loop-l.l c.args.graph.now c.loop-l.arrivals c.args.airways.now (omega (arith, ap length c.as_slice-links.ensures, c.requires.airways)) c.loop-l.invariant
