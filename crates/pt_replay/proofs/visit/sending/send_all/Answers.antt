use Rattle.std.proofs.Common.{◌≡◌, ◌<◌, ℕ, List, [], Some, length, get_or, sym, ap, ◌∙◌, arith}
use Rattle.std.specs.Prelude.{not, option_map, slice_get, slice_index_or, unwrap_or}
use Rattle.std.proofs.lemmas.Bool.{false≢true}
use Rattle.std.proofs.lemmas.List.{get_or_read}
use Rattle.std.proofs.lemmas.Option.{slice_get-get_or}
use Rattle.pt_types.specs.declared.graph.Link.{Link}
use Rattle.pt_semantics.specs.Arrivals.{AirwayView}
use Rattle.pt_semantics.specs.TrueTime.{delay_on, put_link, transits_on}
use Rattle.pt_engine.proofs.Idle.{no_oldest}
use Rattle.pt_replay.proofs.Visits.Moving.{all_empty, none_put, one_put}
use Rattle.pt_replay.proofs.Visits.Replacing.{replaced}
use Rattle.pt_replay.proofs.visit.sending.send_all.Goals as goal

abbrev no_link : Link
no_link = record { from = 0; to = 0; delay = 0 }

abbrev no_airway : AirwayView
no_airway = record { on_way = []; latest = 0; events = 0 }

pub loop-l-preserved-then-is_none : goal.loop-l-preserved-then-is_none
loop-l-preserved-then-is_none c =
    let below : c.loop-l.l < length c.args.graph.now.links = omega (arith, ap length c.as_slice-links.ensures) in
    let none : get_or c.loop-l.pipes c.loop-l.l c.index-pipes-l.result ≡ [] = no_oldest c.peek.result (get_or c.loop-l.pipes c.loop-l.l c.index-pipes-l.result) (c.is_none.ensures ∙ ap not c.if-is_none.true) c.peek.ensures in
    record {
      puts = none_put c.args.air.now c.args.graph.now c.args.now c.loop-l.l below c.args.airways.now c.loop-l.airways c.args.pipes.now c.loop-l.pipes no_airway c.index-pipes-l.result c.loop-l.invariant.puts none;
      none = c.loop-l.invariant.none;
    }

pub loop-l-preserved : goal.loop-l-preserved
loop-l-preserved c =
    let links = c.as_slice-links.ensures in
    let below : c.loop-l.l < length c.args.graph.now.links = omega (arith, ap length c.as_slice-links.ensures) in
    let transits : length c.as_slice-transits.result.now ≡ length c.args.graph.now.links = ap length c.as_slice-transits.ensures ∙ c.requires.transits in
    let recorded : c.as_slice-recorded.result.now ≡ transits_on c.args.air.now c.loop-l.l =
    c.as_slice-recorded.ensures
    ∙ get_or_read c.as_slice-transits.result.now c.loop-l.l c.index-transits-l.result (omega (arith, below, transits)) c.index-transits-l.is []
    ∙ ap (λ (ts : List (List ℕ)). get_or ts c.loop-l.l []) c.as_slice-transits.ensures in
    let at : slice_get c.args.graph.now.links c.loop-l.l ≡ Some (get_or c.args.graph.now.links c.loop-l.l no_link) = slice_get-get_or c.args.graph.now.links c.loop-l.l no_link below in
    let delay : (get_or c.as_slice-links.result.now c.loop-l.l no_link).delay ≡ delay_on c.args.graph.now c.loop-l.l =
    ap (λ (ls : List Link). (get_or ls c.loop-l.l no_link).delay) c.as_slice-links.ensures
    ∙ sym (ap (λ link. unwrap_or (option_map (λ (z : Link). z.delay) link) 0) at) in
    record {
      puts = one_put c.args.air.now c.args.graph.now c.args.now c.loop-l.l below c.args.airways.now c.loop-l.airways c.args.pipes.now c.loop-l.pipes c.index-airways-l.result c.index-pipes-l-in-loop-l.result c.loop-l.invariant.puts
          c.send_from.new.airway c.as_slice-recorded.result.now (get_or c.as_slice-links.result.now c.loop-l.l no_link).delay c.send_from.new.pipe
          recorded delay c.in_ok-send_from.ensures.airway c.in_ok-send_from.ensures.pipe;
      none = λ e. absurd (false≢true (sym e));
    }

pub returns : goal.returns
returns c =
    let ends : length c.args.graph.now.links ≡ c.loop-l.l = omega (arith, ap length c.as_slice-links.ensures) in
    record {
      airways = replaced (λ k. put_link c.args.air.now c.args.graph.now c.args.now k (slice_index_or c.args.pipes.now k [])) c.loop-l.l c.loop-l.airways c.loop-l.airways _ (c.loop-l.invariant.puts.counts.0 ∙ ends) (c.loop-l.invariant.puts.counts.0 ∙ ends) c.loop-l.invariant.puts.put;
      pipes = replaced (λ k pipe. []) c.loop-l.l c.loop-l.pipes c.loop-l.pipes _ (c.loop-l.invariant.puts.counts.1 ∙ ends) (c.loop-l.invariant.puts.counts.1 ∙ ends) c.loop-l.invariant.puts.emptied ∙ all_empty 0 c.args.pipes.now;
      none = c.loop-l.invariant.none;
    }
