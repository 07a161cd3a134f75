use Rattle.std.proofs.Common.{◌≡◌, ◌+◌, ◌∷◌, ◌++◌, List, Option, Some, [], get_or, sym, ap, subst, ◌∙◌, arith}
use Rattle.std.proofs.lemmas.Option.{slice_get-get_or}
use Rattle.std.specs.Prelude.{slice_get}
use Rattle.pt_types.specs.declared.graph.Graph.{Graph}
use Rattle.pt_types.specs.declared.graph.Link.{Link}
use Rattle.pt_links.specs.Ends.{SentBy, TakenBy}
use Rattle.pt_workers.specs.Opened.{AreOpenEnds}
use Rattle.pt_workers.proofs.Links.{open_more}
use Rattle.pt_workers.proofs.opening.open_links.Goals as goal

pub loop-l-preserved : goal.loop-l-preserved
loop-l-preserved c =
    let inv = c.loop-l.invariant in
    let k = c.loop-l.l in
    let plan = c.args.plan.now in
    let links = c.as_slice-links.result.now in
    let o = c.in_ok-outlet.outlet in
    let i = c.in_ok-outlet.inlet in
    let none : Link = record { from = 0; to = 0; delay = 0 } in
    let link = get_or links k none in
    let links_are : links ≡ plan.graph.links = c.as_slice-links.ensures ∙ ap (λ (g : Graph). g.links) c.graph.ensures.value in
    record {
      count = (omega (arith, c.push_reserved.ensures.len, inv.count.0), omega (arith, c.push_reserved-in-loop-l.ensures.len, inv.count.1));
      room = (c.push_reserved.ensures.capacity ∙ inv.room.0, c.push_reserved-in-loop-l.ensures.capacity ∙ inv.room.1);
      opened = subst (λ (outs : List (Option SentBy)). AreOpenEnds plan (k + 1) outs c.push_reserved-in-loop-l.new.self.items) (sym c.push_reserved.ensures.items)
          (subst (λ (ins : List (Option TakenBy)). AreOpenEnds plan (k + 1) (c.loop-l.outlets.items ++ Some o ∷ []) ins) (sym c.push_reserved-in-loop-l.ensures.items)
          (open_more plan k c.loop-l.outlets.items c.loop-l.inlets.items o i link c.bounds-bounds.result inv.opened (subst (λ (ls : List Link). slice_get ls k ≡ Some link) links_are (slice_get-get_or links k none c.loop-l-test.true)) c.bounds-bounds.ensures c.in_ok-outlet.ensures.one c.in_ok-outlet.ensures.limits c.in_ok-outlet.ensures.new));
    }
