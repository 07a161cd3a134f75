use Rattle.std.proofs.Common.{◌≡◌, ◌+◌, ◌≤◌, List, [], ◌∷◌, ◌++◌, length, map, vec_len, sym, ap, subst, ◌∙◌, append-nil, arith}
use mathlib.Core.List.{reverse, reverse-append}
use Rattle.std.proofs.lemmas.Option.{slice_get_within}
use Rattle.pt_pool.specs.LinkedPlatform.{LinkedPlatformView, plan_graph}
use Rattle.pt_workers.proofs.LinkEnds.Apart.{ins_distinct, ins_more, ins_within, outs_distinct, outs_more, outs_within, linked_is, linked_more}
use Rattle.pt_workers.proofs.LinkEnds.Returning.{more_left}
use Rattle.pt_workers.proofs.ends.settling.take_apart.Goals as goal

pub loop-linked-init : goal.loop-linked-init
loop-linked-init g c =
    let xs = c.args.linked_platforms.items in record {
      count = (c.in_ok-outlets.ensures, c.in_ok-inlets.ensures);
      room = (omega (arith, c.in_ok-platforms.ensures.len), omega (arith, c.in_ok-clocks.ensures.len));
      exact = (c.in_ok-platforms.ensures.exact ∙ c.len.ensures, c.in_ok-clocks.ensures.exact ∙ c.len-2.ensures);
      front = ([], sym (append-nil xs), ap reverse c.in_ok-platforms.ensures.items, ap (λ z. map g.C.Clock.readings (reverse z)) c.in_ok-clocks.ensures.items);
      sent = λ l link i s at le at_i home. let w = slice_get_within xs i s at_i in absurd (omega (arith, w, le));
      taken = λ l link i s at le at_i home. let w = slice_get_within xs i s at_i in absurd (omega (arith, w, le));
      of_run = λ i s le at_i. let w = slice_get_within xs i s at_i in absurd (omega (arith, w, le));
    }

pub lay-requires-clause-within : goal.lay-requires-clause-within
lay-requires-clause-within g c =
    let r = g.J.Run in
    let e = c.into_parts-parts.ensures in
    outs_within r.plan r.rows r.link r.began r.fixed c.in-Some.linked (linked_is r.plan r.rows r.link r.began r.fixed c.in-Some.linked _ _ _ _ _ e.kept e.same) (vec_len c.loop-linked.outlets) c.into_parts-parts.result.outlets.items
    (ap (λ (s : LinkedPlatformView). s.outs) e.same) (subst (λ n. length (plan_graph r.plan).links ≤ n) (sym c.loop-linked.invariant.count.0) c.requires.links)

pub lay-requires-clause-distinct : goal.lay-requires-clause-distinct
lay-requires-clause-distinct g c =
    let r = g.J.Run in
    let e = c.into_parts-parts.ensures in
    outs_distinct r.plan r.rows r.link r.began r.fixed c.in-Some.linked (linked_is r.plan r.rows r.link r.began r.fixed c.in-Some.linked _ _ _ _ _ e.kept e.same) c.into_parts-parts.result.outlets.items
    (ap (λ (s : LinkedPlatformView). s.outs) e.same)

pub lay-requires-in-Some-clause-within : goal.lay-requires-in-Some-clause-within
lay-requires-in-Some-clause-within g c =
    let r = g.J.Run in
    let e = c.into_parts-parts.ensures in
    ins_within r.plan r.rows r.link r.began r.fixed c.in-Some.linked (linked_is r.plan r.rows r.link r.began r.fixed c.in-Some.linked _ _ _ _ _ e.kept e.same) (vec_len c.loop-linked.inlets) c.into_parts-parts.result.inlets.items
    (ap (λ (s : LinkedPlatformView). s.ins) e.same) (subst (λ n. length (plan_graph r.plan).links ≤ n) (sym c.loop-linked.invariant.count.1) c.requires.links)

pub lay-requires-in-Some-clause-distinct : goal.lay-requires-in-Some-clause-distinct
lay-requires-in-Some-clause-distinct g c =
    let r = g.J.Run in
    let e = c.into_parts-parts.ensures in
    ins_distinct r.plan r.rows r.link r.began r.fixed c.in-Some.linked (linked_is r.plan r.rows r.link r.began r.fixed c.in-Some.linked _ _ _ _ _ e.kept e.same) c.into_parts-parts.result.inlets.items
    (ap (λ (s : LinkedPlatformView). s.ins) e.same)

pub loop-linked-preserved : goal.loop-linked-preserved
loop-linked-preserved g c =
    let r = g.J.Run in
    let inv = c.loop-linked.invariant in
    let e = c.into_parts-parts.ensures in
    let s = c.in-Some.linked in
    let xs = c.pop.new.self.items in
    let ys = c.loop-linked.linked_platforms.items in
    let orig = c.args.linked_platforms.items in
    let rest : List LinkedPlatformView = inv.front.0 in
    let is : ys ≡ xs ++ s ∷ [] = c.in-Some.ensures.items in
    let st = linked_is r.plan r.rows r.link r.began r.fixed s _ _ _ _ _ e.kept e.same in
    let p : s.platform ≡ c.into_parts-parts.result.platform = ap (λ (v : LinkedPlatformView). v.platform) e.same in
    let t : s.readings ≡ g.C.Clock.readings c.into_parts-parts.result.clock = ap (λ (v : LinkedPlatformView). v.readings) e.same in
    let len : vec_len c.pop.new.self + 1 ≡ vec_len c.loop-linked.linked_platforms = c.in-Some.ensures.cases in record {
      count = (c.lay.ensures.count ∙ inv.count.0, c.lay-in-Some.ensures.count ∙ inv.count.1);
      room = (omega (arith, c.push_reserved.ensures.len, inv.room.0, len), omega (arith, c.push_reserved-in-Some.ensures.len, inv.room.1, len));
      exact = (c.push_reserved.ensures.capacity ∙ inv.exact.0, c.push_reserved-in-Some.ensures.capacity ∙ inv.exact.1);
      front = (
        s ∷ rest,
        more_left xs ys rest orig s is inv.front.1,
        ap reverse c.push_reserved.ensures.items ∙ reverse-append c.loop-linked.platforms.items (c.into_parts-parts.result.platform ∷ []) ∙ (λ i. sym p i ∷ inv.front.2 i),
        ap (λ z. map g.C.Clock.readings (reverse z)) c.push_reserved-in-Some.ensures.items ∙ ap (map g.C.Clock.readings) (reverse-append c.loop-linked.clocks.items (c.into_parts-parts.result.clock ∷ [])) ∙ (λ i. sym t i ∷ inv.front.3 i),
      );
      sent = outs_more r.plan r.rows r.link r.began r.fixed s st xs ys rest orig is inv.front.1 c.requires.order c.into_parts-parts.result.outlets.items (ap (λ (v : LinkedPlatformView). v.outs) e.same) c.loop-linked.outlets.items c.lay.new.places.items c.lay.ensures.laid c.lay.ensures.others inv.sent;
      taken = ins_more r.plan r.rows r.link r.began r.fixed s st xs ys rest orig is inv.front.1 c.requires.order c.into_parts-parts.result.inlets.items (ap (λ (v : LinkedPlatformView). v.ins) e.same) c.loop-linked.inlets.items c.lay-in-Some.new.places.items c.lay-in-Some.ensures.laid c.lay-in-Some.ensures.others inv.taken;
      of_run = linked_more r.plan r.rows r.link r.began r.fixed s st xs ys rest orig is inv.front.1 c.requires.order inv.of_run;
    }

pub returns-clause-of_run : goal.returns-clause-of_run
returns-clause-of_run g c i s le at =
    let none : length c.loop-linked.linked_platforms.items ≡ 0 = sym c.loop-linked.linked_platforms.ok.0 ∙ c.in_default.ensures.cases.0 in
    c.loop-linked.invariant.of_run i s (omega (arith, none)) at
