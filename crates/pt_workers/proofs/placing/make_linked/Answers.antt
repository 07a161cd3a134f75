use Rattle.std.proofs.Common.{◌≡◌, ◌<◌, ◌∷◌, ◌++◌, [], List, length, vec_len, refl, sym, ap, subst, ◌∙◌, append-nil, arith}
use mathlib.Core.List.{reverse}
use Rattle.pt_types.specs.declared.graph.Graph.{Graph}
use Rattle.pt_pool.specs.Ends.{leaves, receiving_platform}
use Rattle.pt_pool.specs.LinkedPlatform.{LinkedPlatformView}
use Rattle.pt_pool.proofs.Lanes.{get_map}
use Rattle.pt_workers.specs.Working.Orders.{count_up, numbers}
use Rattle.pt_workers.proofs.LinkEnds.Returning.{last_at, more_left}
use Rattle.pt_workers.specs.Opened.{AreOwners}
use Rattle.pt_workers.proofs.LinkedPlatforms.{collected_as, ins_full, left_after, numbered_more, of_run, outs_full, owner_as}
use Rattle.pt_workers.proofs.placing.make_linked.Goals as goal

pub loop-platform-init : goal.loop-platform-init
loop-platform-init g c = record {
  clocks = omega (arith, c.requires.clocks, c.args.clocks.ok.0, c.args.platforms.ok.0);
  front = ([], sym (append-nil c.args.platforms.items));
  clock_front = ([], sym (append-nil c.args.clocks.items));
  sending = λ l o at lt. refl;
  taking = λ l o at lt. refl;
  count = (refl, refl);
  room = (omega (arith, c.in_ok-linked_platforms.ensures.len), c.in_ok-linked_platforms.ensures.exact ∙ c.len.ensures);
  order = ap (λ (xs : List LinkedPlatformView). count_up (vec_len c.args.platforms) ++ numbers (reverse xs)) c.in_ok-linked_platforms.ensures.items ∙ append-nil (count_up (vec_len c.args.platforms));
}

pub collect-requires-clause-full : goal.collect-requires-clause-full
collect-requires-clause-full g c l at =
    let r = g.J.Run in
    let inv = c.loop-platform.invariant in
    let plan = c.args.plan.now in
    let senders = c.in_ok-sides.sides.senders.items in
    let receivers = c.in_ok-sides.sides.receivers.items in
    let is = last_at c.pop.new.self.items c.loop-platform.platforms.items inv.front.0 c.args.platforms.items c.in-Some.platform c.in-Some.ensures.items inv.front.1 in
    let num : c.number-number.result ≡ vec_len c.pop.new.self = c.number-number.ensures ∙ c.requires.all.numbers (length c.pop.new.self.items) c.in-Some.platform is ∙ sym c.pop.new.self.ok.0 in
    outs_full plan r.plan c.requires.plan r.rows r.link c.args.ends.outlets.items c.args.ends.inlets.items c.requires.open c.requires.named senders receivers
    (subst (λ (h : Graph). AreOwners h leaves (length h.links) senders) c.graph.ensures.value c.in_ok-sides.ensures.senders)
    (subst (λ (h : Graph). AreOwners h receiving_platform (length h.links) receivers) c.graph.ensures.value c.in_ok-sides.ensures.receivers)
    (vec_len c.pop.new.self) (vec_len c.loop-platform.platforms) c.loop-platform.outlets.items c.in-Some.ensures.cases inv.sending l
    (owner_as c.as_slice.result.now senders c.number-number.result (vec_len c.pop.new.self) l c.as_slice.ensures.value num at)

pub collect-requires-in-Some-clause-full : goal.collect-requires-in-Some-clause-full
collect-requires-in-Some-clause-full g c l at =
    let r = g.J.Run in
    let inv = c.loop-platform.invariant in
    let plan = c.args.plan.now in
    let senders = c.in_ok-sides.sides.senders.items in
    let receivers = c.in_ok-sides.sides.receivers.items in
    let is = last_at c.pop.new.self.items c.loop-platform.platforms.items inv.front.0 c.args.platforms.items c.in-Some.platform c.in-Some.ensures.items inv.front.1 in
    let num : c.number-number.result ≡ vec_len c.pop.new.self = c.number-number.ensures ∙ c.requires.all.numbers (length c.pop.new.self.items) c.in-Some.platform is ∙ sym c.pop.new.self.ok.0 in
    ins_full plan r.plan c.requires.plan r.rows r.link c.args.ends.outlets.items c.args.ends.inlets.items c.requires.open c.requires.named senders receivers
    (subst (λ (h : Graph). AreOwners h leaves (length h.links) senders) c.graph.ensures.value c.in_ok-sides.ensures.senders)
    (subst (λ (h : Graph). AreOwners h receiving_platform (length h.links) receivers) c.graph.ensures.value c.in_ok-sides.ensures.receivers)
    (vec_len c.pop.new.self) (vec_len c.loop-platform.platforms) c.loop-platform.inlets.items c.in-Some.ensures.cases inv.taking l
    (owner_as c.as_slice-in-Some.result.now receivers c.number-number.result (vec_len c.pop.new.self) l c.as_slice-in-Some.ensures.value num at)

pub new-requires : goal.new-requires
new-requires g c =
    let r = g.J.Run in
    let inv = c.loop-platform.invariant in
    let plan = c.args.plan.now in
    let senders = c.in_ok-sides.sides.senders.items in
    let receivers = c.in_ok-sides.sides.receivers.items in
    let p = c.in-Some.platform in
    let k = length c.pop.new.self.items in
    let n = vec_len c.pop.new.self in
    let m = vec_len c.loop-platform.platforms in
    let is = last_at c.pop.new.self.items c.loop-platform.platforms.items inv.front.0 c.args.platforms.items p c.in-Some.ensures.items inv.front.1 in
    let own : p.number ≡ k = c.requires.all.numbers k p is in
    let mine : p.number ≡ n = own ∙ sym c.pop.new.self.ok.0 in
    let num : c.number-number.result ≡ n = c.number-number.ensures ∙ mine in
    let clock_is = last_at c.pop-in-Some.new.self.items c.loop-platform.clocks.items inv.clock_front.0 c.args.clocks.items c.in-Some-pop.clock c.in-Some-pop.ensures.items inv.clock_front.1 in
    let same : length c.pop-in-Some.new.self.items ≡ p.number = omega (arith, c.pop-in-Some.new.self.ok.0, c.in-Some.ensures.cases, c.in-Some-pop.ensures.cases, inv.clocks, mine) in
    let begun = c.requires.begun (length c.pop-in-Some.new.self.items) _ (get_map (λ x. record { readings = g.C.Clock.readings x; ahead = g.C.Clock.ahead x }) c.args.clocks.items (length c.pop-in-Some.new.self.items) c.in-Some-pop.clock clock_is) in
    let below : n < length plan.graph.platforms = omega (arith, inv.room.0, c.in-Some.ensures.cases, c.args.platforms.ok.0, c.requires.all.count) in
    record {
      kept = of_run plan r.plan c.requires.plan r.rows r.link c.args.ends.outlets.items c.args.ends.inlets.items c.requires.open c.requires.named senders receivers
          (subst (λ (h : Graph). AreOwners h leaves (length h.links) senders) c.graph.ensures.value c.in_ok-sides.ensures.senders)
          (subst (λ (h : Graph). AreOwners h receiving_platform (length h.links) receivers) c.graph.ensures.value c.in_ok-sides.ensures.receivers)
          n m c.in-Some.ensures.cases c.loop-platform.outlets.items c.loop-platform.inlets.items inv.sending inv.taking c.in-Ok.sending.items c.in-Ok-collect.taking.items
          (collected_as c.as_slice.result.now senders c.number-number.result n c.loop-platform.outlets.items c.in-Ok.sending.items c.as_slice.ensures.value num c.in-Ok.ensures.collected)
          (collected_as c.as_slice-in-Some.result.now receivers c.number-number.result n c.loop-platform.inlets.items c.in-Ok-collect.taking.items c.as_slice-in-Some.ensures.value num c.in-Ok-collect.ensures.collected)
          p (c.requires.all.plans k p is) mine (c.requires.fresh.turns k p is) below (λ a home. c.requires.all.opened k a p is (home ∙ c.pop.new.self.ok.0))
          (r.began p.number) (g.C.Clock.readings c.in-Some-pop.clock) (r.fixed p.number) (g.C.Clock.ahead c.in-Some-pop.clock)
          (ap r.began (sym same) ∙ begun.0) (ap r.fixed (sym same) ∙ begun.1);
    }

pub loop-platform-preserved : goal.loop-platform-preserved
loop-platform-preserved g c =
    let inv = c.loop-platform.invariant in
    let senders = c.in_ok-sides.sides.senders.items in
    let receivers = c.in_ok-sides.sides.receivers.items in
    let p = c.in-Some.platform in
    let k = length c.pop.new.self.items in
    let n = vec_len c.pop.new.self in
    let m = vec_len c.loop-platform.platforms in
    let is = last_at c.pop.new.self.items c.loop-platform.platforms.items inv.front.0 c.args.platforms.items p c.in-Some.ensures.items inv.front.1 in
    let mine : p.number ≡ n = c.requires.all.numbers k p is ∙ sym c.pop.new.self.ok.0 in
    let num : c.number-number.result ≡ n = c.number-number.ensures ∙ mine in
    record {
      clocks = omega (arith, c.in-Some.ensures.cases, c.in-Some-pop.ensures.cases, inv.clocks);
      front = (p ∷ inv.front.0, more_left c.pop.new.self.items c.loop-platform.platforms.items inv.front.0 c.args.platforms.items p c.in-Some.ensures.items inv.front.1);
      clock_front = (c.in-Some-pop.clock ∷ inv.clock_front.0, more_left c.pop-in-Some.new.self.items c.loop-platform.clocks.items inv.clock_front.0 c.args.clocks.items c.in-Some-pop.clock c.in-Some-pop.ensures.items inv.clock_front.1);
      sending = left_after senders n m c.args.ends.outlets.items c.loop-platform.outlets.items c.collect.new.places.items c.in-Some.ensures.cases inv.sending
          (λ l e. c.in-Ok.ensures.others l (λ at. e (owner_as c.as_slice.result.now senders c.number-number.result n l c.as_slice.ensures.value num at)));
      taking = left_after receivers n m c.args.ends.inlets.items c.loop-platform.inlets.items c.collect-in-Some.new.places.items c.in-Some.ensures.cases inv.taking
          (λ l e. c.in-Ok-collect.ensures.others l (λ at. e (owner_as c.as_slice-in-Some.result.now receivers c.number-number.result n l c.as_slice-in-Some.ensures.value num at)));
      count = (c.in-Ok.ensures.count ∙ inv.count.0, c.in-Ok-collect.ensures.count ∙ inv.count.1);
      room = (omega (arith, c.push_reserved.ensures.len, inv.room.0, c.in-Some.ensures.cases), c.push_reserved.ensures.capacity ∙ inv.room.1);
      order = ap (λ (xs : List LinkedPlatformView). count_up n ++ numbers (reverse xs)) c.push_reserved.ensures.items
          ∙ numbered_more n m (vec_len c.args.platforms) c.loop-platform.linked_platforms.items c.new.result c.in-Some.ensures.cases (ap (λ (s : LinkedPlatformView). s.platform.number) c.new.ensures ∙ mine) inv.order;
    }
