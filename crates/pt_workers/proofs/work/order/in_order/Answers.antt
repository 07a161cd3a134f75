use Rattle.std.proofs.Common.{◌≡◌, ◌<◌, Some, vec_len, get_or, ap, sym, ◌∙◌, arith}
use Rattle.pt_workers.specs.Working.Orders.{numbers, count_up}
use Rattle.pt_workers.proofs.Working.Numbers.{taken_out, others_stay, counted}
use Rattle.pt_workers.proofs.work.order.in_order.Goals as goal

pub loop-k-init : goal.loop-k-init
loop-k-init g c = record {
  places = omega (arith, c.in_ok-places.ensures.count, c.len-count.ensures);
  each = λ w le low. c.in_ok-places.ensures.filled w (omega (arith, c.len-count.ensures, low));
  order = ap numbers c.in_ok-ordered.ensures.items;
  len = c.in_ok-ordered.ensures.len;
  room = c.in_ok-ordered.ensures.exact;
}

pub unreachable-requires : goal.unreachable-requires
unreachable-requires g c =
    let h = c.loop-k.invariant.each c.loop-k.k (omega arith) c.loop-k-test.true in
    c.in_default.not-Some h.0 (c.take.ensures.value ∙ c.index_mut-place.ensures.value ∙ h.1 c.index_mut-place.result.now)

pub loop-k-preserved : goal.loop-k-preserved
loop-k-preserved g c =
    let inv = c.loop-k.invariant in
    let k = c.loop-k.k in
    let places = c.loop-k.places.items in
    let t = c.in-Some.linked in
    let low : k < c.len-count.result = omega arith in
    let is : get_or places k c.index_mut-place.result.now ≡ Some t = sym c.index_mut-place.ensures.value ∙ sym c.take.ensures.value ∙ c.in-Some.is in
    let n = taken_out k places t c.index_mut-place.result.now (inv.each k (omega arith) low) is in record {
      places = inv.places;
      each = λ w le lt. others_stay k w places c.take.new.self le (inv.each w (omega arith) lt);
      order = counted k c.loop-k.ordered.items c.push_reserved.new.self.items t c.push_reserved.ensures.items inv.order n;
      len = omega (arith, c.push_reserved.ensures.len);
      room = c.push_reserved.ensures.capacity ∙ inv.room;
    }

pub returns-clause-order : goal.returns-clause-order
returns-clause-order g c =
    let all : c.loop-k.k ≡ vec_len c.args.linked_platforms = omega (arith, c.len-count.ensures) in
    c.loop-k.invariant.order ∙ ap count_up all
