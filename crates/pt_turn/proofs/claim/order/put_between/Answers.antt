use Rattle.std.proofs.Common.{◌≡◌, ◌-◌, ◌<◌, ◌≤◌, List, length, take, sym, ap, subst, ◌∙◌, eqb-true, arith}
use Rattle.std.specs.List.{insert}
use Rattle.std.proofs.lemmas.List.{take_all}
use Rattle.std.proofs.lemmas.List.Edits.{length-insert}
use Rattle.pt_queue.specs.declared.waiting.Waiting.{Waiting}
use Rattle.pt_turn.specs.Claims.Fronts.{IsFrontPlace}
use Rattle.pt_turn.proofs.Claims.Ordering.{insert_popped, take_insert, not_full}
use Rattle.pt_turn.proofs.claim.order.put_between.Goals as goal

pub returns-then-not-is_full : goal.returns-then-not-is_full
returns-then-not-is_full c =
    let old = c.args.units.now.items in
    let place : IsFrontPlace c.args.next old c.place_of-place.result = subst (λ cs. IsFrontPlace c.args.next cs c.place_of-place.result) c.as_slice.ensures.value c.place_of-place.ensures in
    let less : length old < 64 = not_full (length old) c.is_full.ensures.fits (sym c.is_full.ensures.value ∙ c.if-not-is_full.true) in
    record {
      place = c.place_of-place.result;
      is_place = place;
      is = c.insert.ensures.items ∙ sym (take_all 64 (insert old c.place_of-place.result c.args.next) (omega (arith, less, length-insert old c.place_of-place.result c.args.next place.within)));
    }

pub returns-then-place-len : goal.returns-then-place-len
returns-then-place-len c =
    let old = c.args.units.now.items in
    let place : IsFrontPlace c.args.next old c.place_of-place.result = subst (λ cs. IsFrontPlace c.args.next cs c.place_of-place.result) c.as_slice.ensures.value c.place_of-place.ensures in
    let full : length old ≡ 64 = eqb-true (length old) 64 (sym c.is_full.ensures.value ∙ c.if-not-is_full.false) in
    let last : length old - 1 ≡ 63 = omega (arith, full) in
    let before : c.place_of-place.result ≤ 63 = omega (arith, full, c.if-place-len.true, c.len.ensures.value) in
    record {
      place = c.place_of-place.result;
      is_place = place;
      is = c.insert-then-place-len.ensures.items ∙ ap (λ (cs : List Waiting). insert cs c.place_of-place.result c.args.next) (c.pop.ensures.rest ∙ ap (λ n. take n old) last) ∙ insert_popped old c.place_of-place.result 63 c.args.next before;
    }

pub returns-else-place-len : goal.returns-else-place-len
returns-else-place-len c =
    let old = c.args.units.now.items in
    let place : IsFrontPlace c.args.next old c.place_of-place.result = subst (λ cs. IsFrontPlace c.args.next cs c.place_of-place.result) c.as_slice.ensures.value c.place_of-place.ensures in
    let full : length old ≡ 64 = eqb-true (length old) 64 (sym c.is_full.ensures.value ∙ c.if-not-is_full.false) in
    let past : 64 ≤ c.place_of-place.result = omega (arith, full, c.if-place-len.false, c.len.ensures.value) in
    record {
      place = c.place_of-place.result;
      is_place = place;
      is = sym (take_insert old 64 c.place_of-place.result c.args.next past place.within ∙ take_all 64 old (omega (arith, full)));
    }
