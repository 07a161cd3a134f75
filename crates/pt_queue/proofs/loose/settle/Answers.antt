use Rattle.std.proofs.Common.{◌≡◌, ◌<◌, List, [], ◌∷◌, Some, drop, if◌then◌else◌, length, sym, ap, ap₂, subst, ◌∙◌, arith}
use Rattle.pt_types.specs.declared.firing.Event.{Event}
use Rattle.pt_semantics.specs.Lists.{Each}
use Rattle.pt_semantics.proofs.Lookups.{none_some, same_some}
use Rattle.pt_queue.specs.Lines.{AreKept, first, joined_by, line_of_event, with_events}
use Rattle.pt_queue.proofs.Flat.{joined_kept, joined_length}
use Rattle.pt_queue.proofs.loose.settle.Goals as goal

-- the first event and the others
split : (es : List Event) (e : Event) → Some e ≡ first es → es ≡ e ∷ drop 1 es
split [] e h = absurd (none_some e (sym h))
split (x ∷ es) e h = ap (λ y. y ∷ es) (sym (same_some e x h))

pub settle_one-requires : goal.settle_one-requires
settle_one-requires c =
    let is : c.loop.loose.items ≡ c.in-Some.event ∷ drop 1 c.loop.loose.items = split c.loop.loose.items c.in-Some.event (sym c.in-Some.is ∙ c.first.ensures) in
    (subst (Each (λ (e : Event). line_of_event e < length c.loop.lines)) is c.loop.invariant.there).0

pub loop-preserved : goal.loop-preserved
loop-preserved c =
    let e = c.in-Some.event in
    let is : c.loop.loose.items ≡ e ∷ drop 1 c.loop.loose.items = split c.loop.loose.items e (sym c.in-Some.is ∙ c.first.ensures) in
    let lines : c.settle_one.new.lines ≡ joined_by c.loop.lines e = c.settle_one.ensures ∙ ap (λ b. if b then joined_by c.loop.lines e else c.loop.lines) c.if-not-settle_one.false in
    let loose : c.pop_front.new.self.items ≡ drop 1 c.loop.loose.items = c.pop_front.ensures.rest in
    record {
      settled = ap₂ with_events lines loose ∙ sym (ap (with_events c.loop.lines) is) ∙ c.loop.invariant.settled;
      kept = λ table k. subst (λ ls. AreKept table ls c.pop_front.new.self.items) (sym lines) (subst (AreKept table (joined_by c.loop.lines e)) (sym loose) (joined_kept table c.loop.lines e (drop 1 c.loop.loose.items) (subst (AreKept table c.loop.lines) is (c.loop.invariant.kept table k))));
      there = subst (λ ls. Each (λ (x : Event). line_of_event x < length ls) c.pop_front.new.self.items) (sym lines) (subst (Each (λ (x : Event). line_of_event x < length (joined_by c.loop.lines e))) (sym loose) (joined_length c.loop.lines e (drop 1 c.loop.loose.items) (subst (Each (λ (x : Event). line_of_event x < length c.loop.lines)) is c.loop.invariant.there).1));
      len = omega (arith, c.pop_front.ensures.len, c.loop.invariant.len);
      capacity = c.pop_front.ensures.capacity ∙ c.loop.invariant.capacity;
    }
