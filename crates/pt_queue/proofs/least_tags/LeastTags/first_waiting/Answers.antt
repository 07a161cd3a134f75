use Rattle.std.proofs.Common.{◌≡◌, ◌*◌, ◌<◌, ◌≤◌, ◌+◌, None, Some, length, ap, sym, subst, ◌∙◌, arith}
use Rattle.pt_causality.specs.Before.{bit_of}
use Rattle.pt_queue.specs.Marks.{AreSummed, IsFirstMark, IsWaitingAt, most_places}
use Rattle.pt_queue.specs.Tagged.{IsFirstTag}
use Rattle.pt_queue.proofs.Searching.{first_none, first_some, place_few}
use Rattle.pt_queue.proofs.least_tags.LeastTags.first_waiting.Goals as goal

pub first_from-requires-clause-summed : goal.first_from-requires-clause-summed
first_from-requires-clause-summed c = subst (λ ws. AreSummed ws c.self.inside.summary) (sym c.as_slice.ensures.value) c.self.invariant.1

pub first_from-requires-clause-few : goal.first_from-requires-clause-few
first_from-requires-clause-few c =
    let words = c.self.invariant.0.words in
    let few = c.self.invariant.0.few in
    subst (λ ws. 64 * length ws ≤ 64 + most_places) (sym c.as_slice.ensures.value) (omega (arith, words, few))

pub waiting_at-requires : goal.waiting_at-requires
waiting_at-requires c =
    let set : bit_of c.self.inside.marks.items c.in-Some.place ≡ 1 = ap (λ ws. bit_of ws c.in-Some.place) (sym c.as_slice.ensures.value) ∙ c.in-Some.ensures.1 in
    subst (λ ts. c.in-Some.place < length ts) c.self.view_is (place_few c.self.inside.tags.items c.self.inside.marks.items c.self.invariant.0.marks_are c.in-Some.place set)

pub returns-in-None : goal.returns-in-None
returns-in-None c = subst (λ ts. IsFirstTag ts c.args.from None) c.self.view_is
    (first_none c.self.inside.tags.items c.self.inside.marks.items c.self.invariant.0.marks_are c.args.from (subst (λ ws. IsFirstMark ws c.args.from None) c.as_slice.ensures.value c.in-None.ensures))

pub returns-in-Some : goal.returns-in-Some
returns-in-Some c = subst (λ ts. IsFirstTag ts c.args.from c.waiting_at.result) c.self.view_is
    (first_some c.self.inside.tags.items c.self.inside.marks.items c.self.invariant.0.marks_are c.args.from c.in-Some.place c.waiting_at.result
    (subst (λ ws. IsFirstMark ws c.args.from (Some c.in-Some.place)) c.as_slice.ensures.value c.in-Some.ensures)
    (subst (λ ts. IsWaitingAt ts c.in-Some.place c.waiting_at.result) (sym c.self.view_is) c.waiting_at.ensures))
