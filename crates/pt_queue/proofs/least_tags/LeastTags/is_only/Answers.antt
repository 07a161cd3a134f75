use Rattle.std.proofs.Common.{ap, sym, subst, ◌∙◌, arith}
use Rattle.pt_causality.specs.Before.{bit_of}
use Rattle.pt_queue.specs.Marks.{AreSummed}
use Rattle.pt_queue.specs.Tagged.{IsOnlyTag}
use Rattle.pt_queue.proofs.Searching.{only_tagged}
use Rattle.pt_queue.proofs.least_tags.LeastTags.is_only.Goals as goal

pub is_only-requires : goal.is_only-requires
is_only-requires c = subst (λ ws. AreSummed ws c.self.inside.summary) (sym c.as_slice.ensures.value) c.self.invariant.1

pub returns : goal.returns
returns c = λ yes. subst (λ ts. IsOnlyTag ts c.args.unit) c.self.view_is
    (only_tagged c.self.inside.tags.items c.self.inside.marks.items c.self.invariant.0.marks_are c.args.unit (omega (arith, c.if-unit-ge8.false))
    (λ n one. c.is_only.ensures yes n (ap (λ ws. bit_of ws n) c.as_slice.ensures.value ∙ one) ∙ c.place_of.ensures))
