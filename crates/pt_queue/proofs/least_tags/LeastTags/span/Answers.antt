use Rattle.std.proofs.Common.{None, slice_index_or, ap, sym, subst, ◌∙◌}
use Rattle.pt_causality.specs.Before.{bit_of}
use Rattle.pt_queue.specs.Marks.{AreSummed, one_if}
use Rattle.pt_queue.proofs.least_tags.LeastTags.span.Goals as goal

pub span_of-requires : goal.span_of-requires
span_of-requires c = subst (λ ws. AreSummed ws c.self.inside.summary) (sym c.as_slice.ensures.value) c.self.invariant.1

pub returns : goal.returns
returns c = λ n one. c.span_of.ensures n (ap (λ ws. bit_of ws n) c.as_slice.ensures.value ∙ c.self.invariant.0.marks_are n ∙ ap (λ ts. one_if (slice_index_or ts n None)) c.self.view_is ∙ one)
