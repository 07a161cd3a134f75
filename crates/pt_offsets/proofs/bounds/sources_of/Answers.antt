use Rattle.std.proofs.Common.{◌≡◌, ◌+◌, ◌++◌, ◌∷◌, [], None, sym, subst, ◌∙◌, ap}
use Rattle.pt_offsets.specs.Bounded.{bound_at}
use Rattle.pt_offsets.specs.Sources.{AreSourcesUpTo}
use Rattle.pt_offsets.proofs.Listed.{is_absent, one_with, one_without}
use Rattle.pt_offsets.proofs.bounds.sources_of.Goals as goal
use Rattle.pt_offsets.proofs.bounds.sources_of.Goals.{then-is_some+in_ok-push, else-is_some}

pub loop-number-preserved : goal.loop-number-preserved
loop-number-preserved c =
    let n = c.loop-number.number in
    let bounds = c.args.bounds.now in
    let sources = c.loop-number.sources.items in
    elim c.if-is_some.branch [
      | then-is_some+in_ok-push w ↦
          let items : c.if-is_some.sources.items ≡ sources ++ n ∷ [] = ap (λ v. v.items) w.sources-is ∙ w.in_ok-push.ensures.items in
          subst (AreSourcesUpTo (n + 1) bounds) (sym items) (one_with bounds sources n c.loop-number.invariant)
      | else-is_some w ↦
          let none : bound_at bounds n ≡ None = is_absent (bound_at bounds n) (sym c.is_some.ensures ∙ w.if-is_some.false) in
          subst (AreSourcesUpTo (n + 1) bounds) (sym (ap (λ v. v.items) w.sources-is)) (one_without bounds sources n c.loop-number.invariant none)
    ]
