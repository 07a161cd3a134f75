use Rattle.std.proofs.Common.{◌≡◌, ◌<◌, ◌^◌, ℕ, List, [], ◌∷◌, ap, subst, ◌∙◌, arith, length, map}
use Rattle.pt_types.specs.declared.firing.Done.{Done}
use Rattle.pt_semantics.specs.Lists.{Each}
use Rattle.pt_audit.specs.Parsing.Hints.{IsLoggableOn}
use Rattle.pt_audit.proofs.matching.are_loggable.Goals as goal

each_mapped : (ds : List Done) → Each (λ (n : ℕ). n < 2 ^ 64) (map (λ (done : Done). done.task.number) ds) → Each (λ (done : Done). done.task.number < 2 ^ 64) ds
each_mapped [] h = tt
each_mapped (d ∷ ds) h = (h.0, each_mapped ds h.1)

pub returns-clause-yes : goal.returns-clause-yes
returns-clause-yes c = λ e p turn h.
    let fits = c.numbers_fit.ensures in
    let platforms : length c.as_slice-2.result.now ≡ length c.args.graph.now.platforms = ap length c.as_slice-2.ensures in
    record {
      platform = omega (arith, platforms, h.platform, c.if-hints-as_slice.false);
      first = subst (λ n. n < 2 ^ 64) h.first fits.0;
      last = subst (λ n. n < 2 ^ 64) h.last fits.1;
      count = subst (λ n. n < 2 ^ 64) h.count fits.2;
      posted = each_mapped turn.posted (subst (Each (λ (n : ℕ). n < 2 ^ 64)) (c.as_slice.ensures.value ∙ h.posts) c.all_fit.ensures);
      taken = subst (Each (IsLoggableOn c.args.graph.now)) (c.as_slice-3.ensures.value ∙ h.taken) (c.are_on_links.ensures.0 c.if-not-are_on_links.false);
      sent = subst (Each (IsLoggableOn c.args.graph.now)) (c.as_slice-4.ensures.value ∙ h.sent) (c.are_on_links-2.ensures.0 e);
    }

pub returns-clause-platform : goal.returns-clause-platform
returns-clause-platform c = λ e.
    let platforms : length c.as_slice-2.result.now ≡ length c.args.graph.now.platforms = ap length c.as_slice-2.ensures in
    omega (arith, platforms, c.if-hints-as_slice.false)
