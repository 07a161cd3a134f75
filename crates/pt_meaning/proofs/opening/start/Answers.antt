use Rattle.std.proofs.Common.{◌≤◌, ◌∙◌, ap, sym, subst}
use Rattle.std.proofs.lemmas.Result.{IfOk-weaker}
use Rattle.pt_semantics.specs.Meaning.{added}
use Rattle.pt_meaning.specs.Early.{early_waits}
use Rattle.pt_meaning.specs.Opening.{start_one}
use Rattle.pt_meaning.proofs.Opens.{start_within}
use Rattle.pt_meaning.proofs.opening.start.Goals as goal

pub returns-then-start-until-clause-waits : goal.returns-then-start-until-clause-waits
returns-then-start-until-clause-waits c = IfOk-weaker c.begin.result _ _ (λ u h g until.
    let within : c.in-Every.start ≤ g.until = subst (λ z. c.in-Every.start ≤ z) (sym until) c.if-start-until.true in
    h ∙ ap (added (early_waits c.args.events.now.items))
    (start_within g c.args.actor c.in-Every.start c.in-Every.period within ∙ ap (start_one g c.args.actor) (sym c.in-Every.is))) c.begin.ensures.waits
