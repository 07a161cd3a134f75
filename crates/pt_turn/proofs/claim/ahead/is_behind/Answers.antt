use Rattle.std.proofs.Common.{◌≡◌, ◌≢◌, true, false, Option, IfSome, sym, ap, subst, ◌∙◌}
use Rattle.std.proofs.lemmas.Bool.{false≢true}
use Rattle.pt_tags.specs.declared.tag.Delay.{Delay}
use Rattle.pt_types.specs.declared.graph.Unit.{Unit}
use Rattle.pt_semantics.specs.Units.{HasEvent, same_part}
use Rattle.pt_semantics.proofs.Lookups.{same_part-refl}
use Rattle.pt_causality.specs.Delays.{IsUnit, least_of, number_of}
use Rattle.pt_queue.specs.Events.{waiting_in}
use Rattle.pt_queue.specs.Scans.{reaches}
use Rattle.pt_queue.proofs.Found.{past_reach}
use Rattle.pt_turn.specs.declared.claim.ahead.Ahead.{Ahead}
use Rattle.pt_turn.specs.Claims.Ahead.{HasEventAhead}
use Rattle.pt_turn.proofs.Claims.Fronts.{event_is_unit}
use Rattle.pt_turn.proofs.claim.ahead.is_behind.Goals as goal

pub returns : goal.returns
returns c = λ busy r holds safe.
    let other = c.in-Some.other.waiting in
    let known : HasEventAhead c.args.plan.now.graph (waiting_in c.args.fields.now.queue.events) c.args.plan.now.least c.in-Some.other =
    subst (λ (o : Option Ahead). IfSome o (HasEventAhead c.args.plan.now.graph (waiting_in c.args.fields.now.queue.events) c.args.plan.now.least)) c.in-Some.is c.requires.ahead in
    let event : HasEvent c.args.plan.now.graph (waiting_in c.args.fields.now.queue.events) other.unit other.tag = known.0 in
    let unit : IsUnit c.args.plan.now.graph other.unit = event_is_unit c.args.plan.now.graph c.args.fields.now other.unit other.tag c.requires.sound event in
    let differ : other.unit ≢ c.args.unit = λ e. false≢true (sym c.if-eq.false ∙ c.eq.ensures ∙ subst (λ (z : Unit). same_part other.unit z ≡ true) e (same_part-refl other.unit)) in
    let number : c.in-Some.other.number ≡ number_of c.least.result.now other.unit = known.1 ∙ ap (λ l. number_of l other.unit) (sym c.least.ensures.value) in
    let delay : c.get_from.result ≡ least_of c.args.plan.now.least other.unit c.args.unit = c.get_from.ensures other.unit number ∙ ap (λ l. least_of l other.unit c.args.unit) c.least.ensures.value in
    let never : reaches (least_of c.args.plan.now.least other.unit c.args.unit) other.tag c.args.tag ≡ false = past_reach c.args.plan.now.graph other.unit c.args.unit (least_of c.args.plan.now.least other.unit c.args.unit) c.args.tag other.tag
    (c.least.ensures.admitted.least other.unit c.args.unit unit c.requires.unit) (λ path go. safe.events other.unit other.tag path differ event go) in
    false≢true (sym never ∙ sym (ap (λ (d : Option Delay). reaches d other.tag c.args.tag) delay) ∙ sym c.reaches.ensures ∙ holds)
