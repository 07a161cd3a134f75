use Rattle.std.proofs.Common.{[], ◌∷◌, Option, None, sym, subst, ◌∙◌}
use Rattle.std.proofs.lemmas.Bool.{false≢true}
use Rattle.pt_queue.specs.Events.{waiting_in}
use Rattle.pt_queue.specs.declared.waiting.Waiting.{Waiting}
use Rattle.pt_turn.specs.Fields.State.{busy_in}
use Rattle.pt_semantics.specs.Safe.{IsSafe}
use Rattle.pt_turn.specs.Claims.Fronts.{AreFirst, one_of}
use Rattle.pt_turn.proofs.Claims.SafeTags.{only_tag}
use Rattle.pt_turn.proofs.Claims.Fronts.{first_put, first_skip, put_first}
use Rattle.pt_turn.proofs.claim.front.alone_with.Goals as goal

pub returns-then-not-is_safe-clause-alone : goal.returns-then-not-is_safe-clause-alone
returns-then-not-is_safe-clause-alone c = first_skip None c.args.plan.now.graph (waiting_in c.args.fields.now.queue.events) (busy_in c.args.fields.now.open_claims.items) c.args.reading c.args.waiting.unit.actor c.args.waiting.unit.group (one_of c.args.alone) c.requires.first
    (λ t safe.
    let same = only_tag c.args.plan.now.graph (waiting_in c.args.fields.now.queue.events) (busy_in c.args.fields.now.open_claims.items) c.args.reading c.args.waiting.unit t c.args.waiting.tag safe c.requires.tag in
    false≢true (sym c.if-not-is_safe.true ∙ c.is_safe.ensures.1 (subst (IsSafe c.args.plan.now.graph (waiting_in c.args.fields.now.queue.events) (busy_in c.args.fields.now.open_claims.items) c.args.reading c.args.waiting.unit) same safe)))

pub returns-in-None-clause-alone : goal.returns-in-None-clause-alone
returns-in-None-clause-alone c = first_put None c.args.plan.now.graph (waiting_in c.args.fields.now.queue.events) (busy_in c.args.fields.now.open_claims.items) c.args.reading c.args.waiting.unit.actor c.args.waiting.unit.group c.args.waiting.tag (one_of c.args.alone) (c.args.waiting ∷ [])
    c.requires.first c.requires.unit (c.is_safe.ensures.0 c.if-not-is_safe.false) (λ off. off) (put_first c.args.alone c.args.waiting (c.in-None.is))

pub returns-in-Some-clause-several : goal.returns-in-Some-clause-several
returns-in-Some-clause-several c =
    let g = c.args.plan.now.graph in
    let waits = waiting_in c.args.fields.now.queue.events in
    let busy = busy_in c.args.fields.now.open_claims.items in
    let first : AreFirst None g waits busy c.args.reading c.args.waiting.unit.actor c.args.waiting.unit.group (c.in-Some.first ∷ []) =
    subst (λ (o : Option Waiting). AreFirst None g waits busy c.args.reading c.args.waiting.unit.actor c.args.waiting.unit.group (one_of o)) c.in-Some.is c.requires.first in
    ((c.in-Some.first.tag, first.safe.0.safe), (c.args.waiting.tag, c.is_safe.ensures.0 c.if-not-is_safe.false))
