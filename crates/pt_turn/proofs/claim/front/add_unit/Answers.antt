use Rattle.std.proofs.Common.{sym, subst, ◌∙◌}
use Rattle.std.proofs.lemmas.Bool.{false≢true}
use Rattle.pt_queue.specs.Events.{waiting_in}
use Rattle.pt_turn.specs.Fields.State.{busy_in}
use Rattle.pt_semantics.specs.Safe.{IsSafe}
use Rattle.pt_turn.proofs.Claims.SafeTags.{only_tag}
use Rattle.pt_turn.proofs.Claims.Fronts.{first_cut, first_past, first_put, first_skip}
use Rattle.pt_turn.proofs.claim.front.add_unit.Goals as goal

pub returns-then-is_past_all-clause-first : goal.returns-then-is_past_all-clause-first
returns-then-is_past_all-clause-first c = first_past c.args.cut c.args.plan.now.graph (waiting_in c.args.fields.now.queue.events) (busy_in c.args.fields.now.open_claims.items) c.args.reading c.args.waiting.unit.actor c.args.waiting.unit.group c.args.waiting.tag c.args.units.now.items c.requires.first
    (c.is_past_all.ensures c.if-is_past_all.true)
    (λ t safe. only_tag c.args.plan.now.graph (waiting_in c.args.fields.now.queue.events) (busy_in c.args.fields.now.open_claims.items) c.args.reading c.args.waiting.unit t c.args.waiting.tag safe c.requires.tag)

pub returns-then-is_cut_off-clause-first : goal.returns-then-is_cut_off-clause-first
returns-then-is_cut_off-clause-first c = first_cut c.args.cut c.args.plan.now.graph (waiting_in c.args.fields.now.queue.events) (busy_in c.args.fields.now.open_claims.items) c.args.reading c.args.waiting.unit.actor c.args.waiting.unit.group c.args.waiting.tag c.args.units.now.items c.requires.first
    (c.is_cut_off.ensures.0 c.if-is_cut_off.true)
    (λ t safe. only_tag c.args.plan.now.graph (waiting_in c.args.fields.now.queue.events) (busy_in c.args.fields.now.open_claims.items) c.args.reading c.args.waiting.unit t c.args.waiting.tag safe c.requires.tag)

pub returns-then-not-is_free_or_known-clause-first : goal.returns-then-not-is_free_or_known-clause-first
returns-then-not-is_free_or_known-clause-first c = first_skip c.args.cut c.args.plan.now.graph (waiting_in c.args.fields.now.queue.events) (busy_in c.args.fields.now.open_claims.items) c.args.reading c.args.waiting.unit.actor c.args.waiting.unit.group c.args.units.now.items c.requires.first
    (λ t safe.
    let same = only_tag c.args.plan.now.graph (waiting_in c.args.fields.now.queue.events) (busy_in c.args.fields.now.open_claims.items) c.args.reading c.args.waiting.unit t c.args.waiting.tag safe c.requires.tag in
    false≢true (sym c.if-not-is_free_or_known.true ∙ c.is_free_or_known.ensures.1 (subst (IsSafe c.args.plan.now.graph (waiting_in c.args.fields.now.queue.events) (busy_in c.args.fields.now.open_claims.items) c.args.reading c.args.waiting.unit) same safe)))

pub returns-clause-first : goal.returns-clause-first
returns-clause-first c = first_put c.args.cut c.args.plan.now.graph (waiting_in c.args.fields.now.queue.events) (busy_in c.args.fields.now.open_claims.items) c.args.reading c.args.waiting.unit.actor c.args.waiting.unit.group c.args.waiting.tag c.args.units.now.items c.put.new.units.items
    c.requires.first c.requires.unit (c.is_free_or_known.ensures.0 c.if-not-is_free_or_known.false) (λ off. false≢true (sym c.if-is_cut_off.false ∙ c.is_cut_off.ensures.1 off)) c.put.ensures
