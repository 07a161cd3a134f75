use Rattle.std.proofs.Common.{◌≡◌, Bool, false, true, not, refl, ap, sym, subst, ◌∙◌}
use Rattle.std.proofs.lemmas.Bool.{false≢true}
use Rattle.pt_queue.specs.Events.{waiting_in}
use Rattle.pt_semantics.specs.Safe.{IsSafe}
use Rattle.pt_turn.proofs.Claims.SafeTags.{only_tag}
use Rattle.pt_turn.proofs.claim.asked.is_asked.Goals as goal

-- a unit is safe at its least tag alone, and there it is held up
pub returns-then-is_due-clause-waits : goal.returns-then-is_due-clause-waits
returns-then-is_due-clause-waits c = λ refused busy t safe.
    let same = only_tag c.args.plan.now.graph (waiting_in c.args.fields.now.queue.events) busy c.args.reading c.args.waiting.unit t c.args.waiting.tag safe c.requires.tag in
    let behind : c.is_behind.result ≡ true = sym (not_not c.is_behind.result) ∙ ap not refused in
    c.is_behind.ensures busy c.args.reading behind (subst (IsSafe c.args.plan.now.graph (waiting_in c.args.fields.now.queue.events) busy c.args.reading c.args.waiting.unit) same safe)
  where
    not_not : (b : Bool) → not (not b) ≡ b
    not_not true = refl
    not_not false = refl

-- and there it isn't due
pub returns-else-is_due-clause-waits : goal.returns-else-is_due-clause-waits
returns-else-is_due-clause-waits c = λ refused busy t safe.
    let same = only_tag c.args.plan.now.graph (waiting_in c.args.fields.now.queue.events) busy c.args.reading c.args.waiting.unit t c.args.waiting.tag safe c.requires.tag in
    false≢true (sym refused ∙ c.is_due.ensures.1 (subst (IsSafe c.args.plan.now.graph (waiting_in c.args.fields.now.queue.events) busy c.args.reading c.args.waiting.unit) same safe).bounds)
