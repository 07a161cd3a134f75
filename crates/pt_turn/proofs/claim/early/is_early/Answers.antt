use Rattle.std.proofs.Common.{◌≡◌, not, ap, sym, subst, ◌∙◌}
use Rattle.std.proofs.lemmas.Bool.{false≢true}
use Rattle.pt_offsets.specs.Timings.{least_offset_in}
use Rattle.pt_offsets.specs.Words.{IsLeastInWord}
use Rattle.pt_turn.proofs.Claims.EarlyWords.{early_word}
use Rattle.pt_turn.proofs.claim.early.is_early.Goals as goal

pub returns : goal.returns
returns c = λ h.
    let is : c.least_in_word.result ≡ least_offset_in c.args.plan.now.offsets c.args.word = c.least_in_word.ensures ∙ ap (λ o. least_offset_in o c.args.word) c.offsets.ensures.value in
    early_word c.args.plan.now.graph c.args.fields.now c.least_in_word.result (record { time = c.not_before.result; step = 0 }) c.args.reading c.args.word c.offsets.ensures.admitted.lawful c.requires.sound
    (subst (IsLeastInWord c.args.plan.now.graph c.args.word) (sym is) (c.offsets.ensures.admitted.offsets.words c.args.word))
    (c.not_before.ensures c.args.plan.now.graph c.requires.sound.groups)
    (λ le. false≢true (sym (ap not (c.has_reached.ensures.1 le)) ∙ h))
