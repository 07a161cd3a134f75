use Rattle.std.proofs.Common.{◌∙◌, ap₂}
use Rattle.pt_semantics.specs.Meaning.{added}
use Rattle.pt_meaning.specs.Early.{early_waits, left}
use Rattle.pt_meaning.specs.Waiting.{waits_in}
use Rattle.pt_meaning.specs.Held.{late_value}
use Rattle.pt_meaning.proofs.Both.{first_early, first_late, without_both, taken_both}
use Rattle.pt_meaning.proofs.world.WaitingEvents.take.Goals as goal

pub returns-clause-inputs : goal.returns-clause-inputs
returns-clause-inputs c = λ rank actors steps sound first.
    let e = early_waits (left c.args.self.now.early) in let l = waits_in rank (late_value c.args.self.now.late) in
    c.put_first.ensures ∙ taken_both e l c.args.actor c.args.tag c.take-early.result c.take.new.inputs
    (c.take-early.ensures.inputs rank actors sound.early (first_early rank e l c.args.actor c.args.tag first))
    (c.take.ensures.inputs rank actors steps sound.late (first_late rank e l c.args.actor c.args.tag first))

pub returns-clause-waits : goal.returns-clause-waits
returns-clause-waits c = λ rank actors steps sound first.
    let e = early_waits (left c.args.self.now.early) in let l = waits_in rank (late_value c.args.self.now.late) in
    ap₂ added
    (c.take-early.ensures.waits rank actors sound.early (first_early rank e l c.args.actor c.args.tag first))
    (c.take.ensures.waits rank actors steps sound.late (first_late rank e l c.args.actor c.args.tag first))
    ∙ without_both e l c.args.actor c.args.tag

pub returns-clause-sound : goal.returns-clause-sound
returns-clause-sound c = λ rank actors steps sound. record {
  early = c.take-early.ensures.orderly rank actors sound.early;
  late = c.take.ensures.sound rank actors steps sound.late;
}
