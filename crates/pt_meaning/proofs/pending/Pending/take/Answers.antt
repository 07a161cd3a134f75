use Rattle.std.proofs.Common.{◌∙◌, ap₂}
use Rattle.std.specs.BTreeMap as tree
use Rattle.pt_semantics.specs.Meaning.{added}
use Rattle.pt_meaning.specs.Line.{in_line}
use Rattle.pt_meaning.specs.Waiting.{place_cmp, waits_in}
use Rattle.pt_meaning.proofs.Both.{first_early, first_late, without_both}
use Rattle.pt_meaning.proofs.Parts.{sound_near, sound_far, sound_both, taken_parts}
use Rattle.pt_meaning.proofs.pending.Pending.take.Goals as goal

pub returns-clause-inputs : goal.returns-clause-inputs
returns-clause-inputs c = λ rank actors steps sound first.
    let n = in_line place_cmp c.args.self.now.line in let f = tree.get place_cmp c.args.self.now.later.events in
    taken_parts (waits_in rank n) (waits_in rank f) c.args.actor c.args.tag c.args.inputs.now c.take_all.new.inputs c.take_all-2.new.inputs
    (c.take_all.ensures.inputs rank actors steps (sound_far n f rank actors steps sound) (first_late rank (waits_in rank n) (waits_in rank f) c.args.actor c.args.tag first))
    (c.take_all-2.ensures.inputs rank actors steps (sound_near n f rank actors steps sound) (first_early rank (waits_in rank n) (waits_in rank f) c.args.actor c.args.tag first))

pub returns-clause-waits : goal.returns-clause-waits
returns-clause-waits c = λ rank actors steps sound first.
    let n = in_line place_cmp c.args.self.now.line in let f = tree.get place_cmp c.args.self.now.later.events in
    ap₂ added
    (c.take_all-2.ensures.waits rank actors steps (sound_near n f rank actors steps sound) (first_early rank (waits_in rank n) (waits_in rank f) c.args.actor c.args.tag first))
    (c.take_all.ensures.waits rank actors steps (sound_far n f rank actors steps sound) (first_late rank (waits_in rank n) (waits_in rank f) c.args.actor c.args.tag first))
    ∙ without_both (waits_in rank n) (waits_in rank f) c.args.actor c.args.tag

pub returns-clause-sound : goal.returns-clause-sound
returns-clause-sound c = λ rank actors steps sound.
    let n = in_line place_cmp c.args.self.now.line in let f = tree.get place_cmp c.args.self.now.later.events in
    sound_both (in_line place_cmp c.take_all-2.new.front) (tree.get place_cmp c.take_all.new.front.events) rank actors steps
    (c.take_all-2.ensures.sound rank actors steps (sound_near n f rank actors steps sound))
    (c.take_all.ensures.sound rank actors steps (sound_far n f rank actors steps sound))
