use Rattle.std.proofs.Common.{◌∙◌, ap, ap₂, subst, IsSome}
use Rattle.pt_types.specs.Ports.{at_port, eight}
use Rattle.pt_semantics.specs.Lists.{or_else}
use Rattle.pt_semantics.specs.Meaning.{added}
use Rattle.pt_meaning.specs.Waiting.{place_of, waits_in}
use Rattle.pt_meaning.specs.Current.{current_value}
use Rattle.pt_meaning.specs.Held.{pending_value}
use Rattle.pt_meaning.proofs.Both.{first_early, without_both}
use Rattle.pt_meaning.proofs.Parts.{sound_near, sound_far, sound_both}
use Rattle.pt_meaning.proofs.late.Late.take.Goals as goal

pub returns-clause-inputs : goal.returns-clause-inputs
returns-clause-inputs c = λ rank actors steps sound first.
    let n = waits_in rank (pending_value c.args.self.now.pending) in let f = waits_in rank (current_value c.args.self.now.current) in
    c.take-2.ensures.inputs rank actors steps (sound_near (pending_value c.args.self.now.pending) (current_value c.args.self.now.current) rank actors steps sound) (first_early rank n f c.args.actor c.args.tag first)
    ∙ ap (λ m. eight (λ p. or_else (n c.args.actor p c.args.tag) (at_port m p))) (c.take.ensures.inputs rank actors steps (sound_far (pending_value c.args.self.now.pending) (current_value c.args.self.now.current) rank actors steps sound))

pub returns-clause-waits : goal.returns-clause-waits
returns-clause-waits c = λ rank actors steps sound first.
    let n = waits_in rank (pending_value c.args.self.now.pending) in let f = waits_in rank (current_value c.args.self.now.current) in
    ap₂ added
    (c.take-2.ensures.waits rank actors steps (sound_near (pending_value c.args.self.now.pending) (current_value c.args.self.now.current) rank actors steps sound) (first_early rank n f c.args.actor c.args.tag first))
    ((λ i a p t. c.begin.ensures (place_of rank a p t) i) ∙ c.take.ensures.waits rank actors steps (sound_far (pending_value c.args.self.now.pending) (current_value c.args.self.now.current) rank actors steps sound))
    ∙ without_both n f c.args.actor c.args.tag

pub returns-clause-sound : goal.returns-clause-sound
returns-clause-sound c = λ rank actors steps sound.
    sound_both (pending_value c.take-2.new.self) (current_value c.begin.new.self) rank actors steps
    (c.take-2.ensures.sound rank actors steps (sound_near (pending_value c.args.self.now.pending) (current_value c.args.self.now.current) rank actors steps sound))
    (λ x h. c.take.ensures.sound rank actors steps (sound_far (pending_value c.args.self.now.pending) (current_value c.args.self.now.current) rank actors steps sound) x (subst IsSome (c.begin.ensures x) h))
