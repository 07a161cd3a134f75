use Rattle.std.proofs.Common.{ap, ◌∙◌, length, sym, refl}
use Rattle.pt_meaning.specs.Current.{current_value}
use Rattle.pt_meaning.proofs.Currents.{nothing_waits, taken_sound, taken_values, taken_waits}
use Rattle.pt_meaning.proofs.Taking.{waits_without}
use Rattle.pt_meaning.proofs.current.Current.take.Goals as goal

pub returns-in_default-clause-inputs : goal.returns-in_default-clause-inputs
returns-in_default-clause-inputs c = λ rank actors steps sound.
    c.new.ensures ∙ nothing_waits rank (current_value c.args.self.now) c.args.actor c.args.tag (c.in_default.ensures rank)

pub returns-in_default-clause-waits : goal.returns-in_default-clause-waits
returns-in_default-clause-waits c = λ rank actors steps sound.
    waits_without rank c.args.tag c.args.actor (current_value c.args.self.now) (current_value c.args.self.now) (λ q h. refl) (c.in_default.ensures rank)

pub returns-clause-inputs : goal.returns-clause-inputs
returns-clause-inputs c = λ rank actors steps sound.
    c.take.ensures.values
    ∙ taken_values _ c.args.self.now c.self.view_is c.args.tag c.args.actor c.in-Some.position c.in-Some.ensures rank actors steps sound (ap length (sym c.take.ensures.values) ∙ c.take.ensures.len)

pub returns-clause-waits : goal.returns-clause-waits
returns-clause-waits c = λ rank actors steps sound.
    taken_waits _ c.args.self.now c.self.view_is c.args.tag c.args.actor c.in-Some.position c.in-Some.ensures rank actors steps sound _ c.take.ensures.rest

pub returns-clause-sound : goal.returns-clause-sound
returns-clause-sound c = λ rank actors steps sound.
    taken_sound _ c.args.self.now c.self.view_is c.args.tag c.args.actor c.in-Some.position c.in-Some.ensures rank actors steps sound _ c.take.ensures.rest
