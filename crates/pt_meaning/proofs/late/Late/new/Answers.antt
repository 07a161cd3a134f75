use Rattle.std.proofs.Common.{◌∙◌}
use Rattle.pt_meaning.specs.Waiting.{place_of, waits_in}
use Rattle.pt_meaning.specs.Current.{current_value}
use Rattle.pt_meaning.specs.Held.{pending_value}
use Rattle.pt_meaning.proofs.Both.{only_early}
use Rattle.pt_meaning.proofs.Currents.{none_placed}
use Rattle.pt_meaning.proofs.Parts.{sound_both}
use Rattle.pt_meaning.proofs.late.Late.new.Goals as goal

pub returns-clause-empty : goal.returns-clause-empty
returns-clause-empty c = λ rank.
    only_early (waits_in rank (pending_value c.new-pending.result)) (waits_in rank (current_value c.in_ok-current.current)) (λ a p t. c.in_ok-current.ensures (place_of rank a p t))
    ∙ c.new-pending.ensures.empty rank

pub returns-clause-sound : goal.returns-clause-sound
returns-clause-sound c = λ rank actors steps.
    sound_both (pending_value c.new-pending.result) (current_value c.in_ok-current.current) rank actors steps (c.new-pending.ensures.sound rank actors steps)
    (none_placed (current_value c.in_ok-current.current) c.in_ok-current.ensures rank actors steps)
