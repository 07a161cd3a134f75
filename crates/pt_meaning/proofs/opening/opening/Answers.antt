use Rattle.std.proofs.Common.{◌∙◌, ap, sym, subst, length}
use Rattle.std.proofs.lemmas.Result.{IfOk-weaker}
use Rattle.pt_semantics.specs.Meaning.{added}
use Rattle.pt_meaning.specs.Waiting.{rank_in}
use Rattle.pt_meaning.specs.Early.{early_waits, AreEarly}
use Rattle.pt_meaning.specs.Opening.{rows_from_sensors}
use Rattle.pt_meaning.proofs.Opens.{opens}
use Rattle.pt_meaning.proofs.opening.opening.Goals as goal

pub returns-clause-waits : goal.returns-clause-waits
returns-clause-waits c = IfOk-weaker c.new.result _ _ (λ list h.
    let rank = rank_in c.args.ranks.now in let n = length c.args.graph.now.actors in
    h rank n
    (c.in_ok-enter_sensors.ensures.sound n c.requires.sensors (c.in_ok-starts.ensures.sound (subst (AreEarly (rank_in c.args.ranks.now) (length c.args.graph.now.actors)) (sym c.new-events.ensures.items) tt)))
    ∙ c.in_ok-enter_sensors.ensures.waits
    ∙ ap (λ w. added w (rows_from_sensors c.args.graph.now.until c.args.sensors.now)) (c.in_ok-starts.ensures.waits (ap early_waits c.new-events.ensures.items))
    ∙ opens c.args.graph.now c.args.sensors.now) c.new.ensures.waits

pub returns-clause-sound : goal.returns-clause-sound
returns-clause-sound c = IfOk-weaker c.new.result _ _ (λ list h.
    let rank = rank_in c.args.ranks.now in let n = length c.args.graph.now.actors in
    h rank n
    (c.in_ok-enter_sensors.ensures.sound n c.requires.sensors (c.in_ok-starts.ensures.sound (subst (AreEarly (rank_in c.args.ranks.now) (length c.args.graph.now.actors)) (sym c.new-events.ensures.items) tt)))) c.new.ensures.orderly
