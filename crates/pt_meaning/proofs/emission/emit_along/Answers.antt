use Rattle.std.proofs.Common.{◌≡◌, ◌≤◌, ◌+◌, ◌∙◌, ap, sym, arith, refl, rules, subst}
use Rattle.std.proofs.lemmas.Result.{IfOk-weaker}
use Rattle.pt_tags.specs.declared.tag.Tag.{Tag}
use Rattle.pt_semantics.specs.Meaning.{added}
use Rattle.pt_meaning.specs.declared.place.EventPlace.{EventPlace}
use Rattle.pt_meaning.specs.Waiting.{waits_in, rank_in, value_at}
use Rattle.pt_meaning.specs.Held.{late_value}
use Rattle.pt_meaning.proofs.Emitting.{goes_one}
use Rattle.pt_meaning.proofs.emission.emit_along.Goals as goal

pub returns-clause-waits : goal.returns-clause-waits
returns-clause-waits c = IfOk-weaker c.add.result _ _ (λ u h g until.
    let later : Tag = record { time = c.args.tag.time + c.args.edge.weight.time; step = c.args.tag.step + c.args.edge.weight.step } in
    let place : EventPlace = record { tag = later; rank = c.rank_at.result; actor = c.args.edge.to; port = c.args.edge.input } in
    let was = h (rank_in c.args.ranks.now) c.rank_at.ensures in
    let stored : waits_in (rank_in c.args.ranks.now) (late_value c.add.new.self) ≡ added (waits_in (rank_in c.args.ranks.now) (late_value c.args.late.now)) (value_at place c.in-Some.value) = search (rules, was) in
    stored
    ∙ ap (added (waits_in (rank_in c.args.ranks.now) (late_value c.args.late.now)))
    (goes_one g c.args.edge.from c.args.edge c.args.tag later c.args.outputs.now place c.in-Some.value refl (sym c.in-Some.ensures)
    refl (subst (λ z. c.args.tag.time + c.args.edge.weight.time ≤ z) (sym until) c.if-is_past.ensures) refl refl refl)) c.add.ensures.waits

pub returns-clause-sound : goal.returns-clause-sound
returns-clause-sound c = IfOk-weaker c.add.result _ _ (λ u h actors steps usable later was.
    let step : c.args.tag.step + c.args.edge.weight.step ≤ steps = omega (arith, usable.step, later) in
    h (rank_in c.args.ranks.now) actors steps (record { rank_is = c.rank_at.ensures; actor = usable.to; port = usable.port; step = step }) was) c.add.ensures.sound
