use Rattle.std.proofs.Common.{◌≡◌, Some, sym, ap, ◌∙◌, refl, slice_get, slice_index_or, take, w64}
use Rattle.std.proofs.lemmas.Option.{slice_get-get_or}
use Rattle.std.proofs.lemmas.Result.{on_ok_weaker}
use Rattle.std.proofs.lemmas.Int.{to_z-of_z}
use Rattle.pt_types.specs.declared.firing.ActorFiring.{ActorFiring}
use Rattle.pt_tables.specs.Gathered.{has_table, texts_from}
use Rattle.pt_tables.proofs.Gathering.{actor_of, adds_nothing, firing_at, no_firing}
use Rattle.pt_tables.proofs.text.push_firing.Goals as goal

pub returns-then-not-has_table : goal.returns-then-not-has_table
returns-then-not-has_table c =
    let x : ActorFiring = slice_index_or c.args.firings.now c.args.place no_firing in
    let by : c.in-Some.actor ≡ x.actor = actor_of c.args.firings.now c.args.place c.in-Some.actor no_firing c.requires.place (sym c.in-Some.is ∙ c.actor.ensures) in
    c.requires.tables
    ∙ sym (adds_nothing c.args.actors.now (take c.args.place c.args.firings.now) x (ap (has_table c.args.actors.now) (sym by) ∙ sym c.has_table.ensures ∙ c.if-not-has_table.true))
    ∙ ap (texts_from 0 c.args.actors.now) (sym (firing_at c.args.firings.now c.args.place x (slice_get-get_or c.args.firings.now c.args.place no_firing c.requires.place)))

pub returns : goal.returns
returns c =
    let there : slice_get c.args.firings.now c.args.place ≡ Some c.in-Some-get.firing = sym c.get.ensures ∙ c.in-Some-get.is in
    on_ok_weaker c.push.result (λ put. put ∙ ap (texts_from 0 c.args.actors.now) (sym (firing_at c.args.firings.now c.args.place c.in-Some-get.firing there)))
    (c.push.ensures (take c.args.place c.args.firings.now) c.in-Some-get.firing c.requires.tables (record { by = refl; at = refl; with_value = sym (to_z-of_z w64 c.input_value.result (record { sfits = c.input_value.type_inv }) ∙ c.input_value.ensures) }))
