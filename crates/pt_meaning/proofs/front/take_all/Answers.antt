use Rattle.std.proofs.Common.{◌≡◌, ◌∙◌, rules, slice_set, slice_index_or, Some, None, ap, sym, subst, length, nat_lt, if◌then◌else◌}
use Rattle.pt_semantics.specs.Lists.{or_else}
use Rattle.pt_meaning.specs.Waiting.{waits_in, place_of, EventsArePlaced}
use Rattle.pt_meaning.specs.Front.{TakesOne, NoneInFront}
use Rattle.pt_meaning.proofs.Taking.{kept_more, length_put, others_more, port_low, values_more, none_left, all_taken, waits_without, sound_part}
use Rattle.pt_meaning.proofs.front.take_all.Goals as goal

pub loop-port-preserved : goal.loop-port-preserved
loop-port-preserved g c =
    let t = c.args.tag in let a = c.args.actor in let held = g.F.TakeFirst.held in
    let all = g.F.TakeFirst.held c.args.front.now in let before = g.F.TakeFirst.held c.loop-port.front in let now = g.F.TakeFirst.held c.take_first.new.self in
    let leaves : TakesOne c.args.tag c.args.actor c.in-Some.port c.in-Some.value (g.F.TakeFirst.held c.loop-port.front) (g.F.TakeFirst.held c.take_first.new.self) = search rules in
    let written : c.put_at.new.values ≡ (if nat_lt c.in-Some.port 8 then slice_set c.loop-port.inputs c.in-Some.port (Some c.in-Some.value) else c.loop-port.inputs) = search rules in
    record {
      len = ap length written ∙ length_put c.loop-port.inputs c.in-Some.port c.in-Some.value c.loop-port.invariant.len;
      kept = kept_more t a c.in-Some.port c.in-Some.value all before now leaves c.loop-port.invariant.kept;
      others = others_more t a c.in-Some.port c.in-Some.value all before now leaves c.loop-port.invariant.others;
      values = λ rank actors steps sound p low.
          let within = port_low rank actors steps t a c.in-Some.port c.in-Some.value all before now sound leaves c.loop-port.invariant.kept in
          let put : c.put_at.new.values ≡ slice_set c.loop-port.inputs c.in-Some.port (Some c.in-Some.value) = written ∙ ap (λ b. if b then slice_set c.loop-port.inputs c.in-Some.port (Some c.in-Some.value) else c.loop-port.inputs) within in
          rw put
          (values_more rank actors steps t a c.in-Some.port c.in-Some.value all before now c.loop-port.inputs (λ p. or_else (g.F.TakeFirst.held c.args.front.now (place_of rank c.args.actor p c.args.tag)) (slice_index_or c.args.inputs.now p None))
          c.loop-port.invariant.len sound leaves c.loop-port.invariant.kept (c.loop-port.invariant.values rank actors steps sound) p low);
    }

pub returns-clause-inputs : goal.returns-clause-inputs
returns-clause-inputs g c = λ rank actors steps sound first.
    let front : NoneInFront c.args.tag c.args.actor (g.F.TakeFirst.held c.loop-port.front) = c.in_default.ensures.none.0 in
    all_taken rank c.args.tag c.args.actor (g.F.TakeFirst.held c.args.front.now) (g.F.TakeFirst.held c.loop-port.front) c.args.inputs.now c.loop-port.inputs c.loop-port.invariant.len (c.loop-port.invariant.values rank actors steps sound)
    (none_left rank actors steps c.args.tag c.args.actor (g.F.TakeFirst.held c.args.front.now) (g.F.TakeFirst.held c.loop-port.front) sound first c.loop-port.invariant.kept front)

pub returns-clause-waits : goal.returns-clause-waits
returns-clause-waits g c = λ rank actors steps sound first.
    let none = c.in_default.ensures.none in
    ap (waits_in rank) none.1
    ∙ waits_without rank c.args.tag c.args.actor (g.F.TakeFirst.held c.args.front.now) (g.F.TakeFirst.held c.loop-port.front) c.loop-port.invariant.others
    (none_left rank actors steps c.args.tag c.args.actor (g.F.TakeFirst.held c.args.front.now) (g.F.TakeFirst.held c.loop-port.front) sound first c.loop-port.invariant.kept none.0)

pub returns-clause-sound : goal.returns-clause-sound
returns-clause-sound g c = λ rank actors steps sound.
    subst (EventsArePlaced rank actors steps) (sym c.in_default.ensures.none.1)
    (sound_part rank actors steps (g.F.TakeFirst.held c.args.front.now) (g.F.TakeFirst.held c.loop-port.front) sound c.loop-port.invariant.kept)
