use Rattle.std.proofs.Common.{◌≡◌, ◌<◌, ◌+◌, ◌++◌, ◌∷◌, [], ℕ, List, Option, unwrap_or, true, false, length, get_or, take, drop, pos, refl, sym, ap, subst, ◌∙◌, arith, append_assoc}
use Rattle.std.proofs.lemmas.Bool.{false≢true}
use Rattle.std.proofs.lemmas.List.{take_more, take-append-drop}
use Rattle.std.proofs.lemmas.Option.{get_or_from_slice_get}
use Rattle.pt_tags.specs.declared.message.Message.TheVariants.{Event}
use Rattle.pt_types.specs.declared.graph.Link.{Link}
use Rattle.pt_types.specs.declared.firing.OnLink.{OnLink}
use Rattle.pt_semantics.specs.Bounds.{link_bound}
use Rattle.pt_semantics.specs.Floor.{NothingThere}
use Rattle.pt_semantics.specs.Meaning.{added}
use Rattle.pt_semantics.specs.Platform.{State}
use Rattle.pt_semantics.specs.Taking.{Takes, IsOnTime}
use Rattle.pt_offsets.specs.Timings.{bound_in}
use Rattle.pt_queue.specs.Events.{waiting_in}
use Rattle.pt_turn.specs.declared.state.fields.Fields.{Fields}
use Rattle.pt_turn.specs.Fields.State.{state_of}
use Rattle.pt_turn.specs.Takes.Taken.{carried}
use Rattle.pt_turn.proofs.Takes.Messages.{takes_on, takes_late, state_on, state_late, some_below, on_at, off_at, comes_at, receiver_unit, bound_is, sound_on}
use Rattle.pt_turn.proofs.take.taking.takes.Goals as goal

abbrev no_message : OnLink
no_message = record { link = 0; message = Event (record { time = 0; step = 0 }) (pos 0) }

abbrev no_link : Link
no_link = record { from = 0; to = 0; delay = 0 }

pub bounds-links-message : goal.bounds-links-message
bounds-links-message g c =
    let graph = c.args.graph.now in
    let m : OnLink = get_or c.args.messages.now c.loop-message.message-index no_message in
    let come = comes_at graph g.basis c.args.messages.now c.loop-message.message-index no_message c.requires.1.1.1.0 c.loop-message-test.true in
    subst (λ (ls : List Link). m.link < length ls) (sym c.as_slice-links.ensures) (some_below graph.links m.link come.link come.at)

pub deliver-requires-clause-actor : goal.deliver-requires-clause-actor
deliver-requires-clause-actor g c =
    let graph = c.args.graph.now in
    let m : OnLink = get_or c.args.messages.now c.loop-message.message-index no_message in
    let come = comes_at graph g.basis c.args.messages.now c.loop-message.message-index no_message c.requires.1.1.1.0 c.loop-message-test.true in
    let link : get_or c.as_slice-links.result.now m.link no_link ≡ come.link = ap (λ (ls : List Link). get_or ls m.link no_link) c.as_slice-links.ensures ∙ get_or_from_slice_get graph.links m.link come.link no_link come.at in
    let to : come.link.to < length graph.actors = (receiver_unit graph m.link come.link c.requires.1.0 come.at).0 in
    subst (λ (z : Link). z.to < length c.loop-message.fields.queue.groups) (sym link) (subst (λ n. come.link.to < n) (sym c.loop-message.invariant.sound.groups.len) to)

pub deliver-requires-clause-absent : goal.deliver-requires-clause-absent
deliver-requires-clause-absent g c =
    let graph = c.args.graph.now in
    let m : OnLink = get_or c.args.messages.now c.loop-message.message-index no_message in
    let come = comes_at graph g.basis c.args.messages.now c.loop-message.message-index no_message c.requires.1.1.1.0 c.loop-message-test.true in
    let link : get_or c.as_slice-links.result.now m.link no_link ≡ come.link = ap (λ (ls : List Link). get_or ls m.link no_link) c.as_slice-links.ensures ∙ get_or_from_slice_get graph.links m.link come.link no_link come.at in
    let bound : c.bound.result ≡ link_bound graph come.link = c.bound.ensures ∙ ap (λ (o : Option ℕ). unwrap_or o 0) (ap (λ (z : Link). bound_in c.args.offsets.now z.to) link ∙ bound_is graph c.args.offsets.now m.link come.link c.requires.1.0 c.requires.1.1.0 come.at) in
    let on : IsOnTime c.loop-message.fields.reading (link_bound graph come.link) m.message = subst (λ b. IsOnTime c.loop-message.fields.reading b m.message) bound (on_at c.is_on_time.result (IsOnTime c.loop-message.fields.reading c.bound.result m.message) c.is_on_time.ensures c.if-not-is_on_time.false) in
    let so_far : List OnLink = take c.loop-message.message-index c.args.messages.now in
    let front : take (c.loop-message.message-index + 1) c.args.messages.now ≡ so_far ++ m ∷ [] = take_more c.args.messages.now c.loop-message.message-index no_message c.loop-message-test.true in
    let old : State = state_of c.args.fields.now g.basis.taken in
    subst (λ (z : Link). NothingThere (waiting_in c.loop-message.fields.queue.events) (carried z m.message)) (sym link)
    (c.requires.1.1.1.1.0 so_far (state_of c.loop-message.fields (g.basis.taken ++ so_far)) m.link come.link m.message c.loop-message.invariant.takes come.at come.orderly on)

pub loop-message-preserved : goal.loop-message-preserved
loop-message-preserved g c =
    let graph = c.args.graph.now in
    let m : OnLink = get_or c.args.messages.now c.loop-message.message-index no_message in
    let come = comes_at graph g.basis c.args.messages.now c.loop-message.message-index no_message c.requires.1.1.1.0 c.loop-message-test.true in
    let link : get_or c.as_slice-links.result.now m.link no_link ≡ come.link = ap (λ (ls : List Link). get_or ls m.link no_link) c.as_slice-links.ensures ∙ get_or_from_slice_get graph.links m.link come.link no_link come.at in
    let bound : c.bound.result ≡ link_bound graph come.link = c.bound.ensures ∙ ap (λ (o : Option ℕ). unwrap_or o 0) (ap (λ (z : Link). bound_in c.args.offsets.now z.to) link ∙ bound_is graph c.args.offsets.now m.link come.link c.requires.1.0 c.requires.1.1.0 come.at) in
    let on : IsOnTime c.loop-message.fields.reading (link_bound graph come.link) m.message = subst (λ b. IsOnTime c.loop-message.fields.reading b m.message) bound (on_at c.is_on_time.result (IsOnTime c.loop-message.fields.reading c.bound.result m.message) c.is_on_time.ensures c.if-not-is_on_time.false) in
    let so_far : List OnLink = take c.loop-message.message-index c.args.messages.now in
    let front : take (c.loop-message.message-index + 1) c.args.messages.now ≡ so_far ++ m ∷ [] = take_more c.args.messages.now c.loop-message.message-index no_message c.loop-message-test.true in
    let old : State = state_of c.args.fields.now g.basis.taken in
    let new : Fields = record c.loop-message.fields { queue = c.deliver.new.queue; none_safe_before = 0 } in
    let waits : waiting_in new.queue.events ≡ added (waiting_in c.loop-message.fields.queue.events) (carried come.link m.message) = c.deliver.ensures.waits ∙ ap (λ z. added (waiting_in c.loop-message.fields.queue.events) (carried z m.message)) link in
    record {
      sound = sound_on graph c.loop-message.fields new come.link m.message c.loop-message.invariant.sound (receiver_unit graph m.link come.link c.requires.1.0 come.at) c.deliver.ensures.groups waits (refl, refl, refl, refl, refl, refl, refl) refl;
      appended = c.in-Ok.ensures.items ∙ ap (λ xs. xs ++ m ∷ []) c.loop-message.invariant.appended ∙ append_assoc c.args.kept.now.items so_far (m ∷ []) ∙ ap (λ xs. c.args.kept.now.items ++ xs) (sym front);
      takes = subst (λ xs. Takes graph g.basis.level g.basis.platform old xs false (state_of new (g.basis.taken ++ xs))) (sym front)
          (subst (Takes graph g.basis.level g.basis.platform old (so_far ++ m ∷ []) false)
          (sym (state_on c.loop-message.fields new (g.basis.taken ++ so_far) m come.link waits (refl, refl, refl, refl, refl, refl, refl)) ∙ ap (state_of new) (append_assoc g.basis.taken so_far (m ∷ [])))
          (takes_on graph g.basis.level g.basis.platform old (state_of c.loop-message.fields (g.basis.taken ++ so_far)) so_far m come.link c.loop-message.invariant.takes come.at come.home come.orderly on));
      kept = omega (arith, c.push.ensures.upper_bound, c.loop-message.invariant.kept);
      kept_room = omega (arith, c.push.ensures.capacity, c.loop-message.invariant.kept_room);
      events = omega (arith, c.deliver.ensures.spare, c.loop-message.invariant.events);
      groups = c.deliver.ensures.groups ∙ c.loop-message.invariant.groups;
      frame = c.loop-message.invariant.frame;
    }

pub returns-then-not-is_on_time-clause-took : goal.returns-then-not-is_on_time-clause-took
returns-then-not-is_on_time-clause-took g c =
    let graph = c.args.graph.now in
    let m : OnLink = get_or c.args.messages.now c.loop-message.message-index no_message in
    let come = comes_at graph g.basis c.args.messages.now c.loop-message.message-index no_message c.requires.1.1.1.0 c.loop-message-test.true in
    let link : get_or c.as_slice-links.result.now m.link no_link ≡ come.link = ap (λ (ls : List Link). get_or ls m.link no_link) c.as_slice-links.ensures ∙ get_or_from_slice_get graph.links m.link come.link no_link come.at in
    let bound : c.bound.result ≡ link_bound graph come.link = c.bound.ensures ∙ ap (λ (o : Option ℕ). unwrap_or o 0) (ap (λ (z : Link). bound_in c.args.offsets.now z.to) link ∙ bound_is graph c.args.offsets.now m.link come.link c.requires.1.0 c.requires.1.1.0 come.at) in
    let so_far : List OnLink = take c.loop-message.message-index c.args.messages.now in
    let front : take (c.loop-message.message-index + 1) c.args.messages.now ≡ so_far ++ m ∷ [] = take_more c.args.messages.now c.loop-message.message-index no_message c.loop-message-test.true in
    let old : State = state_of c.args.fields.now g.basis.taken in
    let late : IsOnTime c.loop-message.fields.reading (link_bound graph come.link) m.message → ⊥ = subst (λ b. IsOnTime c.loop-message.fields.reading b m.message → ⊥) bound (off_at c.is_on_time.result (IsOnTime c.loop-message.fields.reading c.bound.result m.message) c.is_on_time.ensures c.if-not-is_on_time.true) in
    record {
      taken = so_far ++ m ∷ [];
      appended = c.in-Ok.ensures.items ∙ ap (λ xs. xs ++ m ∷ []) c.loop-message.invariant.appended ∙ append_assoc c.args.kept.now.items so_far (m ∷ []);
      rest = drop (c.loop-message.message-index + 1) c.args.messages.now;
      front = sym (take-append-drop (c.loop-message.message-index + 1) c.args.messages.now) ∙ ap (λ xs. xs ++ drop (c.loop-message.message-index + 1) c.args.messages.now) front;
      all = λ e. absurd (false≢true (sym e));
      takes = subst (Takes graph g.basis.level g.basis.platform old (so_far ++ m ∷ []) true)
          (sym (state_late c.loop-message.fields (g.basis.taken ++ so_far) m) ∙ ap (state_of c.loop-message.fields) (append_assoc g.basis.taken so_far (m ∷ [])))
          (takes_late graph g.basis.level g.basis.platform old (state_of c.loop-message.fields (g.basis.taken ++ so_far)) so_far m come.link c.loop-message.invariant.takes come.at come.home come.orderly late);
    }
