use Rattle.std.proofs.Common.{◌≡◌, Some, ◌++◌, ◌∷◌, [], ◌+◌, ◌*◌, ◌≤◌, length, get_or, take, vec_len, vec_capacity, sym, ap, subst, ◌∙◌, arith}
use Rattle.std.proofs.lemmas.Bool.{false≢true}
use Rattle.std.proofs.lemmas.List.{take_more}
use Rattle.std.proofs.lemmas.Option.{slice_get-get_or}
use Rattle.pt_turn.specs.Fields.State.{state_of, busy_in}
use Rattle.pt_turn.specs.Posts.Room.{leaving_open}
use Rattle.pt_turn.specs.Posts.Posted.{ArePlaces, Posted, IsDone, picked}
use Rattle.pt_turn.proofs.Posts.Posting.{fit_found, read_each, posted_more, posted_same, picked_more, places_more}
use Rattle.pt_turn.proofs.post.results.posts.Goals as goal
use Rattle.pt_turn.proofs.post.results.posts.Goals.{then-post, else-post}

pub post-requires-clause-fits : goal.post-requires-clause-fits
post-requires-clause-fits c = λ busy. fit_found c.args.graph.now c.loop-place.fields.open_claims.items _ _ c.loop-place.invariant.so_far.fit busy

pub post-requires-clause-absent : goal.post-requires-clause-absent
post-requires-clause-absent c = λ busy. c.requires.never [] c.loop-place.invariant.so_far.posted (state_of c.loop-place.fields []) c.as_record.result.now (c.loop-place.invariant.so_far.posts []) busy

pub loop-place-preserved : goal.loop-place-preserved
loop-place-preserved c =
    let item : c.as_record.result.now ≡ get_or c.args.dones.now c.loop-place.place c.index-dones-place.result = c.as_record.ensures ∙ c.index-dones-place.is in
    let handed : take (c.loop-place.place + 1) c.args.dones.now ≡ take c.loop-place.place c.args.dones.now ++ c.as_record.result.now ∷ [] = take_more c.args.dones.now c.loop-place.place c.index-dones-place.result c.loop-place-test.true ∙ ap (λ d. take c.loop-place.place c.args.dones.now ++ d ∷ []) (sym item) in
    let events : c.args.fields.now.queue.spare + leaving_open c.args.graph.now (busy_in c.post.new.fields.open_claims.items) c.args.graph.now.wires ≤ c.post.new.fields.queue.spare + leaving_open c.args.graph.now (busy_in c.args.fields.now.open_claims.items) c.args.graph.now.wires = omega (arith, c.post.ensures.events, c.loop-place.invariant.events) in
    let messages : length c.post.new.fields.outbox.items ≤ length c.args.fields.now.outbox.items + (c.loop-place.place + 1) * length c.args.graph.now.links = omega (arith, c.post.ensures.messages.1, c.loop-place.invariant.messages) in
    let room : c.args.fields.now.outbox.spare ≤ c.post.new.fields.outbox.spare + (c.loop-place.place + 1) * length c.args.graph.now.links = omega (arith, c.post.ensures.messages.0, c.loop-place.invariant.messages_room) in
    let claims : c.post.new.fields.open_claims.spare ≡ c.args.fields.now.open_claims.spare = c.post.ensures.open_claims ∙ c.loop-place.invariant.open_claims in
    let frame : (c.post.new.fields.sensors ≡ c.args.fields.now.sensors) × (c.post.new.fields.reading ≡ c.args.fields.now.reading) × (c.post.new.fields.closed ≡ c.args.fields.now.closed) × (c.post.new.fields.claims ≡ c.args.fields.now.claims) = (c.post.ensures.frame.0 ∙ c.loop-place.invariant.frame.0, c.post.ensures.frame.1 ∙ c.loop-place.invariant.frame.1, c.post.ensures.frame.2 ∙ c.loop-place.invariant.frame.2, c.post.ensures.frame.3 ∙ c.loop-place.invariant.frame.3) in
    let groups = c.post.ensures.groups ∙ c.loop-place.invariant.groups in
    elim c.if-post.branch [
      | then-post w ↦
          let items : c.if-post.kept.items ≡ c.loop-place.kept.items ++ c.loop-place.place ∷ [] = ap (λ v. v.items) w.kept-is ∙ w.push_reserved.ensures.items in
          let picks : picked c.args.dones.now c.if-post.kept.items ≡ picked c.args.dones.now c.loop-place.kept.items ++ c.as_record.result.now ∷ [] = ap (picked c.args.dones.now) items ∙ picked_more c.args.dones.now c.loop-place.kept.items c.loop-place.place c.as_record.result.now (slice_get-get_or c.args.dones.now c.loop-place.place c.index-dones-place.result c.loop-place-test.true ∙ ap Some (sym item)) in
          record {
            sound = c.post.ensures.sound;
            so_far = subst (λ ds. Posted c.args.graph.now c.args.fields.now c.post.new.fields ds (picked c.args.dones.now c.args.kept.now.items) (picked c.args.dones.now c.if-post.kept.items)) (sym handed)
                (posted_more c.args.graph.now c.args.fields.now c.loop-place.fields c.post.new.fields (take c.loop-place.place c.args.dones.now) (picked c.args.dones.now c.args.kept.now.items) (picked c.args.dones.now c.loop-place.kept.items) (picked c.args.dones.now c.if-post.kept.items) c.as_record.result.now c.loop-place.invariant.so_far picks
                (subst (IsDone c.args.graph.now) (sym item) (read_each (IsDone c.args.graph.now) c.args.dones.now c.loop-place.place c.index-dones-place.result c.requires.dones c.loop-place-test.true))
                (c.post.ensures.claimed.0 w.if-post.true) c.post.ensures.sound.open_claims (c.post.ensures.posted w.if-post.true));
            places = λ fine. subst (ArePlaces c.args.dones.now) (sym items) (places_more c.args.dones.now c.loop-place.kept.items c.loop-place.place (c.loop-place.invariant.places fine) c.loop-place-test.true);
            kept = omega (arith, ap (λ v. vec_len v) w.kept-is, w.push_reserved.ensures.len, c.loop-place.invariant.kept);
            kept_room = omega (arith, ap (λ v. vec_capacity v) w.kept-is, w.push_reserved.ensures.capacity, c.loop-place.invariant.kept_room);
            events = events;
            messages = messages;
            messages_room = room;
            open_claims = claims;
            frame = frame;
            groups = groups;
          }
      | else-post w ↦ record {
        sound = c.post.ensures.sound;
        so_far = subst (λ ds. Posted c.args.graph.now c.args.fields.now c.post.new.fields ds (picked c.args.dones.now c.args.kept.now.items) (picked c.args.dones.now c.if-post.kept.items)) (sym handed)
            (posted_same c.args.graph.now c.args.fields.now c.loop-place.fields c.post.new.fields (take c.loop-place.place c.args.dones.now) (picked c.args.dones.now c.args.kept.now.items) (picked c.args.dones.now c.loop-place.kept.items) (picked c.args.dones.now c.if-post.kept.items) c.as_record.result.now c.loop-place.invariant.so_far (ap (λ v. picked c.args.dones.now v.items) w.kept-is)
            (λ busy. false≢true (sym w.if-post.false ∙ c.post.ensures.claimed.1 busy)) (c.post.ensures.passed w.if-post.false));
        places = λ fine. subst (ArePlaces c.args.dones.now) (sym (ap (λ v. v.items) w.kept-is)) (c.loop-place.invariant.places fine);
        kept = omega (arith, ap (λ v. vec_len v) w.kept-is, c.loop-place.invariant.kept);
        kept_room = omega (arith, ap (λ v. vec_capacity v) w.kept-is, c.loop-place.invariant.kept_room);
        events = events;
        messages = messages;
        messages_room = room;
        open_claims = claims;
        frame = frame;
        groups = groups;
      }
    ]
