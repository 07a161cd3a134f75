use Rattle.std.proofs.Common.{◌≡◌, ◌+◌, ◌<◌, ◌++◌, ◌∷◌, [], ℕ, List, Some, length, get_or, take, refl, sym, ap, subst, ◌∙◌, arith, rules, slice_get}
use Rattle.std.proofs.lemmas.List.{take_more}
use Rattle.std.proofs.lemmas.Option.{slice_get-get_or}
use Rattle.pt_types.specs.declared.firing.Done.{Done}
use Rattle.pt_history.specs.Lists.{on_last}
use Rattle.pt_history.specs.Turns.{posting}
use Rattle.pt_history.proofs.LastMember.{length-on_last}
use Rattle.pt_turn.specs.Posts.Posted.{ArePlaces, picked}
use Rattle.pt_turn.proofs.Posts.Posting.{picked_more, read_each}
use Rattle.pt_turn.proofs.Changing.{posts_more, posts_none}
use Rattle.pt_turn.proofs.kept_turn.keep_posted.Goals as goal

pub loop-place-init : goal.loop-place-init
loop-place-init c = record { turns = posts_none [] c.args.history.now.turns refl; room = search rules }

pub post-requires-clause-begun : goal.post-requires-clause-begun
post-requires-clause-begun c =
    let n : length c.loop-place.history.turns ≡ length c.args.history.now.turns = ap length c.loop-place.invariant.turns ∙ length-on_last (posting (picked c.args.dones.now (take c.loop-place.place-index c.as_slice-place-items.result.now))) c.args.history.now.turns in
    omega (arith, n, c.requires.begun)

pub loop-place-preserved : goal.loop-place-preserved
loop-place-preserved c =
    let places : List ℕ = c.as_slice-place-items.result.now in
    let place : ℕ = get_or places c.loop-place.place-index 0 in
    let fine : ArePlaces c.args.dones.now places = subst (ArePlaces c.args.dones.now) (sym c.as_slice-place-items.ensures.value) c.requires.places in
    let within : place < length c.args.dones.now = read_each (λ (p : ℕ). p < length c.args.dones.now) places c.loop-place.place-index 0 fine c.loop-place-test.true in
    let at : slice_get c.args.dones.now place ≡ Some c.index-dones-place.result = slice_get-get_or c.args.dones.now place c.index-dones-place.result within ∙ ap Some (sym c.index-dones-place.is) in
    let more : picked c.args.dones.now (take (c.loop-place.place-index + 1) places) ≡ picked c.args.dones.now (take c.loop-place.place-index places) ++ c.index-dones-place.result ∷ [] =
    ap (picked c.args.dones.now) (take_more places c.loop-place.place-index 0 c.loop-place-test.true) ∙ picked_more c.args.dones.now (take c.loop-place.place-index places) place c.index-dones-place.result at in
    let one : c.from_ref.result.now ≡ c.index-dones-place.result ∷ [] = c.from_ref.ensures.value ∙ ap (λ (d : Done). d ∷ []) c.as_record.ensures in
    record {
      turns = c.post.ensures.turns
          ∙ (λ i. on_last (posting (one i)) (c.loop-place.invariant.turns i))
          ∙ posts_more (picked c.args.dones.now (take c.loop-place.place-index places)) (c.index-dones-place.result ∷ []) c.args.history.now.turns
          ∙ ap (λ (ds : List Done). on_last (posting ds) c.args.history.now.turns) (sym more);
      room = search rules;
    }
