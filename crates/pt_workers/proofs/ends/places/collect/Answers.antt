use Rattle.std.proofs.Common.{◌≡◌, ◌+◌, ◌<◌, ◌≤◌, ℕ, List, Some, None, Option, length, set, sym, ap, subst, ◌∙◌, arith, vec_len, vec_capacity}
use Rattle.std.proofs.lemmas.Option.{slice_get_within}
use Rattle.std.specs.Prelude.{slice_get}
use Rattle.pt_workers.specs.LinkEnds.Places.{AreCollected}
use Rattle.pt_workers.proofs.LinkEnds.Laying.{Collecting, collecting_more, collecting_skip, in_place, place_is}
use Rattle.pt_workers.proofs.ends.places.collect.Goals.{then-owners-l+in-Some, else-owners-l}
use Rattle.pt_workers.proofs.ends.places.collect.Goals as goal

pub loop-l-preserved : goal.loop-l-preserved
loop-l-preserved g c =
    let inv = c.loop-l.invariant in
    let T = g.row.T.Denot in
    let old = c.args.places.now.items in
    let places = c.loop-l.places.items in
    let things = c.loop-l.things.items in
    let owners = c.args.owners.now in
    let owner = c.args.owner in
    let k = c.loop-l.l in
    elim c.if-owners-l.branch [
      | then-owners-l+in-Some w ↦
          let full = place_is owners owner old k places things inv.so_far c.loop-l-test.true w.if-owners-l.true c.requires.full in
          let low : k < length places = slice_get_within places k (Some full.0) full.1 in
          let at : slice_get places k ≡ Some (Some w.in-Some.thing) = in_place places k w.index_mut-place.result.now low w.index_mut-place.ensures.value ∙ ap Some (sym w.take.ensures.value ∙ w.in-Some.is) in
          let more = collecting_more owners owner old k places things w.in-Some.thing inv.so_far c.loop-l-test.true w.if-owners-l.true at in
          record {
            count = ap vec_len w.places-is ∙ inv.count;
            room = (subst (λ v. vec_len v ≤ k + 1) (sym w.things-is) (omega (arith, w.push_reserved.ensures.len, inv.room.0)), ap vec_capacity w.things-is ∙ w.push_reserved.ensures.capacity ∙ inv.room.1);
            so_far = subst (λ (ps : List (Option T)). Collecting owners owner (k + 1) old ps c.if-owners-l.things.items) (sym (ap (λ v. v.items) w.places-is ∙ ap (λ (o : Option T). set places k o) w.take.ensures.after))
                (subst (λ (xs : List (ℕ × T)). Collecting owners owner (k + 1) old (set places k None) xs) (sym (ap (λ v. v.items) w.things-is ∙ w.push_reserved.ensures.items)) more);
          }
      | else-owners-l w ↦ record {
        count = ap vec_len w.places-is ∙ inv.count;
        room = (subst (λ v. vec_len v ≤ k + 1) (sym w.things-is) (omega (arith, inv.room.0)), ap vec_capacity w.things-is ∙ inv.room.1);
        so_far = subst (λ (ps : List (Option T)). Collecting owners owner (k + 1) old ps c.if-owners-l.things.items) (sym (ap (λ v. v.items) w.places-is))
            (subst (λ (xs : List (ℕ × T)). Collecting owners owner (k + 1) old places xs) (sym (ap (λ v. v.items) w.things-is)) (collecting_skip owners owner old k places things inv.so_far c.loop-l-test.true w.if-owners-l.false));
      }
    ]

pub returns-clause-collected : goal.returns-clause-collected
returns-clause-collected g c = subst (λ (n : ℕ). AreCollected c.args.owners.now c.args.owner n c.args.places.now.items c.loop-l.things.items) (omega arith) c.loop-l.invariant.so_far.collected
