use Rattle.std.proofs.Common.{◌≡◌, ◌+◌, ◌<◌, ◌++◌, ◌∷◌, [], Bor, false, refl, List, Option, None, Some, length, get_or, take, drop, set, sym, ap, subst, ◌∙◌, arith, length-set}
use Rattle.std.specs.Prelude.{not, option_map, slice_get}
use Rattle.std.specs.Option.{is_some}
use Rattle.std.proofs.lemmas.Bool.{false≢true}
use Rattle.pt_semantics.proofs.Lookups.{none_some}
use Rattle.std.proofs.lemmas.Option.{slice_get-get_or}
use Rattle.pt_tags.specs.declared.message.Message.{Message}
use Rattle.pt_types.specs.declared.graph.Link.{Link}
use Rattle.pt_types.specs.Lookups.{platform_of}
use Rattle.pt_visits.specs.Pipes.{arriving, emptied}
use Rattle.pt_visits.proofs.Emptied.{emptied_elsewhere, emptied_here, emptied_none, taken_elsewhere, taken_here, taken_none}
use Rattle.pt_visits.proofs.taking.take_each.Goals as goal
use Rattle.pt_visits.proofs.taking.take_each.Goals.{then-platform_of-number+in_ok-take_from, else-platform_of-number}

abbrev no_link : Link
no_link = record { from = 0; to = 0; delay = 0 }

-- where no message is the oldest, there are none
nothing : (oldest : Option (Bor Message)) (messages : List Message) → is_some oldest ≡ false → option_map (λ (message : Bor Message). message.now) oldest ≡ slice_get messages 0 → messages ≡ []
nothing None [] none is = refl
nothing None (m ∷ messages) none is = absurd (none_some m is)
nothing (Some m) messages none is = absurd (false≢true (sym none))

pub loop-l-preserved-then-is_none : goal.loop-l-preserved-then-is_none
loop-l-preserved-then-is_none c =
    let within : c.loop-l.l < length c.loop-l.pipes = omega (arith, ap length c.as_slice-links.ensures, c.requires.links, c.loop-l.invariant.count) in
    let none : get_or c.loop-l.pipes c.loop-l.l c.index-pipes-l.result ≡ [] = nothing c.peek.result (get_or c.loop-l.pipes c.loop-l.l c.index-pipes-l.result) (c.is_none.ensures ∙ ap not c.if-is_none.true) c.peek.ensures in
    record {
      count = c.loop-l.invariant.count;
      taken = taken_none c.args.graph.now c.args.number c.loop-l.l c.loop-l.taken.items (c.args.taken.now.items ++ arriving c.args.graph.now c.args.number 0 c.args.pipes.now) c.loop-l.pipes c.index-pipes-l.result within none c.loop-l.invariant.taken;
      left = emptied_none c.args.graph.now c.args.number c.loop-l.l (emptied c.args.graph.now c.args.number 0 c.args.pipes.now) c.loop-l.pipes c.index-pipes-l.result within none c.loop-l.invariant.left;
    }

pub loop-l-preserved : goal.loop-l-preserved
loop-l-preserved c =
    let at : slice_get c.args.graph.now.links c.loop-l.l ≡ Some (get_or c.args.graph.now.links c.loop-l.l no_link) = slice_get-get_or c.args.graph.now.links c.loop-l.l no_link (omega (arith, ap length c.as_slice-links.ensures)) in
    let platform : c.platform_of.result ≡ platform_of c.args.graph.now (get_or c.args.graph.now.links c.loop-l.l no_link).to = c.platform_of.ensures ∙ ap (λ (xs : List Link). platform_of c.args.graph.now (get_or xs c.loop-l.l no_link).to) c.as_slice-links.ensures in
    let within : c.loop-l.l < length c.loop-l.pipes = omega (arith, ap length c.as_slice-links.ensures, c.requires.links, c.loop-l.invariant.count) in
    elim c.if-platform_of-number.branch [
      | then-platform_of-number+in_ok-take_from w ↦
          let home : platform_of c.args.graph.now (get_or c.args.graph.now.links c.loop-l.l no_link).to ≡ c.args.number = sym platform ∙ w.if-platform_of-number.true in
          let pipes : c.if-platform_of-number.pipes ≡ set c.loop-l.pipes c.loop-l.l [] = w.pipes-is ∙ ap (set c.loop-l.pipes c.loop-l.l) w.in_ok-take_from.ensures.pipe in
          record {
            count = ap length pipes ∙ length-set c.loop-l.pipes c.loop-l.l [] ∙ c.loop-l.invariant.count;
            taken = subst (λ (ps : List (List Message)). c.args.taken.now.items ++ arriving c.args.graph.now c.args.number 0 c.args.pipes.now ≡ c.if-platform_of-number.taken.items ++ arriving c.args.graph.now c.args.number (c.loop-l.l + 1) (drop (c.loop-l.l + 1) ps)) (sym pipes)
                (taken_here c.args.graph.now c.args.number c.loop-l.l c.loop-l.taken.items c.if-platform_of-number.taken.items c.loop-l.pipes (get_or c.args.graph.now.links c.loop-l.l no_link) w.index-pipes-l-then-platform_of-number.result within at
                (c.args.taken.now.items ++ arriving c.args.graph.now c.args.number 0 c.args.pipes.now) home c.loop-l.invariant.taken (ap (λ t. t.items) w.taken-is ∙ w.in_ok-take_from.ensures.taken));
            left = subst (λ (ps : List (List Message)). emptied c.args.graph.now c.args.number 0 c.args.pipes.now ≡ take (c.loop-l.l + 1) ps ++ emptied c.args.graph.now c.args.number (c.loop-l.l + 1) (drop (c.loop-l.l + 1) ps)) (sym pipes)
                (emptied_here c.args.graph.now c.args.number c.loop-l.l c.loop-l.taken.items c.if-platform_of-number.taken.items c.loop-l.pipes (get_or c.args.graph.now.links c.loop-l.l no_link) w.index-pipes-l-then-platform_of-number.result within at
                (emptied c.args.graph.now c.args.number 0 c.args.pipes.now) home c.loop-l.invariant.left);
          }
      | else-platform_of-number w ↦
          let away : platform_of c.args.graph.now (get_or c.args.graph.now.links c.loop-l.l no_link).to ≡ c.args.number → ⊥ = λ same. w.if-platform_of-number.false (platform ∙ same) in
          record {
            count = ap length w.pipes-is ∙ c.loop-l.invariant.count;
            taken = subst (λ (ps : List (List Message)). c.args.taken.now.items ++ arriving c.args.graph.now c.args.number 0 c.args.pipes.now ≡ c.if-platform_of-number.taken.items ++ arriving c.args.graph.now c.args.number (c.loop-l.l + 1) (drop (c.loop-l.l + 1) ps)) (sym w.pipes-is)
                (taken_elsewhere c.args.graph.now c.args.number c.loop-l.l c.if-platform_of-number.taken.items c.loop-l.taken.items c.loop-l.pipes (get_or c.args.graph.now.links c.loop-l.l no_link) [] within at
                (c.args.taken.now.items ++ arriving c.args.graph.now c.args.number 0 c.args.pipes.now) away (c.loop-l.invariant.taken ∙ ap (λ t. t.items ++ arriving c.args.graph.now c.args.number c.loop-l.l (drop c.loop-l.l c.loop-l.pipes)) (sym w.taken-is)));
            left = subst (λ (ps : List (List Message)). emptied c.args.graph.now c.args.number 0 c.args.pipes.now ≡ take (c.loop-l.l + 1) ps ++ emptied c.args.graph.now c.args.number (c.loop-l.l + 1) (drop (c.loop-l.l + 1) ps)) (sym w.pipes-is)
                (emptied_elsewhere c.args.graph.now c.args.number c.loop-l.l c.loop-l.taken.items c.loop-l.taken.items c.loop-l.pipes (get_or c.args.graph.now.links c.loop-l.l no_link) [] within at
                (emptied c.args.graph.now c.args.number 0 c.args.pipes.now) away c.loop-l.invariant.left);
          }
    ]
