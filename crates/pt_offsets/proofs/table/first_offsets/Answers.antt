use Rattle.std.proofs.Common.{◌++◌, ◌∷◌, [], take, get_or, sym, ap, ap₂, ◌∙◌}
use Rattle.std.specs.Prelude.{map}
use Rattle.std.proofs.lemmas.List.{map-append, take_more}
use Rattle.pt_offsets.specs.Firsts.{first_offset}
use Rattle.pt_offsets.proofs.table.first_offsets.Goals as goal

pub loop-timing-preserved : goal.loop-timing-preserved
loop-timing-preserved c =
    let xs = c.args.timings.now in
    let n = c.loop-timing.timing-index in
    c.in_ok-push.ensures.items
    ∙ ap₂ (λ l x. l ++ x ∷ []) c.loop-timing.invariant (c.first_offset.ensures ∙ ap first_offset c.timing-item.is)
    ∙ sym (map-append first_offset (take n xs) (get_or xs n c.timing-item.result ∷ []))
    ∙ ap (map first_offset) (sym (take_more xs n c.timing-item.result c.loop-timing-test.true))
