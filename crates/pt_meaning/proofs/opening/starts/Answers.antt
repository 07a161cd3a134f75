use Rattle.std.proofs.Common.{◌≡◌, ◌<◌, ◌∙◌, ap, refl, length, subst}
use Rattle.pt_types.specs.Lookups.{kind_of}
use Rattle.pt_semantics.specs.Meaning.{added}
use Rattle.pt_meaning.specs.Opening.{start_one}
use Rattle.pt_meaning.proofs.Opens.{starts_none, starts_more, kind_read}
use Rattle.pt_meaning.proofs.opening.starts.Goals as goal

pub loop-number-init : goal.loop-number-init
loop-number-init c = record { waits = λ none. none ∙ starts_none c.args.graph.now; sound = λ was. was }

pub loop-number-preserved : goal.loop-number-preserved
loop-number-preserved c =
    let n = c.loop-number.number in
    let g = c.args.graph.now in
    let kind : c.actor-item.result.kind ≡ kind_of c.args.graph.now c.loop-number.number = kind_read g _ n c.actor-item.result c.as_slice-actor-items.ensures (subst (λ xs. c.loop-number.number < length xs) c.as_slice-actor-items.ensures c.loop-number-test.true) c.actor-item.is in
    record {
      waits = λ none.
          c.in_ok-start.ensures.waits g refl
          ∙ ap (λ w. added w (start_one g n c.actor-item.result.kind)) (c.loop-number.invariant.waits none)
          ∙ starts_more g n c.actor-item.result.kind kind;
      sound = λ was. c.in_ok-start.ensures.sound (length g.actors) (subst (λ xs. c.loop-number.number < length xs) c.as_slice-actor-items.ensures c.loop-number-test.true) (c.loop-number.invariant.sound was);
    }
