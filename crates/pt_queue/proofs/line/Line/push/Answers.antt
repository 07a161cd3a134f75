use Rattle.std.proofs.Common.{Bool, true, false, List, [], ◌∷◌, ◌++◌, if◌then◌else◌, subst, sym}
use Rattle.std.specs.Result.{is_ok}
use Rattle.pt_types.specs.declared.firing.Event.{Event}
use Rattle.pt_queue.specs.Lines.{TagsRise}
use Rattle.pt_queue.proofs.Rising.{in_order_push}
use Rattle.pt_queue.proofs.line.Line.push.Goals as goal

either : (b : Bool) (xs : List Event) (e : Event) → TagsRise xs → TagsRise (xs ++ e ∷ []) → TagsRise (if b then xs ++ e ∷ [] else xs)
either true xs e h k = k
either false xs e h k = h

pub invariant_of-self : goal.invariant_of-self
invariant_of-self c =
    subst TagsRise (sym c.push_back.ensures.items)
    (either (is_ok c.push_back.result) c.self.inside.events.items c.args.event c.self.invariant (in_order_push c.self.inside.events.items c.args.event c.self.invariant (c.comes_last.ensures c.if-not-comes_last.false)))
