-- A word of units is passed over if even its least time and its least offset are past the reading.
use Rattle.std.proofs.Common.{◌≡◌, ℕ, ℤ, ◌/◌, ◌<◌, ◌≤◌, ◌≤ℤ◌, ◌+ℤ◌, pos, negsuc, Option, Some, None, arith}
use Rattle.std.proofs.lemmas.Int.{ints}
use Rattle.pt_tags.specs.declared.tag.Tag.{Tag}
use Rattle.pt_types.specs.declared.graph.Graph.{Graph}
use Rattle.pt_types.specs.declared.graph.Unit.{Unit}
use Rattle.pt_types.specs.Lawful.{IsLawful}
use Rattle.pt_semantics.specs.Paced.{at_least_zero, paced_by}
use Rattle.pt_semantics.specs.Units.{HasEvent}
use Rattle.pt_offsets.specs.Words.{IsLeastInWord}
use Rattle.pt_queue.specs.Events.{unit_place, waiting_in}
use Rattle.pt_turn.specs.declared.state.fields.Fields.{Fields}
use Rattle.pt_turn.specs.Fields.State.{IsSound}
use Rattle.pt_turn.specs.Claims.Early.{IsEarlyWord}
use Rattle.pt_turn.proofs.Claims.Fronts.{event_is_unit}
use Rattle.pt_turn.proofs.Claims.Passing.{group_is_few}
use Rattle.pt_turn.proofs.Claims.SafeTags.{bounds_paced}

not_negative : (x y : ℤ) → x ≤ℤ y → at_least_zero x ≤ at_least_zero y
not_negative (pos n) (pos m) h = omega (arith, ints, h)
not_negative (pos n) (negsuc m) h = omega (arith, ints, h)
not_negative (negsuc n) y h = omega arith

-- a later tag and a greater offset have no lesser paced reading
paced_rises : (o x : ℤ) (w t : Tag) → o ≤ℤ x → w.time ≤ t.time → paced_by (Some o) w ≤ paced_by (Some x) t
paced_rises o x w t le early = not_negative ((pos w.time +ℤ o) +ℤ pos 1) ((pos t.time +ℤ x) +ℤ pos 1) (omega (arith, ints, le, early))

pub early_word : (g : Graph) (f : Fields) (o : Option ℤ) (w : Tag) (r word : ℕ) → IsLawful g → IsSound g f → IsLeastInWord g word o
    → ((u : Unit) (t : Tag) → HasEvent g (waiting_in f.queue.events) u t → unit_place u / 64 ≡ word → w.time ≤ t.time) → (paced_by o w ≤ r → ⊥) → IsEarlyWord g (waiting_in f.queue.events) r word
early_word g f None w r word lawful sound least early past = absurd (past (omega arith))
early_word g f (Some o) w r word lawful sound least early past = λ u t event at due.
    let unit = event_is_unit g f u t sound event in
    let few : u.group < 8 = group_is_few g u lawful unit in
    let one = least u unit (omega (arith, few, at)) in
    let reached : paced_by (Some one.0) t ≤ r = bounds_paced g u (Some one.0) t r one.1 due in
    let rises : paced_by (Some o) w ≤ paced_by (Some one.0) t = paced_rises o one.0 w t one.2 (early u t event at) in
    past (omega (arith, reached, rises))
