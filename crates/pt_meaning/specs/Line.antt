-- Events in the order of their places.
use Rattle.std.specs.Prelude.{◌≡◌, ℕ, Bool, false, List, [], ◌∷◌, cond, Option, Some, None, ℤ}
use Rattle.std.specs.declared.cmp.Ordering.{Ordering}
use Rattle.std.specs.declared.cmp.Ordering.TheVariants.{Less, Greater}
use Rattle.std.specs.Ordering.{is_eq}
use Rattle.pt_tags.specs.declared.tag.Tag.{Tag}
use Rattle.pt_semantics.specs.Lists.{Each}
use Rattle.pt_meaning.specs.Front.{is_place_of}
use Rattle.pt_meaning.specs.declared.place.EventPlace.{EventPlace}
use Rattle.pt_meaning.specs.declared.gap_buffer.Sent.{Sent}

-- the value at a place
abbrev pub in_line : (EventPlace → EventPlace → Ordering) → List Sent → EventPlace → Option ℤ
in_line cmp [] q = None
in_line cmp (e ∷ events) q = cond (is_eq (cmp e.place q)) (Some e.value) (in_line cmp events q)

-- the first event is of this tag and actor
abbrev pub begins_with : Tag → ℕ → List Sent → Bool
begins_with t actor [] = false
begins_with t actor (e ∷ events) = is_place_of t actor e.place

-- each event is before those after it
abbrev pub IsSortedLine : (EventPlace → EventPlace → Ordering) → List Sent → Type 0
IsSortedLine cmp [] = Unit {0}
IsSortedLine cmp (e ∷ events) = Each (λ (f : Sent). cmp e.place f.place ≡ Less) events × IsSortedLine cmp events

-- the events are before the place
abbrev pub AreBefore : (EventPlace → EventPlace → Ordering) → EventPlace → List Sent → Type 0
AreBefore cmp place events = Each (λ (e : Sent). cmp e.place place ≡ Less) events

-- the events are after the place
abbrev pub AreAfter : (EventPlace → EventPlace → Ordering) → EventPlace → List Sent → Type 0
AreAfter cmp place events = Each (λ (e : Sent). cmp e.place place ≡ Greater) events
