-- Taking: messages come in from incoming links.
use Rattle.std.specs.Prelude.{◌≡◌, ◌==◌, ◌&&◌, if◌then◌else◌, ◌∷◌, ◌≤◌, ◌++◌, ◌+◌, ◌⊎◌, [], ℕ, ℤ, Bool, List, None, Option, Some, false, slice_get, true}
use Rattle.pt_tags.specs.declared.message.Message.TheVariants.{Event, End}
use Rattle.pt_tags.specs.declared.message.Message.{Message}
use Rattle.pt_tags.specs.declared.tag.Tag.{Tag}
use Rattle.pt_tags.specs.Tags.{same_tag}
use Rattle.pt_types.specs.declared.graph.Graph.{Graph}
use Rattle.pt_types.specs.declared.graph.Link.{Link}
use Rattle.pt_types.specs.declared.firing.OnLink.{OnLink}
use Rattle.pt_types.specs.Ports.{when}
use Rattle.pt_semantics.specs.Orderly.{IsOrderly}
use Rattle.pt_semantics.specs.Platform.{State}
use Rattle.pt_semantics.specs.Meaning.{added}
use Rattle.pt_semantics.specs.Bounds.{link_bound}
use Rattle.pt_types.specs.Lookups.{platform_of}

-- the value of a message if it is an event at this tag
abbrev pub value_of : Tag → Message → Option ℤ
value_of t (Event u v) = when (same_tag u t) (Some v)
value_of t End = None

-- a message is on time if the last reading before the turn was not
-- past its time plus the receiver's bound, or if there was none
abbrev pub IsOnTime : Option ℕ → ℕ → Message → Type 0
IsOnTime (Some p) bound (Event t v) = p ≤ t.time + bound
IsOnTime (Some p) bound End = Unit {0}
IsOnTime None bound m = Unit {0}

-- the state after a late message: it is recorded as taken, and nothing else changes
abbrev pub with_taken : State → ℕ → Message → State
with_taken s l m = record s { taken = λ k. if k == l then s.taken k ++ m ∷ [] else s.taken k }

-- the state after a message on time: an event is pending at input 0 of the receiver
abbrev pub after_message : State → ℕ → Link → Message → State
after_message s l link m = record s {
  waits = added s.waits (λ a p t. when (a == link.to && p == 0) (value_of t m));
  taken = λ k. if k == l then s.taken k ++ m ∷ [] else s.taken k;
}

-- messages are taken from incoming links, and each link's messages stay orderly. Only the last one can be late: it is
-- recorded as taken and has no effect
abbrev pub Takes : Graph → (ℕ → ℕ) → ℕ → State → List OnLink → Bool → State → Type 0
Takes g level i s [] late new = (late ≡ false) × (new ≡ s)
Takes g level i s (m ∷ ms) late new =
    (link : Link) × (slice_get g.links m.link ≡ Some link) × (platform_of g link.to ≡ i)
    × IsOrderly g level link (s.taken m.link ++ m.message ∷ [])
    × ((IsOnTime s.reading (link_bound g link) m.message × Takes g level i (after_message s m.link link m.message) ms late new)
    ⊎ ((IsOnTime s.reading (link_bound g link) m.message → ⊥) × (ms ≡ []) × (late ≡ true) × (new ≡ with_taken s m.link m.message)))
