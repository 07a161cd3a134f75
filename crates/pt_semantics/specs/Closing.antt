-- Closing and sending.
use Rattle.std.specs.Prelude.{◌≡◌, ◌<◌, ◌==◌, if◌then◌else◌, ◌∷◌, ◌≤◌, ◌++◌, ◌+◌, ◌⊎◌, [], ℕ, Bool, List, None, Option, Some, false, filter_map, length, slice_get, true}
use Rattle.pt_tags.specs.declared.message.Message.{Message}
use Rattle.pt_tags.specs.declared.tag.Tag.{Tag}
use Rattle.pt_tags.specs.declared.message.Message.TheVariants.{End}
use Rattle.pt_types.specs.declared.graph.Graph.{Graph}
use Rattle.pt_types.specs.declared.graph.Link.{Link}
use Rattle.pt_types.specs.declared.firing.OnLink.{OnLink}
use Rattle.pt_types.specs.declared.graph.Unit.{Unit}
use Rattle.pt_types.specs.Ports.{when}
use Rattle.pt_semantics.specs.Platform.{State}
use Rattle.pt_semantics.specs.Bounds.{bound_of}
use Rattle.pt_types.specs.Lookups.{platform_of}

-- a platform can close at reading r: it isn't closed, no row and no message can still come, nothing waits, no claim is
-- open, and no outbox has a message
pub record CanClose (g : Graph) (i : ℕ) (s : State) (r : ℕ) : Type 0 where
  pub was_open : s.closed ≡ false
  pub bounds : (x b : ℕ) → platform_of g x ≡ i → bound_of g x ≡ Some b → g.until + b < r
  pub nothing_waits : (a p : ℕ) (t : Tag) → s.waits a p t ≡ None
  pub nothing_open : (u : Unit) → s.busy u ≡ None
  pub nothing_to_send : (l : ℕ) → s.outbox l ≡ []

-- the message `End` if the link leads from platform i, else nothing
abbrev pub end_for : Graph → ℕ → Option Link → List Message
end_for g i None = []
end_for g i (Some link) = if platform_of g link.from == i then End ∷ [] else []

-- the state after closing: `End` is added to the outbox of each outgoing link
abbrev pub shut : Graph → ℕ → State → State
shut g i s = record s {
  closed = true;
  outbox = λ l. s.outbox l ++ end_for g i (slice_get g.links l);
}

-- a platform closes if it can, unless a message was late
abbrev pub Closes : Graph → ℕ → State → ℕ → Bool → State → Type 0
Closes g i s r late new =
    (CanClose g i s r × (late ≡ false) × (new ≡ shut g i s)) ⊎ ((CanClose g i s r → late ≡ true) × (new ≡ s))

-- the messages of link l in a list for several links, in order
abbrev pub on_link : ℕ → List OnLink → List Message
on_link l xs = filter_map (λ (x : OnLink). when (x.link == l) (Some x.message)) xs

-- the state with these outboxes
abbrev pub unsent : State → (ℕ → List Message) → State
unsent s outbox = record s { outbox = outbox }

-- the first messages of each outbox are sent, at most 64 of each
abbrev pub Sends : State → List OnLink → State → Type 0
Sends s sent new = (rest : ℕ → List Message) × (new ≡ unsent s rest) × ((l : ℕ) → s.outbox l ≡ on_link l sent ++ rest l) × ((l : ℕ) → length (on_link l sent) ≤ 64)
