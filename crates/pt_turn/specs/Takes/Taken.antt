-- The messages that a platform takes in a turn.
use Rattle.std.specs.Prelude.{◌≡◌, ℕ, ◌==◌, ◌&&◌, Bool, false, List, [], ◌∷◌, ◌++◌, Some, take, slice_get}
use Rattle.pt_tags.specs.declared.message.Message.{Message}
use Rattle.pt_types.specs.declared.graph.Graph.{Graph}
use Rattle.pt_types.specs.declared.graph.Link.{Link}
use Rattle.pt_types.specs.declared.firing.OnLink.{OnLink}
use Rattle.pt_types.specs.Ports.{when}
use Rattle.pt_semantics.specs.Bounds.{link_bound}
use Rattle.pt_semantics.specs.Closing.{on_link}
use Rattle.pt_types.specs.Lookups.{platform_of}
use Rattle.pt_semantics.specs.Floor.{NothingThere}
use Rattle.pt_semantics.specs.Meaning.{Values}
use Rattle.pt_semantics.specs.Orderly.{IsOrderly}
use Rattle.pt_semantics.specs.Platform.{State}
use Rattle.pt_semantics.specs.Taking.{IsOnTime, Takes, value_of}
use Rattle.pt_turn.specs.declared.state.fields.Fields.{Fields}
use Rattle.pt_turn.specs.Fields.State.{state_of}

-- the value that a message on a link brings to its receiver
abbrev pub carried : Link → Message → Values
carried link m a p t = when (a == link.to && p == 0) (value_of t m)

-- what taking depends on besides the fields: the levels of the actors, the platform, and all messages taken before
pub record Basis : Type 0 where
  pub level : ℕ → ℕ
  pub platform : ℕ
  pub taken : List OnLink

-- a message may come after these: its link leads to the platform, and keeps its messages orderly
pub record MayArrive (g : Graph) (w : Basis) (before : List OnLink) (m : OnLink) : Type 0 where
  pub link : Link
  pub at : slice_get g.links m.link ≡ Some link
  pub home : platform_of g link.to ≡ w.platform
  pub orderly : IsOrderly g w.level link (on_link m.link before ++ m.message ∷ [])

-- each message may come after those taken before and those ahead of it
abbrev pub Arrive : Graph → Basis → List OnLink → Type 0
Arrive g w messages = (k : ℕ) (m : OnLink) → slice_get messages k ≡ Some m → MayArrive g w (w.taken ++ take k messages) m

-- after any messages that can be taken without one being late, no event waits where the next one on time goes
abbrev pub NeverTakes : Graph → Basis → State → Type 0
NeverTakes g w s = (ms : List OnLink) (got : State) (l : ℕ) (link : Link) (m : Message) → Takes g w.level w.platform s ms false got → slice_get g.links l ≡ Some link → IsOrderly g w.level link (got.taken l ++ m ∷ []) → IsOnTime got.reading (link_bound g link) m → NothingThere got.waits (carried link m)

-- the messages taken are appended to the earlier ones: all of those given unless one is late, else those up to and
-- including the late one
pub record Taken (g : Graph) (w : Basis) (old new : Fields) (before after messages : List OnLink) (late : Bool) : Type 0 where
  pub taken : List OnLink
  pub appended : after ≡ before ++ taken
  pub rest : List OnLink
  pub front : messages ≡ taken ++ rest
  pub all : late ≡ false → rest ≡ []
  pub takes : Takes g w.level w.platform (state_of old w.taken) taken late (state_of new (w.taken ++ taken))
