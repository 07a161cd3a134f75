-- Late entries and missed entries of the log.
use Rattle.std.specs.Prelude.{◌≡◌, ◌<◌, ◌∷◌, ◌++◌, ◌+◌, ◌⊎◌, [], ℕ, ℤ, List, Some, slice_get}
use Rattle.pt_tags.specs.declared.message.Message.TheVariants.{Event}
use Rattle.pt_tags.specs.declared.tag.Tag.{Tag}
use Rattle.pt_types.specs.declared.kind.Kind.TheVariants.{Actuator}
use Rattle.pt_types.specs.declared.firing.Done.{Done}
use Rattle.pt_types.specs.declared.graph.Graph.{Graph}
use Rattle.pt_types.specs.declared.graph.Link.{Link}
use Rattle.pt_types.specs.declared.firing.OnLink.{OnLink}
use Rattle.pt_semantics.specs.Lists.{IsIn}
use Rattle.pt_semantics.specs.Platform.{State}
use Rattle.pt_semantics.specs.Turn.{Turn}
use Rattle.pt_types.specs.Lookups.{kind_of}
use Rattle.pt_semantics.specs.Bounds.{link_bound}
use Rattle.pt_types.specs.Lookups.{slack_of}

-- a late entry: before this turn the last reading was past the time plus the bound of the last message that it takes
pub record IsLate (g : Graph) (s : State) (turn : Turn) (a : ℕ) (t : Tag) (p limit : ℕ) : Type 0 where
  pub before : List OnLink
  pub l : ℕ
  pub value : ℤ
  pub link : Link
  pub last : turn.taken ≡ before ++ record { link = l; message = Event t value } ∷ []
  pub at : slice_get g.links l ≡ Some link
  pub receiver : link.to ≡ a
  pub reading : s.reading ≡ Some p
  pub limit_is : limit ≡ t.time + link_bound g link
  pub late : limit < p

-- a missed entry: in this turn an actuator's result is posted, or a
-- sender's event is sent, later than its tag's time and the slack
abbrev pub IsMissed : Graph → Turn → ℕ → Tag → ℕ → Type 0
IsMissed g turn a t limit =
    (((d : Done) × IsIn d turn.posted × (d.task.actor ≡ a) × (d.task.tag ≡ t) × ((slack : ℕ) × (kind_of g a ≡ Actuator slack) × (limit ≡ t.time + slack)))
    ⊎ ((l : ℕ) × (value : ℤ) × (link : Link) × IsIn (record { link = l; message = Event t value }) turn.sent × (slice_get g.links l ≡ Some link) × (link.from ≡ a) × (limit ≡ t.time + slack_of (kind_of g a))))
    × (limit < turn.last)
