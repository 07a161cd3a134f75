-- What the lines of a turn say of it, and the turns of which they say it.
use Rattle.std.specs.Prelude.{◌≡◌, ℕ, ◌<◌, ◌^◌, length, map}
use Rattle.pt_types.specs.declared.firing.Done.{Done}
use Rattle.pt_types.specs.declared.firing.OnLink.{OnLink}
use Rattle.pt_types.specs.declared.graph.Graph.{Graph}
use Rattle.pt_semantics.specs.Lists.{Each}
use Rattle.pt_semantics.specs.Turn.{Turn}
use Rattle.pt_tables.specs.Held.{FitsTag, IsHeld, IsHeldResult}
use Rattle.pt_audit.specs.declared.parse.hints.Hints.{Hints}

-- a message on a link of the graph, with numbers that 64 bits hold
pub record IsLoggableOn (g : Graph) (x : OnLink) : Type 0 where
  pub link : x.link < length g.links
  pub tag : FitsTag x.message
  pub value : IsHeld x.message

-- a turn of a platform of the graph, with messages on links of the graph and numbers that 64 bits hold
pub record IsLoggable (g : Graph) (p : ℕ) (t : Turn) : Type 0 where
  pub platform : p < length g.platforms
  pub first : t.first < 2 ^ 64
  pub last : t.last < 2 ^ 64
  pub count : t.count < 2 ^ 64
  pub posted : Each IsHeldResult t.posted
  pub taken : Each (IsLoggableOn g) t.taken
  pub sent : Each (IsLoggableOn g) t.sent

-- the hints are those of this turn of platform p: its readings, its count, the numbers of the results that it posted, the
-- messages that it took, how many tasks it claimed, and the messages that it sent
pub record AreHints (p : ℕ) (t : Turn) (hints : Hints) : Type 0 where
  pub platform : hints.platform ≡ p
  pub first : hints.first ≡ t.first
  pub last : hints.last ≡ t.last
  pub count : hints.count ≡ t.count
  pub posts : hints.posts.items ≡ map (λ (done : Done). done.task.number) t.posted
  pub taken : hints.taken.items ≡ t.taken
  pub claims : hints.claims ≡ length t.claimed
  pub sent : hints.sent.items ≡ t.sent
