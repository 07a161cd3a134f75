-- What always holds of a linked platform, and what a visit does.
use Rattle.std.specs.Prelude.{◌≡◌, ◌<◌, ◌++◌, [], ℕ, Bool, List, None, Option, Some, false, length, map}
use Rattle.pt_types.specs.declared.graph.Graph.{Graph}
use Rattle.pt_types.specs.declared.firing.Done.{Done}
use Rattle.pt_types.specs.declared.firing.OnLink.{OnLink}
use Rattle.pt_types.specs.declared.firing.Task.{Task}
use Rattle.pt_types.specs.declared.rows.Row.{Row}
use Rattle.pt_types.specs.Lookups.{platform_of}
use Rattle.pt_semantics.specs.Readings.{IsReadBy}
use Rattle.pt_semantics.specs.Turn.{Turn}
use Rattle.pt_offsets.specs.Plans.{Parts}
use Rattle.pt_turn.specs.Platforms.{PlatformView, rows_at}
use Rattle.pt_turn.specs.Turned.{IsTurned, StaysThere}
use Rattle.pt_io.specs.Clocks.{AreAsAhead, HandedOut, ReportsOneMore}
use Rattle.pt_links.specs.Ends.{LinkId, SentBy, TakenBy}
use Rattle.pt_pool.specs.Ends.{AreEnds, AreNamed, TookOrderly, SentAre, TakenAre, TakenBegin, end_in, end_out, leaves, receiving_platform}
use Rattle.pt_pool.specs.Lanes.{ArePut, AreTaken}
use Rattle.pt_types.specs.Limits.{usual_claims}

-- its platform, the readings that its clock reports, the ends of its links, and whether a visit gave up for want of memory
pub record LinkedPlatformView : Type 0 where
  pub platform : PlatformView
  pub readings : Option (List ℕ)
  pub outs : List (ℕ × SentBy)
  pub ins : List (ℕ × TakenBy)
  pub marked : Bool

-- a platform and the ends of its links belong together
pub record BelongTogether (p : PlatformView) (outs : List (ℕ × SentBy)) (ins : List (ℕ × TakenBy)) : Type 0 where
  pub outs_are : AreEnds p.plan leaves p.number (map end_out outs)
  pub ins_are : AreEnds p.plan receiving_platform p.number (map end_in ins)
  pub sent : SentAre p.turns outs
  pub taken : p.fault ≡ None → TakenAre p.turns ins
  pub begins : TakenBegin p.turns ins
  pub orderly : TookOrderly ins

-- the turns were made at the readings that a clock handed out since `began`
abbrev pub AreRead : Option (ℕ → ℕ) → Option (List ℕ) → Option (List ℕ) → List Turn → Type 0
AreRead ahead began reported turns = (readings : List ℕ) × HandedOut began reported readings × AreAsAhead ahead began reported readings × IsReadBy turns readings

-- the graph of a plan; one without actors where there is none
abbrev pub plan_graph : Option Parts → Graph
plan_graph None = record { until = 0; clock_error = 0; claims = usual_claims; platforms = []; actors = []; wires = []; links = []; clock_errors = [] }
plan_graph (Some plan) = plan.graph

-- these are the parts of a linked platform of a run
pub record IsOfRun (plan : Option Parts) (rows : ℕ → List Row) (link : ℕ → LinkId) (began : Option (List ℕ)) (fixed ahead : Option (ℕ → ℕ)) (reported : Option (List ℕ)) (p : PlatformView) (outs : List (ℕ × SentBy)) (ins : List (ℕ × TakenBy)) (marked : Bool) : Type 0 where
  pub plan_is : plan ≡ Some p.plan
  pub opened : (a : ℕ) → platform_of p.plan.graph a ≡ p.number → rows_at p a ≡ rows a
  pub number : p.number < length p.plan.graph.platforms
  pub fits : BelongTogether p outs ins
  pub outs_named : AreNamed link (map end_out outs)
  pub ins_named : AreNamed link (map end_in ins)
  pub ahead_is : ahead ≡ fixed
  pub reads : marked ≡ false → AreRead fixed began reported p.turns

-- a platform without a fault was visited at a reading: it took the messages that had come, at most 64 of each link, made one
-- turn with these results, claimed these tasks, and sent what was pending
pub record WasVisited (reading most : ℕ) (dones : List Done) (old new : PlatformView) (outs outs' : List (ℕ × SentBy)) (ins ins' : List (ℕ × TakenBy)) (handed now : List Task) : Type 0 where
  pub given : List OnLink
  pub took : AreTaken ins ins' given
  pub mid : PlatformView
  pub made : IsTurned old mid reading most dones given
  pub stays : StaysThere old mid
  pub tasks : now ≡ handed ++ made.turn.claimed
  pub put : ArePut mid new outs outs'

-- one visit of a linked platform: its clock handed out one reading, at which its platform was visited
pub record LinkedVisited (most : ℕ) (dones : List Done) (old new : LinkedPlatformView) (handed now : List Task) : Type 0 where
  pub reading : ℕ
  pub readings : ReportsOneMore old.readings reading new.readings
  pub was : WasVisited reading most dones old.platform new.platform old.outs new.outs old.ins new.ins handed now
