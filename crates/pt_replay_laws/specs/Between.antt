-- What is true between the visits of a replayed run, and of its histories at the end.
use Rattle.std.specs.Prelude.{◌≡◌, ◌<◌, ◌≤◌, ◌++◌, ℕ, List, Some, false, length, map, slice_get}
use Rattle.pt_tags.specs.declared.message.Message.{Message}
use Rattle.pt_types.specs.declared.graph.Graph.{Graph}
use Rattle.pt_types.specs.declared.graph.Link.{Link}
use Rattle.pt_types.specs.declared.rows.Row.{Row}
use Rattle.pt_types.specs.Lookups.{platform_of}
use Rattle.pt_semantics.specs.History.{IsLegal, Legal, LegalOnTime}
use Rattle.pt_semantics.specs.Kept.{kept}
use Rattle.pt_semantics.specs.Linked.{AreLinked, AreMatched, all_sent, all_taken}
use Rattle.pt_semantics.specs.Lists.{IsIn}
use Rattle.pt_semantics.specs.Orderly.{IsOrderly}
use Rattle.pt_semantics.specs.Platform.{opened}
use Rattle.pt_semantics.specs.Ranks.{AreLevels}
use Rattle.pt_semantics.specs.Rows.{FitRows}
use Rattle.pt_semantics.specs.Visits.{VisitRecord}
use Rattle.pt_semantics.specs.Wired.{IsWired}
use Rattle.pt_types.specs.declared.air.Air.{Air}
use Rattle.pt_types.specs.declared.air.InAir.{InAir}
use Rattle.pt_semantics.specs.TrueTime.{reading_at}
use Rattle.pt_fixed_order_laws.specs.Sound.{SendsNothingElse}
use Rattle.pt_replay_laws.specs.ReplayRounds.{IsReplayInRound, IsWholeReplay}
use Rattle.pt_replay_laws.specs.ReplayState.{AllFinished, ReplayState}

-- the messages on their way on link l
abbrev pub under_way : ReplayState → ℕ → List Message
under_way x l = map (λ (m : InAir). m.message) (x.airways l).on_way

-- what is true in a round at a true time, after these visits of it
pub record AreBetween (g : Graph) (level : ℕ → ℕ) (air : Air) (rows : ℕ → List Row) (now : ℕ) (ms : List VisitRecord) (y : ReplayState) : Type 0 where
  pub legal : (p : ℕ) → p < length g.platforms → Legal g level p (opened g p rows) (y.did p) (y.at p)
  -- of a platform that took no late message in this round
  pub on_time : (p : ℕ) → p < length g.platforms → ((m : VisitRecord) → IsIn m ms → m.platform ≡ p → m.late ≡ false) → LegalOnTime g level p (opened g p rows) (y.did p) (y.at p)
  pub own : (p : ℕ) → p < length g.platforms → SendsNothingElse g p (y.at p)
  -- what was sent on a link was taken, or is on its way
  pub linked : (l : ℕ) (link : Link) → slice_get g.links l ≡ Some link → all_sent l (y.did (platform_of g link.from)) ≡ all_taken l (y.did (platform_of g link.to)) ++ under_way y l
  -- what was sent on a link, and what is still to be sent, is orderly, even if its sender took a late message
  pub orderly : (l : ℕ) (link : Link) → slice_get g.links l ≡ Some link → IsOrderly g level link (all_sent l (y.did (platform_of g link.from)) ++ (y.at (platform_of g link.from)).outbox l)
  -- true time never falls: no platform has read more than its clock reads now
  pub readings : (p r : ℕ) → p < length g.platforms → (y.at p).reading ≡ Some r → r ≤ reading_at air p now

-- in each round these are true after each visit
abbrev pub VisitsKeep : Type 0
VisitsKeep = (g : Graph) (level : ℕ → ℕ) (air : Air) (rows : ℕ → List Row) (rounds : List (List VisitRecord)) (now n : ℕ) (ms : List VisitRecord) (y : ReplayState) →
    IsWired g → AreLevels g level → FitRows g rows → IsReplayInRound g level air rows rounds now n ms y → AreBetween g level air rows now ms y

-- as they are recorded, the histories of a whole replayed run are legal and matched, and linked if all platforms are finished
abbrev pub ReplaysAreLegal : Type 0
ReplaysAreLegal = (g : Graph) (level : ℕ → ℕ) (air : Air) (rows : ℕ → List Row) (y : ReplayState) →
    IsWired g → AreLevels g level → FitRows g rows → IsWholeReplay g level air rows y →
    ((p : ℕ) → p < length g.platforms → IsLegal g level p rows (kept (y.did p)) (y.at p))
    × AreMatched g (λ p. kept (y.did p)) × (AllFinished g y → AreLinked g (λ p. kept (y.did p)))
