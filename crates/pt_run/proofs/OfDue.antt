-- The clauses of the top call, of what is due.
use Rattle.std.proofs.Common.{◌≡◌, ℕ, List, Option, None}
use Rattle.std.specs.Prelude.{IfSome, ◌≢◌, ◌↔◌, [], flat_map}
use Rattle.pt_blocks.specs.declared.blocks.Named.{Named}
use Rattle.pt_monitors.specs.Platforms.{missed_by}
use Rattle.pt_io.specs.Calls.{Contents}
use Rattle.pt_run.specs.Complete.{IsComplete, IsCompleteByAnyClock}
use Rattle.pt_run.specs.Due.{Answer, IsDue}
use Rattle.pt_run.specs.Exact.{IsExact}
use Rattle.pt_run.specs.InBounds.{IsCompleteInBounds}
use Rattle.pt_run.specs.OverFiles.{HasHeadline}
use Rattle.pt_run.specs.Replaying.{IsReplayHeadline}
use Rattle.pt_run.specs.Statuses.{status_of}
use Rattle.pt_words.specs.Grammar.{Order}
use Rattle.pt_words.specs.Claims.{HasFewClaims}
use Rattle.pt_run.proofs.ByFault.{Ends}
use Rattle.pt_run.proofs.CauseTable.{caused}
use Rattle.pt_run.proofs.Complete as completes
use Rattle.pt_run.proofs.CompleteInBounds as in_bounds
use Rattle.pt_run.proofs.DueEnds.{due_ends}
use Rattle.pt_run.proofs.Exact as comes
use Rattle.pt_run.proofs.OneDue.{exactly}
use Rattle.pt_run.proofs.Headline as headlines
use Rattle.pt_run.proofs.Replayed as replays

module _ (order : Option Order) (contents : Contents) (blocks : List Named) (a : Answer) (due : IsDue order contents blocks a) where
  ends : Ends a.fault a.left order contents blocks a.read a.wrote
  ends = due_ends contents blocks a order due

  pub headline : HasHeadline a.fault a.left order contents blocks a.wrote
  headline = headlines.headline order contents blocks a due

  pub replay_headline : IsReplayHeadline a.fault a.left order contents blocks a.wrote
  replay_headline = replays.replay_headline order contents blocks a due

  pub exact : IfSome order HasFewClaims → IsExact a.fault order contents blocks
  exact few = exactly order contents blocks a few (comes.exact a.fault a.left order contents blocks a.read a.wrote ends) due

  pub complete_by_any_clock : IsCompleteByAnyClock a.fault a.left order contents blocks a.read a.wrote
  complete_by_any_clock = completes.complete_by_any_clock a.fault a.left order contents blocks a.read a.wrote ends

  module _ (status : ℕ) (is : status ≡ status_of a.fault a.left.misses) where
    pub complete : IsComplete status order contents blocks a.read a.wrote
    complete = completes.complete status a.fault a.left order contents blocks a.read a.wrote is ends

    pub complete_in_bounds : IsCompleteInBounds status order contents blocks a.read a.wrote
    complete_in_bounds = in_bounds.complete_in_bounds status a.fault a.left order contents blocks a.read a.wrote is ends

    pub missed : (status ≡ 5) ↔ ((a.fault ≡ None) × (a.left.misses ≢ []))
    missed = (caused status a.fault a.left order contents blocks a.read a.wrote is ends).missed

    pub misses : a.fault ≡ None → a.left.misses ≡ flat_map missed_by a.left.platforms
    misses = (caused status a.fault a.left order contents blocks a.read a.wrote is ends).missed_are
