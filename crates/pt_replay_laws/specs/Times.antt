-- True times of a replay: when its rounds are, and when messages arrive.
use Rattle.std.specs.Prelude.{◌≡◌, ◌<◌, ◌≤◌, ℕ, List, false, length}
use Rattle.pt_types.specs.declared.graph.Graph.{Graph}
use Rattle.pt_types.specs.declared.rows.Row.{Row}
use Rattle.pt_semantics.specs.Lists.{Each}
use Rattle.pt_semantics.specs.Ranks.{AreLevels}
use Rattle.pt_semantics.specs.Rows.{FitRows}
use Rattle.pt_semantics.specs.Visits.{VisitRecord}
use Rattle.pt_semantics.specs.Wired.{IsWired}
use Rattle.pt_types.specs.declared.air.Air.{Air}
use Rattle.pt_semantics.specs.Arrivals.{NeverFall}
use Rattle.pt_replay_laws.specs.ReplayRounds.{ReplayRound, FollowsAt, IsQuiet, IsReplay, IsReplayInRound}
use Rattle.pt_replay_laws.specs.ReplayState.{CanHappen, ReplayState}

-- after a quiet round without a fault all that can still happen is later: no message on its way has arrived
abbrev pub HappensLater : Type 0
HappensLater = (g : Graph) (level : ℕ → ℕ) (air : Air) (rows : ℕ → List Row) (rounds : List (List VisitRecord)) (now : ℕ) (x : ReplayState) (ms : List VisitRecord) (y : ReplayState) →
    IsWired g → AreLevels g level → FitRows g rows → IsReplay g level air rows rounds now x → ReplayRound g level air now (length g.platforms) 0 x ms y →
    Each (λ (m : VisitRecord). m.fault ≡ false) ms → IsQuiet x ms y → (time : ℕ) → CanHappen g air y time → now < time

-- true time never falls
abbrev pub TimeNeverFalls : Type 0
TimeNeverFalls = (g : Graph) (level : ℕ → ℕ) (air : Air) (rows : ℕ → List Row) (rounds : List (List VisitRecord)) (now next : ℕ) (x : ReplayState) (ms : List VisitRecord) (y : ReplayState) →
    IsWired g → AreLevels g level → FitRows g rows → IsReplay g level air rows rounds now x → ReplayRound g level air now (length g.platforms) 0 x ms y →
    Each (λ (m : VisitRecord). m.fault ≡ false) ms → FollowsAt g air now x ms y next → now ≤ next

-- the messages on their way on a link arrive one after another, as they were put
abbrev pub ArrivalsNeverFall : Type 0
ArrivalsNeverFall = (g : Graph) (level : ℕ → ℕ) (air : Air) (rows : ℕ → List Row) (rounds : List (List VisitRecord)) (now n : ℕ) (ms : List VisitRecord) (y : ReplayState) →
    IsWired g → AreLevels g level → FitRows g rows → IsReplayInRound g level air rows rounds now n ms y → (l : ℕ) → NeverFall 0 (y.airways l).on_way (y.airways l).latest
