-- Replayed runs: rounds at a true time, with clocks that lag and messages that take their time.
use Rattle.std.specs.Prelude.{◌≡◌, ◌<◌, ◌≤◌, ◌⊎◌, ◌∷◌, [], zero, suc, ℕ, List, false, length, true}
use Rattle.pt_types.specs.declared.graph.Graph.{Graph}
use Rattle.pt_types.specs.declared.rows.Row.{Row}
use Rattle.pt_semantics.specs.Kept.{kept}
use Rattle.pt_semantics.specs.Linked.{IsFinished}
use Rattle.pt_semantics.specs.Lists.{Each}
use Rattle.pt_semantics.specs.Turn.{Turn, is_quiet}
use Rattle.pt_semantics.specs.Visits.{VisitRecord}
use Rattle.pt_types.specs.declared.air.Air.{Air}
use Rattle.pt_replay_laws.specs.ReplayState.{AllFinished, IsVisitAt, IsNextTime, ReplayState, replay_at_start}

-- in a round each of the next n platforms, from i on, is visited once, unless it is finished
abbrev pub ReplayRound : Graph → (ℕ → ℕ) → Air → ℕ → ℕ → ℕ → ReplayState → List VisitRecord → ReplayState → Type 0
ReplayRound g level air now zero i x ms y = (ms ≡ []) × (y ≡ x)
ReplayRound g level air now (suc n) i x ms y =
    (IsFinished g i (x.at i) × ReplayRound g level air now n (suc i) x ms y)
    ⊎ ((IsFinished g i (x.at i) → ⊥) × (m : VisitRecord) × (rest : List VisitRecord) × (mid : ReplayState) × (ms ≡ m ∷ rest) × (m.platform ≡ i) × IsVisitAt g level air now x m mid × ReplayRound g level air now n (suc i) mid rest y)

-- a quiet round: no platform posted, entered, took, claimed, sent or closed
pub record IsQuiet (x : ReplayState) (ms : List VisitRecord) (y : ReplayState) : Type 0 where
  pub quiet : Each (λ (m : VisitRecord). is_quiet m.turn ≡ true) ms
  pub closed : (i : ℕ) → (y.at i).closed ≡ (x.at i).closed

-- the true time of the round after this one: the least at which something can happen if this one is quiet, else the same
abbrev pub FollowsAt : Graph → Air → ℕ → ReplayState → List VisitRecord → ReplayState → ℕ → Type 0
FollowsAt g air now x ms y next = (IsQuiet x ms y × IsNextTime g air y next) ⊎ ((IsQuiet x ms y → ⊥) × (next ≡ now))

-- rounds, one after another, from one true time to another. No round follows one with a fault, or one after which all platforms
-- are finished
abbrev pub ReplayRounds : Graph → (ℕ → ℕ) → Air → ℕ → ReplayState → List (List VisitRecord) → ℕ → ReplayState → Type 0
ReplayRounds g level air now x [] end y = (end ≡ now) × (y ≡ x)
ReplayRounds g level air now x (ms ∷ rounds) end y =
    (next : ℕ) × (mid : ReplayState) × ReplayRound g level air now (length g.platforms) 0 x ms mid × Each (λ (m : VisitRecord). m.fault ≡ false) ms × (AllFinished g mid → ⊥) × FollowsAt g air now x ms mid next × ReplayRounds g level air next mid rounds end y

-- a replayed run, up to the beginning of a round at true time `now`
pub record IsReplay (g : Graph) (level : ℕ → ℕ) (air : Air) (rows : ℕ → List Row) (rounds : List (List VisitRecord)) (now : ℕ) (y : ReplayState) : Type 0 where
  pub begins : ℕ
  pub begins_at : IsNextTime g air (replay_at_start g rows) begins
  pub goes : ReplayRounds g level air begins (replay_at_start g rows) rounds now y

-- a replayed run, up to a point within a round: the first n platforms had their visit
pub record IsReplayInRound (g : Graph) (level : ℕ → ℕ) (air : Air) (rows : ℕ → List Row) (rounds : List (List VisitRecord)) (now n : ℕ) (ms : List VisitRecord) (y : ReplayState) : Type 0 where
  pub before : ReplayState
  pub run : IsReplay g level air rows rounds now before
  pub some : n ≤ length g.platforms
  pub round : ReplayRound g level air now n 0 before ms y

-- a whole replayed run: up to a round after which all platforms are finished, or in which one has a fault
pub record IsWholeReplay (g : Graph) (level : ℕ → ℕ) (air : Air) (rows : ℕ → List Row) (y : ReplayState) : Type 0 where
  pub rounds : List (List VisitRecord)
  pub now : ℕ
  pub before : ReplayState
  pub run : IsReplay g level air rows rounds now before
  pub made : List VisitRecord
  pub round : ReplayRound g level air now (length g.platforms) 0 before made y
  pub ends : AllFinished g y ⊎ (Each (λ (m : VisitRecord). m.fault ≡ false) made → ⊥)

-- the histories of a whole replayed run
abbrev pub AreReplayed : Graph → (ℕ → ℕ) → Air → (ℕ → List Row) → (ℕ → List Turn) → Type 0
AreReplayed g level air rows histories = (y : ReplayState) × IsWholeReplay g level air rows y × ((i : ℕ) → i < length g.platforms → histories i ≡ kept (y.did i))
