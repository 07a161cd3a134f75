-- A round leaves less to do, or no platform makes a move: then nothing is open after it, and where nothing was open before
-- it, it is quiet.
use Rattle.std.proofs.Common.{◌≡◌, ℕ, zero, suc, ◌+◌, ◌<◌, ◌≤◌, ◌≢◌, Bool, true, false, List, [], ◌∷◌, Option, None, ℤ, length, arith, refl, sym, ap, subst, ◌∙◌, inl, ⊎_elim}
use Rattle.pt_types.specs.declared.graph.Graph.{Graph}
use Rattle.pt_types.specs.declared.graph.Unit.{Unit}
use Rattle.pt_types.specs.declared.rows.Row.{Row}
use Rattle.pt_types.specs.declared.firing.Done.{Done}
use Rattle.pt_semantics.specs.Claiming.{Claims}
use Rattle.pt_semantics.specs.Closing.{CanClose, shut}
use Rattle.pt_semantics.specs.Entering.{after_rows}
use Rattle.pt_semantics.specs.Linked.{IsFinished}
use Rattle.pt_semantics.specs.Lists.{Each}
use Rattle.pt_semantics.specs.Offsets.{HasOffset, IsFeasible}
use Rattle.pt_semantics.specs.Platform.{State, raised}
use Rattle.pt_semantics.specs.Posting.{Posts}
use Rattle.pt_semantics.specs.Ranks.{AreLevels}
use Rattle.pt_semantics.specs.Rows.{FitRows}
use Rattle.pt_semantics.specs.Rounds.{IsQuietRound, Makes, Round}
use Rattle.pt_semantics.specs.Turn.{IsTurn, Turn}
use Rattle.pt_semantics.specs.Units.{unit_of}
use Rattle.pt_semantics.specs.Visits.{VisitRecord, RunState}
use Rattle.pt_semantics.specs.Wired.{IsWired}
use Rattle.pt_semantics.proofs.Lookups.{none_some}
use Rattle.pt_laws.proofs.Onward.{Onward, cases_same, makes_onward}
use Rattle.pt_paced_laws.proofs.PacedRuns.{round_leaves, whole_of}
use Rattle.pt_laws.proofs.Progress.{takes_grown}
use Rattle.pt_paced_laws.proofs.Moves.{Falls, IsFree, IsStill, IsStillRound, MovesNothing, all_to_do, quiet_turns, then_falls}
use Rattle.pt_paced_laws.proofs.Visits.{visit_falls}
use Rattle.pt_paced_laws.proofs.Places.{is_above, is_first, is_later, is_passed, none_left, not_before, one_fewer}

-- a turn without claims leaves nothing open
pub turn_frees : (g : Graph) (level : ℕ → ℕ) (i : ℕ) (s new : State) (turn : Turn) (late : Bool) (is : IsTurn g level i s turn late new) → ((u : Unit) → is.posted.busy u ≡ None) → turn.claimed ≡ [] → (u : Unit) → new.busy u ≡ None
turn_frees g level i s new turn late is handed none u =
    let got = takes_grown g level i turn.taken late (after_rows is.posted turn.last) (after_rows is.posted turn.last) is.got (record { waits = λ a p t v h. h; busy = λ v. refl; outbox = λ l. refl; closed = refl }) is.takes in
    let ready : is.ready ≡ raised is.got turn.last = subst (λ z. Claims g turn.last (raised is.got turn.last) z is.ready) none is.claims in
    ap (λ (z : State). z.busy u) is.sends.1
    ∙ ⊎_elim
    (λ (shuts : CanClose g i is.ready turn.last × (late ≡ false) × (is.done ≡ shut g i is.ready)). ap (λ (z : State). z.busy u) shuts.2)
    (λ (stays : (CanClose g i is.ready turn.last → late ≡ true) × (is.done ≡ is.ready)). ap (λ (z : State). z.busy u) stays.1)
    is.closes
    ∙ ap (λ (z : State). z.busy u) ready ∙ got.busy u ∙ handed u

-- where nothing is open, nothing is posted
pub nothing_posted : (g : Graph) (ds : List Done) (s new : State) → ((u : Unit) → s.busy u ≡ None) → Posts g s ds new → ds ≡ []
nothing_posted g [] s new free p = refl
nothing_posted g (d ∷ ds) s new free (busy, result, rest) = absurd (none_some d.task (sym (free (unit_of g d.task)) ∙ busy))

pub round_posts_nothing : (g : Graph) (level : ℕ → ℕ) (c n i : ℕ) (x y : RunState) (ms : List VisitRecord) → Round g level c n i x ms y → IsFree x.at n i → Each (λ (m : VisitRecord). m.turn.posted ≡ []) ms
round_posts_nothing g level c zero i x y ms round free = subst (Each (λ (m : VisitRecord). m.turn.posted ≡ [])) (sym round.0) tt
round_posts_nothing g level c (suc n) i x y ms round free =
    ⊎_elim
    (λ (done : IsFinished g i (x.at i) × Round g level c n (suc i) x ms y). round_posts_nothing g level c n (suc i) x y ms done.1 (λ j le lt. free j (omega (arith, le)) (omega (arith, lt))))
    (λ (one : (IsFinished g i (x.at i) → ⊥) × (m : VisitRecord) × (rest : List VisitRecord) × (mid : RunState) × (ms ≡ m ∷ rest) × (m.platform ≡ i) × Makes g level c x m mid × Round g level c n (suc i) mid rest y).
    subst (Each (λ (m : VisitRecord). m.turn.posted ≡ [])) (sym one.4) (
      nothing_posted g one.1.turn.posted (x.at one.1.platform) one.6.is.posted (λ u. free one.1.platform (not_before one.1.platform i one.5) (is_first i one.1.platform n one.5) u) one.6.is.posts,
      round_posts_nothing g level c n (suc i) one.3 y one.2 one.7 (λ j le lt u.
          ap (λ (s : State). s.busy u) (one.6.others j (λ e. is_above j i one.1.platform le e one.5)).0
          ∙ free j (omega (arith, le)) (omega (arith, lt)) u),
    ))
    round

module _ (g : Graph) (level : ℕ → ℕ) (rows : ℕ → List Row) (offset : Unit → Option ℤ) (wired : IsWired g) (are : AreLevels g level) (fits : FitRows g rows) (feasible : IsFeasible g) (has : (u : Unit) → HasOffset g u (offset u)) (c : ℕ) where
  pub round_falls : (n i : ℕ) (x y : RunState) (ms : List VisitRecord) → n + i ≤ length g.platforms → Onward g level rows offset c x → Round g level c n i x ms y → Falls (IsStillRound x.at ms y.at) (all_to_do g x.at x.did) (all_to_do g y.at y.did)
  round_falls zero i x y ms le h (none, same) =
      subst (λ z. Falls (IsStillRound x.at ms z.at) (all_to_do g x.at x.did) (all_to_do g z.at z.did)) (sym same)
      (omega arith, inl (record { turns = subst (Each (λ (m : VisitRecord). MovesNothing m.turn)) (sym none) tt; closed = λ j. refl }))
  round_falls (suc n) i x y ms le h round =
      ⊎_elim
      (λ (done : IsFinished g i (x.at i) × Round g level c n (suc i) x ms y). round_falls n (suc i) x y ms (omega (arith, le)) h done.1)
      (λ (one : (IsFinished g i (x.at i) → ⊥) × (m : VisitRecord) × (rest : List VisitRecord) × (mid : RunState) × (ms ≡ m ∷ rest) × (m.platform ≡ i) × Makes g level c x m mid × Round g level c n (suc i) mid rest y).
      let lt : one.1.platform < length g.platforms = subst (λ j. j < length g.platforms) (sym one.5) (omega (arith, le)) in
      then_falls (IsStill (x.at one.1.platform) one.1.turn (one.3.at one.1.platform)) (IsStillRound one.3.at one.2 y.at) (IsStillRound x.at ms y.at) (all_to_do g x.at x.did) (all_to_do g one.3.at one.3.did) (all_to_do g y.at y.did)
      (λ still rest. record {
        turns = subst (Each (λ (m : VisitRecord). MovesNothing m.turn)) (sym one.4) (still.nothing, rest.turns);
        closed = λ j. rest.closed j ∙ stays x one.3 one.1 one.6 still.closed j;
      })
      (visit_falls g level rows offset wired are fits feasible has c x one.3 one.1 h one.6 lt)
      (round_falls n (suc i) one.3 y one.2 (omega (arith, le)) (makes_onward g level rows offset has wired feasible c x one.3 one.1 lt h one.6).1 one.7))
      round
    where
      stays : (x mid : RunState) (m : VisitRecord) → Makes g level c x m mid → (mid.at m.platform).closed ≡ (x.at m.platform).closed → (j : ℕ) → (mid.at j).closed ≡ (x.at j).closed
      stays x mid m k here j =
          ⊎_elim
          (λ (e : j ≡ m.platform). subst (λ i. (mid.at i).closed ≡ (x.at i).closed) (sym e) here)
          (λ (ne : j ≢ m.platform). ap (λ (s : State). s.closed) (k.others j ne).0)
          (cases_same j m.platform)

  -- a finished platform has nothing open
  finished_free : (i : ℕ) (x : RunState) → i < length g.platforms → Onward g level rows offset c x → IsFinished g i (x.at i) → (u : Unit) → (x.at i).busy u ≡ None
  finished_free i x lt h done = ((whole_of g level rows offset wired are fits feasible has c x i lt h).keeps.is_shut done.closed).busy

  pub round_frees : (n i : ℕ) (x y : RunState) (ms : List VisitRecord) → n + i ≤ length g.platforms → Onward g level rows offset c x → Round g level c n i x ms y → Each (λ (m : VisitRecord). MovesNothing m.turn) ms → IsFree y.at n i
  round_frees zero i x y ms le h round still j from below u = absurd (none_left i j from below)
  round_frees (suc n) i x y ms le h round still j from below u =
      ⊎_elim
      (λ (done : IsFinished g i (x.at i) × Round g level c n (suc i) x ms y).
      ⊎_elim
      (λ (here : j ≡ i).
      subst (λ k. (y.at k).busy u ≡ None) (sym here)
      (ap (λ (s : State). s.busy u) (round_leaves g level c n (suc i) x y ms done.1 i (omega arith)) ∙ finished_free i x (omega (arith, le)) h done.0 u))
      (λ (there : j ≢ i). round_frees n (suc i) x y ms (omega (arith, le)) h done.1 still j (is_later i j from there) (one_fewer n i j below) u)
      (cases_same j i))
      (λ (one : (IsFinished g i (x.at i) → ⊥) × (m : VisitRecord) × (rest : List VisitRecord) × (mid : RunState) × (ms ≡ m ∷ rest) × (m.platform ≡ i) × Makes g level c x m mid × Round g level c n (suc i) mid rest y).
      let lt : one.1.platform < length g.platforms = subst (λ k. k < length g.platforms) (sym one.5) (omega (arith, le)) in
      let moves : Each (λ (m : VisitRecord). MovesNothing m.turn) (one.1 ∷ one.2) = subst (Each (λ (m : VisitRecord). MovesNothing m.turn)) one.4 still in
      ⊎_elim
      (λ (here : j ≡ i).
      subst (λ k. (y.at k).busy u ≡ None) (one.5 ∙ sym here)
      (ap (λ (s : State). s.busy u) (round_leaves g level c n (suc i) one.3 y one.2 one.7 one.1.platform (is_passed one.1.platform i one.5)) ∙ turn_frees g level one.1.platform (x.at one.1.platform) (one.3.at one.1.platform) one.1.turn one.1.late one.6.is one.6.handed moves.0.claimed u))
      (λ (there : j ≢ i). round_frees n (suc i) one.3 y one.2 (omega (arith, le)) (makes_onward g level rows offset has wired feasible c x one.3 one.1 lt h one.6).1 one.7 moves.1 j (is_later i j from there) (one_fewer n i j below) u)
      (cases_same j i))
      round

-- a round without a move that posts nothing is quiet
pub quiet_still : (x y : RunState) (ms : List VisitRecord) → IsStillRound x.at ms y.at → Each (λ (m : VisitRecord). m.turn.posted ≡ []) ms → IsQuietRound x ms y
quiet_still x y ms still none = record { quiet = quiet_turns ms still.turns none; closed = still.closed }
