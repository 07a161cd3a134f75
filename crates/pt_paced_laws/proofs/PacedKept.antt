-- The histories of a run, as they are kept, are legal. Those of a paced run are matched too, and linked at the end.
use Rattle.std.proofs.Common.{◌≡◌, ℕ, zero, suc, ◌<◌, ◌≤◌, ◌≢◌, Bool, false, List, [], ◌∷◌, ◌++◌, Some, length, slice_get, arith, refl, sym, ap, subst, ◌∙◌, inl, ⊎_elim, append-nil}
use Rattle.std.proofs.lemmas.Bool.{cases_lt, false≢true}
use Rattle.pt_types.specs.declared.graph.Graph.{Graph}
use Rattle.pt_types.specs.declared.graph.Link.{Link}
use Rattle.pt_types.specs.declared.rows.Row.{Row}
use Rattle.pt_semantics.specs.Lists.{Each}
use Rattle.pt_types.specs.Lookups.{platform_of}
use Rattle.pt_semantics.specs.Platform.{State, opened}
use Rattle.pt_semantics.specs.Turn.{Turn, IsTurn, IsLast}
use Rattle.pt_semantics.specs.History.{Legal, IsLegal}
use Rattle.pt_semantics.specs.Linked.{IsFinished, all_sent, all_taken}
use Rattle.pt_semantics.specs.Kept.{kept}
use Rattle.pt_laws.specs.HistoryTheorems.{IsSame}
use Rattle.pt_semantics.specs.Visits.{RunState, run_at_start, VisitRecord}
use Rattle.pt_semantics.specs.Rounds.{Rounds}
use Rattle.pt_paced_laws.specs.PacedTheorems.{PacedAreLegal}
use Rattle.pt_laws.proofs.KeptTurns.{kept_is_legal}
use Rattle.pt_laws.proofs.Onward.{AdvanceRound, Advances, Onward, cases_same, round_advances, round_onward}
use Rattle.pt_paced_laws.proofs.PacedRuns.{run_onward, way_empty}
use Rattle.pt_paced_laws.proofs.Singles.{single_run}
use Rattle.pt_paced_laws.proofs.Places.{is_above}

-- a history none of whose turns is a last one
abbrev GoesOn : Graph → (ℕ → ℕ) → ℕ → State → List Turn → State → Type 0
GoesOn g level i s [] new = new ≡ s
GoesOn g level i s (turn ∷ turns) new =
    (late : Bool) × (mid : State) × (is : IsTurn g level i s turn late mid) × (IsLast g s turn.last late is.ready → ⊥) × GoesOn g level i mid turns new

goes_legal : (g : Graph) (level : ℕ → ℕ) (i : ℕ) (turns : List Turn) (s new : State) → GoesOn g level i s turns new → Legal g level i s turns new
goes_legal g level i [] s new e = e
goes_legal g level i (turn ∷ turns) s new (late, mid, is, on, rest) = (late, mid, is, (λ l. absurd (on l)), goes_legal g level i turns mid new rest)

push_last : (g : Graph) (level : ℕ → ℕ) (i : ℕ) (turns : List Turn) (turn : Turn) (late : Bool) (s mid new : State) → GoesOn g level i s turns mid → IsTurn g level i mid turn late new → Legal g level i s (turns ++ turn ∷ []) new
push_last g level i [] turn late s mid new e is = subst (λ z. Legal g level i z (turn ∷ []) new) e (late, new, is, (λ l. refl), refl)
push_last g level i (x ∷ turns) turn late s mid new (late2, one, ix, on, rest) is = (late2, one, ix, (λ l. absurd (on l)), push_last g level i turns turn late one mid new rest is)

push_on : (g : Graph) (level : ℕ → ℕ) (i : ℕ) (turns : List Turn) (turn : Turn) (late : Bool) (s mid new : State) → GoesOn g level i s turns mid → (is : IsTurn g level i mid turn late new) → (IsLast g mid turn.last late is.ready → ⊥) → GoesOn g level i s (turns ++ turn ∷ []) new
push_on g level i [] turn late s mid new e is on = subst (λ z. GoesOn g level i z (turn ∷ []) new) e (late, new, is, on, refl)
push_on g level i (x ∷ turns) turn late s mid new (late2, one, ix, on2, rest) is on = (late2, one, ix, on2, push_on g level i turns turn late one mid new rest is on)

module _ (g : Graph) (level : ℕ → ℕ) (rows : ℕ → List Row) (c : ℕ → ℕ) where
  -- none of this platform's turns is a last one
  abbrev pub Going : RunState → ℕ → Type 0
  Going x p = GoesOn g level p (opened g p rows) (x.did p) (x.at p)

  abbrev pub Lawful : RunState → ℕ → Type 0
  Lawful x p = Legal g level p (opened g p rows) (x.did p) (x.at p)

  not_last : (x y : RunState) (m : VisitRecord) (k : Advances g level (c m.platform) x m y) → m.fault ≡ false → IsLast g (x.at m.platform) m.turn.last m.late k.is.ready → ⊥
  not_last x y m k fine last = false≢true (sym fine ∙ k.faults.0 (subst (λ r. IsLast g (x.at m.platform) r m.late k.is.ready) k.last last))

  going_advance : (x y : RunState) (m : VisitRecord) → Advances g level (c m.platform) x m y → m.fault ≡ false → ((p : ℕ) → Going x p) → (p : ℕ) → Going y p
  going_advance x y m k fine h p =
      ⊎_elim
      (λ (here : p ≡ m.platform).
      subst (Going y) (sym here)
      (subst (λ l. GoesOn g level m.platform (opened g m.platform rows) l (y.at m.platform)) (sym k.joins)
      (push_on g level m.platform (x.did m.platform) m.turn m.late (opened g m.platform rows) (x.at m.platform) (y.at m.platform) (h m.platform) k.is (not_last x y m k fine))))
      (λ (there : p ≢ m.platform). stays x y p (k.others p there) (h p))
      (cases_same p m.platform)
    where
      stays : (x y : RunState) (p : ℕ) → (y.at p ≡ x.at p) × (y.did p ≡ x.did p) → Going x p → Going y p
      stays x y p same h = subst (λ l. GoesOn g level p (opened g p rows) l (y.at p)) (sym same.1) (subst (GoesOn g level p (opened g p rows) (x.did p)) (sym same.0) h)

  lawful_stays : (x y : RunState) (p : ℕ) → (y.at p ≡ x.at p) × (y.did p ≡ x.did p) → Lawful x p → Lawful y p
  lawful_stays x y p same h = subst (λ l. Legal g level p (opened g p rows) l (y.at p)) (sym same.1) (subst (Legal g level p (opened g p rows) (x.did p)) (sym same.0) h)

  going_stays : (x y : RunState) (p : ℕ) → (y.at p ≡ x.at p) × (y.did p ≡ x.did p) → Going x p → Going y p
  going_stays x y p same h = subst (λ l. GoesOn g level p (opened g p rows) l (y.at p)) (sym same.1) (subst (GoesOn g level p (opened g p rows) (x.did p)) (sym same.0) h)

  -- rounds without a fault
  pub round_goes : (n i : ℕ) (x y : RunState) (ms : List VisitRecord) → AdvanceRound g level c n i x ms y → Each (λ (m : VisitRecord). m.fault ≡ false) ms → ((p : ℕ) → Going x p) → (p : ℕ) → Going y p
  round_goes zero i x y ms (none, same) fine h = subst (λ z. (p : ℕ) → Going z p) (sym same) h
  round_goes (suc n) i x y ms r fine h =
      ⊎_elim
      (λ (skip : IsFinished g i (x.at i) × AdvanceRound g level c n (suc i) x ms y). round_goes n (suc i) x y ms skip.1 fine h)
      (λ (one : (IsFinished g i (x.at i) → ⊥) × (m : VisitRecord) × (rest : List VisitRecord) × (mid : RunState) × (ms ≡ m ∷ rest) × (m.platform ≡ i) × Advances g level (c m.platform) x m mid × AdvanceRound g level c n (suc i) mid rest y).
      let fine2 : Each (λ (m : VisitRecord). m.fault ≡ false) (one.1 ∷ one.2) = subst (Each (λ (m : VisitRecord). m.fault ≡ false)) one.4 fine in
      round_goes n (suc i) one.3 y one.2 one.7 fine2.1 (going_advance x one.3 one.1 one.6 fine2.0 h))
      r

  -- the last round, with a fault or without
  pub round_ends : (n i : ℕ) (x y : RunState) (ms : List VisitRecord) → AdvanceRound g level c n i x ms y → ((p : ℕ) → p < i → Lawful x p) → ((p : ℕ) → i ≤ p → Going x p) → (p : ℕ) → Lawful y p
  round_ends zero i x y ms (none, same) before after = subst (λ z. (p : ℕ) → Lawful z p) (sym same) all
    where
      all : (p : ℕ) → Lawful x p
      all p = ⊎_elim (λ (l : p < i). before p l) (λ (k : i ≤ p). goes_legal g level p (x.did p) (opened g p rows) (x.at p) (after p k)) (cases_lt p i)
  round_ends (suc n) i x y ms r before after =
      ⊎_elim
      (λ (skip : IsFinished g i (x.at i) × AdvanceRound g level c n (suc i) x ms y).
      round_ends n (suc i) x y ms skip.1
      (λ p l. ⊎_elim (λ (k : p < i). before p k) (λ (k : i ≤ p). goes_legal g level p (x.did p) (opened g p rows) (x.at p) (after p k)) (cases_lt p i))
      (λ p k. after p (omega (arith, k))))
      (λ (one : (IsFinished g i (x.at i) → ⊥) × (m : VisitRecord) × (rest : List VisitRecord) × (mid : RunState) × (ms ≡ m ∷ rest) × (m.platform ≡ i) × Advances g level (c m.platform) x m mid × AdvanceRound g level c n (suc i) mid rest y).
      round_ends n (suc i) one.3 y one.2 one.7
      (advance_lawful x one.3 one.1 one.5 one.6 before after)
      (λ p k. going_stays x one.3 p (one.6.others p (λ e. is_above p i one.1.platform k e one.5)) (after p (omega (arith, k)))))
      r
    where
      advance_lawful : (x mid : RunState) (m : VisitRecord) → m.platform ≡ i → Advances g level (c m.platform) x m mid → ((p : ℕ) → p < i → Lawful x p) → ((p : ℕ) → i ≤ p → Going x p) → (p : ℕ) → p < suc i → Lawful mid p
      advance_lawful x mid m home k before after p l =
          ⊎_elim
          (λ (here : p ≡ m.platform).
          subst (Lawful mid) (sym here)
          (subst (λ z. Legal g level m.platform (opened g m.platform rows) z (mid.at m.platform)) (sym k.joins)
          (push_last g level m.platform (x.did m.platform) m.turn m.late (opened g m.platform rows) (x.at m.platform) (mid.at m.platform) (after m.platform (omega (arith, home))) k.is)))
          (λ (there : p ≢ m.platform). lawful_stays x mid p (k.others p there) (before p (less p i m.platform l there home)))
          (cases_same p m.platform)
        where
          less : (p i q : ℕ) → p < suc i → p ≢ q → q ≡ i → p < i
          less p i q l other e = ⊎_elim (λ (k : p < i). k) (λ (k : i ≤ p). absurd (other (omega (arith, k, l, e)))) (cases_lt p i)

rounds_go : (g : Graph) (level : ℕ → ℕ) (rows : ℕ → List Row) (rounds : List (List VisitRecord)) (c d : ℕ) (x y : RunState) → Rounds g level c x rounds d y → ((p : ℕ) → Going g level rows (λ i. c) x p) → (p : ℕ) → Going g level rows (λ i. d) y p
rounds_go g level rows [] c d x y (e, same) h = subst (λ z. (p : ℕ) → GoesOn g level p (opened g p rows) (z.did p) (z.at p)) (sym same) h
rounds_go g level rows (ms ∷ rounds) c d x y (b, mid, round, fine, going, follows, rest) h =
    rounds_go g level rows rounds b d mid y rest (round_goes g level rows (λ i. c) (length g.platforms) 0 x mid ms (round_advances g level c (length g.platforms) 0 x ms mid round) fine h)

pub paced_are_legal : PacedAreLegal
paced_are_legal g level rows offset y wired are fits feasible has run = (
  (λ i lt. (keep i).0 (ended i)),
  (λ l link at. (y.on_way l, matched l link at)),
  (λ done l link at. matched l link at
      ∙ ap (λ z. all_taken l (kept (y.did (platform_of g link.to))) ++ z) (way_empty g level rows offset wired are fits feasible has run.reading y end (λ i lt. inl (done i lt)) l link at)
      ∙ append-nil (all_taken l (kept (y.did (platform_of g link.to))))),
)
  where
    begin : (p : ℕ) → GoesOn g level p (opened g p rows) (run.before.did p) (run.before.at p)
    begin = rounds_go g level rows run.rounds run.run.begins run.reading (run_at_start g rows) run.before run.run.goes (λ p. refl)

    ended : (p : ℕ) → Legal g level p (opened g p rows) (y.did p) (y.at p)
    ended = round_ends g level rows (λ i. run.reading) (length g.platforms) 0 run.before y run.made (round_advances g level run.reading (length g.platforms) 0 run.before run.made y run.round) (λ p l. absurd (omega (arith, l))) (λ p k. begin p)

    end : Onward g level rows offset run.reading y
    end = (round_onward g level rows offset has wired feasible run.reading (length g.platforms) 0 run.before y run.made (omega arith) (run_onward g level rows offset wired are fits feasible has run.rounds run.reading run.before run.run) run.round).1

    keep : (i : ℕ) → (Legal g level i (opened g i rows) (y.did i) (y.at i) → IsLegal g level i rows (kept (y.did i)) (y.at i)) × IsSame g (kept (y.did i)) (y.did i)
    keep i = let k = kept_is_legal g level i rows (y.did i) (y.at i) wired are fits (single_run g level rows y run i) in (k.0, k.2)

    matched : (l : ℕ) (link : Link) → slice_get g.links l ≡ Some link → all_sent l (kept (y.did (platform_of g link.from))) ≡ all_taken l (kept (y.did (platform_of g link.to))) ++ y.on_way l
    matched l link at =
        (keep (platform_of g link.from)).1.sent l ∙ end.linked l link at
        ∙ ap (λ z. z ++ y.on_way l) (sym ((keep (platform_of g link.to)).1.taken l))
