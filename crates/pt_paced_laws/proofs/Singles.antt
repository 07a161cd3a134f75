-- Each turn that a run makes has one reading.
use Rattle.std.proofs.Common.{◌≡◌, ◌≢◌, ℕ, zero, suc, List, [], ◌∷◌, length, sym, subst, ⊎_elim}
use Rattle.pt_types.specs.declared.graph.Graph.{Graph}
use Rattle.pt_types.specs.declared.rows.Row.{Row}
use Rattle.pt_semantics.specs.Kept.{IsSingle}
use Rattle.pt_semantics.specs.Linked.{IsFinished}
use Rattle.pt_semantics.specs.Lists.{Each}
use Rattle.pt_semantics.specs.Rounds.{IsWholeRun, Rounds}
use Rattle.pt_semantics.specs.Visits.{VisitRecord, RunState, run_at_start}
use Rattle.pt_semantics.proofs.Lookups.{Each-append}
use Rattle.pt_laws.proofs.Onward.{AdvanceRound, Advances, cases_same, round_advances}

-- each turn has one reading
abbrev pub Singles : RunState → Type 0
Singles x = (p : ℕ) → Each IsSingle (x.did p)

module _ (g : Graph) (level : ℕ → ℕ) where
  pub single_advance : (r : ℕ) (x y : RunState) (m : VisitRecord) → Advances g level r x m y → Singles x → Singles y
  single_advance r x y m k h p =
      ⊎_elim
      (λ (here : p ≡ m.platform). subst (λ q. Each IsSingle (y.did q)) (sym here) (subst (Each IsSingle) (sym k.joins) (Each-append IsSingle (x.did m.platform) (m.turn ∷ []) (h m.platform) (k.single, tt))))
      (λ (there : p ≢ m.platform). subst (Each IsSingle) (sym (k.others p there).1) (h p))
      (cases_same p m.platform)

  pub single_round : (c : ℕ → ℕ) (n i : ℕ) (x y : RunState) (ms : List VisitRecord) → AdvanceRound g level c n i x ms y → Singles x → Singles y
  single_round c zero i x y ms (none, same) h = subst Singles (sym same) h
  single_round c (suc n) i x y ms r h =
      ⊎_elim
      (λ (skip : IsFinished g i (x.at i) × AdvanceRound g level c n (suc i) x ms y). single_round c n (suc i) x y ms skip.1 h)
      (λ (one : (IsFinished g i (x.at i) → ⊥) × (m : VisitRecord) × (rest : List VisitRecord) × (mid : RunState) × (ms ≡ m ∷ rest) × (m.platform ≡ i) × Advances g level (c m.platform) x m mid × AdvanceRound g level c n (suc i) mid rest y).
      single_round c n (suc i) one.3 y one.2 one.7 (single_advance (c one.1.platform) x one.3 one.1 one.6 h))
      r

  single_rounds : (rounds : List (List VisitRecord)) (c d : ℕ) (x y : RunState) → Rounds g level c x rounds d y → Singles x → Singles y
  single_rounds [] c d x y (e, same) h = subst Singles (sym same) h
  single_rounds (ms ∷ rounds) c d x y (b, mid, round, fine, going, follows, rest) h =
      single_rounds rounds b d mid y rest (single_round (λ i. c) (length g.platforms) 0 x mid ms (round_advances g level c (length g.platforms) 0 x ms mid round) h)

  pub single_run : (rows : ℕ → List Row) (y : RunState) → IsWholeRun g level rows y → (p : ℕ) → Each IsSingle (y.did p)
  single_run rows y run =
      single_round (λ i. run.reading) (length g.platforms) 0 run.before y run.made (round_advances g level run.reading (length g.platforms) 0 run.before run.made y run.round)
      (single_rounds run.rounds run.run.begins run.reading (run_at_start g rows) run.before run.run.goes (λ p. tt))
