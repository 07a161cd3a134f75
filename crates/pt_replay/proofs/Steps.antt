-- A round with one platform more, and a run with one round more.
use Rattle.std.proofs.Common.{◌≡◌, ℕ, zero, suc, ◌+◌, List, [], ◌∷◌, ◌++◌, false, length, arith, refl, sym, ap, subst, ◌∙◌, ◌<◌, inl, inr, ⊎_elim}
use Rattle.pt_types.specs.declared.graph.Graph.{Graph}
use Rattle.pt_semantics.specs.Linked.{IsFinished}
use Rattle.pt_semantics.specs.Lists.{Each, IsIn}
use Rattle.pt_semantics.specs.Visits.{VisitRecord}
use Rattle.pt_types.specs.declared.air.Air.{Air}
use Rattle.pt_replay_laws.specs.ReplayRounds.{ReplayRound, ReplayRounds, FollowsAt}
use Rattle.pt_replay_laws.specs.ReplayState.{AllFinished, IsVisitAt, ReplayState}

module _ (g : Graph) (level : ℕ → ℕ) (air : Air) where
  pub pass_by : (now n i k : ℕ) (x y : ReplayState) (ms : List VisitRecord) → k ≡ n + i → ReplayRound g level air now n i x ms y → IsFinished g k (y.at k) → ReplayRound g level air now (suc n) i x ms y
  pass_by now zero i k x y ms e (none, same) done =
      let at : k ≡ i = omega arith in
      inl (subst (λ j. IsFinished g j (x.at j)) at (subst (λ (z : ReplayState). IsFinished g k (z.at k)) same done), (none, same))
  pass_by now (suc n) i k x y ms e r done =
      ⊎_elim
      (λ (by : IsFinished g i (x.at i) × ReplayRound g level air now n (suc i) x ms y). inl (by.0, pass_by now n (suc i) k x y ms (omega arith) by.1 done))
      (λ (one : (IsFinished g i (x.at i) → ⊥) × (m : VisitRecord) × (rest : List VisitRecord) × (mid : ReplayState) × (ms ≡ m ∷ rest) × (m.platform ≡ i) × IsVisitAt g level air now x m mid × ReplayRound g level air now n (suc i) mid rest y).
      inr (one.0, one.1, one.2, one.3, one.4, one.5, one.6, pass_by now n (suc i) k one.3 y one.2 (omega (arith, e)) one.7 done))
      r

  pub visit_one : (now n i : ℕ) (x y z : ReplayState) (ms : List VisitRecord) (m : VisitRecord) → m.platform ≡ n + i → ReplayRound g level air now n i x ms y → (IsFinished g m.platform (y.at m.platform) → ⊥) → IsVisitAt g level air now y m z → ReplayRound g level air now (suc n) i x (ms ++ m ∷ []) z
  visit_one now zero i x y z ms m e (none, same) going is_visit =
      let at : m.platform ≡ i = omega arith in
      inr (
        (λ done. going (subst (λ (s : ReplayState). IsFinished g m.platform (s.at m.platform)) (sym same) (subst (λ j. IsFinished g j (x.at j)) (sym at) done))),
        m,
        [],
        z,
        ap (λ l. l ++ m ∷ []) none,
        at,
        subst (λ s. IsVisitAt g level air now s m z) same is_visit,
        (refl, refl),
      )
  visit_one now (suc n) i x y z ms m e r going is_visit =
      ⊎_elim
      (λ (by : IsFinished g i (x.at i) × ReplayRound g level air now n (suc i) x ms y). inl (by.0, visit_one now n (suc i) x y z ms m (omega arith) by.1 going is_visit))
      (λ (one : (IsFinished g i (x.at i) → ⊥) × (p : VisitRecord) × (rest : List VisitRecord) × (mid : ReplayState) × (ms ≡ p ∷ rest) × (p.platform ≡ i) × IsVisitAt g level air now x p mid × ReplayRound g level air now n (suc i) mid rest y).
      inr (one.0, one.1, one.2 ++ m ∷ [], one.3, ap (λ l. l ++ m ∷ []) one.4, one.5, one.6, visit_one now n (suc i) one.3 y z one.2 m (omega (arith, e)) one.7 going is_visit))
      r

  -- the visits of a round are of its first platforms
  pub visited_below : (now n i : ℕ) (x y : ReplayState) (ms : List VisitRecord) → ReplayRound g level air now n i x ms y → (m : VisitRecord) → IsIn m ms → m.platform < n + i
  visited_below now zero i x y ms (none, same) m mem = absurd (subst (IsIn m) none mem)
  visited_below now (suc n) i x y ms r m mem =
      ⊎_elim
      (λ (by : IsFinished g i (x.at i) × ReplayRound g level air now n (suc i) x ms y). let lt = visited_below now n (suc i) x y ms by.1 m mem in omega (arith, lt))
      (λ (one : (IsFinished g i (x.at i) → ⊥) × (p : VisitRecord) × (rest : List VisitRecord) × (mid : ReplayState) × (ms ≡ p ∷ rest) × (p.platform ≡ i) × IsVisitAt g level air now x p mid × ReplayRound g level air now n (suc i) mid rest y).
      ⊎_elim
      (λ (e : m ≡ one.1). let here : m.platform ≡ i = ap (λ (z : VisitRecord). z.platform) e ∙ one.5 in omega (arith, here))
      (λ (later : IsIn m one.2). let lt = visited_below now n (suc i) one.3 y one.2 one.7 m later in omega (arith, lt))
      (subst (IsIn m) one.4 mem))
      r

  pub one_round : (rounds : List (List VisitRecord)) (begins now next : ℕ) (x y z : ReplayState) (ms : List VisitRecord) → ReplayRounds g level air begins x rounds now y → ReplayRound g level air now (length g.platforms) 0 y ms z → Each (λ (m : VisitRecord). m.fault ≡ false) ms → (AllFinished g z → ⊥) → FollowsAt g air now y ms z next →
      ReplayRounds g level air begins x (rounds ++ ms ∷ []) next z
  one_round [] begins now next x y z ms (same_now, same_y) round fine going follows = (
    next,
    z,
    subst (λ n. ReplayRound g level air n (length g.platforms) 0 x ms z) same_now (subst (λ s. ReplayRound g level air now (length g.platforms) 0 s ms z) same_y round),
    fine,
    going,
    subst (λ n. FollowsAt g air n x ms z next) same_now (subst (λ s. FollowsAt g air now s ms z next) same_y follows),
    (refl, refl),
  )
  one_round (first ∷ rounds) begins now next x y z ms (then, mid, begun, good, on_going, follow, rest) round fine going follows =
      (then, mid, begun, good, on_going, follow, one_round rounds then now next mid y z ms rest round fine going follows)
