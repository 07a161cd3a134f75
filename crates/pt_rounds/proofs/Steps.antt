-- A round with one platform more, and a run with one round more.
use Rattle.std.proofs.Common.{◌≡◌, ℕ, zero, suc, ◌+◌, List, [], ◌∷◌, ◌++◌, false, length, arith, refl, sym, ap, subst, inl, inr, ⊎_elim}
use Rattle.pt_types.specs.declared.graph.Graph.{Graph}
use Rattle.pt_semantics.specs.Linked.{IsFinished}
use Rattle.pt_semantics.specs.Lists.{Each}
use Rattle.pt_semantics.specs.Rounds.{Follows, Makes, Round, Rounds}
use Rattle.pt_semantics.specs.Visits.{AreFinished, VisitRecord, RunState}

module _ (g : Graph) (level : ℕ → ℕ) where
  pub pass_by : (c n i k : ℕ) (x y : RunState) (ms : List VisitRecord) → k ≡ n + i → Round g level c n i x ms y → IsFinished g k (y.at k) → Round g level c (suc n) i x ms y
  pass_by c zero i k x y ms e (none, same) done =
      let at : k ≡ i = omega arith in
      inl (subst (λ j. IsFinished g j (x.at j)) at (subst (λ (z : RunState). IsFinished g k (z.at k)) same done), (none, same))
  pass_by c (suc n) i k x y ms e r done =
      ⊎_elim
      (λ (by : IsFinished g i (x.at i) × Round g level c n (suc i) x ms y). inl (by.0, pass_by c n (suc i) k x y ms (omega arith) by.1 done))
      (λ (one : (IsFinished g i (x.at i) → ⊥) × (m : VisitRecord) × (rest : List VisitRecord) × (mid : RunState) × (ms ≡ m ∷ rest) × (m.platform ≡ i) × Makes g level c x m mid × Round g level c n (suc i) mid rest y).
      inr (one.0, one.1, one.2, one.3, one.4, one.5, one.6, pass_by c n (suc i) k one.3 y one.2 (omega (arith, e)) one.7 done))
      r

  pub make_one : (c n i : ℕ) (x y z : RunState) (ms : List VisitRecord) (m : VisitRecord) → m.platform ≡ n + i → Round g level c n i x ms y → (IsFinished g m.platform (y.at m.platform) → ⊥) → Makes g level c y m z → Round g level c (suc n) i x (ms ++ m ∷ []) z
  make_one c zero i x y z ms m e (none, same) going makes =
      let at : m.platform ≡ i = omega arith in
      inr (
        (λ done. going (subst (λ (s : RunState). IsFinished g m.platform (s.at m.platform)) (sym same) (subst (λ j. IsFinished g j (x.at j)) (sym at) done))),
        m,
        [],
        z,
        ap (λ l. l ++ m ∷ []) none,
        at,
        subst (λ s. Makes g level c s m z) same makes,
        (refl, refl),
      )
  make_one c (suc n) i x y z ms m e r going makes =
      ⊎_elim
      (λ (by : IsFinished g i (x.at i) × Round g level c n (suc i) x ms y). inl (by.0, make_one c n (suc i) x y z ms m (omega arith) by.1 going makes))
      (λ (one : (IsFinished g i (x.at i) → ⊥) × (p : VisitRecord) × (rest : List VisitRecord) × (mid : RunState) × (ms ≡ p ∷ rest) × (p.platform ≡ i) × Makes g level c x p mid × Round g level c n (suc i) mid rest y).
      inr (one.0, one.1, one.2 ++ m ∷ [], one.3, ap (λ l. l ++ m ∷ []) one.4, one.5, one.6, make_one c n (suc i) one.3 y z one.2 m (omega (arith, e)) one.7 going makes))
      r

  pub one_round : (rounds : List (List VisitRecord)) (c d b : ℕ) (x y z : RunState) (ms : List VisitRecord) → Rounds g level c x rounds d y → Round g level d (length g.platforms) 0 y ms z → Each (λ (m : VisitRecord). m.fault ≡ false) ms → (AreFinished g z → ⊥) → Follows g d y ms z b → Rounds g level c x (rounds ++ ms ∷ []) b z
  one_round [] c d b x y z ms (same_d, same_y) round fine going follows = (
    b,
    z,
    subst (λ n. Round g level n (length g.platforms) 0 x ms z) same_d (subst (λ s. Round g level d (length g.platforms) 0 s ms z) same_y round),
    fine,
    going,
    subst (λ n. Follows g n x ms z b) same_d (subst (λ s. Follows g d s ms z b) same_y follows),
    (refl, refl),
  )
  one_round (first ∷ rounds) c d b x y z ms (e, mid, begun, good, on_going, next, rest) round fine going follows =
      (e, mid, begun, good, on_going, next, one_round rounds e d b mid y z ms rest round fine going follows)
