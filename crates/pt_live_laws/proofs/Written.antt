-- The claims of visits, by actor.
use Rattle.std.proofs.Common.{◌≡◌, ℕ, ◌<◌, ◌≤◌, ◌==◌, ◌⊎◌, true, false, List, [], ◌∷◌, ◌++◌, arith, refl, sym, ap, subst, ◌∙◌, inl, inr, ⊎_elim, append_assoc, append-nil, eqb-true}
use Rattle.std.proofs.lemmas.Bool.{cases_Bool, cases_lt, cond-true, cond-false}
use Rattle.pt_types.specs.declared.firing.Task.{Task}
use Rattle.pt_types.specs.declared.graph.Graph.{Graph}
use Rattle.pt_types.specs.declared.rows.Row.{Row}
use Rattle.pt_types.specs.Lookups.{platform_of}
use Rattle.pt_semantics.specs.FixedOrder.{Visits, platform_after, put_clock}
use Rattle.pt_semantics.specs.Lists.{Each}
use Rattle.pt_semantics.specs.Turn.{Turn}
use Rattle.pt_semantics.specs.Visits.{IsVisit, VisitRecord, RunState, run_at_start}
use Rattle.pt_live_laws.specs.Written.{AtHome, claimed_by, claimed_in, of_actor}

claimed_push : (turns : List Turn) (turn : Turn) → claimed_by (turns ++ turn ∷ []) ≡ claimed_by turns ++ turn.claimed
claimed_push [] turn = append-nil turn.claimed
claimed_push (x ∷ turns) turn = ap (λ z. x.claimed ++ z) (claimed_push turns turn) ∙ sym (append_assoc x.claimed (claimed_by turns) turn.claimed)

of_actor_append : (a : ℕ) (xs ys : List Task) → of_actor a (xs ++ ys) ≡ of_actor a xs ++ of_actor a ys
of_actor_append a [] ys = refl
of_actor_append a (task ∷ xs) ys = ⊎_elim
    (λ (t : (task.actor == a) ≡ true).
    cond-true (task.actor == a) (task ∷ of_actor a (xs ++ ys)) (of_actor a (xs ++ ys)) t
    ∙ ap (λ z. task ∷ z) (of_actor_append a xs ys)
    ∙ ap (λ z. z ++ of_actor a ys) (sym (cond-true (task.actor == a) (task ∷ of_actor a xs) (of_actor a xs) t)))
    (λ (f : (task.actor == a) ≡ false).
    cond-false (task.actor == a) (task ∷ of_actor a (xs ++ ys)) (of_actor a (xs ++ ys)) f
    ∙ of_actor_append a xs ys
    ∙ ap (λ z. z ++ of_actor a ys) (sym (cond-false (task.actor == a) (task ∷ of_actor a xs) (of_actor a xs) f)))
    (cases_Bool (task.actor == a))

-- a platform claims no task of an actor of another platform
none_of : (g : Graph) (a p : ℕ) (tasks : List Task) → (platform_of g a ≡ p → ⊥) → Each (λ (task : Task). platform_of g task.actor ≡ p) tasks → of_actor a tasks ≡ []
none_of g a p [] other home = refl
none_of g a p (task ∷ tasks) other home =
    cond-false (task.actor == a) (task ∷ of_actor a tasks) (of_actor a tasks)
    (⊎_elim
    (λ (t : (task.actor == a) ≡ true). absurd (other (ap (platform_of g) (sym (eqb-true task.actor a t)) ∙ home.0)))
    (λ (f : (task.actor == a) ≡ false). f)
    (cases_Bool (task.actor == a)))
    ∙ none_of g a p tasks other home.1

pub same_or_not : (m n : ℕ) → (m ≡ n) ⊎ (m ≡ n → ⊥)
same_or_not m n = ⊎_elim (λ (l : m < n). inr (λ e. absurd (omega arith))) (λ (k : n ≤ m). ⊎_elim (λ (l : n < m). inr (λ e. absurd (omega arith))) (λ (j : m ≤ n). inl (omega arith)) (cases_lt n m)) (cases_lt m n)

module _ (g : Graph) (level : ℕ → ℕ) (most : ℕ) (a : ℕ) where
  one : (room : ℕ → ℕ) (r : ℕ) (x y : RunState) (m : VisitRecord) → IsVisit g level most room r x m y → Each (λ (task : Task). platform_of g task.actor ≡ m.platform) m.turn.claimed →
      of_actor a (claimed_by (y.did (platform_of g a))) ≡ of_actor a (claimed_by (x.did (platform_of g a))) ++ of_actor a m.turn.claimed
  one room r x y m v home = ⊎_elim
      (λ (here : platform_of g a ≡ m.platform).
      subst (λ p. of_actor a (claimed_by (y.did p)) ≡ of_actor a (claimed_by (x.did p)) ++ of_actor a m.turn.claimed) (sym here)
      (ap (λ z. of_actor a (claimed_by z)) v.joins ∙ ap (of_actor a) (claimed_push (x.did m.platform) m.turn) ∙ of_actor_append a (claimed_by (x.did m.platform)) m.turn.claimed))
      (λ (there : platform_of g a ≡ m.platform → ⊥).
      ap (λ z. of_actor a (claimed_by z)) (v.others (platform_of g a) there).1
      ∙ sym (append-nil (of_actor a (claimed_by (x.did (platform_of g a)))))
      ∙ ap (λ z. of_actor a (claimed_by (x.did (platform_of g a))) ++ z) (sym (none_of g a m.platform m.turn.claimed there home)))
      (same_or_not (platform_of g a) m.platform)

  pub visits_in_order : (i : ℕ) (clocks : ℕ → List ℕ) (x : RunState) (made : List VisitRecord) (y : RunState) → Visits g level most i clocks x made y → AtHome g made →
      of_actor a (claimed_by (y.did (platform_of g a))) ≡ of_actor a (claimed_by (x.did (platform_of g a))) ++ of_actor a (claimed_in made)
  visits_in_order i clocks x [] y none home = absurd none
  visits_in_order i clocks x (m ∷ []) y (r, at, read, v, over, used) home =
      one (λ l. 64) r x y m v home.0
      ∙ ap (λ z. of_actor a (claimed_by (x.did (platform_of g a))) ++ of_actor a z) (sym (append-nil m.turn.claimed))
  visits_in_order i clocks x (m ∷ n ∷ ms) y (r, later, mid, at, read, v, on, rest) home =
      visits_in_order (platform_after g i) (put_clock clocks i later) mid (n ∷ ms) y rest home.1
      ∙ ap (λ z. z ++ of_actor a (claimed_in (n ∷ ms))) (one (λ l. 64) r x mid m v home.0)
      ∙ append_assoc (of_actor a (claimed_by (x.did (platform_of g a)))) (of_actor a m.turn.claimed) (of_actor a (claimed_in (n ∷ ms)))
      ∙ ap (λ z. of_actor a (claimed_by (x.did (platform_of g a))) ++ z) (sym (of_actor_append a m.turn.claimed (claimed_in (n ∷ ms))))

pub lines_in_order : (g : Graph) (level : ℕ → ℕ) (most : ℕ) (clocks : ℕ → List ℕ) (rows : ℕ → List Row) (made : List VisitRecord) (y : RunState) →
    Visits g level most 0 clocks (run_at_start g rows) made y → AtHome g made → (a : ℕ) → of_actor a (claimed_in made) ≡ of_actor a (claimed_by (y.did (platform_of g a)))
lines_in_order g level most clocks rows made y visits home a = sym (visits_in_order g level most a 0 clocks (run_at_start g rows) made y visits home)
