-- The platforms that were opened so far.
use Rattle.std.proofs.Common.{◌≡◌, ℕ, zero, suc, ◌+◌, ◌≤◌, ◌⊎◌, List, [], ◌∷◌, ◌++◌, Some, None, length, filter, filter_map, not, slice_get, refl, sym, ap, subst, ◌∙◌, arith, inl, inr, ⊎_elim}
use Rattle.std.proofs.lemmas.List.{length-append}
use Rattle.pt_sensors.specs.declared.sensor_rows.SensorRows.{SensorRows}
use Rattle.pt_semantics.specs.Rows.{FitRows}
use Rattle.pt_offsets.specs.Plans.{Parts}
use Rattle.pt_turn.specs.Handed.{AreHanded, rows_handed}
use Rattle.pt_turn.specs.Platforms.{PlatformView, rows_at}
use Rattle.pt_sensors.specs.Listed.{rows_for}
use Rattle.pt_turn.specs.All.{AreReady}
use Rattle.pt_sensors.specs.Places.{StandInPlace, of_run}
use Rattle.pt_turn.specs.Sharing.{cut_of, is_entry_on}
use Rattle.pt_turn.proofs.Shares.{are_handed, handed_rows, handed_to, others_left}

-- platform i, newly opened
pub record IsOpened (plan : Parts) (entries : List SensorRows) (i : ℕ) (v : PlatformView) : Type 0 where
  pub plan_is : v.plan ≡ plan
  pub number : v.number ≡ i
  pub rows : rows_at v ≡ rows_handed (handed_to plan.graph i entries)
  pub turns : v.turns ≡ []
  pub fault : v.fault ≡ None

-- the first n platforms are opened, and the rest has all entries of the others
pub record AreOpened (plan : Parts) (entries : List SensorRows) (n : ℕ) (rest : List SensorRows) (platforms : List PlatformView) : Type 0 where
  pub left : (k : ℕ) → n ≤ k → filter (is_entry_on plan.graph k) rest ≡ filter (is_entry_on plan.graph k) entries
  pub count : length platforms ≡ n
  pub each : (i : ℕ) (v : PlatformView) → slice_get platforms i ≡ Some v → IsOpened plan entries i v

pushed_at : {X : Type 0} (xs : List X) (x : X) (k : ℕ) (z : X) → slice_get (xs ++ x ∷ []) k ≡ Some z → (slice_get xs k ≡ Some z) ⊎ ((k ≡ length xs) × (z ≡ x))
pushed_at [] x zero z at = inr (refl, cc)
pushed_at [] x (suc k) z at = absurd cc
pushed_at (y ∷ xs) x zero z at = inl at
pushed_at {X} (y ∷ xs) x (suc k) z at = ⊎_elim (λ (old : slice_get xs k ≡ Some z). inl old) (λ (new : (k ≡ length xs) × (z ≡ x)). inr (ap suc new.0, new.1)) (pushed_at xs x k z at)

pub none_opened : (plan : Parts) (entries : List SensorRows) → AreOpened plan entries 0 entries []
none_opened plan entries = record { left = λ k le. refl; count = refl; each = λ i v at. absurd cc }

-- the entries that the next platform is handed
pub next_handed : (plan : Parts) (entries rest own rows : List SensorRows) (n : ℕ) (platforms : List PlatformView) → AreOpened plan entries n rest platforms → own ≡ filter (is_entry_on plan.graph n) rest → rows ≡ filter_map (cut_of plan.graph) own → rows ≡ handed_to plan.graph n entries
next_handed plan entries rest own rows n platforms h e c = c ∙ ap (filter_map (cut_of plan.graph)) (e ∙ h.left n (omega arith))

pub may_open : (plan : Parts) (entries rest own rows : List SensorRows) (n : ℕ) (platforms : List PlatformView) → StandInPlace plan.graph entries → FitRows plan.graph (of_run plan.graph (rows_for entries)) → AreOpened plan entries n rest platforms → own ≡ filter (is_entry_on plan.graph n) rest → rows ≡ filter_map (cut_of plan.graph) own → AreHanded plan.graph n rows
may_open plan entries rest own rows n platforms places fit h e c = subst (AreHanded plan.graph n) (sym (next_handed plan entries rest own rows n platforms h e c)) (are_handed plan.graph entries n places fit)

pub one_opened : (plan : Parts) (entries rest others own rows : List SensorRows) (n : ℕ) (platforms : List PlatformView) (v : PlatformView) → AreOpened plan entries n rest platforms → own ≡ filter (is_entry_on plan.graph n) rest → others ≡ filter (λ (s : SensorRows). not (is_entry_on plan.graph n s)) rest → rows ≡ filter_map (cut_of plan.graph) own →
    v.plan ≡ plan → v.number ≡ n → rows_at v ≡ rows_handed rows → v.turns ≡ [] → v.fault ≡ None → AreOpened plan entries (n + 1) others (platforms ++ v ∷ [])
one_opened plan entries rest others own rows n platforms v h e o c is_plan is_number is_rows is_turns is_fault = record {
  left = λ k le. ap (filter (is_entry_on plan.graph k)) o ∙ (others_left plan.graph n k rest (omega (arith, le)) ∙ h.left k (omega (arith, le)));
  count = length-append platforms (v ∷ []) ∙ ap (λ z. z + 1) h.count;
  each = λ i w at. ⊎_elim
      (λ (old : slice_get platforms i ≡ Some w). h.each i w old)
      (λ (new : (i ≡ length platforms) × (w ≡ v)).
      subst (λ z. IsOpened plan entries z w) (sym (new.0 ∙ h.count)) (subst (IsOpened plan entries n) (sym new.1) (record {
        plan_is = is_plan;
        number = is_number;
        rows = is_rows ∙ ap rows_handed (next_handed plan entries rest own rows n platforms h e c);
        turns = is_turns;
        fault = is_fault;
      })))
      (pushed_at platforms v i w at);
}

pub all_ready : (plan : Parts) (entries rest : List SensorRows) (n : ℕ) (platforms : List PlatformView) → StandInPlace plan.graph entries → FitRows plan.graph (of_run plan.graph (rows_for entries)) → AreOpened plan entries n rest platforms → n ≡ length plan.graph.platforms → AreReady plan (of_run plan.graph (rows_for entries)) platforms
all_ready plan entries rest n platforms places fit h whole = record {
  all = record {
    count = h.count ∙ whole;
    plans = λ i v at. (h.each i v at).plan_is;
    numbers = λ i v at. (h.each i v at).number;
    opened = λ i a v at home. ap (λ f. f a) (h.each i v at).rows ∙ handed_rows plan.graph i entries a places home;
  };
  fresh = record { turns = λ i v at. (h.each i v at).turns; faults = λ i v at. (h.each i v at).fault };
  fit = fit;
}
