-- Lists with one item more.
use Rattle.std.proofs.Common.{◌≡◌, ℕ, ◌+◌, ◌<◌, List, [], ◌∷◌, ◌++◌, length, slice_index, sym, ap, subst, ◌∙◌, arith, ⊎_elim, Option}
use Rattle.std.proofs.lemmas.List.{get_or_append_left, get_or_push, length_push}
use Rattle.pt_tags.specs.declared.tag.Delay.{Delay}
use Rattle.pt_types.specs.declared.graph.Graph.{Graph}
use Rattle.pt_types.specs.declared.graph.Unit.{Unit}
use Rattle.pt_offsets.proofs.Maxima.{last_or_before}
use Rattle.pt_slacks.specs.declared.hop.Hop.{Hop}
use Rattle.pt_slacks.specs.Rows.{AreBases, AreSlackRows, HasRisen, IsNextRow, slack_row_at}

-- what holds of each number of a list, and of one more
pub each_more : (P : ℕ → ℕ → Type 0) (xs : List ℕ) (x n : ℕ) → length xs ≡ n → ((v : ℕ) → v < n → P v (slice_index xs v)) → P n x → (v : ℕ) → v < n + 1 → P v (slice_index (xs ++ x ∷ []) v)
each_more P xs x n len each is v h =
    ⊎_elim
    (λ (less : v < n). subst (P v) (sym (get_or_append_left xs (x ∷ []) 0 v (omega arith))) (each v less))
    (λ (here : v ≡ n). subst (P v) (sym (get_or_push xs x 0 v (len ∙ sym here))) (subst (λ m. P m x) (sym here) is))
    (last_or_before n v h)

row_before : (rows : List (List ℕ)) (next : List ℕ) (k : ℕ) → k < length rows → slack_row_at (rows ++ next ∷ []) k ≡ slack_row_at rows k
row_before rows next k less = get_or_append_left rows (next ∷ []) [] k less

row_last : (rows : List (List ℕ)) (next : List ℕ) (k : ℕ) → length rows ≡ k → slack_row_at (rows ++ next ∷ []) k ≡ next
row_last rows next k len = get_or_push rows next [] k len

module _ (g : Graph) (least : Unit → Unit → Option Delay) (hops : List Hop) where
  next_more : (rows : List (List ℕ)) (next : List ℕ) (m : ℕ) → AreSlackRows g least hops rows m → IsNextRow hops least (slack_row_at rows m) next → (k : ℕ) → k < m + 1 → IsNextRow hops least (slack_row_at (rows ++ next ∷ []) k) (slack_row_at (rows ++ next ∷ []) (k + 1))
  next_more rows next m are is k h =
      let len : length rows ≡ m + 1 = are.len in
      ⊎_elim
      (λ (less : k < m).
      subst (λ r. IsNextRow hops least r (slack_row_at (rows ++ next ∷ []) (k + 1))) (sym (row_before rows next k (omega arith)))
      (subst (IsNextRow hops least (slack_row_at rows k)) (sym (row_before rows next (k + 1) (omega arith))) (are.next k less)))
      (λ (here : k ≡ m).
      subst (λ r. IsNextRow hops least r (slack_row_at (rows ++ next ∷ []) (k + 1))) (sym (row_before rows next k (omega arith)))
      (subst (IsNextRow hops least (slack_row_at rows k)) (sym (row_last rows next (k + 1) (omega arith))) (subst (λ j. IsNextRow hops least (slack_row_at rows j) next) (sym here) is)))
      (last_or_before m k h)

  -- one round more
  pub rows_more : (rows : List (List ℕ)) (next : List ℕ) (m : ℕ) → AreSlackRows g least hops rows m → IsNextRow hops least (slack_row_at rows m) next → AreSlackRows g least hops (rows ++ next ∷ []) (m + 1)
  rows_more rows next m are is =
      let len : length rows ≡ m + 1 = are.len in
      record {
        len = length_push rows next ∙ ap (λ n. n + 1) len;
        first = subst (AreBases g least hops) (sym (row_before rows next 0 (omega arith))) are.first;
        next = next_more rows next m are is;
      }

  pub risen_more : (rows : List (List ℕ)) (next : List ℕ) (n m v : ℕ) → AreSlackRows g least hops rows m → HasRisen n (slack_row_at rows m) next v → (k : ℕ) → m + 1 ≡ k + 1 → HasRisen n (slack_row_at (rows ++ next ∷ []) k) (slack_row_at (rows ++ next ∷ []) (k + 1)) v
  risen_more rows next n m v are risen k same =
      let len : length rows ≡ m + 1 = are.len in
      let here : m ≡ k = omega arith in
      subst (λ r. HasRisen n r (slack_row_at (rows ++ next ∷ []) (k + 1)) v) (sym (row_before rows next k (omega arith)))
      (subst (λ r. HasRisen n (slack_row_at rows k) r v) (sym (row_last rows next (k + 1) (omega arith))) (subst (λ j. HasRisen n (slack_row_at rows j) next v) here risen))
