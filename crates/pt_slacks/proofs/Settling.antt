-- One round, from the row that was read to the one that was made.
use Rattle.std.proofs.Common.{◌≡◌, ℕ, ◌+◌, ◌<◌, ◌≤◌, ◌^◌, List, [], Option, length, get_or, slice_index, sym, ap, subst, ◌∙◌, arith}
use Rattle.std.proofs.lemmas.List.{get_or_read}
use Rattle.pt_tags.specs.declared.tag.Delay.{Delay}
use Rattle.pt_types.specs.declared.graph.Graph.{Graph}
use Rattle.pt_types.specs.declared.graph.Unit.{Unit}
use Rattle.pt_types.specs.Lawful.{IsLawful}
use Rattle.pt_slacks.specs.declared.hop.Hop.{Hop}
use Rattle.pt_slacks.specs.Hops.{hop_at}
use Rattle.pt_slacks.specs.Rows.{AreSlackRows, HasRisen, IsLeastRow, IsNextRow, slack_row_at}
use Rattle.pt_slacks.proofs.Rounds.{least_row, row_len, rows_fit}

-- the row that was read is that of the round
pub read_row : (rows : List (List ℕ)) (m : ℕ) (item row : List ℕ) → length rows ≡ m + 1 → row ≡ item → item ≡ get_or rows m item → row ≡ slack_row_at rows m
read_row rows m item row len same read = same ∙ get_or_read rows m item (omega arith) read []

below_both : (x y : ℕ) → x ≤ y → y < 2 ^ 62 → x < 2 ^ 62
below_both x y h k = omega arith

module _ (g : Graph) (least : Unit → Unit → Option Delay) (hops : List Hop) (rows : List (List ℕ)) (m : ℕ) (row : List ℕ) (is : row ≡ slack_row_at rows m) (are : AreSlackRows g least hops rows m) where
  pub begun_len : length row ≡ length hops
  begun_len = ap length is ∙ row_len g least hops rows m m are (omega arith)

  pub begun_small : IsLawful g → length hops ≤ 64 → ((w : ℕ) → w < length hops → (hop_at hops w).cost < 2 ^ 52) → m ≤ 65 → (w : ℕ) → w < length hops → slice_index row w < 2 ^ 62
  begun_small lawful few cheap limit w less = subst (λ r. slice_index r w < 2 ^ 62) (sym is) (rows_fit g least hops rows m lawful few cheap are m (omega arith) limit w less)

  pub ended : (next after : List ℕ) → IsNextRow hops least row next → after ≡ next → ((v : ℕ) → v < length row → slice_index after v ≤ slice_index row v) → ((w : ℕ) → w < length hops → slice_index row w < 2 ^ 62) → IsLeastRow g least hops next
  ended next after made same still small =
      let len : length row ≡ length hops = begun_len in
      let low : (v : ℕ) → v < length hops → slice_index next v ≤ slice_index row v = λ v below. subst (λ r. slice_index r v ≤ slice_index row v) same (still v (omega (arith, len, below))) in
      least_row g least hops rows m next are (subst (λ r. IsNextRow hops least r next) is made)
      (λ v below. subst (λ r. slice_index next v ≤ slice_index r v) is (low v below))
      (λ v below. below_both (slice_index next v) (slice_index row v) (low v below) (small v below))

  pub went_on : (next : List ℕ) → IsNextRow hops least row next → IsNextRow hops least (slack_row_at rows m) next
  went_on next made = subst (λ r. IsNextRow hops least r next) is made

  pub risen : (next after : List ℕ) (v : ℕ) → after ≡ next → HasRisen (length row) row after v → HasRisen (length hops) (slack_row_at rows m) next v
  risen next after v same up =
      subst (λ n. HasRisen n (slack_row_at rows m) next v) begun_len
      (subst (λ r. HasRisen (length row) r next v) is (subst (λ r. HasRisen (length row) row r v) same up))
