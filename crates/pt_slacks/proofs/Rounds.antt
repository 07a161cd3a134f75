-- Rounds raise slacks to the least ones that are enough.
use Rattle.std.proofs.Common.{◌≡◌, ℕ, zero, suc, ◌+◌, ◌*◌, ◌<◌, ◌≤◌, ◌^◌, true, List, Option, Some, None, length, slice_index, subst, arith, ⊎_elim, leb-true}
use Rattle.std.proofs.lemmas.Bool.{and_parts}
use Rattle.pt_tags.specs.declared.tag.Delay.{Delay}
use Rattle.pt_types.specs.declared.graph.Graph.{Graph}
use Rattle.pt_types.specs.declared.graph.Unit.{Unit}
use Rattle.pt_types.specs.declared.kind.Kind.{Kind}
use Rattle.pt_types.specs.declared.kind.Kind.TheVariants.{Sensor}
use Rattle.pt_types.specs.Kinds.{is_time, kind_is_lawful}
use Rattle.pt_types.specs.Lawful.{IsLawful}
use Rattle.pt_types.specs.Lookups.{kind_of}
use Rattle.pt_types.specs.Names.{is_file}
use Rattle.pt_types.proofs.LawfulActors.{any_kind}
use Rattle.pt_offsets.specs.Margins.{unit_at}
use Rattle.pt_slacks.specs.declared.hop.Hop.{Hop}
use Rattle.pt_slacks.specs.Hops.{hop_at}
use Rattle.pt_slacks.specs.Needs.{IsBase, IsRaised, by_hop, by_kind, by_sensor, needed_by}
use Rattle.pt_slacks.specs.Rows.{AreSlackRows, HaveEnough, IsLeastRow, IsNextRow, slack_row_at}
use Rattle.pt_slacks.proofs.Most.{up_to}

same_le : (x y z : ℕ) → x ≡ y → y ≤ z → x ≤ z
same_le x y z e h = omega (arith, e, h)

-- a greater slack needs no less
needed_more : (x y cost : ℕ) (d : Option Delay) → x ≤ y → needed_by (x + cost) d ≤ needed_by (y + cost) d
needed_more x y cost None h = omega arith
needed_more x y cost (Some d) h = omega arith

needed_small : (late : ℕ) (d : Option Delay) → needed_by late d ≤ late
needed_small late None = omega arith
needed_small late (Some d) = omega arith

kind_small : (k : Kind) (d : Option Delay) → kind_is_lawful k ≡ true → by_kind k d < 2 ^ 52
kind_small (Sensor file bound) d h =
    let le : bound ≤ 1000000000000000 = leb-true bound 1000000000000000 (and_parts (is_file file) (is_time bound) h).1 in
    let small : needed_by (bound + 1) d ≤ bound + 1 = needed_small (bound + 1) d in
    omega (arith, le, small)
kind_small _ d h = omega arith

module _ (g : Graph) (least : Unit → Unit → Option Delay) (hops : List Hop) where
  -- a greater slack at a hop's sender needs no less elsewhere
  pub hop_more : (s t : ℕ → ℕ) (v w : ℕ) → s w ≤ t w → by_hop hops least s v w ≤ by_hop hops least t v w
  hop_more s t v w h = needed_more (s w) (t w) (hop_at hops w).cost (least (unit_at (hop_at hops w).to 0) (unit_at v 0)) h

  base_least : (other : ℕ → ℕ) (v x : ℕ) → HaveEnough g least hops other → v < length hops → IsBase g least (hop_at hops v).from x → x ≤ other v
  base_least other v x enough below base =
      ⊎_elim
      (λ (e : x ≡ 0). omega (arith, e))
      (λ (e : (a : ℕ) × (a < length g.actors) × (x ≡ by_sensor g least (hop_at hops v).from a)). same_le x (by_sensor g least (hop_at hops v).from e.0) (other v) e.2 (enough.sensors v e.0 below e.1))
      base.some

  raised_least : (other row : ℕ → ℕ) (v x : ℕ) → HaveEnough g least hops other → ((w : ℕ) → w < length hops → row w ≤ other w) → v < length hops → IsRaised hops least row (hop_at hops v).from (row v) x → x ≤ other v
  raised_least other row v x enough le below raised =
      ⊎_elim
      (λ (e : x ≡ row v). same_le x (row v) (other v) e (le v below))
      (λ (e : (w : ℕ) × (w < length hops) × (x ≡ by_hop hops least row (hop_at hops v).from w)).
      same_le x (by_hop hops least row (hop_at hops v).from e.0) (other v) e.2
      (up_to (by_hop hops least row (hop_at hops v).from e.0) (by_hop hops least other (hop_at hops v).from e.0) (other v) (hop_more row other (hop_at hops v).from e.0 (le e.0 e.1)) (enough.others v e.0 below e.1)))
      raised.some

  -- no row has more than what is enough
  pub rows_least : (rows : List (List ℕ)) (m : ℕ) (other : ℕ → ℕ) → AreSlackRows g least hops rows m → HaveEnough g least hops other → (k : ℕ) → k ≤ m → (v : ℕ) → v < length hops → slice_index (slack_row_at rows k) v ≤ other v
  rows_least rows m other are enough zero h v below = base_least other v (slice_index (slack_row_at rows 0) v) enough below (are.first.each v below)
  rows_least rows m other are enough (suc k) h v below =
      let step : k + 1 ≡ suc k = omega arith in
      subst (λ n. slice_index (slack_row_at rows n) v ≤ other v) step
      (raised_least other (slice_index (slack_row_at rows k)) v (slice_index (slack_row_at rows (k + 1)) v) enough (rows_least rows m other are enough k (omega arith)) below ((are.next k (omega arith)).each v below))

  -- no slack falls
  pub rows_rise : (rows : List (List ℕ)) (m : ℕ) → AreSlackRows g least hops rows m → (k j : ℕ) → k + j ≤ m → (v : ℕ) → v < length hops → slice_index (slack_row_at rows k) v ≤ slice_index (slack_row_at rows (k + j)) v
  rows_rise rows m are k zero h v below =
      let same : k ≡ k + 0 = omega arith in
      subst (λ n. slice_index (slack_row_at rows k) v ≤ slice_index (slack_row_at rows n) v) same (omega arith)
  rows_rise rows m are k (suc j) h v below =
      let same : (k + j) + 1 ≡ k + suc j = omega arith in
      subst (λ n. slice_index (slack_row_at rows k) v ≤ slice_index (slack_row_at rows n) v) same
      (up_to (slice_index (slack_row_at rows k) v) (slice_index (slack_row_at rows (k + j)) v) (slice_index (slack_row_at rows ((k + j) + 1)) v) (rows_rise rows m are k j (omega arith) v below) ((are.next (k + j) (omega arith)).each v below).from)

  -- a round that raises nothing has the least slacks that are enough
  pub least_row : (rows : List (List ℕ)) (m : ℕ) (next : List ℕ) → AreSlackRows g least hops rows m → IsNextRow hops least (slack_row_at rows m) next → ((v : ℕ) → v < length hops → slice_index next v ≤ slice_index (slack_row_at rows m) v) → ((v : ℕ) → v < length hops → slice_index next v < 2 ^ 62) → IsLeastRow g least hops next
  least_row rows m next are is still fit = record {
    fits = fit;
    len = is.len;
    enough = record {
      sensors = λ v a below there.
          let first = slice_index (slack_row_at rows 0) v in
          let last = slice_index (slack_row_at rows m) v in
          let same : 0 + m ≡ m = omega arith in
          let risen : first ≤ last = subst (λ n. first ≤ slice_index (slack_row_at rows n) v) same (rows_rise rows m are 0 m (omega arith) v below) in
          up_to (by_sensor g least (hop_at hops v).from a) first (slice_index next v) ((are.first.each v below).each a there) (up_to first last (slice_index next v) risen (is.each v below).from);
      others = λ v w below there.
          up_to (by_hop hops least (slice_index next) (hop_at hops v).from w) (by_hop hops least (slice_index (slack_row_at rows m)) (hop_at hops v).from w) (slice_index next v)
          (hop_more (slice_index next) (slice_index (slack_row_at rows m)) (hop_at hops v).from w (still w there))
          ((is.each v below).each w there);
    };
    least_of_all = λ other enough v below. up_to (slice_index next v) (slice_index (slack_row_at rows m) v) (other v) (still v below) (rows_least rows m other are enough m (omega arith) v below);
  }

  base_small : (v x : ℕ) → IsLawful g → IsBase g least v x → x < 2 ^ 52
  base_small v x lawful base =
      ⊎_elim
      (λ (e : x ≡ 0). omega (arith, e))
      (λ (e : (a : ℕ) × (a < length g.actors) × (x ≡ by_sensor g least v a)).
      let small : by_sensor g least v e.0 < 2 ^ 52 = kind_small (kind_of g e.0) (least (unit_at e.0 0) (unit_at v 0)) (any_kind g e.0 lawful) in
      let same : x ≡ by_sensor g least v e.0 = e.2 in
      omega (arith, same, small))
      base.some

  more_small : (k x y cost : ℕ) → x < (k + 1) * 2 ^ 52 → cost < 2 ^ 52 → y ≤ x + cost → y < ((k + 1) + 1) * 2 ^ 52
  more_small k x y cost h c le = omega arith

  raised_small : (row : ℕ → ℕ) (k v start x : ℕ) → ((w : ℕ) → w < length hops → (hop_at hops w).cost < 2 ^ 52) → ((w : ℕ) → w < length hops → row w < (k + 1) * 2 ^ 52) → start < (k + 1) * 2 ^ 52 → IsRaised hops least row v start x → x < ((k + 1) + 1) * 2 ^ 52
  raised_small row k v start x cheap small from raised =
      ⊎_elim
      (λ (e : x ≡ start). omega (arith, e))
      (λ (e : (w : ℕ) × (w < length hops) × (x ≡ by_hop hops least row v w)).
      more_small k (row e.0) x (hop_at hops e.0).cost (small e.0 e.1) (cheap e.0 e.1)
      (same_le x (by_hop hops least row v e.0) (row e.0 + (hop_at hops e.0).cost) e.2 (needed_small (row e.0 + (hop_at hops e.0).cost) (least (unit_at (hop_at hops e.0).to 0) (unit_at v 0)))))
      raised.some

  -- the slacks of a round are small
  pub rows_small : (rows : List (List ℕ)) (m : ℕ) → IsLawful g → ((w : ℕ) → w < length hops → (hop_at hops w).cost < 2 ^ 52) → AreSlackRows g least hops rows m → (k : ℕ) → k ≤ m → (v : ℕ) → v < length hops → slice_index (slack_row_at rows k) v < (k + 1) * 2 ^ 52
  rows_small rows m lawful cheap are zero h v below =
      let small : slice_index (slack_row_at rows 0) v < 2 ^ 52 = base_small (hop_at hops v).from (slice_index (slack_row_at rows 0) v) lawful (are.first.each v below) in
      omega (arith, small)
  rows_small rows m lawful cheap are (suc k) h v below =
      let step : k + 1 ≡ suc k = omega arith in
      subst (λ n. slice_index (slack_row_at rows n) v < (n + 1) * 2 ^ 52) step
      (raised_small (slice_index (slack_row_at rows k)) k (hop_at hops v).from (slice_index (slack_row_at rows k) v) (slice_index (slack_row_at rows (k + 1)) v) cheap (rows_small rows m lawful cheap are k (omega arith)) (rows_small rows m lawful cheap are k (omega arith) v below) ((are.next k (omega arith)).each v below))

  -- a row has a slack for each hop
  pub row_len : (rows : List (List ℕ)) (m k : ℕ) → AreSlackRows g least hops rows m → k ≤ m → length (slack_row_at rows k) ≡ length hops
  row_len rows m zero are h = are.first.len
  row_len rows m (suc k) are h =
      let step : k + 1 ≡ suc k = omega arith in
      subst (λ n. length (slack_row_at rows n) ≡ length hops) step (are.next k (omega arith)).len

  -- the slacks of a round are far below what 64 bits hold
  pub rows_fit : (rows : List (List ℕ)) (m : ℕ) → IsLawful g → length hops ≤ 64 → ((w : ℕ) → w < length hops → (hop_at hops w).cost < 2 ^ 52) → AreSlackRows g least hops rows m → (k : ℕ) → k ≤ m → k ≤ 65 → (v : ℕ) → v < length hops → slice_index (slack_row_at rows k) v < 2 ^ 62
  rows_fit rows m lawful few cheap are k h limit v below =
      let small : slice_index (slack_row_at rows k) v < (k + 1) * 2 ^ 52 = rows_small rows m lawful cheap are k h v below in
      omega (arith, small)
