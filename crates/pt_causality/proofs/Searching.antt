-- Dijkstra's search: what is settled, what waits, and what follows where nothing waits.
use Rattle.std.proofs.Common.{Bool, ◌≡◌, ◌≢◌, ℕ, zero, suc, ◌+◌, ◌*◌, ◌<◌, ◌≤◌, ◌^◌, List, [], ◌∷◌, ◌++◌, filter, map, length, slice_set, Option, Some, None, refl, sym, ap, subst, ◌∙◌, arith, ◌⊎◌, inl, inr, ⊎_elim, get_or-set_same, get_or-set_other, length-set, length-append, IfSome}
use Rattle.std.specs.List.{All, Contains}
use Rattle.std.specs.List.Sorted.{IsPermutation}
use Rattle.std.proofs.lemmas.List.{length-map}
use Rattle.std.proofs.lemmas.List.Elements.{All-head, All-tail, All-append, All-map, All-weaker, All-contains, All-nil, All-cons, Contains-append_left, Contains-append_right}
use Rattle.std.proofs.lemmas.List.Sorted.{All-permutation, Contains-permutation, length_permutation}
use Rattle.pt_tags.specs.declared.tag.Delay.{Delay}
use Rattle.pt_tags.specs.Tags.{AtMost, then, zero_delay}
use Rattle.pt_semantics.specs.Lists.{IsIn}
use Rattle.pt_causality.specs.declared.arcs.Arc.{Arc}
use Rattle.pt_causality.specs.declared.frontier.FoundUnit.{FoundUnit}
use Rattle.pt_causality.specs.Cells.{delay_at}
use Rattle.pt_causality.specs.Arcs.{arcs_from, ArcsLead, total, HasNearest, HasLeastDelays, IsSmallRow, IsFit, AreFit}
use Rattle.pt_causality.specs.Waits.{HasLeastDelay, is_open, reached}
use Rattle.pt_causality.proofs.Members.{some_is, not_both, cases_nat, cases_option, all_in, contains_in, in_map, first_or_rest, none_contained, none_open, in_pass, of_pass, few_pass}

pub same_delay : (d e : Delay) → d.time ≡ e.time → d.step ≡ e.step → d ≡ e
same_delay d e p q = λ i. record { time = p i; step = q i }

-- a path can be continued at its end
follows_push : (arcs : List (List Arc)) (s : ℕ) (path : List Arc) (k : ℕ) (a : Arc) → ArcsLead arcs s path k → IsIn a (arcs_from arcs k) → ArcsLead arcs s (path ++ a ∷ []) a.to
follows_push arcs s [] k a h there = (subst (λ j. IsIn a (arcs_from arcs j)) (sym h) there, refl)
follows_push arcs s (b ∷ path) k a h there = (h.0, follows_push arcs b.to path k a h.1 there)

total_push : (path : List Arc) (a : Arc) → total (path ++ a ∷ []) ≡ then (total path) a.weight
total_push [] a = same_delay _ _ (omega arith) (omega arith)
total_push (b ∷ path) a =
    let ih = total_push path a in
    let t : (total (path ++ a ∷ [])).time ≡ (total path).time + a.weight.time = ap (λ (d : Delay). d.time) ih in
    let p : (total (path ++ a ∷ [])).step ≡ (total path).step + a.weight.step = ap (λ (d : Delay). d.step) ih in
    same_delay _ _ (omega arith) (omega arith)

-- the cost of all places that are not settled
pub unsettled : (ℕ → ℕ) → List (Option Delay) → ℕ
unsettled cost [] = 0
unsettled cost (None ∷ row) = cost 0 + unsettled (λ k. cost (suc k)) row
unsettled cost (Some d ∷ row) = unsettled (λ k. cost (suc k)) row

pub settle_one : (cost : ℕ → ℕ) (row : List (Option Delay)) (u : ℕ) (d : Delay) → u < length row → delay_at row u ≡ None → unsettled cost row ≡ cost u + unsettled cost (slice_set row u (Some d))
unfolding unsettled
settle_one cost [] u d h none = absurd (omega arith)
settle_one cost (None ∷ row) zero d h none = refl
settle_one cost (Some e ∷ row) zero d h none = absurd cc
settle_one cost (None ∷ row) (suc u) d h none =
    let ih = settle_one (λ k. cost (suc k)) row u d (omega arith) none in
    omega arith
settle_one cost (Some e ∷ row) (suc u) d h none = settle_one (λ k. cost (suc k)) row u d (omega arith) none

few_unsettled : (xs : List (Option Delay)) → unsettled (λ k. 1) xs ≤ length xs
unfolding unsettled
few_unsettled [] = omega arith
few_unsettled (None ∷ xs) = let ih = few_unsettled xs in omega arith
few_unsettled (Some d ∷ xs) = let ih = few_unsettled xs in omega arith

-- where a place was set, and elsewhere
placed : (row : List (Option Delay)) (u k : ℕ) (d : Delay) → u < length row → ((k ≡ u) × (delay_at (slice_set row u (Some d)) k ≡ Some d)) ⊎ ((k ≢ u) × (delay_at (slice_set row u (Some d)) k ≡ delay_at row k))
placed row u k d h = ⊎_elim
    (λ (e : k ≡ u). inl (e, subst (λ j. delay_at (slice_set row u (Some d)) j ≡ Some d) (sym e) (rw get_or-set_same refl)))
    (λ (e : k ≢ u). inr (e, rw get_or-set_other refl))
    (cases_nat k u)

-- place k is settled with at most d
pub record Settled (row : List (Option Delay)) (k : ℕ) (d : Delay) : Type 0 where
  pub at : Delay
  pub is : delay_at row k ≡ Some at
  pub most : AtMost at d

-- it waits for at most d
pub record Waits (waiting : List FoundUnit) (k : ℕ) (d : Delay) : Type 0 where
  pub one : FoundUnit
  pub there : Contains waiting one
  pub unit : one.unit ≡ k
  pub most : AtMost one.at d

abbrev Met : List (Option Delay) → List FoundUnit → ℕ → Delay → Type 0
Met row waiting k d = Settled row k d ⊎ ((delay_at row k ≡ None) × Waits waiting k d)

at_most_trans : (c d e : Delay) → AtMost c d → AtMost d e → AtMost c e
at_most_trans c d e h k = omega arith

at_most_then : (c d w : Delay) → AtMost c d → AtMost c (then d w)
at_most_then c d w h = omega arith

at_most_both : (c d w : Delay) → AtMost c d → AtMost (then c w) (then d w)
at_most_both c d w h = omega arith

-- a unit that waits is as far away as the number of settled places allows
abbrev IsNear : List (Option Delay) → FoundUnit → Type 0
IsNear row w = (w.at.time + unsettled (λ k. 1) row * 1000000000000000 ≤ length row * 1000000000000000) × (w.at.step + unsettled (λ k. 1) row ≤ length row)

-- the work that is left falls where one that waits is settled already, and where it is settled now
pub less_waits : (work : ℕ) (old new : List FoundUnit) (w : FoundUnit) → IsPermutation old (w ∷ new) → work + length new < work + length old
less_waits work old new w taken = let same : length (w ∷ new) ≡ length old = length_permutation old (w ∷ new) taken in omega arith

pub less_work : (arcs : List (List Arc)) (p : Arc → Bool) (row : List (Option Delay)) (old new newer : List FoundUnit) (w : FoundUnit) → IsPermutation old (w ∷ new) → IsPermutation (map (reached w.at) (filter p (arcs_from arcs w.unit)) ++ new) newer → w.unit < length row → delay_at row w.unit ≡ None
    → unsettled (λ k. 1 + length (arcs_from arcs k)) (slice_set row w.unit (Some w.at)) + length newer < unsettled (λ k. 1 + length (arcs_from arcs k)) row + length old
less_work arcs p row old new newer w taken pushed within none =
    let one : length (w ∷ new) ≡ length old = length_permutation old (w ∷ new) taken in
    let these = filter p (arcs_from arcs w.unit) in
    let more : length newer ≡ length (map (reached w.at) these ++ new) = length_permutation (map (reached w.at) these ++ new) newer pushed in
    let both : length (map (reached w.at) these ++ new) ≡ length (map (reached w.at) these) + length new = length-append (map (reached w.at) these) new in
    let mapped : length (map (reached w.at) these) ≡ length these = length-map these (reached w.at) in
    let some : length these ≤ length (arcs_from arcs w.unit) = few_pass p (arcs_from arcs w.unit) in
    let fewer = settle_one (λ k. 1 + length (arcs_from arcs k)) row w.unit w.at within none in
    omega (arith, fewer)

module _ (arcs : List (List Arc)) (s : ℕ) where
  -- a path leads to place k with that delay
  abbrev Reaches : ℕ → Delay → Type 0
  Reaches k d = (path : List Arc) × ArcsLead arcs s path k × (total path ≡ d)

  -- the search at any time
  pub record Searched (row : List (Option Delay)) (waiting : List FoundUnit) : Type 0 where
    pub len : length row ≡ length arcs
    pub found : (k : ℕ) (d : Delay) → delay_at row k ≡ Some d → Reaches k d
    pub small : (k : ℕ) (d : Delay) → delay_at row k ≡ Some d → (d.time ≤ length row * 1000000000000000) × (d.step ≤ length row)
    pub waits : All (λ (w : FoundUnit). Reaches w.unit w.at) waiting
    pub within : All (λ (w : FoundUnit). w.unit < length arcs) waiting
    pub near : All (IsNear row) waiting
    pub before : (k : ℕ) (d : Delay) → delay_at row k ≡ Some d → All (λ (w : FoundUnit). AtMost d w.at) waiting
    pub start : Met row waiting s zero_delay
    pub onward : (j : ℕ) (d : Delay) → delay_at row j ≡ Some d → (a : Arc) → IsIn a (arcs_from arcs j) → Met row waiting a.to (then d a.weight)

  reaches_push : (k : ℕ) (d : Delay) (a : Arc) → Reaches k d → IsIn a (arcs_from arcs k) → Reaches a.to (then d a.weight)
  reaches_push k d a (path, follows, sum) there = (path ++ a ∷ [], follows_push arcs s path k a follows there, total_push path a ∙ ap (λ z. then z a.weight) sum)

  -- what waits is settled already
  module _ (row : List (Option Delay)) (old new : List FoundUnit) (w : FoundUnit) (taken : IsPermutation old (w ∷ new)) (h : Searched row old) where
    rest : (P : FoundUnit → Type 0) → All P old → All P new
    rest P all = All-tail P w new (All-permutation P old (w ∷ new) taken all)

    head : (P : FoundUnit → Type 0) → All P old → P w
    head P all = All-head P w new (All-permutation P old (w ∷ new) taken all)

    pub next_within : w.unit < length arcs
    next_within = head (λ (v : FoundUnit). v.unit < length arcs) h.within

    pub next_small : length arcs ≤ 2048 → (w.at.time < 2 ^ 62) × (w.at.step < 2 ^ 62)
    next_small few = let near : IsNear row w = head (IsNear row) h.near in let len = h.len in omega arith

    pub skipped : (e : Delay) → delay_at row w.unit ≡ Some e → Searched row new
    skipped e settled = record {
      len = h.len;
      found = h.found;
      small = h.small;
      waits = rest (λ (v : FoundUnit). Reaches v.unit v.at) h.waits;
      within = rest (λ (v : FoundUnit). v.unit < length arcs) h.within;
      near = rest (IsNear row) h.near;
      before = λ k d is. rest (λ (v : FoundUnit). AtMost d v.at) (h.before k d is);
      start = still s zero_delay h.start;
      onward = λ j d is a there. still a.to (then d a.weight) (h.onward j d is a there);
    }
      where
        still : (k : ℕ) (d : Delay) → Met row old k d → Met row new k d
        still k d met = ⊎_elim
            (λ (z : Settled row k d). inl z)
            (λ (z : (delay_at row k ≡ None) × Waits old k d).
            inr (
              z.0,
              ⊎_elim
                  (λ (same : z.1.one ≡ w). absurd (not_both (delay_at row k) e z.0 (subst (λ j. delay_at row j ≡ Some e) (sym (ap (λ (v : FoundUnit). v.unit) same) ∙ z.1.unit) settled)))
                  (λ (other : Contains new z.1.one). record { one = z.1.one; there = other; unit = z.1.unit; most = z.1.most })
                  (first_or_rest w z.1.one new (Contains-permutation old (w ∷ new) z.1.one taken z.1.there)),
            ))
            met

    -- what waits is settled now, and what its arcs lead to waits
    module _ (newer : List FoundUnit) (pushed : IsPermutation (map (reached w.at) (filter (is_open (slice_set row w.unit (Some w.at))) (arcs_from arcs w.unit)) ++ new) newer) (fit : AreFit arcs) (first : HasLeastDelay w old) (none : delay_at row w.unit ≡ None) where
      abbrev row_after : List (Option Delay)
      row_after = slice_set row w.unit (Some w.at)

      -- the arcs that lead on
      onwards : List Arc
      onwards = filter (is_open row_after) (arcs_from arcs w.unit)

      joined : IsPermutation (map (reached w.at) onwards ++ new) newer
      unfolding onwards
      joined = pushed

      onwards_leave : (a : Arc) → IsIn a onwards → IsIn a (arcs_from arcs w.unit)
      unfolding onwards
      onwards_leave a there = of_pass (is_open row_after) a (arcs_from arcs w.unit) there

      leads_on : (a : Arc) → IsIn a (arcs_from arcs w.unit) → delay_at row_after a.to ≡ None → IsIn a onwards
      unfolding onwards
      leads_on a there none = in_pass (is_open row_after) a (arcs_from arcs w.unit) there (none_open (delay_at row_after a.to) none)

      here : w.unit < length row
      here = let less : w.unit < length arcs = head (λ (v : FoundUnit). v.unit < length arcs) h.within in let len = h.len in omega arith

      by_place : (k : ℕ) → ((k ≡ w.unit) × (delay_at row_after k ≡ Some w.at)) ⊎ ((k ≢ w.unit) × (delay_at row_after k ≡ delay_at row k))
      by_place k = placed row w.unit k w.at here

      fewer : unsettled (λ k. 1) row ≡ 1 + unsettled (λ k. 1) row_after
      fewer = settle_one (λ k. 1) row w.unit w.at here none

      same_len : length row_after ≡ length row
      same_len = length-set row w.unit (Some w.at)

      -- what holds of the units reached now and of the rest
      among : (P : FoundUnit → Type 0) → ((a : Arc) → IsIn a (arcs_from arcs w.unit) → P (reached w.at a)) → All P new → All P newer
      among P reach others =
          All-permutation P (map (reached w.at) onwards ++ new) newer joined
          (All-append P (map (reached w.at) onwards) new (All-map P (reached w.at) onwards (all_in (λ a. P (reached w.at a)) onwards (λ a there. reach a (onwards_leave a there)))) others)

      all_before : (d : Delay) → AtMost d w.at → All (λ (v : FoundUnit). AtMost d v.at) old → All (λ (v : FoundUnit). AtMost d v.at) newer
      all_before d most all = among (λ (v : FoundUnit). AtMost d v.at) (λ a there. at_most_then d w.at a.weight most) (rest (λ (v : FoundUnit). AtMost d v.at) all)

      -- each settled place: this one, or one that was
      settled_place : (P : ℕ → Delay → Type 0) → P w.unit w.at → ((k : ℕ) (d : Delay) → delay_at row k ≡ Some d → P k d) → (k : ℕ) (d : Delay) → delay_at row_after k ≡ Some d → P k d
      settled_place P this those k d is = ⊎_elim
          (λ (z : (k ≡ w.unit) × (delay_at row_after k ≡ Some w.at)). subst (λ j. P j d) (sym z.0) (subst (P w.unit) (some_is w.at d (sym z.1 ∙ is)) this))
          (λ (z : (k ≢ w.unit) × (delay_at row_after k ≡ delay_at row k)). those k d (sym z.1 ∙ is))
          (by_place k)

      still_waits : (k : ℕ) (d : Delay) → k ≢ w.unit → Waits old k d → Waits newer k d
      still_waits k d other z = ⊎_elim
          (λ (same : z.one ≡ w). absurd (other (sym z.unit ∙ ap (λ (v : FoundUnit). v.unit) same)))
          (λ (there : Contains new z.one). record {
            one = z.one;
            there = Contains-permutation (map (reached w.at) onwards ++ new) newer z.one joined (Contains-append_right (map (reached w.at) onwards) new z.one there);
            unit = z.unit;
            most = z.most;
          })
          (first_or_rest w z.one new (Contains-permutation old (w ∷ new) z.one taken z.there))

      met_after : (k : ℕ) (d : Delay) → Met row old k d → Met row_after newer k d
      met_after k d met = ⊎_elim
          (λ (place : (k ≡ w.unit) × (delay_at row_after k ≡ Some w.at)).
          inl (record {
            at = w.at;
            is = place.1;
            most = ⊎_elim
                (λ (z : Settled row k d). absurd (not_both (delay_at row k) z.at (subst (λ j. delay_at row j ≡ None) (sym place.0) none) z.is))
                (λ (z : (delay_at row k ≡ None) × Waits old k d). at_most_trans w.at z.1.one.at d (All-contains (λ (v : FoundUnit). AtMost w.at v.at) old z.1.one first z.1.there) z.1.most)
                met;
          }))
          (λ (place : (k ≢ w.unit) × (delay_at row_after k ≡ delay_at row k)). ⊎_elim
          (λ (z : Settled row k d). inl (record { at = z.at; is = place.1 ∙ z.is; most = z.most }))
          (λ (z : (delay_at row k ≡ None) × Waits old k d). inr (place.1 ∙ z.0, still_waits k d place.0 z.1))
          met)
          (by_place k)

      -- an arc from here is met
      met_here : (a : Arc) → IsIn a (arcs_from arcs w.unit) → Met row_after newer a.to (then w.at a.weight)
      met_here a there = ⊎_elim
          (λ (z : delay_at row_after a.to ≡ None).
          inr (
            z,
            record {
              one = reached w.at a;
              there = Contains-permutation (map (reached w.at) onwards ++ new) newer (reached w.at a) joined
                  (Contains-append_left (map (reached w.at) onwards) new (reached w.at a) (contains_in (reached w.at a) (map (reached w.at) onwards) (in_map (reached w.at) a onwards (leads_on a there z))));
              unit = refl;
              most = omega arith;
            },
          ))
          (λ (z : (d : Delay) × (delay_at row_after a.to ≡ Some d)).
          inl (record {
            at = z.0;
            is = z.1;
            most = at_most_then z.0 w.at a.weight
                (settled_place (λ k d. AtMost d w.at) (omega arith) (λ k d is. head (λ (v : FoundUnit). AtMost d v.at) (h.before k d is)) a.to z.0 z.1);
          }))
          (cases_option (delay_at row_after a.to))

      near_after : All (IsNear row_after) newer
      near_after = among (IsNear row_after)
          (λ a there. near_one a (fit w.unit a there))
          (All-weaker (IsNear row) (IsNear row_after) near_still new (rest (IsNear row) h.near))
        where
          near_still : (v : FoundUnit) → IsNear row v → IsNear row_after v
          near_still v near = let f = fewer in let l = same_len in omega arith

          near_one : (a : Arc) → IsFit (length arcs) a → IsNear row_after (reached w.at a)
          near_one a is =
              let near : IsNear row w = head (IsNear row) h.near in
              let f = fewer in
              let l = same_len in
              let t = is.time in
              let p = is.step in
              omega arith

      pub settled_now : Searched (slice_set row w.unit (Some w.at)) newer
      settled_now = record {
        len = same_len ∙ h.len;
        found = settled_place Reaches (head (λ (v : FoundUnit). Reaches v.unit v.at) h.waits) h.found;
        small = settled_place (λ k d. (d.time ≤ length row_after * 1000000000000000) × (d.step ≤ length row_after))
            (let near : IsNear row w = head (IsNear row) h.near in let l = same_len in omega arith)
            (λ k d is. let was = h.small k d is in let l = same_len in omega arith);
        waits = among (λ (v : FoundUnit). Reaches v.unit v.at) (λ a there. reaches_push w.unit w.at a (head (λ (v : FoundUnit). Reaches v.unit v.at) h.waits) there) (rest (λ (v : FoundUnit). Reaches v.unit v.at) h.waits);
        within = among (λ (v : FoundUnit). v.unit < length arcs) (λ a there. (fit w.unit a there).to) (rest (λ (v : FoundUnit). v.unit < length arcs) h.within);
        near = near_after;
        before = settled_place (λ k d. All (λ (v : FoundUnit). AtMost d v.at) newer) (all_before w.at (omega arith) first)
            (λ k d is. all_before d (head (λ (v : FoundUnit). AtMost d v.at) (h.before k d is)) (h.before k d is));
        start = met_after s zero_delay h.start;
        onward = settled_place (λ j d. (a : Arc) → IsIn a (arcs_from arcs j) → Met row_after newer a.to (then d a.weight)) met_here
            (λ j d is a there. met_after a.to (then d a.weight) (h.onward j d is a there));
      }

  -- at the start only the first place waits
  abbrev origin : FoundUnit
  origin = record { at = zero_delay; unit = s }

  pub started : (row : List (Option Delay)) (waiting : List FoundUnit) → length row ≡ length arcs → s < length arcs → ((k : ℕ) → delay_at row k ≡ None) → IsPermutation (origin ∷ []) waiting → Searched row waiting
  started row waiting len less absent pushed = record {
    len = len;
    found = λ k d is. absurd (not_both (delay_at row k) d (absent k) is);
    small = λ k d is. absurd (not_both (delay_at row k) d (absent k) is);
    waits = one (λ (v : FoundUnit). Reaches v.unit v.at) ([], refl, refl);
    within = one (λ (v : FoundUnit). v.unit < length arcs) less;
    near = one (IsNear row) (let few : unsettled (λ k. 1) row ≤ length row = few_unsettled row in omega arith);
    before = λ k d is. absurd (not_both (delay_at row k) d (absent k) is);
    start = inr (absent s, record { one = origin; there = Contains-permutation (origin ∷ []) waiting origin pushed (zero, omega arith, refl); unit = refl; most = omega arith });
    onward = λ j d is. absurd (not_both (delay_at row j) d (absent j) is);
  }
    where
      one : (P : FoundUnit → Type 0) → P origin → All P waiting
      one P p = All-permutation P (origin ∷ []) waiting pushed (All-cons P origin [] p (All-nil P))

  -- at the end nothing waits
  module _ (row : List (Option Delay)) (h : Searched row []) where
    met_settled : (k : ℕ) (d : Delay) → Met row [] k d → Settled row k d
    met_settled k d met = ⊎_elim (λ (z : Settled row k d). z) (λ (z : (delay_at row k ≡ None) × Waits [] k d). absurd (none_contained z.1.one z.1.there)) met

    along : (path : List Arc) (j k : ℕ) (d : Delay) → Settled row j d → ArcsLead arcs j path k → Settled row k (then d (total path))
    along [] j k d z same = subst (λ i. Settled row i (then d zero_delay)) same (record { at = z.at; is = z.is; most = at_most_then z.at d zero_delay z.most })
    along (a ∷ path) j k d z (there, on) =
        let next = met_settled a.to (then z.at a.weight) (h.onward j z.at z.is a there) in
        let last = along path a.to k (then z.at a.weight) next on in
        record { at = last.at; is = last.is; most = further last.at z.at d a.weight (total path) last.most z.most }
      where
        further : (x c d v t : Delay) → AtMost x (then (then c v) t) → AtMost c d → AtMost x (then d (then v t))
        further x c d v t p q = omega arith

    settled_by : (path : List Arc) (k : ℕ) → ArcsLead arcs s path k → Settled row k (total path)
    settled_by path k follows =
        let z = along path s k zero_delay (met_settled s zero_delay h.start) follows in
        record { at = z.at; is = z.is; most = let m = z.most in omega arith }

    pub row_is : HasLeastDelays arcs s row
    row_is k less = by_case (delay_at row k) refl
      where
        by_case : (o : Option Delay) → delay_at row k ≡ o → HasNearest arcs s k o
        by_case None e = λ path follows. let z = settled_by path k follows in not_both (delay_at row k) z.at e z.is
        by_case (Some d) e = record {
          along = h.found k d e;
          least = λ path follows. let z = settled_by path k follows in subst (λ c. AtMost c (total path)) (some_is z.at d (sym z.is ∙ e)) z.most;
        }

    pub row_is_small : length arcs ≤ 2048 → IsSmallRow row
    row_is_small few k = by_case (delay_at row k) refl
      where
        by_case : (o : Option Delay) → delay_at row k ≡ o → IfSome o (λ (d : Delay). (d.time < 2 ^ 62) × (d.step < 2 ^ 62))
        by_case None e = tt
        by_case (Some d) e = let small = h.small k d e in let len = h.len in omega arith
