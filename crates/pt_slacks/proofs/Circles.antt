-- Rings of senders: what they gain, and where they begin.
use Rattle.std.proofs.Common.{◌≡◌, ℕ, ℤ, pos, ◌+◌, ◌-◌, ◌<◌, ◌+ℤ◌, ◌-ℤ◌, ◌==◌, true, false, not, List, [], ◌∷◌, ◌++◌, Option, Some, None, length, map, slice_index, if◌then◌else◌, refl, sym, ap, subst, ◌∙◌, arith, ⊎_elim}
use Rattle.std.specs.List.{take_while}
use Rattle.std.proofs.lemmas.Bool.{cases_Bool, eqb-false, eqb-true}
use Rattle.std.proofs.lemmas.Int.{ints}
use Rattle.std.proofs.lemmas.List.{append-nil}
use Rattle.std.proofs.lemmas.List.Sums.{take_while-cons}
use Rattle.pt_tags.specs.declared.tag.Delay.{Delay}
use Rattle.pt_types.specs.declared.graph.Graph.{Graph}
use Rattle.pt_types.specs.declared.graph.Unit.{Unit}
use Rattle.pt_types.specs.Lawful.{IsLawful}
use Rattle.pt_types.specs.Lookups.{kind_of}
use Rattle.pt_semantics.specs.Lists.{IsIn}
use Rattle.pt_semantics.specs.Paths.{IsLeast}
use Rattle.pt_causality.specs.Delays.{AreLeast, HasLeast}
use Rattle.pt_offsets.specs.Margins.{unit_at}
use Rattle.pt_slacks.specs.declared.hop.Hop.{Hop}
use Rattle.pt_slacks.specs.Hops.{cost_of, hop_at, hop_of}
use Rattle.pt_slacks.specs.Needs.{by_hop, needed_by}
use Rattle.pt_slacks.specs.Rings.{Gains, GainsAlong}
use Rattle.pt_slacks.specs.Rows.{HasRisen, slack_row_at}
use Rattle.pt_slacks.specs.Trails.{Raises, Trails}
use Rattle.pt_slacks.proofs.Admitting.{by_hop_is, has_least, hop_of_link}

-- a sum of gains from each of these to the next, and from the last to the first
abbrev pub Round : Graph → List ℕ → ℤ → Type 0
Round g [] n = ⊥
Round g (x ∷ xs) n = GainsAlong g x xs x n

gains_join : (g : Graph) (w : ℕ) (xs : List ℕ) (y : ℕ) (ys : List ℕ) (v : ℕ) (m k : ℤ) → GainsAlong g w xs y m → GainsAlong g y ys v k → GainsAlong g w (xs ++ y ∷ ys) v (m +ℤ k)
gains_join g w [] y ys v m k a b = (m, k, a, b, refl)
gains_join g w (x ∷ xs) y ys v m k a b = let sum : m ≡ a.0 +ℤ a.1 = a.4 in (a.0, a.1 +ℤ k, a.2, gains_join g x xs y ys v a.1 k a.3 b, omega (arith, ints, sum))

gains_split : (g : Graph) (w : ℕ) (xs : List ℕ) (y : ℕ) (ys : List ℕ) (v : ℕ) (n : ℤ) → GainsAlong g w (xs ++ y ∷ ys) v n → (m : ℤ) × (k : ℤ) × GainsAlong g w xs y m × GainsAlong g y ys v k × (n ≡ m +ℤ k)
gains_split g w [] y ys v n h = h
gains_split g w (x ∷ xs) y ys v n h =
    let rest = gains_split g x xs y ys v h.1 h.3 in
    let sum : n ≡ h.0 +ℤ h.1 = h.4 in
    let parts : h.1 ≡ rest.0 +ℤ rest.1 = rest.4 in
    (h.0 +ℤ rest.0, rest.1, (h.0, rest.0, h.2, rest.2, refl), rest.3, omega (arith, ints, sum, parts))

swapped : (n m k : ℤ) → n ≡ m +ℤ k → k +ℤ m ≡ n
swapped n m k e = omega (arith, ints, e)

-- a ring may begin at any of its senders
pub rotate : (g : Graph) (xs ys : List ℕ) (n : ℤ) → Round g (xs ++ ys) n → Round g (ys ++ xs) n
rotate g [] ys n h = subst (λ z. Round g z n) (sym (append-nil ys)) h
rotate g (x ∷ xs) [] n h = subst (λ z. Round g z n) (append-nil (x ∷ xs)) h
rotate g (x ∷ xs) (y ∷ ys) n h =
    let parts = gains_split g x xs y ys x n h in
    subst (λ z. GainsAlong g y (ys ++ x ∷ xs) y z) (swapped n parts.0 parts.1 parts.4) (gains_join g y ys x xs y parts.1 parts.0 parts.3 parts.2)

gain_by : (g : Graph) (a b : Unit) (x y cost : ℕ) (found : Option Delay) → HasLeast g a b found → y ≡ needed_by (x + cost) found → 0 < y → (d : Delay) × IsLeast g a b d × (pos y -ℤ pos x ≡ pos cost -ℤ pos d.time)
gain_by g a b x y cost None has is more = absurd (omega (arith, is, more))
gain_by g a b x y cost (Some d) has is more = (d, has, exact x y cost d.time is more)
  where
    exact : (x y cost t : ℕ) → y ≡ (x + cost) - t → 0 < y → pos y -ℤ pos x ≡ pos cost -ℤ pos t
    exact x y cost t is more = omega (arith, ints, is, more)

same_sum : (a b c : ℕ) → pos c -ℤ pos a ≡ (pos b -ℤ pos a) +ℤ (pos c -ℤ pos b)
same_sum a b c = omega (arith, ints)

module _ (g : Graph) (least : Unit → Unit → Option Delay) (hops : List Hop) (lawful : IsLawful g) (are : hops ≡ map (hop_of g) g.links) (all : AreLeast g least) (rows : List (List ℕ)) where
  gain_step : (k v u : ℕ) → v < length hops → HasRisen (length hops) (slack_row_at rows (k + 1)) (slack_row_at rows ((k + 1) + 1)) u → slice_index (slack_row_at rows ((k + 1) + 1)) u ≡ by_hop hops least (slice_index (slack_row_at rows (k + 1))) (hop_at hops u).from v →
      Gains g (hop_at hops v).from (hop_at hops u).from (pos (slice_index (slack_row_at rows ((k + 1) + 1)) u) -ℤ pos (slice_index (slack_row_at rows (k + 1)) v))
  gain_step k v u below rose is =
      let x = slice_index (slack_row_at rows (k + 1)) v in
      let y = slice_index (slack_row_at rows ((k + 1) + 1)) u in
      let hop = hop_of_link g least hops lawful are all v below in
      let goal = hop_of_link g least hops lawful are all u rose.below in
      let a = (hop_at hops u).from in
      let sends = ap (λ (h : Hop). kind_of g h.from) goal.is ∙ goal.joins.sends in
      let here : a < length g.actors = subst (λ (h : Hop). h.from < length g.actors) (sym goal.is) goal.joins.from in
      let more : slice_index (slack_row_at rows (k + 1)) u < y = rose.more in
      let some = gain_by g (unit_at hop.link.to 0) (unit_at a 0) x y (cost_of g hop.link) (least (unit_at hop.link.to 0) (unit_at a 0))
      (has_least g least hops lawful are all hop.link.to a hop.joins.to here)
      (is ∙ by_hop_is g least hops lawful are all (slice_index (slack_row_at rows (k + 1))) a v hop.link hop.is) (omega (arith, more)) in
      record {
        number = v;
        link = hop.link;
        at = hop.at;
        from = sym (ap (λ (h : Hop). h.from) hop.is);
        own = goal.joins.slack;
        sends = sends;
        delay = some.0;
        least = some.1;
        is = some.2;
      }

  -- the gains from the sender of hop v, which rose in round k, along a trail to the sender of hop w
  pub record AlongTo (k v : ℕ) (xs : List ℕ) (w : ℕ) : Type 0 where
    pub steps : List ℕ
    pub is : take_while (λ y. not (y == w)) xs ≡ steps
    pub rest : List ℕ
    pub parts : (steps ++ w ∷ []) ++ rest ≡ xs
    pub rose : HasRisen (length hops) (slack_row_at rows ((k + 1) + length steps)) (slack_row_at rows (((k + 1) + length steps) + 1)) w
    pub gains : GainsAlong g (hop_at hops v).from (map (λ y. (hop_at hops y).from) steps) (hop_at hops w).from (pos (slice_index (slack_row_at rows (((k + 1) + length steps) + 1)) w) -ℤ pos (slice_index (slack_row_at rows (k + 1)) v))

  pub along_to : (k v : ℕ) (xs : List ℕ) (w : ℕ) → v < length hops → Raises hops least rows k v xs → Trails hops least rows (k + 1) xs → IsIn w xs → AlongTo k v xs w
  along_to k v [] w below raises trails there = absurd there
  along_to k v (x ∷ xs) w below raises trails there =
      ⊎_elim
      (λ (here : (x == w) ≡ true).
      let same : x ≡ w = eqb-true x w here in
      let index : k + 1 ≡ (k + 1) + 0 = omega arith in
      record {
        steps = [];
        rest = xs;
        parts = ap (λ y. y ∷ xs) (sym same);
        is = take_while-cons (λ y. not (y == w)) x xs ∙ ap (λ b. if not b then x ∷ take_while (λ y. not (y == w)) xs else []) here;
        rose = subst (λ j. HasRisen (length hops) (slack_row_at rows j) (slack_row_at rows (j + 1)) w) index (subst (HasRisen (length hops) (slack_row_at rows (k + 1)) (slack_row_at rows ((k + 1) + 1))) same trails.0);
        gains = subst (λ j. Gains g (hop_at hops v).from (hop_at hops w).from (pos (slice_index (slack_row_at rows (j + 1)) w) -ℤ pos (slice_index (slack_row_at rows (k + 1)) v))) index
            (subst (λ u. Gains g (hop_at hops v).from (hop_at hops u).from (pos (slice_index (slack_row_at rows ((k + 1) + 1)) u) -ℤ pos (slice_index (slack_row_at rows (k + 1)) v))) same (gain_step k v x below trails.0 raises));
      })
      (λ (other : (x == w) ≡ false).
      let on : IsIn w xs = ⊎_elim (λ (e : w ≡ x). absurd (eqb-false x w other (sym e))) (λ (r : IsIn w xs). r) there in
      let rest = along_to (k + 1) x xs w trails.0.below trails.1 trails.2 on in
      let index : ((k + 1) + 1) + length rest.steps ≡ (k + 1) + length (x ∷ rest.steps) = omega arith in
      record {
        steps = x ∷ rest.steps;
        rest = rest.rest;
        parts = ap (λ ys. x ∷ ys) rest.parts;
        is = take_while-cons (λ y. not (y == w)) x xs ∙ ap (λ b. if not b then x ∷ take_while (λ y. not (y == w)) xs else []) other ∙ ap (λ ys. x ∷ ys) rest.is;
        rose = subst (λ j. HasRisen (length hops) (slack_row_at rows j) (slack_row_at rows (j + 1)) w) index rest.rose;
        gains = subst (λ j. GainsAlong g (hop_at hops v).from (map (λ y. (hop_at hops y).from) (x ∷ rest.steps)) (hop_at hops w).from (pos (slice_index (slack_row_at rows (j + 1)) w) -ℤ pos (slice_index (slack_row_at rows (k + 1)) v))) index (
          pos (slice_index (slack_row_at rows ((k + 1) + 1)) x) -ℤ pos (slice_index (slack_row_at rows (k + 1)) v),
          pos (slice_index (slack_row_at rows ((((k + 1) + 1) + length rest.steps) + 1)) w) -ℤ pos (slice_index (slack_row_at rows ((k + 1) + 1)) x),
          gain_step k v x below trails.0 raises,
          rest.gains,
          same_sum (slice_index (slack_row_at rows (k + 1)) v) (slice_index (slack_row_at rows ((k + 1) + 1)) x) (slice_index (slack_row_at rows ((((k + 1) + 1) + length rest.steps) + 1)) w),
        );
      })
      (cases_Bool (x == w))
