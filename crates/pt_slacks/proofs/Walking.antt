-- The walk back along the senders that raised one another.
use Rattle.std.proofs.Common.{◌≡◌, ℕ, pos, zero, suc, ◌+◌, ◌-◌, ◌-ℤ◌, ◌<◌, ◌≤◌, ◌==◌, ◌≢◌, ◌||◌, Bool, true, false, not, eqb, List, [], ◌∷◌, ◌++◌, Option, length, map, reverse, slice_index, refl, sym, ap, subst, ◌∙◌, arith, ◌⊎◌, inl, inr, ⊎_elim}
use Rattle.std.specs.List.{AllByRecursion, IsDistinct, list_any, take_while}
use Rattle.std.proofs.lemmas.Bool.{cases_Bool, eqb-false, eqb-true, false≢true}
use Rattle.std.proofs.lemmas.Int.{ints}
use Rattle.std.proofs.lemmas.List.{map-append, reverse-append, length-append, length-map}
use Rattle.std.proofs.lemmas.Map.Steps.{length-le_from_distinct_below}
use Rattle.pt_tags.specs.declared.tag.Delay.{Delay}
use Rattle.pt_types.specs.declared.graph.Graph.{Graph}
use Rattle.pt_types.specs.declared.graph.Unit.{Unit}
use Rattle.pt_types.specs.Lawful.{IsLawful}
use Rattle.pt_types.proofs.LawfulLinks.{links_once_out}
use Rattle.pt_semantics.specs.Lists.{Each, IsIn}
use Rattle.pt_causality.specs.Delays.{AreLeast}
use Rattle.pt_causality.specs.Ranking.{Apart}
use Rattle.pt_causality.specs.Rings.{IsRotated}
use Rattle.pt_slacks.specs.declared.hop.Hop.{Hop}
use Rattle.pt_slacks.specs.Hops.{hop_at, hop_of}
use Rattle.pt_slacks.specs.Needs.{by_hop}
use Rattle.pt_slacks.specs.Rings.{GainsAlong, IsRing}
use Rattle.pt_slacks.specs.Rows.{AreSlackRows, HasRisen, slack_row_at}
use Rattle.pt_slacks.specs.Trails.{IsRaisedByTrail, IsTrail, IsWalkBack, Raises, Trails}
use Rattle.pt_slacks.proofs.Admitting.{hop_of_link}
use Rattle.pt_slacks.proofs.Circles.{Round, along_to, rotate}
use Rattle.pt_slacks.proofs.Rounds.{hop_more, rows_rise}
use Rattle.pt_slacks.proofs.Turning.{apart_left, turned_ring}

all_apart : (a : ℕ) (xs : List ℕ) → Each (λ y. a ≢ y) xs → AllByRecursion (λ y. eqb a y ≡ false) xs
all_apart a [] h = tt
all_apart a (x ∷ xs) h = (⊎_elim (λ (same : eqb a x ≡ true). absurd (h.0 (eqb-true a x same))) (λ (other : eqb a x ≡ false). other) (cases_Bool (eqb a x)), all_apart a xs h.1)

distinct : (xs : List ℕ) → Apart xs → IsDistinct eqb xs
unfolding IsDistinct
distinct [] h = tt
distinct (x ∷ xs) h = (all_apart x xs h.0, distinct xs h.1)

below_all : (n : ℕ) (xs : List ℕ) → Each (λ x. x < n) xs → (q : ℕ) → list_any (eqb q) xs ≡ true → q < n
below_all n [] h q found = absurd (false≢true found)
below_all n (x ∷ xs) h q found =
    ⊎_elim
    (λ (same : eqb q x ≡ true). subst (λ k. k < n) (sym (eqb-true q x same)) h.0)
    (λ (other : eqb q x ≡ false). below_all n xs h.1 q (sym (ap (λ b. b || list_any (eqb q) xs) other) ∙ found))
    (cases_Bool (eqb q x))

-- different numbers below n are at most n
few : (n : ℕ) (xs : List ℕ) → Apart xs → Each (λ x. x < n) xs → length xs ≤ n
few n xs apart below = length-le_from_distinct_below xs n (distinct xs apart) (below_all n xs below)

pub found_in : (w : ℕ) (xs : List ℕ) → list_any (λ x. x == w) xs ≡ true → IsIn w xs
found_in w [] found = absurd (false≢true found)
found_in w (x ∷ xs) found =
    ⊎_elim
    (λ (same : (x == w) ≡ true). inl (sym (eqb-true x w same)))
    (λ (other : (x == w) ≡ false). inr (found_in w xs (sym (ap (λ b. b || list_any (λ y. y == w) xs) other) ∙ found)))
    (cases_Bool (x == w))

true_or : (b : Bool) → (true || b) ≡ true
true_or b = refl

pub not_found : (w : ℕ) (xs : List ℕ) → list_any (λ x. x == w) xs ≡ false → Each (λ y. w ≢ y) xs
not_found w [] none = tt
not_found w (x ∷ xs) none =
    ⊎_elim
    (λ (same : (x == w) ≡ true). absurd (false≢true (sym none ∙ ap (λ b. b || list_any (λ y. y == w) xs) same)))
    (λ (other : (x == w) ≡ false). (λ e. eqb-false x w other (sym e), not_found w xs (sym (ap (λ b. b || list_any (λ y. y == w) xs) other) ∙ none)))
    (cases_Bool (x == w))

map_apart_from : (f : ℕ → ℕ) (n x : ℕ) (xs : List ℕ) → ((a b : ℕ) → a < n → b < n → f a ≡ f b → a ≡ b) → x < n → Each (λ y. y < n) xs → Each (λ y. x ≢ y) xs → Each (λ y. f x ≢ y) (map f xs)
map_apart_from f n x [] once here below apart = tt
map_apart_from f n x (y ∷ ys) once here below apart = (λ e. apart.0 (once x y here below.0 e), map_apart_from f n x ys once here below.1 apart.1)

map_apart : (f : ℕ → ℕ) (n : ℕ) (xs : List ℕ) → ((a b : ℕ) → a < n → b < n → f a ≡ f b → a ≡ b) → Each (λ y. y < n) xs → Apart xs → Apart (map f xs)
map_apart f n [] once below apart = tt
map_apart f n (x ∷ xs) once below apart = (map_apart_from f n x xs once below.0 below.1 apart.0, map_apart f n xs once below.1 apart.1)

each_left : (P : ℕ → Type 0) (xs ys : List ℕ) → Each P (xs ++ ys) → Each P xs
each_left P [] ys h = tt
each_left P (x ∷ xs) ys h = (h.0, each_left P xs ys h.1)

trails_below : (hops : List Hop) (least : Unit → Unit → Option Delay) (rows : List (List ℕ)) (k : ℕ) (xs : List ℕ) → Trails hops least rows k xs → Each (λ x. x < length hops) xs
trails_below hops least rows k [] h = tt
trails_below hops least rows k (x ∷ xs) h = (h.0.below, trails_below hops least rows (k + 1) xs h.2)

module _ (g : Graph) (least : Unit → Unit → Option Delay) (hops : List Hop) (rows : List (List ℕ)) (are_rows : AreSlackRows g least hops rows (length hops + 1)) where
  -- what raised a sender has risen in the round before
  pub riser : (k at w : ℕ) → k + 1 ≤ length hops → HasRisen (length hops) (slack_row_at rows (k + 1)) (slack_row_at rows ((k + 1) + 1)) at → w < length hops →
      slice_index (slack_row_at rows ((k + 1) + 1)) at ≡ by_hop hops least (slice_index (slack_row_at rows (k + 1))) (hop_at hops at).from w → HasRisen (length hops) (slack_row_at rows k) (slack_row_at rows (k + 1)) w
  riser k at w limit rose below is = record {
    below = below;
    more =
        ⊎_elim
        (λ (less : slice_index (slack_row_at rows k) w < slice_index (slack_row_at rows (k + 1)) w). less)
        (λ (not_more : slice_index (slack_row_at rows (k + 1)) w ≤ slice_index (slack_row_at rows k) w).
        let v = (hop_at hops at).from in
        let one : by_hop hops least (slice_index (slack_row_at rows (k + 1))) v w ≤ by_hop hops least (slice_index (slack_row_at rows k)) v w = hop_more g least hops (slice_index (slack_row_at rows (k + 1))) (slice_index (slack_row_at rows k)) v w not_more in
        let two : by_hop hops least (slice_index (slack_row_at rows k)) v w ≤ slice_index (slack_row_at rows (k + 1)) at = ((are_rows.next k (omega (arith, limit))).each at rose.below).each w below in
        let more : slice_index (slack_row_at rows (k + 1)) at < slice_index (slack_row_at rows ((k + 1) + 1)) at = rose.more in
        absurd (omega (arith, one, two, more, is)))
        (less_or (slice_index (slack_row_at rows k) w) (slice_index (slack_row_at rows (k + 1)) w));
  }
    where
      less_or : (x y : ℕ) → (x < y) ⊎ (y ≤ x)
      less_or x y = grind arith

  -- a sender that rose was raised by some hop
  pub raised_by : (k at : ℕ) → k + 1 ≤ length hops → HasRisen (length hops) (slack_row_at rows (k + 1)) (slack_row_at rows ((k + 1) + 1)) at → ((w : ℕ) → w < length hops → by_hop hops least (slice_index (slack_row_at rows (k + 1))) (hop_at hops at).from w ≢ slice_index (slack_row_at rows ((k + 1) + 1)) at) → ⊥
  raised_by k at limit rose none =
      let more : slice_index (slack_row_at rows (k + 1)) at < slice_index (slack_row_at rows ((k + 1) + 1)) at = rose.more in
      ⊎_elim
      (λ (same : slice_index (slack_row_at rows ((k + 1) + 1)) at ≡ slice_index (slack_row_at rows (k + 1)) at). absurd (omega (arith, more, same)))
      (λ (one : (w : ℕ) × (w < length hops) × (slice_index (slack_row_at rows ((k + 1) + 1)) at ≡ by_hop hops least (slice_index (slack_row_at rows (k + 1))) (hop_at hops at).from w)). none one.0 one.1 (sym one.2))
      ((are_rows.next (k + 1) (omega (arith, limit))).each at rose.below).some

  -- one step back
  pub walk_more : (step at from : ℕ) (trail after : List ℕ) (k : ℕ) (others : List ℕ) → k + (step + 1) ≡ length hops → reverse trail ≡ at ∷ others → after ≡ trail ++ from ∷ [] → IsTrail hops least rows (k + 1) (at ∷ others) → from < length hops →
      slice_index (slack_row_at rows ((k + 1) + 1)) at ≡ by_hop hops least (slice_index (slack_row_at rows (k + 1))) (hop_at hops at).from from → list_any (λ x. x == from) (reverse trail) ≡ false → IsWalkBack hops least rows (step + 1) after from
  walk_more step at from trail after k others place are pushed is_trail below is none =
      let whole : (k + 1) + length (at ∷ others) ≡ length hops + 1 = is_trail.whole in
      record {
        risen = k;
        place = place;
        others = at ∷ others;
        are = ap (λ (es : List ℕ). reverse es) pushed ∙ reverse-append trail (from ∷ []) ∙ ap (λ es. from ∷ es) are;
        is_trail = record {
          on = (riser k at from (omega (arith, place)) is_trail.on.0 below is, is, is_trail.on);
          apart = (subst (Each (λ y. from ≢ y)) are (not_found from (reverse trail) none), is_trail.apart);
          whole = omega (arith, whole);
        };
      }

  -- the walk one step before its next one
  pub record Back (step : ℕ) (trail : List ℕ) (at : ℕ) : Type 0 where
    pub risen : ℕ
    pub place : risen + (step + 1) ≡ length hops
    pub others : List ℕ
    pub are : reverse trail ≡ at ∷ others
    pub is_trail : IsTrail hops least rows (risen + 1) (at ∷ others)

  pub back : (step : ℕ) (trail : List ℕ) (at : ℕ) → step < length hops → IsWalkBack hops least rows step trail at → Back step trail at
  back step trail at less walk =
      let place : walk.risen + step ≡ length hops = walk.place in
      let one = before_of walk.risen (omega (arith, place, less)) in
      let same : walk.risen ≡ one.0 + 1 = one.1 in
      record { risen = one.0; place = omega (arith, place, same); others = walk.others; are = walk.are; is_trail = subst (λ k. IsTrail hops least rows k (at ∷ walk.others)) same walk.is_trail }
    where
      before_of : (m : ℕ) → 0 < m → (k : ℕ) × (m ≡ k + 1)
      before_of zero h = absurd (omega arith)
      before_of (suc k) h = (k, omega arith)

  -- what the hop asks for, by the rows
  pub asks_at : (row : List ℕ) (slack round k at w : ℕ) → row ≡ slack_row_at rows round → slack ≡ slice_index (slack_row_at rows (round + 1)) at → round ≡ k + 1 → by_hop hops least (slice_index row) (hop_at hops at).from w ≡ slack →
      slice_index (slack_row_at rows ((k + 1) + 1)) at ≡ by_hop hops least (slice_index (slack_row_at rows (k + 1))) (hop_at hops at).from w
  asks_at row slack round k at w is_row is_slack place asks =
      ap (λ n. slice_index (slack_row_at rows (n + 1)) at) (sym place) ∙ sym is_slack ∙ sym asks
      ∙ ap (λ (r : List ℕ). by_hop hops least (slice_index r) (hop_at hops at).from w) (is_row ∙ ap (slack_row_at rows) place)

  pub none_asks : (row : List ℕ) (slack round k at : ℕ) → row ≡ slack_row_at rows round → slack ≡ slice_index (slack_row_at rows (round + 1)) at → round ≡ k + 1 → k + 1 ≤ length hops → HasRisen (length hops) (slack_row_at rows (k + 1)) (slack_row_at rows ((k + 1) + 1)) at → ((w : ℕ) → w < length hops → by_hop hops least (slice_index row) (hop_at hops at).from w ≢ slack) → ⊥
  none_asks row slack round k at is_row is_slack place limit rose none =
      raised_by k at limit rose
      (λ w less e. none w less
      (ap (λ (r : List ℕ). by_hop hops least (slice_index r) (hop_at hops at).from w) (is_row ∙ ap (slack_row_at rows) place) ∙ e ∙ ap (λ n. slice_index (slack_row_at rows (n + 1)) at) (sym place) ∙ sym is_slack))

  pub closes : (step at from round : ℕ) (trail : List ℕ) (b : Back step trail at) → round ≡ b.risen + 1 → from < length hops → slice_index (slack_row_at rows ((b.risen + 1) + 1)) at ≡ by_hop hops least (slice_index (slack_row_at rows (b.risen + 1))) (hop_at hops at).from from → list_any (λ x. x == from) (reverse trail) ≡ true → IsRaisedByTrail hops least rows trail round from
  closes step at from round trail b place below is found =
      let limit : b.risen + (step + 1) ≡ length hops = b.place in
      record {
        risen = b.risen;
        place = place;
        rose = riser b.risen at from (omega (arith, limit)) b.is_trail.on.0 below is;
        raises = subst (Raises hops least rows b.risen from) (sym b.are) is;
        is_trail = subst (IsTrail hops least rows (b.risen + 1)) (sym b.are) b.is_trail;
        there = found_in from (reverse trail) found;
      }

  -- the walk can't come to the first round
  pub walk_ends : (trail : List ℕ) (at step : ℕ) → length hops ≤ step → IsWalkBack hops least rows step trail at → ⊥
  walk_ends trail at step past walk =
      let whole : walk.risen + length (at ∷ walk.others) ≡ length hops + 1 = walk.is_trail.whole in
      let place : walk.risen + step ≡ length hops = walk.place in
      let most : length (at ∷ walk.others) ≤ length hops = few (length hops) (at ∷ walk.others) walk.is_trail.apart (trails_below hops least rows walk.risen (at ∷ walk.others) walk.is_trail.on) in
      omega (arith, whole, place, most, past)

module _ (g : Graph) (least : Unit → Unit → Option Delay) (hops : List Hop) (lawful : IsLawful g) (are : hops ≡ map (hop_of g) g.links) (all : AreLeast g least) (rows : List (List ℕ)) (are_rows : AreSlackRows g least hops rows (length hops + 1)) where
  once : (a b : ℕ) → a < length hops → b < length hops → (hop_at hops a).from ≡ (hop_at hops b).from → a ≡ b
  once a b here there same =
      let one = hop_of_link g least hops lawful are all a here in
      let two = hop_of_link g least hops lawful are all b there in
      links_once_out g a b one.link two.link lawful one.at two.at (sym (ap (λ (h : Hop). h.from) one.is) ∙ same ∙ ap (λ (h : Hop). h.from) two.is)

  -- a closed trail is a ring
  pub closed_ring : (trail : List ℕ) (round from : ℕ) (sends turned : List ℕ) (before after gain : ℕ) → IsRaisedByTrail hops least rows trail round from →
      sends ≡ map (λ l. (hop_at hops l).from) (take_while (λ l. not (l == from)) (reverse trail)) ++ (hop_at hops from).from ∷ [] →
      before ≡ slice_index (slack_row_at rows round) from → after ≡ slice_index (slack_row_at rows (round + length sends)) from → gain ≡ after - before → IsRotated sends turned → IsRing g turned gain × (before < after)
  closed_ring trail round from sends turned before after gain closing are_sends is_before is_after is_gain is_turned =
      let k = closing.risen in
      let f : ℕ → ℕ = λ l. (hop_at hops l).from in
      let way = along_to g least hops lawful are all rows k from (reverse trail) from closing.rose.below closing.raises closing.is_trail.on closing.there in
      let steps = way.steps in
      let links : List ℕ = steps ++ from ∷ [] in
      let place : round ≡ k + 1 = closing.place in
      let list : sends ≡ map f steps ++ f from ∷ [] = are_sends ∙ ap (λ ls. map f ls ++ f from ∷ []) way.is in
      let mapped : sends ≡ map f links = list ∙ sym (map-append f steps (from ∷ [])) in
      let count : length sends ≡ length steps + 1 = ap length list ∙ length-append (map f steps) (f from ∷ []) ∙ ap (λ n. n + 1) (length-map steps f) in
      let index : round + length sends ≡ ((k + 1) + length steps) + 1 = omega (arith, place, count) in
      let first : before ≡ slice_index (slack_row_at rows (k + 1)) from = is_before ∙ ap (λ n. slice_index (slack_row_at rows n) from) place in
      let last : after ≡ slice_index (slack_row_at rows (((k + 1) + length steps) + 1)) from = is_after ∙ ap (λ n. slice_index (slack_row_at rows n) from) index in
      let links_in : (links ++ way.rest) ≡ reverse trail = way.parts in
      let limit : (k + 1) + length steps ≤ length hops + 1 = steps_fit k steps (reverse trail) from way.rest links_in closing.is_trail.whole in
      let risen : slice_index (slack_row_at rows (k + 1)) from ≤ slice_index (slack_row_at rows ((k + 1) + length steps)) from = rows_rise g least hops rows (length hops + 1) are_rows (k + 1) (length steps) limit from closing.rose.below in
      let more : slice_index (slack_row_at rows ((k + 1) + length steps)) from < slice_index (slack_row_at rows (((k + 1) + length steps) + 1)) from = way.rose.more in
      let grew : before < after = omega (arith, first, last, risen, more) in
      let sum : pos (slice_index (slack_row_at rows (((k + 1) + length steps) + 1)) from) -ℤ pos (slice_index (slack_row_at rows (k + 1)) from) ≡ pos gain =
      gain_sum before after (slice_index (slack_row_at rows (k + 1)) from) (slice_index (slack_row_at rows (((k + 1) + length steps) + 1)) from) gain first last is_gain grew in
      let round_one : Round g (f from ∷ map f steps) (pos gain) = subst (λ z. GainsAlong g (f from) (map f steps) (f from) z) sum way.gains in
      let apart : Apart sends =
      subst Apart (sym mapped)
      (map_apart f (length hops) links once (each_left (λ x. x < length hops) links way.rest (subst (Each (λ x. x < length hops)) (sym links_in) (trails_below hops least rows (k + 1) (reverse trail) closing.is_trail.on)))
      (apart_left links way.rest (subst Apart (sym links_in) closing.is_trail.apart))) in (
        turned_ring g sends turned gain (subst (λ zs. Round g zs (pos gain)) (sym list) (rotate g (f from ∷ []) (map f steps) (pos gain) round_one)) (omega (arith, grew, is_gain)) apart is_turned,
        grew,
      )
    where
      gain_sum : (before after x y gain : ℕ) → before ≡ x → after ≡ y → gain ≡ after - before → before < after → pos y -ℤ pos x ≡ pos gain
      gain_sum before after x y gain first last is grew = omega (arith, ints, first, last, is, grew)

      steps_fit : (k : ℕ) (steps xs : List ℕ) (from : ℕ) (rest : List ℕ) → (steps ++ from ∷ []) ++ rest ≡ xs → (k + 1) + length xs ≡ length hops + 1 → (k + 1) + length steps ≤ length hops + 1
      steps_fit k steps xs from rest parts whole =
          let long : length xs ≡ length (steps ++ from ∷ []) + length rest = ap length (sym parts) ∙ length-append (steps ++ from ∷ []) rest in
          let short : length (steps ++ from ∷ []) ≡ length steps + 1 = length-append steps (from ∷ []) in
          omega (arith, whole, long, short)
