-- No row breaks a bound exactly if all bounds are kept.
use Rattle.std.proofs.Common.{◌≡◌, ℕ, suc, ◌+◌, ◌<◌, ◌≤◌, List, [], ◌∷◌, true, false, cond, Bool, Option, Some, None, refl, sym, length, map, get_or, arith, ap, ◌∙◌, subst, eq-eqb, inl, inr}
use Rattle.std.specs.Prelude.{filter, find, nat_lt, option_map, position, slice_get, slice_index_or, unwrap_or, ◌||◌, ◌&&◌, ◌==◌, ◌↔◌, ◌⊎◌}
use Rattle.std.specs.Int.{abs_diff}
use Rattle.std.specs.List.{All, list_any, position_from, range_with_len}
use Rattle.std.proofs.lemmas.Bool.{cases_lt, ltb-true, ltb-false}
use Rattle.std.proofs.lemmas.Bool.Decides.{nat_tests}
use Rattle.std.proofs.lemmas.Iterator.Adapters.{position_from-zero}
use Rattle.std.proofs.lemmas.List.{get_or_past}
use Rattle.std.proofs.lemmas.List.Elements.{All-cons, All-head, All-nil, All-tail}
use Rattle.std.proofs.lemmas.List.FromFn.{get_or-map-range_with_len, length-map-range_with_len}
use Rattle.std.proofs.lemmas.Map.Keys.{any_passes_from_place}
use Rattle.std.proofs.lemmas.Option.{slice_get_within}
use Rattle.pt_types.specs.declared.graph.Graph.{Graph}
use Rattle.pt_types.specs.declared.graph.Link.{Link}
use Rattle.pt_types.specs.Lookups.{platform_of}
use Rattle.pt_semantics.specs.Lists.{Each}
use Rattle.pt_air.specs.declared.row.AirRow.{AirRow}
use Rattle.pt_air.specs.declared.row.Subject.{Subject}
use Rattle.pt_air.specs.declared.row.Subject.TheVariants as subject
use Rattle.pt_air.specs.AirOf.{air_with, lag_in, lags_of, time_of, row_transits}
use Rattle.pt_air.specs.Bounds.{breach_of, breaks, breaks_error, is_link_of, time_breaks}
use Rattle.pt_semantics.specs.RecordedTimes.{KeepsBounds, apart_on, error_on}
use Rattle.pt_air.specs.Rows.{is_lag_of, is_link, is_subject, is_transit_on}

none_from : {X : Type 0} (p : X → Bool) (k : ℕ) (xs : List X) → position_from p k xs ≡ None → Each (λ x. p x ≡ false) xs
none_from p k [] h = tt
none_from p k (x ∷ xs) h = by_test (p x) refl (none_from p (k + 1) xs) h
  where
    by_test : (b : Bool) → p x ≡ b → (position_from p (k + 1) xs ≡ None → Each (λ y. p y ≡ false) xs) → cond b (Some k) (position_from p (k + 1) xs) ≡ None → (p x ≡ false) × Each (λ y. p y ≡ false) xs
    by_test true is rest n = absurd cc
    by_test false is rest n = (is, rest n)

from_none : {X : Type 0} (p : X → Bool) (k : ℕ) (xs : List X) → Each (λ x. p x ≡ false) xs → position_from p k xs ≡ None
from_none p k [] h = refl
from_none p k (x ∷ xs) h = ap (λ b. cond b (Some k) (position_from p (k + 1) xs)) h.0 ∙ from_none p (k + 1) xs h.1

suc_none : (o : Option ℕ) → option_map suc o ≡ None → o ≡ None
suc_none None h = refl
suc_none (Some n) h = absurd cc

no_breach : (g : Graph) (lags : List ℕ) (rows : List AirRow) → breach_of g lags rows ≡ None → Each (λ r. breaks g lags r ≡ false) rows
no_breach g lags rows h = none_from (breaks g lags) 0 rows (sym (position_from-zero (breaks g lags) rows) ∙ suc_none (position (breaks g lags) rows) h)

none_breaks : (g : Graph) (lags : List ℕ) (rows : List AirRow) → Each (λ r. breaks g lags r ≡ false) rows → breach_of g lags rows ≡ None
none_breaks g lags rows h = ap (option_map suc) (position_from-zero (breaks g lags) rows ∙ from_none (breaks g lags) 0 rows h)

-- the subject of a row, by the tests on it
link_is : (l : ℕ) (s : Subject) → is_link l s ≡ true → s ≡ subject.Link l
link_is l (subject.Platform p) h = absurd cc
link_is l (subject.Link k) h = ap subject.Link (grind (arith, nat_tests))

platform_is : (p : ℕ) (s : Subject) → is_subject p s ≡ true → s ≡ subject.Platform p
platform_is p (subject.Platform q) h = ap subject.Platform (grind (arith, nat_tests))
platform_is p (subject.Link l) h = absurd cc

link_itself : (l : ℕ) → is_link l (subject.Link l) ≡ true
link_itself l = grind (arith, nat_tests)

-- a transit that breaks nothing is within its link's delay
within : (g : Graph) (lags : List ℕ) (l : ℕ) (link : Link) (time : ℕ) (s : Subject) → slice_get g.links l ≡ Some link → s ≡ subject.Link l
    → time_breaks g lags time s ≡ false → time ≤ link.delay
within g lags l link time s at is h =
    let found : nat_lt link.delay time ≡ false =
    sym (ap (λ o. unwrap_or (option_map (λ (k : Link). nat_lt k.delay time) o) false) at) ∙ (sym (ap (time_breaks g lags time) is) ∙ h) in
    ltb-false link.delay time found

transits_within : (g : Graph) (lags : List ℕ) (l : ℕ) (link : Link) (rows : List AirRow) → slice_get g.links l ≡ Some link
    → Each (λ r. breaks g lags r ≡ false) rows → All (λ t. t ≤ link.delay) (row_transits rows l)
transits_within g lags l link [] at h = All-nil (λ t. t ≤ link.delay)
transits_within g lags l link (r ∷ rows) at h = by_test (is_transit_on l r) refl (transits_within g lags l link rows at h.1)
  where
    by_test : (b : Bool) → is_transit_on l r ≡ b → All (λ t. t ≤ link.delay) (row_transits rows l) → All (λ t. t ≤ link.delay) (map time_of (cond b (r ∷ filter (is_transit_on l) rows) (filter (is_transit_on l) rows)))
    by_test true is rest = All-cons (λ t. t ≤ link.delay) r.time (row_transits rows l) (within g lags l link r.time r.subject at (link_is l r.subject is) h.0) rest
    by_test false is rest = rest

-- a lag that is not 0 is in a row
record HasLag (P : AirRow → Type 0) (p : ℕ) : Type 0 where
  row : AirRow
  of : row.subject ≡ subject.Platform p
  good : P row

lag_row : (P : AirRow → Type 0) (p : ℕ) (rows : List AirRow) → 0 < lag_in rows p → Each P rows → HasLag P p
lag_row P p [] more h = absurd (omega arith)
lag_row P p (r ∷ rows) more h = by_test (is_lag_of p r) refl (λ m. lag_row P p rows m h.1) more
  where
    by_test : (b : Bool) → is_lag_of p r ≡ b → (0 < lag_in rows p → HasLag P p) → 0 < unwrap_or (option_map time_of (cond b (Some r) (find (is_lag_of p) rows))) 0 → HasLag P p
    by_test true is rest m = record { row = r; of = platform_is p r.subject is; good = h.0 }
    by_test false is rest m = rest m

lag_there : (rows : List AirRow) (n p : ℕ) → 0 < get_or (map (lag_in rows) (range_with_len 0 n)) p 0 → 0 < lag_in rows p
lag_there rows n p more = by_order (cases_lt p n)
  where
    by_order : (p < n) ⊎ (n ≤ p) → 0 < lag_in rows p
    by_order (inl less) = subst (λ k. 0 < k) (get_or-map-range_with_len (lag_in rows) 0 n p p 0 less (omega arith)) more
    by_order (inr past) = absurd (omega (arith, get_or_past (map (lag_in rows) (range_with_len 0 n)) p 0, length-map-range_with_len (lag_in rows) 0 n))

-- a row of platform p, by the links of the graph
lag_breaks : (g : Graph) (lags : List ℕ) (p time : ℕ) (s : Subject) → s ≡ subject.Platform p → time_breaks g lags time s ≡ false
    → list_any (breaks_error g lags p) g.links ≡ false
lag_breaks g lags p time s is h = sym (ap (time_breaks g lags time) is) ∙ h

-- a link whose clocks are too far apart has a row that breaks its bound, if a lag of its platforms isn't 0
caught : (g : Graph) (lags : List ℕ) (p l : ℕ) (link : Link) → slice_get g.links l ≡ Some link → is_link_of g p link ≡ true
    → nat_lt (error_on g link) (apart_on g lags link) ≡ true → HasLag (λ r. breaks g lags r ≡ false) p → ⊥
caught g lags p l link at end far lag =
    let quiet = lag_breaks g lags p lag.row.time lag.row.subject lag.of lag.good in
    let both : breaks_error g lags p link ≡ true = ap (λ b. b && nat_lt (error_on g link) (apart_on g lags link)) end ∙ far in
    let loud = any_passes_from_place (breaks_error g lags p) g.links l link at both in
    cc

from_end : (g : Graph) (link : Link) → is_link_of g (platform_of g link.from) link ≡ true
from_end g link = ap (λ b. b || platform_of g link.to == platform_of g link.from) (eq-eqb (platform_of g link.from) (platform_of g link.from) refl)

or_true : (b : Bool) → (b || true) ≡ true
or_true true = refl
or_true false = refl

to_end : (g : Graph) (link : Link) → is_link_of g (platform_of g link.to) link ≡ true
to_end g link = ap (λ b. (platform_of g link.from == platform_of g link.to) || b) (eq-eqb (platform_of g link.to) (platform_of g link.to) refl) ∙ or_true (platform_of g link.from == platform_of g link.to)

above : (a b : ℕ) → nat_lt a b ≡ true → 0 < b
above a b h = omega (arith, ltb-true a b h)

one_more : (a b : ℕ) → 0 < abs_diff a b → (0 < a) ⊎ (0 < b)
one_more a b h = by_order (cases_lt 0 a)
  where
    by_order : (0 < a) ⊎ (a ≤ 0) → (0 < a) ⊎ (0 < b)
    by_order (inl more) = inl more
    by_order (inr none) = inr (omega arith)

lag_within : (g : Graph) (rows : List AirRow) (l : ℕ) (link : Link) → slice_get g.links l ≡ Some link
    → Each (λ r. breaks g (lags_of g rows) r ≡ false) rows → apart_on g (lags_of g rows) link ≤ error_on g link
lag_within g rows l link at h = by_test (nat_lt (error_on g link) (apart_on g lags link)) refl
  where
    lags : List ℕ
    lags = lags_of g rows

    with_lag : (p : ℕ) → is_link_of g p link ≡ true → nat_lt (error_on g link) (apart_on g lags link) ≡ true → 0 < get_or lags p 0 → ⊥
    with_lag p end far more = caught g lags p l link at end far (lag_row (λ r. breaks g lags r ≡ false) p rows (lag_there rows (length g.platforms) p more) h)

    by_more : nat_lt (error_on g link) (apart_on g lags link) ≡ true → (0 < get_or lags (platform_of g link.from) 0) ⊎ (0 < get_or lags (platform_of g link.to) 0) → apart_on g lags link ≤ error_on g link
    by_more far (inl more) = absurd (with_lag (platform_of g link.from) (from_end g link) far more)
    by_more far (inr more) = absurd (with_lag (platform_of g link.to) (to_end g link) far more)

    by_test : (b : Bool) → nat_lt (error_on g link) (apart_on g lags link) ≡ b → apart_on g lags link ≤ error_on g link
    by_test true is = by_more is (one_more (get_or lags (platform_of g link.from) 0) (get_or lags (platform_of g link.to) 0) (above (error_on g link) (apart_on g lags link) is))
    by_test false is = ltb-false (error_on g link) (apart_on g lags link) is

transits_at : (g : Graph) (rows : List AirRow) (l : ℕ) (link : Link) → slice_get g.links l ≡ Some link
    → slice_index_or (map (row_transits rows) (range_with_len 0 (length g.links))) l [] ≡ row_transits rows l
transits_at g rows l link at = get_or-map-range_with_len (row_transits rows) 0 (length g.links) l l [] (slice_get_within g.links l link at) (omega arith)

keeps : (g : Graph) (rows : List AirRow) → breach_of g (lags_of g rows) rows ≡ None → KeepsBounds g (air_with g rows)
keeps g rows h =
    let good = no_breach g (lags_of g rows) rows h in
    record {
      transits = λ l link at. subst (All (λ t. t ≤ link.delay)) (sym (transits_at g rows l link at)) (transits_within g (lags_of g rows) l link rows at good);
      lags = λ l link at. lag_within g rows l link at good;
    }

-- and back: a row within the bounds breaks none
any_none : {X : Type 0} (p : X → Bool) (xs : List X) → ((i : ℕ) (x : X) → slice_get xs i ≡ Some x → p x ≡ false) → list_any p xs ≡ false
any_none p [] h = refl
any_none p (x ∷ xs) h = ap (λ b. b || list_any p xs) (h 0 x refl) ∙ any_none p xs (λ i y at. h (suc i) y at)

and_false : (b : Bool) → (b && false) ≡ false
and_false true = refl
and_false false = refl

not_above : (a b : ℕ) → b ≤ a → nat_lt a b ≡ false
not_above a b h = grind (arith, nat_tests)

abbrev LagsKept : Graph → List ℕ → Type 0
LagsKept g lags = (l : ℕ) (link : Link) → slice_get g.links l ≡ Some link → apart_on g lags link ≤ error_on g link

abbrev TransitsKept : Graph → List AirRow → Type 0
TransitsKept g rows = (l : ℕ) (link : Link) → slice_get g.links l ≡ Some link → All (λ t. t ≤ link.delay) (row_transits rows l)

time_keeps : (g : Graph) (lags : List ℕ) (time : ℕ) (s : Subject) → LagsKept g lags
    → ((l : ℕ) (link : Link) → slice_get g.links l ≡ Some link → s ≡ subject.Link l → time ≤ link.delay) → time_breaks g lags time s ≡ false
time_keeps g lags time (subject.Platform p) kept below =
    any_none (breaks_error g lags p) g.links
    (λ i link at. ap (λ b. is_link_of g p link && b) (not_above (error_on g link) (apart_on g lags link) (kept i link at)) ∙ and_false (is_link_of g p link))
time_keeps g lags time (subject.Link l) kept below = by_link (slice_get g.links l) (λ link at. below l link at refl)
  where
    by_link : (o : Option Link) → ((link : Link) → o ≡ Some link → time ≤ link.delay) → unwrap_or (option_map (λ (link : Link). nat_lt link.delay time) o) false ≡ false
    by_link None h = refl
    by_link (Some link) h = not_above link.delay time (h link refl)

first_kept : (d l : ℕ) (r : AirRow) (rows : List AirRow) → r.subject ≡ subject.Link l → All (λ t. t ≤ d) (row_transits (r ∷ rows) l) → r.time ≤ d
first_kept d l r rows is h =
    let yes : is_transit_on l r ≡ true = ap (is_link l) is ∙ link_itself l in
    All-head (λ t. t ≤ d) r.time (row_transits rows l) (subst (λ b. All (λ t. t ≤ d) (map time_of (cond b (r ∷ filter (is_transit_on l) rows) (filter (is_transit_on l) rows)))) yes h)

rest_kept : (d l : ℕ) (r : AirRow) (rows : List AirRow) → All (λ t. t ≤ d) (row_transits (r ∷ rows) l) → All (λ t. t ≤ d) (row_transits rows l)
rest_kept d l r rows h = by_test (is_transit_on l r) h
  where
    by_test : (b : Bool) → All (λ t. t ≤ d) (map time_of (cond b (r ∷ filter (is_transit_on l) rows) (filter (is_transit_on l) rows))) → All (λ t. t ≤ d) (row_transits rows l)
    by_test true all = All-tail (λ t. t ≤ d) r.time (row_transits rows l) all
    by_test false all = all

rows_keep : (g : Graph) (lags : List ℕ) (rows : List AirRow) → LagsKept g lags → TransitsKept g rows → Each (λ r. breaks g lags r ≡ false) rows
rows_keep g lags [] kept transits = tt
rows_keep g lags (r ∷ rows) kept transits = (
  time_keeps g lags r.time r.subject kept (λ l link at is. first_kept link.delay l r rows is (transits l link at)),
  rows_keep g lags rows kept (λ l link at. rest_kept link.delay l r rows (transits l link at)),
)

kept_back : (g : Graph) (rows : List AirRow) → KeepsBounds g (air_with g rows) → breach_of g (lags_of g rows) rows ≡ None
kept_back g rows k =
    none_breaks g (lags_of g rows) rows
    (rows_keep g (lags_of g rows) rows k.lags
    (λ l link at. subst (All (λ t. t ≤ link.delay)) (transits_at g rows l link at) (k.transits l link at)))

-- there is no breach exactly if all bounds are kept
pub breach-None : (g : Graph) (rows : List AirRow) → ((air_with g rows).breach ≡ None) ↔ KeepsBounds g (air_with g rows)
breach-None g rows = (keeps g rows, kept_back g rows)
