-- How many times an air has, and how long they are.
use Rattle.std.proofs.Common.{◌≡◌, ℕ, ◌≤◌, List, [], ◌∷◌, true, false, cond, Bool, Some, length, map, get_or, arith}
use Rattle.std.specs.Prelude.{filter, find, option_map, unwrap_or}
use Rattle.std.specs.List.{All, range_with_len}
use Rattle.std.proofs.lemmas.List.Elements.{All-cons, All-nil, All-map}
use Rattle.std.proofs.lemmas.List.FromFn.{length-map-range_with_len}
use Rattle.pt_types.specs.declared.graph.Graph.{Graph}
use Rattle.pt_semantics.specs.Lists.{Each}
use Rattle.pt_air.specs.declared.row.AirRow.{AirRow}
use Rattle.pt_air.specs.AirOf.{air_with, lag_in, time_of, row_transits}
use Rattle.pt_air.specs.Rows.{is_lag_of, is_transit_on}
use Rattle.pt_air.proofs.Given.{IsRow}

abbrev Small : ℕ → Type 0
Small n = n ≤ 1000000000000000

lag_small : (p : ℕ) (rows : List AirRow) → Each IsRow rows → Small (lag_in rows p)
lag_small p [] h = omega arith
lag_small p (r ∷ rows) h = by_test (is_lag_of p r) (lag_small p rows h.1)
  where
    by_test : (b : Bool) → Small (lag_in rows p) → Small (unwrap_or (option_map time_of (cond b (Some r) (find (is_lag_of p) rows))) 0)
    by_test true rest = h.0
    by_test false rest = rest

transits_small : (l : ℕ) (rows : List AirRow) → Each IsRow rows → All Small (row_transits rows l)
transits_small l [] h = All-nil Small
transits_small l (r ∷ rows) h = by_test (is_transit_on l r) (transits_small l rows h.1)
  where
    by_test : (b : Bool) → All Small (row_transits rows l) → All Small (map time_of (cond b (r ∷ filter (is_transit_on l) rows) (filter (is_transit_on l) rows)))
    by_test true rest = All-cons Small r.time (row_transits rows l) h.0 rest
    by_test false rest = rest

pub small_lags : (g : Graph) (rows : List AirRow) → Each IsRow rows → All (λ n. n ≤ 1000000000000000) (air_with g rows).lags
small_lags g rows h = All-map Small (lag_in rows) (range_with_len 0 (length g.platforms)) (λ k d less. lag_small (get_or (range_with_len 0 (length g.platforms)) k d) rows h)

pub small_transits : (g : Graph) (rows : List AirRow) → Each IsRow rows → All (All (λ n. n ≤ 1000000000000000)) (air_with g rows).transits
small_transits g rows h = All-map (All Small) (row_transits rows) (range_with_len 0 (length g.links)) (λ k d less. transits_small (get_or (range_with_len 0 (length g.links)) k d) rows h)

pub lags_len : (g : Graph) (rows : List AirRow) → length (air_with g rows).lags ≡ length g.platforms
lags_len g rows = length-map-range_with_len (lag_in rows) 0 (length g.platforms)

pub transits_len : (g : Graph) (rows : List AirRow) → length (air_with g rows).transits ≡ length g.links
transits_len g rows = length-map-range_with_len (row_transits rows) 0 (length g.links)
