-- Which recorded times keep to the stated bounds.
use Rattle.std.specs.Prelude.{ℕ, suc, ◌==◌, ◌&&◌, ◌||◌, List, Bool, false, Option, nat_lt, option_map, position, slice_get, unwrap_or}
use Rattle.std.specs.List.{list_any}
use Rattle.pt_types.specs.declared.graph.Graph.{Graph}
use Rattle.pt_types.specs.declared.graph.Link.{Link}
use Rattle.pt_types.specs.Lookups.{platform_of}
use Rattle.pt_semantics.specs.RecordedTimes.{apart_on, error_on}
use Rattle.pt_air.specs.declared.row.AirRow.{AirRow}
use Rattle.pt_air.specs.declared.row.Subject.{Subject}
use Rattle.pt_air.specs.declared.row.Subject.TheVariants as subject

-- the link leads to or from platform p
abbrev pub is_link_of : Graph → ℕ → Link → Bool
is_link_of g p link = platform_of g link.from == p || platform_of g link.to == p

-- the lag of platform p breaks the clock error of a link
abbrev pub breaks_error : Graph → List ℕ → ℕ → Link → Bool
breaks_error g lags p link = is_link_of g p link && nat_lt (error_on g link) (apart_on g lags link)

-- a time, of this subject, breaks a stated bound
abbrev pub time_breaks : Graph → List ℕ → ℕ → Subject → Bool
time_breaks g lags time (subject.Platform p) = list_any (breaks_error g lags p) g.links
time_breaks g lags time (subject.Link l) = unwrap_or (option_map (λ (link : Link). nat_lt link.delay time) (slice_get g.links l)) false

-- a row breaks a stated bound, by the lags of all platforms
abbrev pub breaks : Graph → List ℕ → AirRow → Bool
breaks g lags row = time_breaks g lags row.time row.subject

-- the number, from 1, of the first row that breaks a stated bound
abbrev pub breach_of : Graph → List ℕ → List AirRow → Option ℕ
breach_of g lags rows = option_map suc (position (breaks g lags) rows)
