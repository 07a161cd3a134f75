-- Which records are rows of an air file.
use Rattle.std.specs.Prelude.{ℕ, ◌==◌, ◌&&◌, ◌||◌, List, Bool, false, Option, Some, None, Result, Ok, Err, bytes_eq, codes, option_and_then, option_map, position, unwrap_or, if◌then◌else◌}
use Rattle.std.specs.List.{list_any}
use Rattle.pt_types.specs.declared.graph.Actor.{Actor}
use Rattle.pt_types.specs.declared.graph.Graph.{Graph}
use Rattle.pt_types.specs.declared.graph.Link.{Link}
use Rattle.pt_types.specs.Ends.{is_send}
use Rattle.pt_types.specs.Lookups.{actor_name}
use Rattle.pt_sensors.specs.Numbers.{limited}
use Rattle.pt_sensors.specs.Rows.{Cells, cells}
use Rattle.pt_air.specs.declared.fault.AirFault.{AirFault}
use Rattle.pt_air.specs.declared.fault.AirFault.TheVariants as fault
use Rattle.pt_air.specs.declared.row.AirRow.{AirRow}
use Rattle.pt_air.specs.declared.row.Subject.{Subject}
use Rattle.pt_air.specs.declared.row.Subject.TheVariants as subject

infixl 10 ◌>>=◌
abbrev pub ◌>>=◌ : {A B : Type 0} → Result A AirFault → (A → Result B AirFault) → Result B AirFault
(Ok x) >>= f = f x
(Err e) >>= f = Err e

-- a value, or else the fault
abbrev pub or_air_fault : {A : Type 0} → AirFault → Option A → Result A AirFault
or_air_fault e None = Err e
or_air_fault e (Some x) = Ok x

-- the titles of the three columns
abbrev pub are_air_titles : Cells → Bool
are_air_titles c = bytes_eq c.0 (codes "what") && bytes_eq c.1 (codes "name") && bytes_eq c.2 (codes "value")

abbrev pub is_air_header : List (List ℕ) → Bool
is_air_header fields = unwrap_or (option_map are_air_titles (cells fields)) false

abbrev pub is_lag : Cells → Bool
is_lag c = bytes_eq c.0 (codes "lag")

abbrev pub is_transit : Cells → Bool
is_transit c = bytes_eq c.0 (codes "transit")

-- the three fields of a lag or a transit
abbrev pub formed : Cells → Option Cells
formed c = if is_lag c || is_transit c then Some c else None

-- the number of the platform with this name
abbrev pub platform_named : Graph → List ℕ → Option ℕ
platform_named g name = position (λ n. bytes_eq n name) g.platforms

-- the number of the link whose sender has this name; in a lawful graph each sender has one
abbrev pub link_named : Graph → List ℕ → Option ℕ
link_named g name = position (λ (l : Link). bytes_eq (actor_name g l.from) name) g.links

-- an actor is a sender with this name
abbrev pub is_sender_named : List ℕ → Actor → Bool
is_sender_named name a = is_send a.kind && bytes_eq a.name name

-- the platform or the link of a row, by the name in it
abbrev pub subject_of : Graph → Cells → Option Subject
subject_of g c = if is_lag c then option_map subject.Platform (platform_named g c.1) else option_map subject.Link (link_named g c.1)

-- the subject is platform p
abbrev pub is_subject : ℕ → Subject → Bool
is_subject p (subject.Platform q) = q == p
is_subject p (subject.Link l) = false

-- the subject is link l
abbrev pub is_link : ℕ → Subject → Bool
is_link l (subject.Platform p) = false
is_link l (subject.Link k) = k == l

-- the row is the lag of platform p
abbrev pub is_lag_of : ℕ → AirRow → Bool
is_lag_of p row = is_subject p row.subject

-- the row is a transit on link l
abbrev pub is_transit_on : ℕ → AirRow → Bool
is_transit_on l row = is_link l row.subject

-- an earlier row is a lag of the same platform
abbrev pub is_repeated : List AirRow → Subject → Bool
is_repeated before (subject.Platform p) = list_any (is_lag_of p) before
is_repeated before (subject.Link l) = false

-- row number n, or its first fault; the rows before it are known
unfoldable pub air_row_of : Graph → ℕ → List AirRow → List (List ℕ) → Result AirRow AirFault
air_row_of g n before fields = do
  three ← or_air_fault (fault.Form n) (option_and_then formed (cells fields))
  subject ← or_air_fault (fault.Unknown n) (subject_of g three)
  time ← or_air_fault (fault.Number n) (limited 1000000000000000 three.2)
  if is_repeated before subject then Err (fault.Repeated n) else Ok (record { subject = subject; time = time })
