-- The limits of the arrays of a file.
use Rattle.std.specs.Prelude.{ℕ, length, map, sum, Option, Some, None, nat_lt, if◌then◌else◌}
use Rattle.std.specs.List.{list_any}
use Rattle.pt_graph_text.specs.declared.document.Document.{Document}
use Rattle.pt_graph_text.specs.declared.document.ActorText.{ActorText}
use Rattle.pt_graph_text.specs.declared.kinds.KindText.{KindText}
use Rattle.pt_graph_text.specs.declared.kinds.KindText.TheVariants as text
use Rattle.pt_graph_text.specs.declared.version.Version.{Version}
use Rattle.pt_graph_text.specs.declared.version.Version.TheVariants.{First, Second}
use Rattle.pt_graph_text.specs.declared.fault.What.TheVariants as what
use Rattle.pt_graph_text.specs.declared.fault.GraphFault.{GraphFault}
use Rattle.pt_graph_text.specs.declared.fault.GraphFault.TheVariants as fault

abbrev pub most_actors : Version → ℕ
most_actors First = 256
most_actors Second = 1024

abbrev pub most_wires : Version → ℕ
most_wires First = 1024
most_wires Second = 4096

-- the number of rows of a machine
abbrev pub machine_row_count : KindText → ℕ
machine_row_count (text.Machine start outputs rows) = length rows
machine_row_count _ = 0

-- the number of cells of lanes
abbrev pub lane_cell_count : KindText → ℕ
lane_cell_count (text.Lanes cells) = length cells
lane_cell_count _ = 0

-- the first array that is too long; the cells of all lanes are counted together
unfoldable pub too_many : Document → Option GraphFault
too_many d =
    if nat_lt 16 (length d.platforms) then Some (fault.TooMany what.Platforms)
    else if nat_lt (most_actors d.version) (length d.actors) then Some (fault.TooMany what.Actors)
    else if nat_lt (most_wires d.version) (length d.wires) then Some (fault.TooMany what.Wires)
    else if nat_lt 64 (length d.links) then Some (fault.TooMany what.Links)
    else if nat_lt 120 (length d.pairs) then Some (fault.TooMany what.Pairs)
    else if list_any (λ (a : ActorText). nat_lt 64 (machine_row_count a.kind)) d.actors then Some (fault.TooMany what.Rows)
    else if nat_lt 1024 (sum (map (λ (a : ActorText). lane_cell_count a.kind) d.actors)) then Some (fault.TooMany what.Cells)
    else None
