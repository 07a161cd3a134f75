-- The ranges of the numbers of a file.
use Rattle.std.specs.Prelude.{◌==◌, ◌&&◌, ℤ, pos, negsuc, List, length, map, sum, not, Bool, true, Option, Some, None, unsigned_abs, nat_le, int_lt, int_le, bytes_eq, position, if◌then◌else◌}
use Rattle.std.specs.List.{list_all}
use Rattle.pt_graph_text.specs.declared.document.Document.{Document}
use Rattle.pt_graph_text.specs.declared.document.LinkText.{LinkText}
use Rattle.pt_graph_text.specs.declared.document.WireText.{WireText}
use Rattle.pt_graph_text.specs.declared.document.PairText.{PairText}
use Rattle.pt_graph_text.specs.declared.document.RowText.{RowText}
use Rattle.pt_graph_text.specs.declared.document.ActorText.{ActorText}
use Rattle.pt_graph_text.specs.declared.document.TopNumbers.{TopNumbers}
use Rattle.pt_graph_text.specs.declared.kinds.KindText.{KindText}
use Rattle.pt_graph_text.specs.declared.kinds.KindText.TheVariants as text
use Rattle.pt_graph_text.specs.declared.fault.Part.TheVariants as part
use Rattle.pt_graph_text.specs.declared.fault.Place.{Place}
use Rattle.pt_graph_text.specs.Faults.{top}
use Rattle.pt_graph.specs.Chains.{◌<|>◌, found}
use Rattle.pt_types.specs.Kinds.{is_between}

-- a time: 0 to 10 ^ 15 microseconds
abbrev pub is_time_number : ℤ → Bool
is_time_number z = is_between (pos 0) (pos 1000000000000000) z

abbrev pub emit_in_range : ℤ → Option (ℤ × ℤ) → Bool
emit_in_range outputs None = true
emit_in_range outputs (Some e) = int_le (pos 0) e.0 && int_lt e.0 outputs

abbrev pub row_in_range : ℤ → RowText → Bool
row_in_range outputs r = int_le r.low r.high && emit_in_range outputs r.emit

-- the sum of the absolute values is at most 8
abbrev pub sum_is_small : List ℤ → Bool
sum_is_small cells = nat_le (sum (map unsigned_abs cells)) 8

abbrev pub kind_in_range : KindText → Bool
kind_in_range (text.Sensor file bound) = is_time_number bound
kind_in_range (text.Send slack) = is_time_number slack
kind_in_range (text.Actuator slack) = is_time_number slack
kind_in_range (text.Scale num den) = is_between (negsuc 999999999) (pos 1000000000) num && is_between (pos 1) (pos 1000000000) den
kind_in_range (text.Merge n) = is_between (pos 2) (pos 8) n
kind_in_range (text.Delay d) = is_time_number d
kind_in_range (text.Machine start outputs rows) = is_between (pos 1) (pos 8) outputs && list_all (row_in_range outputs) rows
kind_in_range (text.Every start period) = is_time_number start && is_between (pos 1) (pos 1000000000000000) period
kind_in_range (text.Lanes cells) = nat_le 1 (length cells) && nat_le (length cells) 8 && list_all (is_between (pos 1) (pos 8)) cells && sum_is_small cells
kind_in_range _ = true

abbrev pub wire_in_range : WireText → Bool
wire_in_range w = is_between (pos 0) (pos 7) w.output && is_between (pos 0) (pos 7) w.input

-- the clock error is a time, and the pair is of two different platforms
abbrev pub pair_in_range : PairText → Bool
pair_in_range p = is_time_number p.error && not (bytes_eq p.a p.b)

abbrev pub head_in_range : TopNumbers → Bool
head_in_range h = is_between (pos 1) (pos 2) h.version && is_time_number h.until && is_time_number h.clock_error

-- the top object, if one of its numbers is out of range or there is no platform
abbrev pub top_range : Document → Option Place
top_range d = if head_in_range d.head && not (length d.platforms == 0) then None else Some top

unfoldable pub range_place : Document → Option Place
range_place d =
    top_range d
    <|> found part.Actor (position (λ (a : ActorText). not (kind_in_range a.kind)) d.actors)
    <|> found part.Wire (position (λ w. not (wire_in_range w)) d.wires)
    <|> found part.Link (position (λ (l : LinkText). not (is_time_number l.delay)) d.links)
    <|> found part.Pair (position (λ p. not (pair_in_range p)) d.pairs)
