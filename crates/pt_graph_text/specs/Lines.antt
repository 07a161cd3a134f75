-- The texts of faults, and the line that reports one.
use Rattle.std.specs.Prelude.{ℕ, List, [], ◌∷◌, ◌++◌, codes}
use Rattle.std.specs.Fmt.{decimal}
use Rattle.pt_graph_text.specs.declared.fault.Part.{Part}
use Rattle.pt_graph_text.specs.declared.fault.Part.TheVariants as part
use Rattle.pt_graph_text.specs.declared.fault.What.{What}
use Rattle.pt_graph_text.specs.declared.fault.What.TheVariants as what
use Rattle.pt_graph_text.specs.declared.fault.Place.{Place}
use Rattle.pt_graph_text.specs.declared.fault.GraphFault.{GraphFault}
use Rattle.pt_graph_text.specs.declared.fault.GraphFault.TheVariants as fault

abbrev pub part_text : Part → ℕ → List ℕ
part_text part.Top i = codes "top"
part_text part.Platform i = codes "platform " ++ decimal i
part_text part.Actor i = codes "actor " ++ decimal i
part_text part.Wire i = codes "wire " ++ decimal i
part_text part.Link i = codes "link " ++ decimal i
part_text part.Pair i = codes "clock error " ++ decimal i

abbrev pub place_text : Place → List ℕ
place_text p = part_text p.part p.index

abbrev pub what_text : What → List ℕ
what_text what.Platforms = codes "platforms"
what_text what.Actors = codes "actors"
what_text what.Wires = codes "wires"
what_text what.Links = codes "links"
what_text what.Pairs = codes "clock errors"
what_text what.Rows = codes "rows"
what_text what.Cells = codes "cells"

-- the text of a fault
abbrev pub fault_text : GraphFault → List ℕ
fault_text fault.Memory = codes "memory"
fault_text fault.TooLong = codes "too long"
fault_text fault.NotJson = codes "not json"
fault_text (fault.Member p) = codes "member at " ++ place_text p
fault_text (fault.TooMany w) = codes "too many " ++ what_text w
fault_text (fault.Range p) = codes "range at " ++ place_text p
fault_text (fault.Name p) = codes "name at " ++ place_text p
fault_text (fault.Repeated p) = codes "repeated at " ++ place_text p
fault_text (fault.Unknown p) = codes "unknown at " ++ place_text p
fault_text (fault.WireEnd p) = codes "wire end at " ++ place_text p
fault_text (fault.CrossWire p) = codes "cross wire at " ++ place_text p
fault_text (fault.FedTwice p) = codes "fed twice at " ++ place_text p
fault_text (fault.Unfed actor port) = codes "unfed actor " ++ decimal actor ++ codes " input " ++ decimal port
fault_text (fault.LinkEnd p) = codes "link end at " ++ place_text p
fault_text (fault.Block p) = codes "block at " ++ place_text p

-- the line of a fault, with its line feed; running out of memory is no fault of the graph
abbrev pub fault_line : GraphFault → List ℕ
fault_line fault.Memory = codes "memory" ++ 10 ∷ []
fault_line e = codes "graph: " ++ fault_text e ++ 10 ∷ []
