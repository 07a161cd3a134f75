-- The faults of the ends of wires and links, and of names of blocks.
use Rattle.std.specs.Prelude.{ℕ, List, [], not, Bool, true, Option, Some, None, Result, ⊤, option_map, is_some, position}
use Rattle.std.specs.List.{list_all}
use Rattle.pt_graph_text.specs.declared.document.Document.{Document}
use Rattle.pt_graph_text.specs.declared.document.RowText.{RowText}
use Rattle.pt_graph_text.specs.declared.document.ActorText.{ActorText}
use Rattle.pt_graph_text.specs.declared.kinds.KindText.{KindText}
use Rattle.pt_graph_text.specs.declared.kinds.KindText.TheVariants as text
use Rattle.pt_graph_text.specs.declared.fault.Part.TheVariants as part
use Rattle.pt_graph_text.specs.declared.fault.Place.{Place}
use Rattle.pt_graph_text.specs.declared.fault.GraphFault.{GraphFault}
use Rattle.pt_graph_text.specs.declared.fault.GraphFault.TheVariants as fault
use Rattle.pt_types.specs.declared.graph.Actor.{Actor}
use Rattle.pt_types.specs.declared.graph.Wire.{Wire}
use Rattle.pt_types.specs.declared.graph.Link.{Link}
use Rattle.pt_types.specs.Groups.{held}
use Rattle.pt_types.specs.Ends.{ends_fit, stays_home, is_fed, fed_twice_from, first_unfed, link_fits, misfit_from}
use Rattle.pt_blocks.specs.declared.blocks.Named.{Named}
use Rattle.pt_blocks.specs.Blocks.{find_block}
use Rattle.pt_graph_text.specs.Faults.{◌>>=◌}
use Rattle.pt_graph.specs.Chains.{◌<|>◌, found, refused}

-- the first wire that fails a test
abbrev pub bad_wire : (Wire → Bool) → List Wire → Option Place
bad_wire test wires = found part.Wire (position (λ w. not (test w)) wires)

abbrev pub unfed_at : ℕ × ℕ → GraphFault
unfed_at p = fault.Unfed (held p.0) p.1

-- the first link that doesn't lead from a sender to a receiver on another platform; or else the first sender or receiver
-- that doesn't have exactly one link
abbrev pub link_place : List Actor → List Link → Option Place
link_place actors links = found part.Link (position (λ l. not (link_fits actors l)) links) <|> found part.Actor (misfit_from links 0 actors)

-- each visible input has exactly one wire: first, no two wires lead to one input; then, no input has no wire
unfoldable pub feeding : List Actor → List Wire → Result ⊤ GraphFault
feeding actors wires = do
  done ← refused (option_map fault.FedTwice (found part.Wire (fed_twice_from [] 0 wires)))
  refused (option_map unfed_at (first_unfed (is_fed wires) 0 actors))

-- the checks of wires and links, in order; the first that fails gives the fault
unfoldable pub checked_ends : List Actor → List Wire → List Link → Result ⊤ GraphFault
checked_ends actors wires links = do
  done ← refused (option_map fault.WireEnd (bad_wire (ends_fit actors) wires))
  done ← refused (option_map fault.CrossWire (bad_wire (stays_home actors) wires))
  done ← feeding actors wires
  refused (option_map fault.LinkEnd (link_place actors links))

abbrev pub has_name : List Named → List ℕ → Bool
has_name blocks name = is_some (find_block blocks name)

unfoldable pub guard_has_block : List Named → Option (List ℕ) → Bool
guard_has_block blocks None = true
guard_has_block blocks (Some name) = has_name blocks name

-- each block that a kind names is known
abbrev pub has_blocks : List Named → KindText → Bool
has_blocks blocks (text.Block name) = has_name blocks name
has_blocks blocks (text.Machine start outputs rows) = list_all (λ (r : RowText). guard_has_block blocks r.guard) rows
has_blocks blocks _ = true

abbrev pub block_place : List Named → Document → Option Place
block_place blocks d = found part.Actor (position (λ (a : ActorText). not (has_blocks blocks a.kind)) d.actors)
