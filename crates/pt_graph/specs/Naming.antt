-- Which names of a file are valid.
use Rattle.std.specs.Prelude.{◌&&◌, ℕ, List, not, Bool, true, Option, Some, None, position}
use Rattle.std.specs.List.{list_all}
use Rattle.pt_graph_text.specs.declared.document.Document.{Document}
use Rattle.pt_graph_text.specs.declared.document.LinkText.{LinkText}
use Rattle.pt_graph_text.specs.declared.document.WireText.{WireText}
use Rattle.pt_graph_text.specs.declared.document.PairText.{PairText}
use Rattle.pt_graph_text.specs.declared.document.RowText.{RowText}
use Rattle.pt_graph_text.specs.declared.document.ActorText.{ActorText}
use Rattle.pt_graph_text.specs.declared.kinds.KindText.{KindText}
use Rattle.pt_graph_text.specs.declared.kinds.KindText.TheVariants as text
use Rattle.pt_graph_text.specs.declared.fault.Part.TheVariants as part
use Rattle.pt_graph_text.specs.declared.fault.Place.{Place}
use Rattle.pt_graph.specs.Chains.{◌<|>◌, found}
use Rattle.pt_types.specs.Names.{is_name, is_file}

abbrev pub guard_is_named : Option (List ℕ) → Bool
guard_is_named None = true
guard_is_named (Some guard) = is_name guard

-- all names within a kind are valid
abbrev pub kind_is_named : KindText → Bool
kind_is_named (text.Sensor file bound) = is_file file
kind_is_named (text.Machine start outputs rows) = list_all (λ (r : RowText). guard_is_named r.guard) rows
kind_is_named (text.Block block) = is_name block
kind_is_named _ = true

abbrev pub actor_is_named : ActorText → Bool
actor_is_named a = is_name a.name && is_name a.platform && kind_is_named a.kind

unfoldable pub name_place : Document → Option Place
name_place d =
    found part.Platform (position (λ n. not (is_name n)) d.platforms)
    <|> found part.Actor (position (λ a. not (actor_is_named a)) d.actors)
    <|> found part.Wire (position (λ (w : WireText). not (is_name w.from && is_name w.to)) d.wires)
    <|> found part.Link (position (λ (l : LinkText). not (is_name l.from && is_name l.to)) d.links)
    <|> found part.Pair (position (λ (p : PairText). not (is_name p.a && is_name p.b)) d.pairs)
