-- Repeated names and unknown names.
use Rattle.std.specs.Prelude.{◌&&◌, ◌||◌, ℕ, ◌+◌, List, [], ◌∷◌, ◌++◌, not, Bool, Option, Some, None, is_some, bytes_eq, position, if◌then◌else◌}
use Rattle.std.specs.List.{list_any}
use Rattle.pt_graph_text.specs.declared.document.Document.{Document}
use Rattle.pt_graph_text.specs.declared.document.LinkText.{LinkText}
use Rattle.pt_graph_text.specs.declared.document.WireText.{WireText}
use Rattle.pt_graph_text.specs.declared.document.PairText.{PairText}
use Rattle.pt_graph_text.specs.declared.document.ActorText.{ActorText}
use Rattle.pt_graph_text.specs.declared.fault.Part.TheVariants as part
use Rattle.pt_graph_text.specs.declared.fault.Place.{Place}
use Rattle.pt_graph.specs.Chains.{◌<|>◌, found, first_index}
use Rattle.pt_types.specs.Lawful.{repeated_from}

-- the number of the first item with this name
abbrev pub first_named : {A : Type 0} → (A → List ℕ) → List A → List ℕ → Option ℕ
first_named name_of xs n = position (λ x. bytes_eq (name_of x) n) xs

abbrev pub itself : List ℕ → List ℕ
itself n = n

abbrev pub name_of_actor : ActorText → List ℕ
name_of_actor a = a.name

-- two pairs name the same platforms
abbrev pub same_pair : PairText → PairText → Bool
same_pair p q = bytes_eq p.a q.a && bytes_eq p.b q.b || bytes_eq p.a q.b && bytes_eq p.b q.a

-- the index of the first pair that names the two platforms of an earlier pair
abbrev pub pair_again_from : List PairText → ℕ → List PairText → Option ℕ
pair_again_from seen i [] = None
pair_again_from seen i (p ∷ ps) = if list_any (same_pair p) seen then Some i else pair_again_from (seen ++ p ∷ []) (i + 1) ps

unfoldable pub repeated_place : Document → Option Place
repeated_place d =
    found part.Platform (repeated_from itself [] 0 d.platforms)
    <|> found part.Actor (repeated_from name_of_actor [] 0 d.actors)
    <|> found part.Pair (pair_again_from [] 0 d.pairs)

abbrev pub is_platform : List (List ℕ) → List ℕ → Bool
is_platform platforms n = is_some (first_named itself platforms n)

-- both names have a number
abbrev pub is_known : (List ℕ → Option ℕ) → List ℕ → List ℕ → Bool
is_known numbers from to = is_some (numbers from) && is_some (numbers to)

-- the first place that names an unknown platform or actor, if `numbers` has the numbers of the actors
unfoldable pub unknown_by : (List ℕ → Option ℕ) → Document → Option Place
unknown_by numbers d =
    found part.Actor (position (λ (a : ActorText). not (is_platform d.platforms a.platform)) d.actors)
    <|> found part.Wire (first_index (λ (w : WireText). not (is_known numbers w.from w.to)) d.wires)
    <|> found part.Link (first_index (λ (l : LinkText). not (is_known numbers l.from l.to)) d.links)
    <|> found part.Pair (position (λ (p : PairText). not (is_platform d.platforms p.a && is_platform d.platforms p.b)) d.pairs)

abbrev pub unknown_place : Document → Option Place
unknown_place d = unknown_by (first_named name_of_actor d.actors) d
