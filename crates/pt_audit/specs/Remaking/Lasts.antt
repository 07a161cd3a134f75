-- The last message taken on each link.
use Rattle.std.specs.Prelude.{◌≡◌, ◌∷◌, [], ℕ, List, None, Option, Some, length, slice_get}
use Rattle.pt_tags.specs.declared.message.Message.{Message}
use Rattle.pt_types.specs.declared.graph.Graph.{Graph}
use Rattle.pt_types.specs.declared.graph.Link.{Link}
use Rattle.pt_types.specs.Lookups.{platform_of}

-- the last message of a list; `None` if it is empty
abbrev pub last_of : List Message → Option Message
last_of [] = None
last_of (m ∷ []) = Some m
last_of (m ∷ n ∷ ms) = last_of (n ∷ ms)

-- there is an entry for each link, and on a link that leads to platform i it is the last of these messages
pub record AreLast (g : Graph) (i : ℕ) (taken : ℕ → List Message) (last : List (Option Message)) : Type 0 where
  pub count : length last ≡ length g.links
  pub is : (l : ℕ) (link : Link) → slice_get g.links l ≡ Some link → platform_of g link.to ≡ i → slice_get last l ≡ Some (last_of (taken l))

-- the entries of links that do not lead to platform i are the same
abbrev pub KeepOthers : Graph → ℕ → List (Option Message) → List (Option Message) → Type 0
KeepOthers g i old new = (l : ℕ) (link : Link) → slice_get g.links l ≡ Some link → (platform_of g link.to ≡ i → ⊥) → slice_get new l ≡ slice_get old l
