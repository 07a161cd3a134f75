-- The messages that go through the pipes in a visit.
use Rattle.std.specs.Prelude.{◌≡◌, ◌++◌, ◌-◌, if◌then◌else◌, [], ◌∷◌, suc, ℕ, List, None, Some, length, map, slice_get, take}
use Rattle.pt_tags.specs.declared.message.Message.{Message}
use Rattle.pt_types.specs.declared.graph.Graph.{Graph}
use Rattle.pt_types.specs.declared.firing.OnLink.{OnLink}
use Rattle.pt_semantics.specs.Closing.{on_link}
use Rattle.pt_semantics.specs.Visits.{LinkByLink, leads_to}

-- a message, on link l
abbrev pub put_on : ℕ → Message → OnLink
put_on l m = record { link = l; message = m }

-- the messages in the pipes of the links that lead to platform i, link by link; the first pipe is that of link l
abbrev pub arriving : Graph → ℕ → ℕ → List (List Message) → List OnLink
arriving g i l [] = []
arriving g i l (pipe ∷ pipes) = (if leads_to g i (slice_get g.links l) then map (put_on l) pipe else []) ++ arriving g i (suc l) pipes

-- the pipes without these messages
abbrev pub emptied : Graph → ℕ → ℕ → List (List Message) → List (List Message)
emptied g i l [] = []
emptied g i l (pipe ∷ pipes) = (if leads_to g i (slice_get g.links l) then [] else pipe) ∷ emptied g i (suc l) pipes

-- these messages went into the pipes, link by link: the first ones of each link's outbox, as many as its pipe had room for
pub record HavePushed (outbox : ℕ → List Message) (old new : List (List Message)) (sent : List OnLink) : Type 0 where
  pub count : length new ≡ length old
  pub pipes : (l : ℕ) (pipe : List Message) → slice_get old l ≡ Some pipe → slice_get new l ≡ Some (pipe ++ on_link l sent)
  pub first : (l : ℕ) (pipe : List Message) → slice_get old l ≡ Some pipe → on_link l sent ≡ take (64 - length pipe) (outbox l)
  pub nowhere_else : (l : ℕ) → slice_get old l ≡ None → on_link l sent ≡ []
  pub by_link : LinkByLink sent
