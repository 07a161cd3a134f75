-- A front of messages that are sorted by link.
use Rattle.std.specs.Prelude.{◌≡◌, ◌<◌, ◌++◌, [], ℕ, List}
use Rattle.pt_types.specs.declared.firing.OnLink.{OnLink}
use Rattle.pt_semantics.specs.Closing.{on_link}
use Rattle.pt_semantics.specs.Visits.{LinkByLink}

-- if it has a message on link k, it has all messages on each link before k
abbrev pub FrontsAreByLink : Type 0
FrontsAreByLink = (front rest : List OnLink) (l k : ℕ) → LinkByLink (front ++ rest) → l < k → (on_link k front ≡ [] → ⊥) → on_link l rest ≡ []
