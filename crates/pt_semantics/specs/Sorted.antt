-- Lists of firings in the order of tag, rank and actor.
use Rattle.std.specs.Prelude.{◌≡◌, ◌<◌, ◌∷◌, ◌≤◌, [], ℕ, List, true}
use Rattle.pt_tags.specs.declared.tag.Tag.{Tag}
use Rattle.pt_types.specs.declared.graph.Graph.{Graph}
use Rattle.pt_types.specs.Ports.{at_port, eight}
use Rattle.pt_semantics.specs.Meaning.{ActorFiring}
use Rattle.pt_semantics.specs.Lists.{Each}
use Rattle.pt_semantics.specs.Firing.{any_present, fired}
use Rattle.pt_types.specs.Lookups.{kind_of}

-- (t, a) comes before (u, b) in the order of tag, rank and actor
abbrev pub Sooner : (ℕ → ℕ) → Tag → ℕ → Tag → ℕ → Type 0
Sooner rank t a u b = (t.time ≤ u.time) × (u.time ≤ t.time → (t.step ≤ u.step) × (u.step ≤ t.step → (rank a ≤ rank b) × (rank b ≤ rank a → a < b)))

-- the firings are in that order, and no two have the same tag and actor
abbrev pub InKeyOrder : (ℕ → ℕ) → List ActorFiring → Type 0
InKeyOrder rank [] = Unit {0}
InKeyOrder rank (x ∷ xs) = Each (λ (y : ActorFiring). Sooner rank x.tag x.actor y.tag y.actor) xs × InKeyOrder rank xs

-- a firing with an input that is present, and with the result for its kind
pub record IsFull (g : Graph) (x : ActorFiring) : Type 0 where
  pub ports : x.inputs ≡ eight (λ p. at_port x.inputs p)
  pub present : any_present x.inputs ≡ true
  pub after : x.after ≡ (fired (kind_of g x.actor) x.before x.inputs).state
  pub outputs : x.outputs ≡ (fired (kind_of g x.actor) x.before x.inputs).outputs
