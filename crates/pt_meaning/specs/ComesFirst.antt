-- The first actor that has events.
use Rattle.std.specs.Prelude.{ℕ, ◌≤◌, Option, ℤ, IsSome}
use Rattle.pt_meaning.specs.declared.place.EventPlace.{EventPlace}
use Rattle.pt_meaning.specs.Both.{IsUpTo}

-- the place with another port
abbrev pub with_port : EventPlace → ℕ → EventPlace
with_port x port = record { tag = x.tag; rank = x.rank; actor = x.actor; port = port }

-- the actor of the place has an event at its tag, and no event is of an earlier tag, rank or actor
pub record ComesFirst (held : EventPlace → Option ℤ) (x : EventPlace) : Type 0 where
  pub port : ℕ
  pub there : IsSome (held (with_port x port))
  pub low : x.port ≤ port
  pub first : (q : EventPlace) → IsSome (held q) → IsUpTo x q
