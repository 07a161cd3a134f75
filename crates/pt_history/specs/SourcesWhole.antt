-- The invariant of stored sources.
use Rattle.std.specs.Prelude.{◌+◌, ◌<◌, ◌≤◌, ◌^◌, length, vec_capacity, vec_len}
use Rattle.pt_history.specs.declared.sources.Sources.TheInside.{Inside}

-- the promised room is allocated, in both vectors, and 32 bits hold the number of sources
pub record AreStoredSources (s : Inside) : Type 0 where
  pub claims : vec_len s.claims + s.spare ≤ vec_capacity s.claims
  pub rest : vec_len s.rest + s.spare ≤ vec_capacity s.rest
  pub fits : s.in_order + length s.claims.items + length s.rest.items + s.spare < 2 ^ 32
