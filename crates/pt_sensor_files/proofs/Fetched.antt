-- The first bytes of a content, as many as tell whether it is too long.
use Rattle.std.proofs.Common.{◌≡◌, ℕ, ◌+◌, List, true, false, cond, length, take, arith, refl}
use Rattle.std.specs.Prelude.{nat_lt}
use Rattle.std.proofs.lemmas.Bool.Decides.{nat_tests}
use Rattle.std.proofs.lemmas.List.{length-take, take_all}
use Rattle.pt_sensors.specs.declared.limits.FileLimits.{FileLimits}
use Rattle.pt_sensors.specs.RowsOf.{rows_in, rows_of}

fetched : {R : Type 0} (limit : ℕ) (e : R) (f : List ℕ → R) (bytes : List ℕ)
    → cond (nat_lt limit (length (take (limit + 1) bytes))) e (f (take (limit + 1) bytes)) ≡ cond (nat_lt limit (length bytes)) e (f bytes)
fetched limit e f bytes =
    elim (nat_lt limit (length bytes))
    as (λ b. nat_lt limit (length bytes) ≡ b → cond (nat_lt limit (length (take (limit + 1) bytes))) e (f (take (limit + 1) bytes)) ≡ cond b e (f bytes)) [
      | true ↦ λ long.
          let more : nat_lt limit (length (take (limit + 1) bytes)) ≡ true = grind (arith, nat_tests, length-take (limit + 1) bytes) in
          rw more refl
      | false ↦ λ short.
          let all : take (limit + 1) bytes ≡ bytes = take_all _ _ (grind (arith, nat_tests)) in
          rw (all, short) refl
    ] refl

-- the fault or the rows of the first bytes are those of all of them
pub rows_of-fetched : (limits : FileLimits) (bytes : List ℕ) → rows_of limits (take (limits.bytes + 1) bytes) ≡ rows_of limits bytes
unfolding rows_of
rows_of-fetched limits bytes = fetched limits.bytes _ (rows_in limits) bytes
