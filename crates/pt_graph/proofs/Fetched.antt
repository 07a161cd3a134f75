-- The first bytes of a content, as many as tell whether it is too long.
use Rattle.std.proofs.Common.{◌≡◌, ℕ, ◌+◌, List, true, false, cond, length, take, arith, refl}
use Rattle.std.specs.Prelude.{nat_lt}
use Rattle.std.proofs.lemmas.Bool.Decides.{nat_tests}
use Rattle.std.proofs.lemmas.List.{length-take, take_all}
use Rattle.pt_blocks.specs.declared.blocks.Named.{Named}
use Rattle.pt_graph.specs.GraphOf.{graph_in, graph_of}
use Rattle.pt_types.specs.Limits.{most_graph_bytes}

fetched : {R : Type 0} (limit : ℕ) (e : R) (f : List ℕ → R) (bytes : List ℕ)
    → cond (nat_lt limit (length (take (limit + 1) bytes))) e (f (take (limit + 1) bytes)) ≡ cond (nat_lt limit (length bytes)) e (f bytes)
fetched limit e f bytes =
    elim (nat_lt limit (length bytes))
    as (λ b. nat_lt limit (length bytes) ≡ b → cond (nat_lt limit (length (take (limit + 1) bytes))) e (f (take (limit + 1) bytes)) ≡ cond b e (f bytes)) [
      | true ↦ λ long.
          let more : nat_lt limit (length (take (limit + 1) bytes)) ≡ true = grind (arith, nat_tests, length-take (limit + 1) bytes) in
          rw more refl
      | false ↦ λ short.
          let all : take (limit + 1) bytes ≡ bytes = take_all _ _ (grind (arith, nat_tests)) in
          rw (all, short) refl
    ] refl

-- the fault or the graph of the first bytes are those of all of them
pub graph_of-fetched : (blocks : List Named) (bytes : List ℕ) → graph_of blocks (take 1048577 bytes) ≡ graph_of blocks bytes
unfolding graph_of
graph_of-fetched blocks bytes = fetched most_graph_bytes _ (graph_in blocks) bytes
