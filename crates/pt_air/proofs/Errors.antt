-- The clock error of two platforms, found in either way.
use Rattle.std.proofs.Common.{◌≡◌, ℕ, List, [], ◌∷◌, Bool, true, false, cond, Some, refl}
use Rattle.std.specs.Prelude.{find, option_map, unwrap_or}
use Rattle.pt_types.specs.declared.graph.Graph.{Graph}
use Rattle.pt_types.specs.declared.graph.PairError.{PairError}
use Rattle.pt_types.specs.Groups.{error_between, is_pair_of}
use Rattle.pt_types.specs.Ports.{when}
use Rattle.pt_semantics.specs.Bounds.{error_of, of_pair}
use Rattle.pt_semantics.specs.Lists.{first_of, or_else}

error_found : (p q error : ℕ) (pairs : List PairError) → unwrap_or (option_map (λ (e : PairError). e.error) (find (is_pair_of p q) pairs)) error ≡ unwrap_or (first_of (of_pair p q) pairs) error
error_found p q error [] = refl
error_found p q error (e ∷ pairs) = by_test (is_pair_of p q e) (error_found p q error pairs)
  where
    by_test : (b : Bool) → unwrap_or (option_map (λ (x : PairError). x.error) (find (is_pair_of p q) pairs)) error ≡ unwrap_or (first_of (of_pair p q) pairs) error → unwrap_or (option_map (λ (x : PairError). x.error) (cond b (Some e) (find (is_pair_of p q) pairs))) error ≡ unwrap_or (or_else (when b (Some e.error)) (first_of (of_pair p q) pairs)) error
    by_test true h = refl
    by_test false h = h

pub same_error : (g : Graph) (p q : ℕ) → error_between g p q ≡ error_of g p q
same_error g p q = error_found p q g.clock_error g.clock_errors
