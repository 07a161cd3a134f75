-- What is read of a turn by its number, for those that read a history.
use Rattle.std.proofs.Common.{◌≡◌, ℕ, zero, suc, ◌+◌, ◌<◌, Some, List, [], ◌∷◌, ◌++◌, refl, ap, ◌∙◌, arith, length, take, drop}
use Rattle.std.specs.Prelude.{option_map, slice_get, unwrap_or}
use Rattle.pt_semantics.specs.Turn.{Turn}
use Rattle.pt_semantics.proofs.Lookups.{none_some, same_some}
use Rattle.pt_history.specs.Turns.{claimed_in, posted_in}

list_in : {X : Type 0} (f : Turn → List X) (turns : List Turn) (k : ℕ) → k < length turns → option_map f (slice_get turns k) ≡ Some (unwrap_or (option_map f (slice_get turns k)) [])
list_in f [] k lt = absurd (omega arith)
list_in f (turn ∷ turns) zero lt = refl
list_in f (turn ∷ turns) (suc k) lt = list_in f turns k (omega arith)

pub posted_is : (turns : List Turn) (k : ℕ) → k < length turns → option_map (λ (turn : Turn). turn.posted) (slice_get turns k) ≡ Some (posted_in turns k)
posted_is turns k lt = list_in (λ (turn : Turn). turn.posted) turns k lt

pub claimed_is : (turns : List Turn) (k : ℕ) → k < length turns → option_map (λ (turn : Turn). turn.claimed) (slice_get turns k) ≡ Some (claimed_in turns k)
claimed_is turns k lt = list_in (λ (turn : Turn). turn.claimed) turns k lt

drop_suc : {X : Type 0} (xs : List X) (n : ℕ) (x : X) → slice_get xs n ≡ Some x → drop n xs ≡ x ∷ drop (suc n) xs
drop_suc [] n x at = absurd (none_some x at)
drop_suc (y ∷ xs) zero x at = ap (λ z. z ∷ xs) (same_some y x at)
drop_suc (y ∷ xs) (suc n) x at = drop_suc xs n x at

take_suc : {X : Type 0} (xs : List X) (n : ℕ) (x : X) → slice_get xs n ≡ Some x → take (suc n) xs ≡ take n xs ++ x ∷ []
take_suc [] n x at = absurd (none_some x at)
take_suc (y ∷ xs) zero x at = ap (λ z. z ∷ []) (same_some y x at)
take_suc (y ∷ xs) (suc n) x at = ap (λ l. y ∷ l) (take_suc xs n x at)

-- the items from a number on, and those before the next one
pub drop_next : {X : Type 0} (xs : List X) (n : ℕ) (x : X) → slice_get xs n ≡ Some x → drop n xs ≡ x ∷ drop (n + 1) xs
drop_next xs n x at = let next : suc n ≡ n + 1 = omega arith in drop_suc xs n x at ∙ ap (λ k. x ∷ drop k xs) next

pub take_next : {X : Type 0} (xs : List X) (n : ℕ) (x : X) → slice_get xs n ≡ Some x → take (n + 1) xs ≡ take n xs ++ x ∷ []
take_next xs n x at = let next : n + 1 ≡ suc n = omega arith in ap (λ k. take k xs) next ∙ take_suc xs n x at
