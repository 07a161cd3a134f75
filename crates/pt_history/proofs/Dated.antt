-- The results of all turns, each with the last reading of its turn.
use Rattle.std.proofs.Common.{◌≡◌, ℕ, zero, suc, ◌+◌, ◌-◌, ◌<◌, ◌≤◌, Some, List, [], ◌∷◌, ◌++◌, take, length, refl, sym, ap, ap₂, ◌∙◌, arith}
use Rattle.std.specs.Prelude.{map, option_map, slice_get}
use Rattle.std.specs.List.{flat_map}
use Rattle.std.proofs.lemmas.List.{length-append, length-map, map-append}
use Rattle.pt_types.specs.declared.firing.Done.{Done}
use Rattle.pt_semantics.specs.Turn.{Turn}
use Rattle.pt_semantics.proofs.Lookups.{none_some, same_some}
use Rattle.pt_history.specs.Turns.{Dated, all_dated, dated}

undated : (r : ℕ) (dones : List Done) → map (λ (d : Dated). d.done) (map (λ (done : Done). record { reading = r; done = done }) dones) ≡ dones
undated r [] = refl
undated r (d ∷ ds) = ap (λ l. d ∷ l) (undated r ds)

-- without the readings they are the results of all turns
pub results_of : (turns : List Turn) → map (λ (d : Dated). d.done) (all_dated turns) ≡ flat_map (λ (turn : Turn). turn.posted) turns
results_of [] = refl
results_of (t ∷ ts) = map-append (λ (d : Dated). d.done) (dated t) (all_dated ts) ∙ ap₂ (λ a b. a ++ b) (undated t.last t.posted) (results_of ts)

pub length-results : (turns : List Turn) → length (all_dated turns) ≡ length (flat_map (λ (turn : Turn). turn.posted) turns)
length-results turns = sym (length-map (all_dated turns) (λ (d : Dated). d.done)) ∙ ap length (results_of turns)

-- what is read of a result of all turns
pub of_result : {Y : Type 0} (f : Done → Y) (turns : List Turn) (n : ℕ) → option_map (λ (d : Dated). f d.done) (slice_get (all_dated turns) n) ≡ option_map f (slice_get (flat_map (λ (turn : Turn). turn.posted) turns) n)
of_result f turns n = along f (all_dated turns) n ∙ ap (λ l. option_map f (slice_get l n)) (results_of turns)
  where
    along : {Y : Type 0} (f : Done → Y) (ds : List Dated) (n : ℕ) → option_map (λ (d : Dated). f d.done) (slice_get ds n) ≡ option_map f (slice_get (map (λ (d : Dated). d.done) ds) n)
    along f [] n = refl
    along f (d ∷ ds) zero = refl
    along f (d ∷ ds) (suc n) = along f ds n

pub at_left : {X : Type 0} (xs ys : List X) (n : ℕ) → n < length xs → slice_get (xs ++ ys) n ≡ slice_get xs n
at_left [] ys n lt = absurd (omega arith)
at_left (x ∷ xs) ys zero lt = refl
at_left (x ∷ xs) ys (suc n) lt = at_left xs ys n (omega arith)

pub at_right : {X : Type 0} (xs ys : List X) (n m : ℕ) → n ≡ length xs + m → slice_get (xs ++ ys) n ≡ slice_get ys m
at_right [] ys n m is = let same : n ≡ m = omega (arith, is) in ap (slice_get ys) same
at_right (x ∷ xs) ys zero m is = absurd (omega (arith, is))
at_right (x ∷ xs) ys (suc n) m is = at_right xs ys n m (omega (arith, is))

reading_in : (r : ℕ) (dones : List Done) (n : ℕ) → n < length dones → option_map (λ (d : Dated). d.reading) (slice_get (map (λ (done : Done). record { reading = r; done = done }) dones) n) ≡ Some r
reading_in r [] n lt = absurd (omega arith)
reading_in r (d ∷ ds) zero lt = refl
reading_in r (d ∷ ds) (suc n) lt = reading_in r ds n (omega arith)

-- a result is in turn k: those before it are fewer than its number, and with turn k they are more
pub reading_at : (turns : List Turn) (k n : ℕ) (t : Turn) → slice_get turns k ≡ Some t → length (flat_map (λ (turn : Turn). turn.posted) (take k turns)) ≤ n
    → n < length (flat_map (λ (turn : Turn). turn.posted) (take (suc k) turns)) → option_map (λ (d : Dated). d.reading) (slice_get (all_dated turns) n) ≡ Some t.last
reading_at [] k n t at low high = absurd (none_some t at)
reading_at (x ∷ xs) zero n t at low high =
    let sum : length (x.posted ++ flat_map (λ (turn : Turn). turn.posted) (take zero xs)) ≡ length x.posted + length (flat_map (λ (turn : Turn). turn.posted) (take zero xs)) = length-append x.posted (flat_map (λ (turn : Turn). turn.posted) (take zero xs)) in
    let none : length (flat_map (λ (turn : Turn). turn.posted) (take zero xs)) ≡ 0 = nothing xs in
    let few : n < length x.posted = omega (arith, high, sum, none) in
    let many : length (dated x) ≡ length x.posted = length-map x.posted (λ (done : Done). record { reading = x.last; done = done }) in
    ap (option_map (λ (d : Dated). d.reading)) (at_left (dated x) (all_dated xs) n (omega (arith, few, many)))
    ∙ reading_in x.last x.posted n few ∙ ap (λ (turn : Turn). Some turn.last) (same_some x t at)
  where
    nothing : (xs : List Turn) → length (flat_map (λ (turn : Turn). turn.posted) (take zero xs)) ≡ 0
    nothing [] = refl
    nothing (x ∷ xs) = refl
reading_at (x ∷ xs) (suc k) n t at low high =
    let before : length (x.posted ++ flat_map (λ (turn : Turn). turn.posted) (take k xs)) ≡ length x.posted + length (flat_map (λ (turn : Turn). turn.posted) (take k xs)) = length-append x.posted (flat_map (λ (turn : Turn). turn.posted) (take k xs)) in
    let with : length (x.posted ++ flat_map (λ (turn : Turn). turn.posted) (take (suc k) xs)) ≡ length x.posted + length (flat_map (λ (turn : Turn). turn.posted) (take (suc k) xs)) = length-append x.posted (flat_map (λ (turn : Turn). turn.posted) (take (suc k) xs)) in
    let many : length (dated x) ≡ length x.posted = length-map x.posted (λ (done : Done). record { reading = x.last; done = done }) in
    let m = n - length x.posted in
    let split : n ≡ length (dated x) + m = omega (arith, low, before, many) in
    ap (option_map (λ (d : Dated). d.reading)) (at_right (dated x) (all_dated xs) n m split)
    ∙ reading_at xs k m t at (omega (arith, low, before)) (omega (arith, high, with, low, before))
