-- Sources of results: one more, and the source of a result.
use Rattle.std.proofs.Common.{◌≡◌, ℕ, zero, suc, ◌+◌, ◌-◌, ◌<◌, ◌≤◌, Some, List, ◌++◌, ap, ◌∙◌, arith, length, length-append}
use Rattle.std.specs.Prelude.{map, slice_get}
use Rattle.std.proofs.lemmas.List.{length-map}
use Rattle.pt_history.specs.declared.sources.Source.{Source}
use Rattle.pt_history.specs.declared.sources.Source.TheVariants.{Claim}
use Rattle.pt_history.specs.Numbers.{numbers_from, numbers_with}
use Rattle.pt_history.specs.Sources.{sources_of}
use Rattle.pt_history.proofs.NumberLists.{length-with}

pub length-sources : (n : ℕ) (claims : List ℕ) (rest : List Source) → length (sources_of n claims rest) ≡ n + length claims + length rest
length-sources n claims rest =
    let numbers : length (numbers_with n claims) ≡ n + length claims = length-with n claims in
    let mapped : length (map Claim (numbers_with n claims)) ≡ length (numbers_with n claims) = length-map (numbers_with n claims) Claim in
    length-append (map Claim (numbers_with n claims)) rest ∙ omega (arith, numbers, mapped)

-- the source of a result
counted : (k n i : ℕ) (claims : List ℕ) (rest : List Source) → i < n → slice_get (map Claim (numbers_from k n ++ claims) ++ rest) i ≡ Some (Claim (k + i))
counted k zero i claims rest lt = absurd (omega arith)
counted k (suc n) zero claims rest lt = let same : k ≡ k + 0 = omega arith in ap (λ z. Some (Claim z)) same
counted k (suc n) (suc i) claims rest lt =
    let same : k + 1 + i ≡ k + suc i = omega arith in
    counted (k + 1) n i claims rest (omega arith) ∙ ap (λ z. Some (Claim z)) same

pub source_counted : (n i : ℕ) (claims : List ℕ) (rest : List Source) → i < n → slice_get (sources_of n claims rest) i ≡ Some (Claim i)
source_counted n i claims rest lt = let same : 0 + i ≡ i = omega arith in counted 0 n i claims rest lt ∙ ap (λ z. Some (Claim z)) same

later : (k n i m : ℕ) (claims : List ℕ) (rest : List Source) → i ≡ n + m → slice_get (map Claim (numbers_from k n ++ claims) ++ rest) i ≡ slice_get (map Claim claims ++ rest) m
later k zero i m claims rest is = let same : i ≡ m = omega (arith, is) in ap (slice_get (map Claim claims ++ rest)) same
later k (suc n) zero m claims rest is = absurd (omega (arith, is))
later k (suc n) (suc i) m claims rest is = later (k + 1) n i m claims rest (omega (arith, is))

pub source_stored : (n i : ℕ) (claims : List ℕ) (rest : List Source) → n ≤ i → slice_get (sources_of n claims rest) i ≡ slice_get (map Claim claims ++ rest) (i - n)
source_stored n i claims rest le = later 0 n i (i - n) claims rest (omega (arith, le))
