-- No paced run and no replay has 10 ^ 21 rounds.
use Rattle.std.proofs.Common.{◌≡◌, ℕ, ◌+◌, ◌*◌, ◌<◌, ◌≤◌, List, [], ◌∷◌, length, arith, refl}
use Rattle.std.proofs.Math.Nat.{mul-le-mul_left, mul-le-mul_right}
use Rattle.std.proofs.lemmas.Bool.{leb-true}
use Rattle.pt_types.specs.declared.graph.Graph.{Graph}
use Rattle.pt_types.specs.declared.rows.Row.{Row}
use Rattle.pt_types.specs.Lawful.{IsLawful}
use Rattle.pt_types.specs.Limits.{greatest_claims}
use Rattle.pt_semantics.specs.Counts.{sum_below}
use Rattle.pt_semantics.specs.Lists.{Each}
use Rattle.pt_semantics.specs.Rows.{FitRows, FitsRow, TimesRise}
use Rattle.pt_paced_laws.specs.Ending.{most_moves, most_rounds}
use Rattle.pt_paced_laws.proofs.Ending.{sum_at_most}

-- times that rise and are no greater than a last one are few
few_from : (g : Graph) (a t : ℕ) (rows : List Row) → Each (λ (row : Row). t < row.time) rows → TimesRise rows → Each (FitsRow g a) rows → t ≤ g.until → length rows + t ≤ g.until
few_from g a t [] past rise fit le = omega arith
few_from g a t (row ∷ rows) (lt, past) (first, rise) (fits, fit) le = let within : row.time ≤ g.until = fits.within in let more = few_from g a row.time rows first rise fit within in omega arith

few_rows : (g : Graph) (a : ℕ) (rows : List Row) → TimesRise rows → Each (FitsRow g a) rows → length rows ≤ g.until + 1
few_rows g a [] rise fit = omega arith
few_rows g a (row ∷ rows) (first, rise) (fits, fit) = let within : row.time ≤ g.until = fits.within in let more = few_from g a row.time rows first rise fit within in omega arith

times : (m n j k : ℕ) → m ≤ j → n ≤ k → m * n ≤ j * k
times m n j k le le2 = let a : m * n ≤ j * n = mul-le-mul_right n le in let b : j * n ≤ j * k = mul-le-mul_left j le2 in omega (arith, a, b)

in_all : (platforms moves rows links claims : ℕ) → platforms ≤ 16 → links ≤ 64 → claims ≤ greatest_claims → rows ≤ 1024 * 1000000000000001 → moves ≡ (claims + 1) + (rows + (links * (claims + 1) + links * (claims + 1))) → 3 * (platforms * moves) + 2 < 1000000000000000000000
in_all platforms moves rows links claims few_platforms few_links few_claims few_moves e =
    let pairs : links * (claims + 1) ≤ 64 * 100000001 = times links (claims + 1) 64 100000001 few_links (omega arith) in
    let most : moves ≤ 1024000012900001153 = omega (arith, pairs, e) in
    let all : platforms * moves ≤ 16 * 1024000012900001153 = times platforms moves 16 1024000012900001153 few_platforms most in
    omega (arith, all)

pub rounds_are_few : (g : Graph) (rows : ℕ → List Row) → IsLawful g → FitRows g rows → most_rounds g rows < 1000000000000000000000
rounds_are_few g rows lawful fit =
    in_all (length g.platforms) (most_moves g rows) (sum_below (λ a. length (rows a)) (length g.actors)) (length g.links) g.claims lawful.few_platforms lawful.few_links lawful.few_claims few refl
  where
    until : g.until ≤ 1000000000000000
    until = leb-true g.until 1000000000000000 lawful.until

    each : (a : ℕ) → length (rows a) ≤ 1000000000000001
    each a = let le = few_rows g a (rows a) (fit.times a) (fit.fit a) in omega (arith, le, until)

    few : sum_below (λ a. length (rows a)) (length g.actors) ≤ 1024 * 1000000000000001
    few =
        let sums = sum_at_most (λ a. length (rows a)) (length g.actors) 1000000000000001 each in
        let le = times (length g.actors) 1000000000000001 1024 1000000000000001 lawful.few_actors (omega arith) in
        omega (arith, sums, le)
