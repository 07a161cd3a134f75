-- A flush that fails after a put.
use Rattle.std.proofs.Common.{List, ℕ, ◌++◌, Option, Some, None, ap, sym, subst, ◌∙◌, length, ◌≤◌, arith}
use Rattle.std.proofs.lemmas.List.{take_all}
use Rattle.pt_io.specs.Causes.{Appends, AppendsPart, Keeps}

-- what was put is a prefix of itself, if a flush fails after it
pub kept_part : (a b c : Option (List ℕ)) (xs : List ℕ) → Appends a b xs → Keeps b c → AppendsPart a c xs
kept_part None b c xs p q = tt
kept_part (Some w) b c xs p q =
    let all : length xs ≤ length xs = omega arith in
    (length xs, all, subst (λ z. Keeps z c) p q ∙ ap (λ l. Some (w ++ l)) (sym (take_all (length xs) xs all)))
