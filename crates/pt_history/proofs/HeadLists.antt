-- Heads of last readings and runs: one more, and the head of a number.
use Rattle.std.proofs.Common.{◌≡◌, ℕ, zero, suc, ◌+◌, ◌-◌, ◌<◌, Some, List, [], ◌∷◌, ◌++◌, get_or, refl, sym, ap, ap₂, ◌∙◌, arith, length}
use Rattle.std.specs.Prelude.{slice_get}
use Rattle.std.proofs.lemmas.List.{length_push}
use Rattle.std.proofs.lemmas.Option.{slice_get-get_or}
use Rattle.pt_history.specs.declared.head.Head.{Head}
use Rattle.pt_history.specs.declared.past_heads.Run.{Run}
use Rattle.pt_history.specs.Heads.{head_with, heads_of, single}
use Rattle.pt_semantics.proofs.Lookups.{none_some, same_some}

pub length-heads : (lasts : List ℕ) (lists : List (List Run)) → length lists ≡ length lasts → length (heads_of lasts lists) ≡ length lasts
length-heads [] lists e = refl
length-heads (l ∷ lasts) [] e = absurd (omega arith)
length-heads (l ∷ lasts) (r ∷ lists) e = ap suc (length-heads lasts lists (omega arith))

pub heads_push : (lasts : List ℕ) (lists : List (List Run)) (last : ℕ) (runs : List Run) → length lists ≡ length lasts → heads_of (lasts ++ last ∷ []) (lists ++ runs ∷ []) ≡ heads_of lasts lists ++ head_with last runs ∷ []
heads_push [] [] last runs e = refl
heads_push [] (r ∷ lists) last runs e = absurd (omega arith)
heads_push (l ∷ lasts) [] last runs e = absurd (omega arith)
heads_push (l ∷ lasts) (r ∷ lists) last runs e = ap (λ hs. head_with l r ∷ hs) (heads_push lasts lists last runs (omega arith))

pub heads_get : (lasts : List ℕ) (lists : List (List Run)) (i : ℕ) (last : ℕ) (runs : List Run) → slice_get lasts i ≡ Some last → slice_get lists i ≡ Some runs → slice_get (heads_of lasts lists) i ≡ Some (head_with last runs)
heads_get [] lists i last runs at list = absurd (none_some last at)
heads_get (l ∷ lasts) [] i last runs at list = absurd (none_some runs list)
heads_get (l ∷ lasts) (r ∷ lists) zero last runs at list = ap₂ (λ x y. Some (head_with x y)) (same_some l last at) (same_some r runs list)
heads_get (l ∷ lasts) (r ∷ lists) (suc i) last runs at list = heads_get lasts lists i last runs at list

-- the last reading, after one more
at_end : (xs : List ℕ) (x n : ℕ) → n ≡ length xs → slice_get (xs ++ x ∷ []) n ≡ Some x
at_end [] x zero e = refl
at_end [] x (suc n) e = absurd (omega arith)
at_end (y ∷ xs) x zero e = absurd (omega arith)
at_end (y ∷ xs) x (suc n) e = at_end xs x n (omega arith)

pub last_is : (xs new : List ℕ) (x : ℕ) → new ≡ xs ++ x ∷ [] → slice_get new (length new - 1) ≡ Some x
last_is xs new x is =
    let many : length new ≡ length xs + 1 = ap length is ∙ length_push xs x in
    ap (λ l. slice_get l (length new - 1)) is ∙ at_end xs x (length new - 1) (omega (arith, many))

-- the last reading of a head
last_with : (last : ℕ) (runs : List Run) → (head_with last runs).last ≡ last
last_with last [] = refl
last_with last (run ∷ runs) = refl

-- a head with no run, after one with the same last reading
pub single_after : (lasts : List ℕ) (lists : List (List Run)) (n : ℕ) (head : Head) → length lists ≡ length lasts → n + 1 < length lasts → slice_get lasts (n + 1) ≡ slice_get lasts n → slice_get lists (n + 1) ≡ Some []
    → slice_get (heads_of lasts lists) n ≡ Some head → slice_get (heads_of lasts lists) (n + 1) ≡ Some (single head.last)
single_after lasts lists n head many lt same none was =
    let last = get_or lasts n 0 in
    let runs = get_or lists n [] in
    let there : slice_get lasts n ≡ Some last = slice_get-get_or lasts n 0 (omega (arith, lt)) in
    let list : slice_get lists n ≡ Some runs = slice_get-get_or lists n [] (omega (arith, many, lt)) in
    let is : head_with last runs ≡ head = same_some (head_with last runs) head (sym (heads_get lasts lists n last runs there list) ∙ was) in
    let reading : last ≡ head.last = sym (last_with last runs) ∙ ap (λ (h : Head). h.last) is in
    heads_get lasts lists (n + 1) last [] (same ∙ there) none ∙ ap (λ k. Some (single k)) reading
