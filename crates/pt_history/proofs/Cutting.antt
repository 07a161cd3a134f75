-- Pieces: one more, one item more in the last, and each by its number.
use Rattle.std.proofs.Common.{◌≡◌, ℕ, zero, suc, ◌+◌, ◌-◌, ◌<◌, ◌≤◌, List, [], ◌∷◌, ◌++◌, take, drop, length, get_or, set, Some, refl, sym, ap, ap₂, subst, ◌∙◌, arith, length-append}
use Rattle.std.specs.Prelude.{slice_get}
use Rattle.std.specs.List.{flat_map}
use Rattle.std.proofs.lemmas.List.{take-append-le, drop-append-le, take_all, drop_all, drop-take, length-drop, length-take}
use Rattle.std.proofs.lemmas.List.Folds.{drop_split}
use Rattle.std.proofs.Math.Seq.{take-length}
use Rattle.pt_history.specs.Lists.{pieces, Rises, on_last}

pub length-pieces : {X : Type 0} (from : ℕ) (es : List ℕ) (xs : List X) → length (pieces from es xs) ≡ length es
length-pieces from [] xs = refl
length-pieces from (e ∷ es) xs = ap suc (length-pieces e es xs)

pub rises_begin : (from : ℕ) (es : List ℕ) (n : ℕ) → Rises from es n → Rises from (es ++ n ∷ []) n
rises_begin from [] n h = (omega arith, refl)
rises_begin from (e ∷ es) n h = (h.0, rises_begin e es n h.1)

pub rises_below : (from : ℕ) (es : List ℕ) (n : ℕ) → Rises from es n → from ≤ n
rises_below from [] n h = omega arith
rises_below from (e ∷ es) n h = let a : from ≤ e = h.0 in let b : e ≤ n = rises_below e es n h.1 in omega arith

pub pieces_begin : {X : Type 0} (from : ℕ) (es : List ℕ) (xs : List X) → Rises from es (length xs) → pieces from (es ++ length xs ∷ []) xs ≡ pieces from es xs ++ [] ∷ []
pieces_begin from [] xs h = ap (λ p. p ∷ []) (ap (drop from) (take-length xs) ∙ drop_all from xs (omega arith))
pieces_begin from (e ∷ es) xs h = ap (λ ps. drop from (take e xs) ∷ ps) (pieces_begin e es xs h.1)

pub rises_extend : (from : ℕ) (es : List ℕ) (n m k : ℕ) → k + 1 ≡ length es → Rises from es n → Rises from (set es k (n + m)) (n + m)
rises_extend from [] n m k e h = absurd (omega arith)
rises_extend from (e ∷ []) n m zero l h = let a : from ≤ e = h.0 in let b : e ≡ n = h.1 in (omega arith, refl)
rises_extend from (e ∷ []) n m (suc k) l h = absurd (omega arith)
rises_extend from (e ∷ f ∷ es) n m zero l h = absurd (omega arith)
rises_extend from (e ∷ f ∷ es) n m (suc k) l h = (h.0, rises_extend e (f ∷ es) n m k (omega arith) h.1)

whole : {X : Type 0} (from e : ℕ) (xs more : List X) → from ≤ e → e ≡ length xs → drop from (take (length xs + length more) (xs ++ more)) ≡ drop from (take e xs) ++ more
whole from e xs more le is =
    ap (drop from) (take_all (length xs + length more) (xs ++ more) (subst (λ n. n ≤ length xs + length more) (sym (length-append xs more)) (omega arith)))
    ∙ drop-append-le from xs more (omega arith)
    ∙ ap (λ p. drop from p ++ more) (sym (take_all e xs (omega arith)))

pub pieces_extend : {X : Type 0} (from : ℕ) (es : List ℕ) (xs more : List X) (k : ℕ) → k + 1 ≡ length es → Rises from es (length xs) → pieces from (set es k (length xs + length more)) (xs ++ more) ≡ on_last (λ (l : List X). l ++ more) (pieces from es xs)
pieces_extend from [] xs more k l h = absurd (omega arith)
pieces_extend from (e ∷ []) xs more zero l h = ap (λ p. p ∷ []) (whole from e xs more h.0 h.1)
pieces_extend from (e ∷ []) xs more (suc k) l h = absurd (omega arith)
pieces_extend from (e ∷ f ∷ es) xs more zero l h = absurd (omega arith)
pieces_extend from (e ∷ f ∷ es) xs more (suc k) l h =
    ap₂ (λ p ps. p ∷ ps) (ap (drop from) (take-append-le e xs more (rises_below e (f ∷ es) (length xs) h.1))) (pieces_extend e (f ∷ es) xs more k (omega arith) h.1)

-- where the piece of a number begins and ends
pub record IsWithin (from : ℕ) (es : List ℕ) (i n : ℕ) : Type 0 where
  pub rises : get_or (from ∷ es) i 0 ≤ get_or es i 0
  pub within : get_or es i 0 ≤ n

pub piece_within : (from : ℕ) (es : List ℕ) (i n : ℕ) → i < length es → Rises from es n → IsWithin from es i n
piece_within from [] i n l h = absurd (omega arith)
piece_within from (e ∷ es) zero n l h = record { rises = h.0; within = rises_below e es n h.1 }
piece_within from (e ∷ es) (suc i) n l h =
    let w = piece_within e es i n (omega arith) h.1 in record { rises = w.rises; within = w.within }

cut : {X : Type 0} (from e : ℕ) (xs : List X) → from ≤ e → drop from (take e xs) ≡ take (e - from) (drop from xs)
cut from e xs le = let split : e ≡ from + (e - from) = omega arith in ap (λ n. drop from (take n xs)) split ∙ drop-take from (e - from) xs

pub pieces_get : {X : Type 0} (from : ℕ) (es : List ℕ) (xs : List X) (i : ℕ) → i < length es → Rises from es (length xs) → slice_get (pieces from es xs) i ≡ Some (take (get_or es i 0 - get_or (from ∷ es) i 0) (drop (get_or (from ∷ es) i 0) xs))
pieces_get from [] xs i l h = absurd (omega arith)
pieces_get from (e ∷ es) xs zero l h = ap Some (cut from e xs h.0)
pieces_get from (e ∷ es) xs (suc i) l h = pieces_get e es xs i (omega arith) h.1

pub pieces_total : {X : Type 0} (from : ℕ) (es : List ℕ) (xs : List X) → Rises from es (length xs) → flat_map (λ (l : List X). l) (pieces from es xs) ≡ drop from xs
pieces_total from [] xs h = sym (drop_all from xs (omega arith))
pieces_total from (e ∷ es) xs h = ap (λ l. drop from (take e xs) ++ l) (pieces_total e es xs h.1) ∙ joined from e xs h.0
  where
    joined : {X : Type 0} (from e : ℕ) (xs : List X) → from ≤ e → drop from (take e xs) ++ drop e xs ≡ drop from xs
    joined from e xs le = ap (λ l. l ++ drop e xs) (cut from e xs le) ∙ sym (drop_split xs from e le)

-- how many items the first pieces have: the next one begins behind them
pub pieces_before : {X : Type 0} (from : ℕ) (es : List ℕ) (xs : List X) (k : ℕ) → k ≤ length es → Rises from es (length xs) → from + length (flat_map (λ (l : List X). l) (take k (pieces from es xs))) ≡ get_or (from ∷ es) k 0
pieces_before from [] xs zero le h = omega arith
pieces_before from [] xs (suc k) le h = absurd (omega arith)
pieces_before from (e ∷ es) xs zero le h = omega arith
pieces_before {X} from (e ∷ es) xs (suc k) le h =
    let within : e ≤ length xs = rises_below e es (length xs) h.1 in
    let first : length (drop from (take e xs)) ≡ e - from = simp (length-take, length-drop) (omega (arith, within, h.0)) in
    let rest : e + length (flat_map (λ (l : List X). l) (take k (pieces e es xs))) ≡ get_or (e ∷ es) k 0 = pieces_before e es xs k (omega arith) h.1 in
    let sum : length (drop from (take e xs) ++ flat_map (λ (l : List X). l) (take k (pieces e es xs))) ≡ length (drop from (take e xs)) + length (flat_map (λ (l : List X). l) (take k (pieces e es xs))) = length-append (drop from (take e xs)) (flat_map (λ (l : List X). l) (take k (pieces e es xs))) in
    omega (arith, first, rest, sum, h.0)

-- a piece that ends where it begins is empty
pub empty_piece : {X : Type 0} (es : List ℕ) (xs : List X) (n : ℕ) → n < length es → Rises 0 es (length xs) → get_or (0 ∷ es) n 0 ≡ get_or es n 0 → slice_get (pieces 0 es xs) n ≡ Some []
empty_piece es xs n lt rises same =
    let none : get_or es n 0 - get_or (0 ∷ es) n 0 ≡ 0 = omega (arith, same) in
    pieces_get 0 es xs n lt rises ∙ ap (λ k. Some (take k (drop (get_or (0 ∷ es) n 0) xs))) none
