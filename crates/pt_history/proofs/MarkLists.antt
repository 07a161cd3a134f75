-- Marks stored flat: one more, and the mark of an index.
use Rattle.std.proofs.Common.{◌≡◌, ℕ, zero, suc, ◌+◌, ◌-◌, ◌<◌, ◌≤◌, Some, List, [], ◌∷◌, ◌++◌, append-nil, refl, sym, ap, ap₂, ◌∙◌, arith, length, length-append, get_or}
use Rattle.std.specs.Prelude.{slice_get}
use Rattle.std.proofs.lemmas.List.{append_assoc, length_push}
use Rattle.pt_tags.specs.declared.tag.Tag.{Tag}
use Rattle.pt_history.specs.declared.claims.Mark.{Mark}
use Rattle.pt_history.specs.Marks.{marks_of, mark_numbers}
use Rattle.pt_history.specs.Numbers.{numbers_from}
use Rattle.pt_history.proofs.NumberLists.{from_more, length-from, number_after, number_before}

-- the numbers of marks
pub length-numbers : (count : ℕ) (stored : List ℕ) → length stored ≤ count → length (mark_numbers count stored) ≡ count
length-numbers count stored few =
    let first : length (numbers_from 0 (count - length stored)) ≡ count - length stored = length-from 0 (count - length stored) in
    length-append (numbers_from 0 (count - length stored)) stored ∙ omega (arith, first, few)

pub number_left : (count n : ℕ) (stored : List ℕ) → length stored ≡ 0 → n ≡ count → mark_numbers (count + 1) stored ≡ mark_numbers count stored ++ n ∷ []
number_left count n [] none is =
    let all : (count + 1) - 0 ≡ count + 1 = omega arith in
    let before : count ≡ count - 0 = omega arith in
    let last : 0 + count ≡ n = omega (arith, is) in
    ap (λ k. numbers_from 0 k ++ []) all
    ∙ append-nil (numbers_from 0 (count + 1))
    ∙ from_more 0 count
    ∙ ap₂ (λ l i. l ++ i ∷ []) (sym (append-nil (numbers_from 0 count)) ∙ ap (λ k. numbers_from 0 k ++ []) before) last
number_left count n (s ∷ stored) none is = absurd (omega (arith, none))

pub number_stored : (count n : ℕ) (stored : List ℕ) → length stored ≤ count → mark_numbers (count + 1) (stored ++ n ∷ []) ≡ mark_numbers count stored ++ n ∷ []
number_stored count n stored few =
    let many : length (stored ++ n ∷ []) ≡ length stored + 1 = length_push stored n in
    let same : (count + 1) - length (stored ++ n ∷ []) ≡ count - length stored = omega (arith, many) in
    ap (λ k. numbers_from 0 k ++ (stored ++ n ∷ [])) same ∙ sym (append_assoc (numbers_from 0 (count - length stored)) stored (n ∷ []))

pub number_first : (count i : ℕ) (stored : List ℕ) → i < count - length stored → get_or (mark_numbers count stored) i 0 ≡ i
number_first count i stored lt = number_before (count - length stored) i stored lt

pub number_last : (count i : ℕ) (stored : List ℕ) → count - length stored ≤ i → get_or (mark_numbers count stored) i 0 ≡ get_or stored (i - (count - length stored)) 0
number_last count i stored past = number_after (count - length stored) i stored past

-- marks
pub length-marks : (ts : List Tag) (ks ns : List ℕ) → length ks ≡ length ts → length ns ≡ length ts → length (marks_of ts ks ns) ≡ length ts
length-marks [] ks ns a n = refl
length-marks (t ∷ ts) [] ns a n = absurd (omega arith)
length-marks (t ∷ ts) (b ∷ ks) [] a n = absurd (omega arith)
length-marks (t ∷ ts) (b ∷ ks) (m ∷ ns) a n = ap suc (length-marks ts ks ns (omega arith) (omega arith))

pub marks_push : (ts : List Tag) (ks ns : List ℕ) (m : Mark) → length ks ≡ length ts → length ns ≡ length ts → marks_of (ts ++ m.tag ∷ []) (ks ++ m.actor ∷ []) (ns ++ m.number ∷ []) ≡ marks_of ts ks ns ++ m ∷ []
marks_push [] [] [] m a n = refl
marks_push [] [] (k ∷ ns) m a n = absurd (omega arith)
marks_push [] (b ∷ ks) ns m a n = absurd (omega arith)
marks_push (t ∷ ts) [] ns m a n = absurd (omega arith)
marks_push (t ∷ ts) (b ∷ ks) [] m a n = absurd (omega arith)
marks_push (t ∷ ts) (b ∷ ks) (k ∷ ns) m a n = ap (λ l. record { tag = t; number = k; actor = b } ∷ l) (marks_push ts ks ns m (omega arith) (omega arith))

pub marks_at : (ts : List Tag) (ks ns : List ℕ) (i : ℕ) (m : Mark) → length ks ≡ length ts → length ns ≡ length ts → i < length ts → m.tag ≡ get_or ts i m.tag → m.actor ≡ get_or ks i m.actor → m.number ≡ get_or ns i 0
    → slice_get (marks_of ts ks ns) i ≡ Some m
marks_at [] ks ns i m a n lt t_is a_is n_is = absurd (omega arith)
marks_at (t ∷ ts) [] ns i m a n lt t_is a_is n_is = absurd (omega arith)
marks_at (t ∷ ts) (b ∷ ks) [] i m a n lt t_is a_is n_is = absurd (omega arith)
marks_at (t ∷ ts) (b ∷ ks) (k ∷ ns) zero m a n lt t_is a_is n_is = λ j. Some (record { tag = sym t_is j; number = sym n_is j; actor = sym a_is j })
marks_at (t ∷ ts) (b ∷ ks) (k ∷ ns) (suc i) m a n lt t_is a_is n_is = marks_at ts ks ns i m (omega arith) (omega arith) (omega arith) t_is a_is n_is
