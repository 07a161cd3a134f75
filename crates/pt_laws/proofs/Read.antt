-- A history that is read by a clock stays so when a turn is added, and when quiet turns are joined.
use Rattle.std.proofs.Common.{◌≡◌, ℕ, ◌+◌, ◌^◌, ◌&&◌, if◌then◌else◌, Bool, true, false, List, [], ◌∷◌, ◌++◌, nat_lt, refl, sym, ap, ap₂, subst, ◌∙◌, append_assoc, append-nil, length-append}
use Rattle.pt_semantics.specs.Turn.{Turn, is_quiet, joined}
use Rattle.pt_semantics.specs.Kept.{settled, kept_with}
use Rattle.pt_semantics.specs.Readings.{later_of, raised_from, greatest_of, IsPiece, ArePieces}
use Rattle.pt_laws.specs.HistoryTheorems.{ReadOn}

raised_push : (p : ℕ) (readings : List ℕ) (r : ℕ) → raised_from p (readings ++ r ∷ []) ≡ raised_from p readings ++ later_of (greatest_of p readings) r ∷ []
raised_push p [] r = refl
raised_push p (q ∷ readings) r = ap (λ z. later_of p q ∷ z) (raised_push (later_of p q) readings r)

pieces_push : (turns : List Turn) (turn : Turn) (xs piece : List ℕ) → ArePieces turns xs → IsPiece turn piece → ArePieces (turns ++ turn ∷ []) (xs ++ piece)
pieces_push [] turn xs piece none is = (piece, [], (ap (λ z. z ++ piece) none ∙ sym (append-nil piece)), is, refl)
pieces_push (x ∷ turns) turn xs piece (first, rest, split, is_first, pieces) is =
    (first, rest ++ piece, (ap (λ z. z ++ piece) split ∙ append_assoc first rest piece), is_first, pieces_push turns turn rest piece pieces is)

-- the pieces of two turns are one piece of the joined turn
piece_joined : (x y : Turn) (p q : List ℕ) → IsPiece x p → IsPiece y q → IsPiece (joined x y) (p ++ q)
piece_joined x y p q hp hq = record {
  count = length-append p q ∙ ap₂ (λ a b. a + b) hp.count hq.count;
  first = (hp.first.0 ++ q, ap (λ z. z ++ q) hp.first.1);
  last = (p ++ hq.last.0, ap (λ z. p ++ z) hq.last.1 ∙ sym (append_assoc p hq.last.0 (y.last ∷ [])));
}

pieces_pair : (x y : Turn) (b : Bool) (xs : List ℕ) → ArePieces (x ∷ y ∷ []) xs → ArePieces (if b then joined x y ∷ [] else x ∷ y ∷ []) xs
pieces_pair x y false xs h = h
pieces_pair x y true xs (p, rest, split, is_p, (q, rest2, split2, is_q, none)) =
    (p ++ q, [], (split ∙ ap (λ z. p ++ z) (split2 ∙ ap (λ z. q ++ z) none ∙ append-nil q) ∙ sym (append-nil (p ++ q))), piece_joined x y p q is_p is_q, refl)

pieces_settled : (turns : List Turn) (xs : List ℕ) → ArePieces turns xs → ArePieces (settled turns) xs
pieces_settled [] xs h = h
pieces_settled (x ∷ []) xs h = h
pieces_settled (x ∷ y ∷ []) xs h = pieces_pair x y (is_quiet x && is_quiet y && nat_lt (x.count + y.count) (2 ^ 64)) xs h
pieces_settled (x ∷ y ∷ z ∷ more) xs (p, rest, split, is_p, pieces) = (p, rest, split, is_p, pieces_settled (y ∷ z ∷ more) rest pieces)

pub read_on : ReadOn
read_on history turn readings r is once one_reading reading =
    subst (ArePieces (kept_with history turn)) (sym (raised_push 0 readings r))
    (pieces_push (settled history) turn (raised_from 0 readings) (later_of (greatest_of 0 readings) r ∷ []) (pieces_settled history (raised_from 0 readings) is)
    (record {
      count = sym once;
      first = ([], ap (λ n. n ∷ []) (sym (one_reading ∙ reading)));
      last = ([], ap (λ n. n ∷ []) (sym reading));
    }))
