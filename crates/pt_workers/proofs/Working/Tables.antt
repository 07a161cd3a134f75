-- Boards by their places.
use Rattle.std.proofs.Common.{◌≡◌, ℕ, zero, suc, List, [], ◌∷◌, ◌++◌, Some, length, refl, sym, ap, ◌∙◌}
use Rattle.std.specs.Prelude.{slice_get}
use Rattle.atomic_table.specs.Seated.{TableId}
use Rattle.pt_board.specs.Hands.{HandView, HoldsOneMore, HasFinished, HoldsNone, TicketView, claimed_at}
use Rattle.std.proofs.lemmas.Bool.{cases_eq}
use Rattle.std.proofs.Common.{⊎_elim}
use Rattle.pt_workers.specs.Working.WorkerHands.{AreBoards, table_in}

at_front : (xs ys : List TableId) (i : ℕ) (t : TableId) → slice_get xs i ≡ Some t → slice_get (xs ++ ys) i ≡ Some t
at_front [] ys i t e = cc
at_front (x ∷ xs) ys zero t e = e
at_front (x ∷ xs) ys (suc i) t e = at_front xs ys i t e

at_last : (xs : List TableId) (t : TableId) → slice_get (xs ++ t ∷ []) (length xs) ≡ Some t
at_last [] t = refl
at_last (x ∷ xs) t = at_last xs t

pub tables_front : (table : ℕ → TableId) (xs ys : List TableId) (t : TableId) → ys ≡ xs ++ t ∷ [] → AreBoards table ys → AreBoards table xs
tables_front table xs ys t is h i u at = h i u (ap (λ (z : List TableId). slice_get z i) is ∙ at_front xs (t ∷ []) i u at)

pub table_last : (table : ℕ → TableId) (xs ys : List TableId) (t : TableId) (n : ℕ) → ys ≡ xs ++ t ∷ [] → AreBoards table ys → n ≡ length xs → t ≡ table n
table_last table xs ys t n is h e = h n t (ap (λ (z : List TableId). slice_get z n) is ∙ ap (slice_get (xs ++ t ∷ [])) e ∙ at_last xs t)

pub tables_named : (xs : List TableId) → AreBoards (λ i. table_in (slice_get xs i)) xs
tables_named xs i t at = sym (ap table_in at)

-- a hand that claimed a task and finished it holds what it held before
pub free_again : (old mid new : HandView) (ticket : TicketView) → HoldsNone old → HoldsOneMore old mid ticket → HasFinished mid new ticket → HoldsNone new
free_again old mid new ticket none claimed finished k low = ⊎_elim
    (λ (q : k ≡ ticket.slot). ap (λ (n : ℕ). claimed_at n new.knows) q ∙ finished.given)
    (λ (ne : k ≡ ticket.slot → ⊥). finished.others k ne ∙ claimed.others k ne ∙ none k low)
    (cases_eq k ticket.slot)
