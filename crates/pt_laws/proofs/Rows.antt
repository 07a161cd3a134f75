-- Rows that are due, and rows that are left.
use Rattle.std.proofs.Common.{◌≡◌, ℕ, ◌<◌, ◌≤◌, true, false, List, [], ◌∷◌, ◌++◌, arith, refl, sym, ap, subst, ◌∙◌, ⊎_elim, leb-false, nat_le}
use Rattle.std.proofs.lemmas.Bool.{cases_Bool, cond-true, cond-false}
use Rattle.pt_semantics.specs.Lists.{IsIn}
use Rattle.pt_types.specs.declared.rows.Row.{Row}
use Rattle.pt_semantics.specs.Entering.{due, not_due}
use Rattle.pt_semantics.specs.Rows.{NeverFalls}
use Rattle.pt_semantics.proofs.Lookups.{Each-in}

pub due_split : (r : ℕ) (rows : List Row) → due r rows ++ not_due r rows ≡ rows
due_split r [] = refl
due_split r (row ∷ rows) =
    ⊎_elim
    (λ (h : nat_le row.seen r ≡ true).
    ap (λ z. z ++ not_due r (row ∷ rows)) (cond-true (nat_le row.seen r) (row ∷ due r rows) [] h)
    ∙ ap (λ z. (row ∷ due r rows) ++ z) (cond-true (nat_le row.seen r) (not_due r rows) (row ∷ rows) h)
    ∙ ap (λ z. row ∷ z) (due_split r rows))
    (λ (h : nat_le row.seen r ≡ false).
    ap (λ z. z ++ not_due r (row ∷ rows)) (cond-false (nat_le row.seen r) (row ∷ due r rows) [] h)
    ∙ cond-false (nat_le row.seen r) (not_due r rows) (row ∷ rows) h)
    (cases_Bool (nat_le row.seen r))

-- of rows in order, those that are left were seen later
pub not_due_later : (r : ℕ) (rows : List Row) → NeverFalls rows → (row : Row) → IsIn row (not_due r rows) → r < row.seen
not_due_later r [] order row m = absurd m
not_due_later r (x ∷ rows) order row m =
    ⊎_elim
    (λ (h : nat_le x.seen r ≡ true). not_due_later r rows order.1 row (subst (IsIn row) (cond-true (nat_le x.seen r) (not_due r rows) (x ∷ rows) h) m))
    (λ (h : nat_le x.seen r ≡ false).
    let lt : r < x.seen = leb-false x.seen r h in
    ⊎_elim
    (λ (e : row ≡ x). subst (λ (z : Row). r < z.seen) (sym e) lt)
    (λ (m2 : IsIn row rows). let le : x.seen ≤ row.seen = Each-in (λ (y : Row). x.seen ≤ y.seen) rows order.0 row m2 in omega arith)
    (subst (IsIn row) (cond-false (nat_le x.seen r) (not_due r rows) (x ∷ rows) h) m))
    (cases_Bool (nat_le x.seen r))

pub not_due_order : (r : ℕ) (rows : List Row) → NeverFalls rows → NeverFalls (not_due r rows)
not_due_order r [] order = tt
not_due_order r (x ∷ rows) order =
    ⊎_elim
    (λ (h : nat_le x.seen r ≡ true). subst NeverFalls (sym (cond-true (nat_le x.seen r) (not_due r rows) (x ∷ rows) h)) (not_due_order r rows order.1))
    (λ (h : nat_le x.seen r ≡ false). subst NeverFalls (sym (cond-false (nat_le x.seen r) (not_due r rows) (x ∷ rows) h)) order)
    (cases_Bool (nat_le x.seen r))
