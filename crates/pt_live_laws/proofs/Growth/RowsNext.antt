-- Rows of a run with one more row.
use Rattle.std.proofs.Common.{◌≡◌, ℕ, ◌<◌, ◌≤◌, ◌==◌, true, false, List, [], ◌∷◌, ◌++◌, sym, subst, ⊎_elim, append-nil, eqb-true}
use Rattle.std.proofs.lemmas.Bool.{cases_Bool, cond-true, cond-false}
use Rattle.pt_types.specs.declared.graph.Graph.{Graph}
use Rattle.pt_types.specs.declared.rows.Row.{Row}
use Rattle.pt_semantics.specs.Lists.{Each}
use Rattle.pt_semantics.specs.Rows.{FitRows, FitsRow, NeverFalls, TimesRise}
use Rattle.pt_live_laws.specs.Growth.Growing.{MayComeNext, followed, just}

each_last : (P : Row → Type 0) (rows : List Row) (row : Row) → Each P rows → P row → Each P (rows ++ row ∷ [])
each_last P [] row all last = (last, tt)
each_last P (x ∷ rows) row all last = (all.0, each_last P rows row all.1 last)

seen_last : (rows : List Row) (row : Row) → NeverFalls rows → Each (λ (x : Row). x.seen ≤ row.seen) rows → NeverFalls (rows ++ row ∷ [])
seen_last [] row order le = (tt, tt)
seen_last (x ∷ rows) row order le = (each_last (λ (y : Row). x.seen ≤ y.seen) rows row order.0 le.0, seen_last rows row order.1 le.1)

times_last : (rows : List Row) (row : Row) → TimesRise rows → Each (λ (x : Row). x.time < row.time) rows → TimesRise (rows ++ row ∷ [])
times_last [] row order lt = (tt, tt)
times_last (x ∷ rows) row order lt = (each_last (λ (y : Row). x.time < y.time) rows row order.0 lt.0, times_last rows row order.1 lt.1)

-- a fact of the rows of each sensor holds with one more row at sensor a, if it holds there with that row
at_each : (P : ℕ → List Row → Type 0) (rows : ℕ → List Row) (a : ℕ) (row : Row) → ((b : ℕ) → P b (rows b)) → P a (rows a ++ row ∷ []) → (b : ℕ) → P b (followed rows (just a row) b)
at_each P rows a row all here b = ⊎_elim
    (λ (t : (b == a) ≡ true).
    subst (λ xs. P b (rows b ++ xs)) (sym (cond-true (b == a) (row ∷ []) [] t)) (subst (λ c. P c (rows c ++ row ∷ [])) (sym (eqb-true b a t)) here))
    (λ (f : (b == a) ≡ false).
    subst (λ xs. P b (rows b ++ xs)) (sym (cond-false (b == a) (row ∷ []) [] f)) (subst (P b) (sym (append-nil (rows b))) (all b)))
    (cases_Bool (b == a))

pub rows_next : (g : Graph) (rows : ℕ → List Row) (a : ℕ) (row : Row) → FitRows g rows → MayComeNext g rows a row → FitRows g (followed rows (just a row))
rows_next g rows a row is next = record {
  fit = at_each (λ b. Each (FitsRow g b)) rows a row is.fit (each_last (FitsRow g a) (rows a) row (is.fit a) next.fits);
  in_order = at_each (λ b. NeverFalls) rows a row is.in_order (seen_last (rows a) row (is.in_order a) next.seen);
  times = at_each (λ b. TimesRise) rows a row is.times (times_last (rows a) row (is.times a) next.times);
}
