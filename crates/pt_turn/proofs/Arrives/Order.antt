-- The last of some rows, and all others.
use Rattle.std.proofs.Common.{◌≡◌, ℕ, zero, suc, ◌+◌, ◌<◌, ◌≤◌, List, [], ◌∷◌, Some, get_or, length, arith, refl, subst, inl, inr, ap}
use Rattle.pt_types.specs.declared.kind.Kind.{Kind}
use Rattle.pt_types.specs.declared.kind.Kind.TheVariants as kind
use Rattle.pt_types.specs.declared.rows.Row.{Row}
use Rattle.pt_semantics.specs.Lists.{Each, IsIn}
use Rattle.pt_semantics.specs.Rows.{NeverFalls, TimesRise}
use Rattle.pt_semantics.proofs.Lookups.{none_some}
use Rattle.pt_turn.specs.Arrives.Arrived.{sensor_bound}

pub is_in_at : (rows : List Row) (k : ℕ) (d : Row) → k < length rows → IsIn (get_or rows k d) rows
is_in_at [] k d lt = absurd (omega (arith, lt))
is_in_at (x ∷ xs) zero d lt = inl refl
is_in_at (x ∷ xs) (suc k) d lt = inr (is_in_at xs k d (omega (arith, lt)))

-- times that rise up to the last rise to each later time
pub times_all : (rows : List Row) (k : ℕ) (d last row : Row) → k + 1 ≡ length rows → last ≡ get_or rows k d → TimesRise rows → last.time < row.time → Each (λ (x : Row). x.time < row.time) rows
times_all [] k d last row len is rise lt = tt
times_all (x ∷ []) zero d last row len is rise lt = (subst (λ (z : Row). z.time < row.time) is lt, tt)
times_all (x ∷ []) (suc k) d last row len is rise lt = absurd (omega (arith, len))
times_all (x ∷ y ∷ ys) zero d last row len is rise lt = absurd (omega (arith, len))
times_all (x ∷ y ∷ ys) (suc k) d last row len is rise lt =
    let rest = times_all (y ∷ ys) k d last row (omega (arith, len)) is rise.1 lt in
    let one : y.time < row.time = rest.0 in
    let two : x.time < y.time = rise.0.0 in
    (omega (arith, one, two), rest)

-- and the readings at which rows are seen
pub seen_all : (rows : List Row) (k : ℕ) (d last row : Row) → k + 1 ≡ length rows → last ≡ get_or rows k d → NeverFalls rows → last.seen ≤ row.seen → Each (λ (x : Row). x.seen ≤ row.seen) rows
seen_all [] k d last row len is rise le = tt
seen_all (x ∷ []) zero d last row len is rise le = (subst (λ (z : Row). z.seen ≤ row.seen) is le, tt)
seen_all (x ∷ []) (suc k) d last row len is rise le = absurd (omega (arith, len))
seen_all (x ∷ y ∷ ys) zero d last row len is rise le = absurd (omega (arith, len))
seen_all (x ∷ y ∷ ys) (suc k) d last row len is rise le =
    let rest = seen_all (y ∷ ys) k d last row (omega (arith, len)) is rise.1 le in
    let one : y.seen ≤ row.seen = rest.0 in
    let two : x.seen ≤ y.seen = rise.0.0 in
    (omega (arith, one, two), rest)

-- a kind with a bound is a sensor's
pub is_sensor : (k : Kind) (b : ℕ) → sensor_bound k ≡ Some b → (file : List ℕ) × (k ≡ kind.Sensor file b)
is_sensor (kind.Sensor file bound) b e = (file, ap (kind.Sensor file) (same bound b e))
  where
    same : (m n : ℕ) → Some m ≡ Some n → m ≡ n
    same m n h = cc
is_sensor _ b e = absurd (none_some b e)
