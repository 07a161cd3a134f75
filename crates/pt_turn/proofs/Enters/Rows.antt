-- One row more.
use Rattle.std.proofs.Common.{◌≡◌, ℕ, ◌==◌, ◌&&◌, ◌+◌, ◌<◌, ◌≤◌, Bool, true, false, nat_le, List, [], ◌∷◌, Option, Some, None, ℤ, length, drop, get_or, refl, sym, ap, ap₂, subst, ◌∙◌, ⊎_elim, eq-eqb, arith}
use Rattle.std.proofs.lemmas.Bool.{and_from, cases_Bool, cond-true, cond-false}
use Rattle.std.proofs.lemmas.Bool.Decides.{nat_tests}
use Rattle.std.proofs.lemmas.List.{drop_more}
use Rattle.pt_tags.specs.declared.tag.Tag.{Tag}
use Rattle.pt_tags.specs.Tags.{same_tag, Before}
use Rattle.pt_types.specs.declared.rows.Row.{Row}
use Rattle.pt_types.specs.Ports.{when}
use Rattle.pt_semantics.specs.Entering.{due, not_due}
use Rattle.pt_semantics.specs.Floor.{NothingThere}
use Rattle.pt_semantics.specs.Lists.{Each, or_else}
use Rattle.pt_semantics.specs.Meaning.{Values, added, at_time, row_at}
use Rattle.pt_semantics.proofs.Lookups.{or_else_none, or_else_assoc, when_or_else, when_found, when_none, first_of_found, Each-in}
use Rattle.pt_semantics.proofs.Tags.{same_tag-refl, same_tag-true, same_tag-before}
use Rattle.pt_semantics.proofs.Words.{when-true, when-false}
use Rattle.pt_queue.specs.Events.{value_in}
use Rattle.pt_turn.specs.Fields.Sensors.{seen_at}

both : (b c d : Bool) (x : Option ℤ) → when (b && c && d) x ≡ when (b && c) (when d x)
both true true d x = refl
both true false d x = refl
both false c d x = refl

flip : (m n : ℕ) → (m == n) ≡ (n == m)
flip m n = grind (arith, nat_tests)

-- what a row finds at a tag
abbrev value_at : Row → Tag → Option ℤ
value_at row t = when (same_tag (at_time row.time) t) (Some row.value)

pub row_event : (a : ℕ) (row : Row) → value_in (record { tag = at_time row.time; actor = a; port = 0; value = row.value }) ≡ seen_at a (row ∷ [])
row_event a row = λ i b p t. at b p t i
  where
    at : (b p : ℕ) (t : Tag) → value_in (record { tag = at_time row.time; actor = a; port = 0; value = row.value }) b p t ≡ seen_at a (row ∷ []) b p t
    at b p t =
        both (a == b) (0 == p) (same_tag (at_time row.time) t) (Some row.value)
        ∙ ap₂ (λ x y. when (x && y) (value_at row t)) (flip a b) (flip 0 p)
        ∙ ap (when (b == a && p == 0)) (sym (or_else_none (value_at row t)))

pub row_there : (a : ℕ) (row : Row) → seen_at a (row ∷ []) a 0 (at_time row.time) ≡ Some row.value
row_there a row =
    when-true (a == a && 0 == 0) _ (and_from (a == a) (0 == 0) (eq-eqb a a refl) refl)
    ∙ or_else_none (value_at row (at_time row.time))
    ∙ when-true (same_tag (at_time row.time) (at_time row.time)) (Some row.value) (same_tag-refl (at_time row.time))

pub seen_more : (a : ℕ) (w : Values) (x : Row) (xs : List Row) → added (added w (seen_at a (x ∷ []))) (seen_at a xs) ≡ added w (seen_at a (x ∷ xs))
seen_more a w x xs = λ i b p t. at b p t i
  where
    at : (b p : ℕ) (t : Tag) → added (added w (seen_at a (x ∷ []))) (seen_at a xs) b p t ≡ added w (seen_at a (x ∷ xs)) b p t
    at b p t =
        or_else_assoc (w b p t) (seen_at a (x ∷ []) b p t) (seen_at a xs b p t)
        ∙ ap (or_else (w b p t))
        (sym (when_or_else (b == a && p == 0) (row_at (x ∷ []) t) (row_at xs t))
        ∙ ap (λ z. when (b == a && p == 0) (or_else z (row_at xs t))) (or_else_none (value_at x t)))

pub seen_none : (a : ℕ) (w : Values) (xs : List Row) → xs ≡ [] → added w (seen_at a xs) ≡ w
seen_none a w xs e = ap (λ z. added w (seen_at a z)) e ∙ (λ i b p t. at b p t i)
  where
    at : (b p : ℕ) (t : Tag) → added w (seen_at a []) b p t ≡ w b p t
    at b p t = ap (or_else (w b p t)) (when_none ℤ (b == a && p == 0)) ∙ or_else_none (w b p t)

-- the first of some rows finds nothing where it goes, and then the others
pub never_one : (a : ℕ) (w : Values) (x : Row) (xs : List Row) → NothingThere w (seen_at a (x ∷ xs)) → NothingThere w (seen_at a (x ∷ []))
never_one a w x xs absent b p t v h =
    let f = when_found (b == a && p == 0) (row_at (x ∷ []) t) v h in
    absent b p t v (when-true (b == a && p == 0) (row_at (x ∷ xs) t) f.0 ∙ ap (λ z. or_else z (row_at xs t)) (sym (or_else_none (value_at x t)) ∙ f.1))

pub never_more : (a : ℕ) (w : Values) (x : Row) (xs : List Row) → Each (λ (y : Row). x.time < y.time) xs → NothingThere w (seen_at a (x ∷ xs)) → NothingThere (added w (seen_at a (x ∷ []))) (seen_at a xs)
never_more a w x xs later absent b p t v h =
    let f = when_found (b == a && p == 0) (row_at xs t) v h in
    let at = first_of_found (λ (row : Row). value_at row t) xs v f.1 in
    let tag = when_found (same_tag (at_time at.0.time) t) (Some at.0.value) v at.2 in
    let lt : x.time < at.0.time = Each-in (λ (y : Row). x.time < y.time) xs later at.0 at.1 in
    let before : Before (at_time x.time) (at_time at.0.time) = omega arith in
    let off : same_tag (at_time x.time) t ≡ false = subst (λ z. same_tag (at_time x.time) z ≡ false) (same_tag-true (at_time at.0.time) t tag.0) (same_tag-before (at_time x.time) (at_time at.0.time) before) in
    let head : value_at x t ≡ None = when-false (same_tag (at_time x.time) t) (Some x.value) off in
    let old : w b p t ≡ None = absent b p t v (when-true (b == a && p == 0) (row_at (x ∷ xs) t) f.0 ∙ ap (λ z. or_else z (row_at xs t)) head ∙ f.1) in
    ap₂ or_else old (ap (when (b == a && p == 0)) (or_else_none (value_at x t) ∙ head) ∙ when_none ℤ (b == a && p == 0))

leb_true : (m n : ℕ) → m ≤ n → nat_le m n ≡ true
leb_true m n le = grind (arith, nat_tests)

leb_false : (m n : ℕ) → n < m → nat_le m n ≡ false
leb_false m n lt = grind (arith, nat_tests)

-- the row at a place, seen or not
pub due_at : (r : ℕ) (rows : List Row) (i : ℕ) (d : Row) → i < length rows → (get_or rows i d).seen ≤ r → due r (drop i rows) ≡ get_or rows i d ∷ due r (drop (i + 1) rows)
due_at r rows i d lt le = ap (due r) (drop_more rows i d lt) ∙ cond-true (nat_le (get_or rows i d).seen r) (get_or rows i d ∷ due r (drop (i + 1) rows)) [] (leb_true (get_or rows i d).seen r le)

pub not_due_at : (r : ℕ) (rows : List Row) (i : ℕ) (d : Row) → i < length rows → (get_or rows i d).seen ≤ r → not_due r (drop i rows) ≡ not_due r (drop (i + 1) rows)
not_due_at r rows i d lt le = ap (not_due r) (drop_more rows i d lt) ∙ cond-true (nat_le (get_or rows i d).seen r) (not_due r (drop (i + 1) rows)) (get_or rows i d ∷ drop (i + 1) rows) (leb_true (get_or rows i d).seen r le)

pub due_stop : (r : ℕ) (rows : List Row) (i : ℕ) (d : Row) → i < length rows → r < (get_or rows i d).seen → due r (drop i rows) ≡ []
due_stop r rows i d lt past = ap (due r) (drop_more rows i d lt) ∙ cond-false (nat_le (get_or rows i d).seen r) (get_or rows i d ∷ due r (drop (i + 1) rows)) [] (leb_false (get_or rows i d).seen r past)

pub not_due_stop : (r : ℕ) (rows : List Row) (i : ℕ) (d : Row) → i < length rows → r < (get_or rows i d).seen → not_due r (drop i rows) ≡ drop i rows
not_due_stop r rows i d lt past = ap (not_due r) (drop_more rows i d lt) ∙ cond-false (nat_le (get_or rows i d).seen r) (not_due r (drop (i + 1) rows)) (get_or rows i d ∷ drop (i + 1) rows) (leb_false (get_or rows i d).seen r past) ∙ sym (drop_more rows i d lt)

pub due_each : (P : Row → Type 0) (r : ℕ) (rows : List Row) → Each P rows → Each P (due r rows)
due_each P r [] h = tt
due_each P r (x ∷ xs) h =
    ⊎_elim
    (λ (e : nat_le x.seen r ≡ true). subst (Each P) (sym (cond-true (nat_le x.seen r) (x ∷ due r xs) [] e)) (h.0, due_each P r xs h.1))
    (λ (e : nat_le x.seen r ≡ false). subst (Each P) (sym (cond-false (nat_le x.seen r) (x ∷ due r xs) [] e)) tt)
    (cases_Bool (nat_le x.seen r))
