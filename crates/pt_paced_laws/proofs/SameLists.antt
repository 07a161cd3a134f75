-- Lists of results and of messages that their members determine.
use Rattle.std.proofs.Common.{◌≡◌, ℕ, ◌<◌, ◌≤◌, ◌==◌, ◌≢◌, true, false, List, [], ◌∷◌, Some, arith, refl, sym, ap, ap₂, subst, ◌∙◌, inl, inr, ⊎_elim, eqb-true}
use Rattle.std.proofs.lemmas.Bool.{cases_lt, cases_Bool}
use Rattle.std.proofs.lemmas.Bool.Decides.{nat_tests}
use Rattle.std.specs.List.{cons_option}
use Rattle.pt_tags.specs.declared.message.Message.{Message}
use Rattle.pt_types.specs.declared.firing.Done.{Done}
use Rattle.pt_types.specs.declared.firing.OnLink.{OnLink}
use Rattle.pt_semantics.specs.Lists.{IsIn}
use Rattle.pt_semantics.specs.Closing.{on_link}
use Rattle.pt_semantics.specs.Visits.{NumbersRise, LinkByLink}
use Rattle.pt_semantics.proofs.Words.{when-true, when-false}
use Rattle.pt_semantics.proofs.Lookups.{Each-in}
use Rattle.pt_laws.proofs.Onward.{cases_same}

-- results whose numbers rise and that are the same ones
pub rise_same : (xs ys : List Done) → NumbersRise xs → NumbersRise ys → ((d : Done) → IsIn d xs → IsIn d ys) → ((d : Done) → IsIn d ys → IsIn d xs) → xs ≡ ys
rise_same [] [] rx ry on back = refl
rise_same [] (y ∷ ys) rx ry on back = absurd (back y (inl refl))
rise_same (x ∷ xs) [] rx ry on back = absurd (on x (inl refl))
rise_same (x ∷ xs) (y ∷ ys) rx ry on back =
    ap₂ (λ a b. a ∷ b) heads
    (rise_same xs ys rx.1 ry.1
    (λ d m. ⊎_elim (λ (e : d ≡ y). absurd (irreflexive x d (later_x d m) (heads ∙ sym e))) (λ (k : IsIn d ys). k) (on d (inr m)))
    (λ d m. ⊎_elim (λ (e : d ≡ x). absurd (irreflexive y d (later_y d m) (sym heads ∙ sym e))) (λ (k : IsIn d xs). k) (back d (inr m))))
  where
    later_x : (d : Done) → IsIn d xs → x.task.number < d.task.number
    later_x d m = Each-in (λ (e : Done). x.task.number < e.task.number) xs rx.0 d m

    later_y : (d : Done) → IsIn d ys → y.task.number < d.task.number
    later_y d m = Each-in (λ (e : Done). y.task.number < e.task.number) ys ry.0 d m

    irreflexive : (a b : Done) → a.task.number < b.task.number → a ≡ b → ⊥
    irreflexive a b l e = let same : a.task.number ≡ b.task.number = ap (λ (z : Done). z.task.number) e in omega (arith, l, same)

    both : (a b : ℕ) → a < b → b < a → ⊥
    both a b l k = omega (arith, l, k)

    heads : x ≡ y
    heads =
        ⊎_elim
        (λ (e : x ≡ y). e)
        (λ (m : IsIn x ys).
        ⊎_elim
        (λ (e : y ≡ x). sym e)
        (λ (k : IsIn y xs). absurd (both y.task.number x.task.number (later_y x m) (later_x y k)))
        (back y (inl refl)))
        (on x (inl refl))

nothing_there : (m : Message) (ms : List Message) → m ∷ ms ≡ [] → ⊥
nothing_there m ms h = cc

pub on_link_none : (l : ℕ) (xs : List OnLink) → ((x : OnLink) → IsIn x xs → x.link ≡ l → ⊥) → on_link l xs ≡ []
on_link_none l [] never = refl
on_link_none l (x ∷ xs) never =
    ap₂ cons_option
    (⊎_elim
    (λ (same : (x.link == l) ≡ true). absurd (never x (inl refl) (eqb-true x.link l same)))
    (λ (other : (x.link == l) ≡ false). when-false (x.link == l) (Some x.message) other)
    (cases_Bool (x.link == l)))
    (on_link_none l xs (λ z m. never z (inr m)))

pub eq_self : (n : ℕ) → (n == n) ≡ true
eq_self n = grind (arith, nat_tests)

pub on_link_here : (l : ℕ) (x : OnLink) (xs : List OnLink) → x.link ≡ l → on_link l (x ∷ xs) ≡ x.message ∷ on_link l xs
on_link_here l x xs e = ap (λ o. cons_option o (on_link l xs)) (when-true (x.link == l) (Some x.message) (subst (λ n. (x.link == n) ≡ true) e (eq_self x.link)))

pub on_link_there : (l : ℕ) (x : OnLink) (xs : List OnLink) → (x.link ≡ l → ⊥) → on_link l (x ∷ xs) ≡ on_link l xs
on_link_there l x xs other =
    ap (λ o. cons_option o (on_link l xs))
    (⊎_elim
    (λ (same : (x.link == l) ≡ true). absurd (other (eqb-true x.link l same)))
    (λ (apart : (x.link == l) ≡ false). when-false (x.link == l) (Some x.message) apart)
    (cases_Bool (x.link == l)))

pub head_same : (m n : Message) (ms ns : List Message) → m ∷ ms ≡ n ∷ ns → m ≡ n
head_same m n ms ns h = cc

pub tail_same : (m n : Message) (ms ns : List Message) → m ∷ ms ≡ n ∷ ns → ms ≡ ns
tail_same m n ms ns h = cc

-- the first message of one list is on no later link than that of the other
not_below : (x y : OnLink) (xs ys : List OnLink) → LinkByLink (y ∷ ys) → ((l : ℕ) → on_link l (x ∷ xs) ≡ on_link l (y ∷ ys)) → x.link < y.link → ⊥
not_below x y xs ys ry same l =
    nothing_there x.message (on_link x.link xs) (sym (on_link_here x.link x xs refl) ∙ same x.link ∙ on_link_none x.link (y ∷ ys) (λ z m e.
    ⊎_elim
    (λ (first : z ≡ y). let there : z.link ≡ y.link = ap (λ (w : OnLink). w.link) first in omega (arith, l, e, there))
    (λ (k : IsIn z ys). let above : y.link ≤ z.link = Each-in (λ (n : OnLink). y.link ≤ n.link) ys ry.0 z k in omega (arith, l, e, above))
    m))

-- messages link by link, with the same ones on each link
pub links_same : (xs ys : List OnLink) → LinkByLink xs → LinkByLink ys → ((l : ℕ) → on_link l xs ≡ on_link l ys) → xs ≡ ys
links_same [] [] rx ry same = refl
links_same [] (y ∷ ys) rx ry same = absurd (nothing_there y.message (on_link y.link ys) (sym (on_link_here y.link y ys refl) ∙ sym (same y.link)))
links_same (x ∷ xs) [] rx ry same = absurd (nothing_there x.message (on_link x.link xs) (sym (on_link_here x.link x xs refl) ∙ same x.link))
links_same (x ∷ xs) (y ∷ ys) rx ry same =
    ap₂ (λ a b. a ∷ b) (λ i. record { link = link i; message = message i })
    (links_same xs ys rx.1 ry.1 (λ l.
    ⊎_elim
    (λ (here : x.link ≡ l). tail_same x.message y.message (on_link l xs) (on_link l ys) (sym (on_link_here l x xs here) ∙ same l ∙ on_link_here l y ys (sym link ∙ here)))
    (λ (there : x.link ≢ l). sym (on_link_there l x xs there) ∙ same l ∙ on_link_there l y ys (λ e. there (link ∙ e)))
    (cases_same x.link l)))
  where
    link : x.link ≡ y.link
    link =
        ⊎_elim
        (λ (l : x.link < y.link). absurd (not_below x y xs ys ry same l))
        (λ (k : y.link ≤ x.link).
        ⊎_elim
        (λ (l : y.link < x.link). absurd (not_below y x ys xs rx (λ n. sym (same n)) l))
        (λ (j : x.link ≤ y.link). omega (arith, k, j))
        (cases_lt y.link x.link))
        (cases_lt x.link y.link)

    message : x.message ≡ y.message
    message = head_same x.message y.message (on_link x.link xs) (on_link x.link ys) (sym (on_link_here x.link x xs refl) ∙ same x.link ∙ on_link_here x.link y ys (sym link))
