-- Of two lists of messages that were taken link by link from the same links, one is a front of the other.
use Rattle.std.proofs.Common.{◌≡◌, ℕ, ◌<◌, ◌≤◌, ◌==◌, ◌⊎◌, ◌≢◌, List, [], ◌∷◌, ◌++◌, Some, arith, refl, sym, ap, ap₂, ◌∙◌, inl, inr, ⊎_elim, append_assoc}
use Rattle.std.proofs.lemmas.Bool.{cases_lt}
use Rattle.std.proofs.lemmas.List.{append_cancel_left}
use Rattle.std.proofs.lemmas.List.Elements.{filter_map-append}
use Rattle.pt_tags.specs.declared.message.Message.{Message}
use Rattle.pt_types.specs.declared.firing.OnLink.{OnLink}
use Rattle.pt_types.specs.Ports.{when}
use Rattle.pt_semantics.specs.Lists.{IsIn}
use Rattle.pt_semantics.specs.Closing.{on_link}
use Rattle.pt_semantics.specs.Visits.{LinkByLink}
use Rattle.pt_semantics.proofs.Lookups.{Each-in}
use Rattle.pt_laws.proofs.Onward.{cases_same}
use Rattle.pt_paced_laws.proofs.SameLists.{head_same, on_link_here, on_link_none, on_link_there, tail_same}

pub nothing_there : {X : Type 0} (x : X) (xs : List X) → x ∷ xs ≡ [] → ⊥
nothing_there x xs h = cc

pub nothing_after : {X : Type 0} (xs ys : List X) → xs ++ ys ≡ [] → ys ≡ []
nothing_after [] ys h = h
nothing_after (x ∷ xs) ys h = absurd (nothing_there x (xs ++ ys) h)

pub decided : {X : Type 0} (xs : List X) → ((xs ≡ [] → ⊥) → ⊥) → xs ≡ []
decided [] h = refl
decided (x ∷ xs) h = absurd (h (nothing_there x xs))

-- a message of a first link was taken: then so was all that came on the links before it
abbrev pub TakesFirst : (ℕ → Type 0) → List OnLink → (ℕ → List Message) → Type 0
TakesFirst Leads xs rest = (a b : ℕ) → Leads a → a < b → (on_link b xs ≡ [] → ⊥) → rest a ≡ []

still_some : (x : OnLink) (xs : List OnLink) (l : ℕ) → (on_link l xs ≡ [] → ⊥) → on_link l (x ∷ xs) ≡ [] → ⊥
still_some x xs l some none =
    ⊎_elim
    (λ (here : x.link ≡ l). nothing_there x.message (on_link l xs) (sym (on_link_here l x xs here) ∙ none))
    (λ (there : x.link ≢ l). some (sym (on_link_there l x xs there) ∙ none))
    (cases_same x.link l)

-- the first message of one list is on no earlier link than that of the other
not_before : (Leads : ℕ → Type 0) (x y : OnLink) (xs ys : List OnLink) (r t : ℕ → List Message) → LinkByLink (y ∷ ys) → Leads x.link → ((l : ℕ) → on_link l (x ∷ xs) ++ r l ≡ on_link l (y ∷ ys) ++ t l) → TakesFirst Leads (y ∷ ys) t → x.link < y.link → ⊥
not_before Leads x y xs ys r t by_link leads same first lt =
    let none : on_link x.link (y ∷ ys) ≡ [] = on_link_none x.link (y ∷ ys) (λ z m e.
    ⊎_elim
    (λ (h : z ≡ y). let there : z.link ≡ y.link = ap (λ (w : OnLink). w.link) h in omega (arith, lt, e, there))
    (λ (k : IsIn z ys). let above : y.link ≤ z.link = Each-in (λ (n : OnLink). y.link ≤ n.link) ys by_link.0 z k in omega (arith, lt, e, above))
    m) in
    let all : t x.link ≡ [] = first x.link y.link leads lt (λ empty. nothing_there y.message (on_link y.link ys) (sym (on_link_here y.link y ys refl) ∙ empty)) in
    nothing_there x.message (on_link x.link xs ++ r x.link)
    (sym (ap (λ ms. ms ++ r x.link) (on_link_here x.link x xs refl)) ∙ same x.link ∙ ap₂ (λ a b. a ++ b) none all)

pub one_is_front : (Leads : ℕ → Type 0) (xs ys : List OnLink) (r t : ℕ → List Message) → LinkByLink xs → LinkByLink ys → ((o : OnLink) → IsIn o xs → Leads o.link) → ((o : OnLink) → IsIn o ys → Leads o.link) → ((l : ℕ) → on_link l xs ++ r l ≡ on_link l ys ++ t l) → TakesFirst Leads xs r → TakesFirst Leads ys t
    → (more : List OnLink) × ((ys ≡ xs ++ more) ⊎ (xs ≡ ys ++ more))
one_is_front Leads [] ys r t bx by lx ly same fx fy = (ys, inl refl)
one_is_front Leads (x ∷ xs) [] r t bx by lx ly same fx fy = (x ∷ xs, inr refl)
one_is_front Leads (x ∷ xs) (y ∷ ys) r t bx by lx ly same fx fy =
    let on = one_is_front Leads xs ys r t bx.1 by.1 (λ o m. lx o (inr m)) (λ o m. ly o (inr m)) tails (λ a b leads lt some. fx a b leads lt (still_some x xs b some)) (λ a b leads lt some. fy a b leads lt (still_some y ys b some)) in (
      on.0,
      ⊎_elim
          (λ (e : ys ≡ xs ++ on.0). inl (ap₂ (λ a b. a ∷ b) (sym heads) e))
          (λ (e : xs ≡ ys ++ on.0). inr (ap₂ (λ a b. a ∷ b) heads e))
          on.1,
    )
  where
    link : x.link ≡ y.link
    link =
        ⊎_elim
        (λ (l : x.link < y.link). absurd (not_before Leads x y xs ys r t by (lx x (inl refl)) same fy l))
        (λ (k : y.link ≤ x.link).
        ⊎_elim
        (λ (l : y.link < x.link). absurd (not_before Leads y x ys xs t r bx (ly y (inl refl)) (λ n. sym (same n)) fx l))
        (λ (j : x.link ≤ y.link). omega (arith, k, j))
        (cases_lt y.link x.link))
        (cases_lt x.link y.link)

    at_link : (l : ℕ) → x.link ≡ l → x.message ∷ (on_link l xs ++ r l) ≡ y.message ∷ (on_link l ys ++ t l)
    at_link l here = sym (ap (λ ms. ms ++ r l) (on_link_here l x xs here)) ∙ same l ∙ ap (λ ms. ms ++ t l) (on_link_here l y ys (sym link ∙ here))

    message : x.message ≡ y.message
    message = head_same x.message y.message (on_link x.link xs ++ r x.link) (on_link x.link ys ++ t x.link) (at_link x.link refl)

    heads : x ≡ y
    heads = λ i. record { link = link i; message = message i }

    tails : (l : ℕ) → on_link l xs ++ r l ≡ on_link l ys ++ t l
    tails l =
        ⊎_elim
        (λ (here : x.link ≡ l). tail_same x.message y.message (on_link l xs ++ r l) (on_link l ys ++ t l) (at_link l here))
        (λ (there : x.link ≢ l). sym (ap (λ ms. ms ++ r l) (on_link_there l x xs there)) ∙ same l ∙ ap (λ ms. ms ++ t l) (on_link_there l y ys (λ e. there (link ∙ e))))
        (cases_same x.link l)

-- where nothing was left on the links, no more was taken
pub nothing_left : (Leads : ℕ → Type 0) (xs more : List OnLink) (r t : ℕ → List Message) → ((o : OnLink) → IsIn o more → Leads o.link) → ((l : ℕ) → Leads l → r l ≡ []) → ((l : ℕ) → on_link l xs ++ r l ≡ on_link l (xs ++ more) ++ t l) → (more ≡ [] → ⊥) → ⊥
nothing_left Leads xs [] r t leads none same some = some refl
nothing_left Leads xs (o ∷ more) r t leads none same some =
    let l : ℕ = o.link in
    let ends : on_link l xs ++ [] ≡ on_link l xs ++ (on_link l (o ∷ more) ++ t l) =
    ap (λ ms. on_link l xs ++ ms) (sym (none l (leads o (inl refl)))) ∙ same l ∙ ap (λ ms. ms ++ t l) (filter_map-append (λ (x : OnLink). when (x.link == l) (Some x.message)) xs (o ∷ more)) ∙ append_assoc (on_link l xs) (on_link l (o ∷ more)) (t l) in
    let nothing : [] ≡ on_link l (o ∷ more) ++ t l = append_cancel_left (on_link l xs) [] (on_link l (o ∷ more) ++ t l) ends in
    nothing_there o.message (on_link l more ++ t l) (sym (ap (λ ms. ms ++ t l) (on_link_here l o more refl)) ∙ sym nothing)
