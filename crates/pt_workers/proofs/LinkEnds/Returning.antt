-- Ends of links that go back to the places of their links.
use Rattle.std.proofs.Common.{◌≡◌, ℕ, ◌+◌, ◌≤◌, List, [], ◌∷◌, ◌++◌, None, Some, Option, length, map, refl, sym, ap, subst, ◌∙◌, ⊎_elim, arith, append_assoc, length-append}
use Rattle.std.specs.Prelude.{IfSome, slice_get}
use Rattle.std.proofs.lemmas.Bool.{cases_eq}
use Rattle.std.proofs.lemmas.Option.{slice_get_within}
use Rattle.pt_types.specs.declared.graph.Graph.{Graph}
use Rattle.pt_types.specs.declared.graph.Link.{Link}
use Rattle.pt_offsets.specs.Plans.{Parts}
use Rattle.pt_links.specs.Ends.{SentBy, TakenBy}
use Rattle.pt_pool.specs.Ends.{AreEnds, End}
use Rattle.pt_pool.specs.LinkedPlatform.{LinkedPlatformView}
use Rattle.pt_pool.proofs.Lanes.{get_map, got_map, same_some}
use Rattle.pt_workers.specs.LinkEnds.Places.{AreDistinct, AreLaid, NumbersAreBelow}
use Rattle.pt_workers.specs.LinkEnds.Settled.{AreByNumber, AreOfOneLink, AreReturned, AreSettled, LinkIsSettled}
use Rattle.pt_workers.proofs.LinkEnds.Lists.{get_front, get_last}

-- The last of the front of a list.
module _ {T : Type 0} (xs ys rest orig : List T) (x : T) (is : ys ≡ xs ++ x ∷ []) (front : orig ≡ ys ++ rest) where
  whole : orig ≡ (xs ++ x ∷ []) ++ rest
  whole = front ∙ ap (λ (l : List T). l ++ rest) is

  pub more_left : orig ≡ xs ++ x ∷ rest
  more_left = whole ∙ append_assoc xs (x ∷ []) rest

  pub last_at : slice_get orig (length xs) ≡ Some x
  last_at = ap (λ (l : List T). slice_get l (length xs)) whole ∙ get_front (xs ++ x ∷ []) rest (length xs) x (get_last xs x)

  pub one_less : length ys ≡ length xs + 1
  one_less = ap length is ∙ length-append xs (x ∷ [])

-- The ends of one linked platform.
module _ {X : Type 0} (end_of : ℕ × X → End) (named : (p : ℕ × X) → (end_of p).number ≡ p.0) (plan : Parts) (side : Graph → Link → ℕ) (n : ℕ) (things : List (ℕ × X)) (ends : AreEnds plan side n (map end_of things)) where
  pub ends_within : (m : ℕ) → length plan.graph.links ≤ m → NumbersAreBelow m things
  ends_within m le i p at =
      let o = ends.own i (end_of p) (get_map end_of things i p at) in
      let w = slice_get_within plan.graph.links (end_of p).number o.0 o.1 in
      let q = named p in omega (arith, w, le, q)

  pub ends_distinct : AreDistinct things
  ends_distinct i j d e at at' q = ends.apart i j (end_of d) (end_of e) (get_map end_of things i d at) (get_map end_of things j e at') (named d ∙ q ∙ sym (named e))

  module _ (is : LinkedPlatformView → ℕ → X → Type 0) (xs ys rest orig : List LinkedPlatformView) (s : LinkedPlatformView) (more : ys ≡ xs ++ s ∷ []) (front : orig ≡ ys ++ rest) (order : AreByNumber orig) (mine : s.platform.number ≡ n)
      (hold : (i : ℕ) (p : ℕ × X) → slice_get things i ≡ Some p → is s p.0 p.1) where
    last : slice_get orig (length xs) ≡ Some s
    last = last_at xs ys rest orig s more front

    elsewhere : (l : ℕ) (link : Link) (i : ℕ) (t : LinkedPlatformView) → slice_get plan.graph.links l ≡ Some link → slice_get orig i ≡ Some t → side plan.graph link ≡ t.platform.number → (i ≡ length xs → ⊥) → (j : ℕ) (p : ℕ × X) → slice_get things j ≡ Some p → p.0 ≡ l → ⊥
    elsewhere l link i t at_l at home ne j p at_p q =
        let o = ends.own j (end_of p) (get_map end_of things j p at_p) in
        let same : link ≡ o.0 = same_some link o.0 (sym at_l ∙ ap (slice_get plan.graph.links) (sym q ∙ sym (named p)) ∙ o.1) in
        let one : t.platform.number ≡ s.platform.number = sym home ∙ ap (side plan.graph) same ∙ o.2 ∙ sym mine in
        ne (sym (order i t at) ∙ one ∙ order (length xs) s last)

    pub returned_more : (old now : List (Option X)) → AreLaid 0 things now → ((l : ℕ) → ((i : ℕ) (e : ℕ × X) → slice_get things i ≡ Some e → e.0 ≡ l → ⊥) → slice_get now l ≡ slice_get old l) → AreReturned plan.graph side is (length ys) orig old → AreReturned plan.graph side is (length xs) orig now
    returned_more old now laid others before l link i t at_l le at home = ⊎_elim
        (λ (q : i ≡ length xs).
        let same : t ≡ s = same_some t s (sym at ∙ ap (slice_get orig) q ∙ last) in
        let e = ends.each l link at_l (home ∙ ap (λ (v : LinkedPlatformView). v.platform.number) same ∙ mine) in
        let p = got_map end_of things e.0 e.1 e.2 in
        let num : p.0.0 ≡ l = sym (named p.0) ∙ ap (λ (z : End). z.number) p.2 ∙ e.3 in
        subst (λ (k : ℕ). (x : X) × (slice_get now k ≡ Some (Some x)) × is t k x) num
        (p.0.1, laid e.0 p.0 (omega arith) p.1, subst (λ (v : LinkedPlatformView). is v p.0.0 p.0.1) (sym same) (hold e.0 p.0 p.1)))
        (λ (ne : i ≡ length xs → ⊥).
        let len = one_less xs ys rest orig s more front in
        let b = before l link i t at_l (omega (arith, len, le, ne)) at home in
        (b.0, others l (elsewhere l link i t at_l at home ne) ∙ b.1, b.2))
        (cases_eq i (length xs))

-- Settled ends.

pub settled_more : (xs ys rest orig : List (Option SentBy)) (us vs more all : List (Option TakenBy)) (x : Option SentBy) (u : Option TakenBy) → ys ≡ xs ++ x ∷ [] → orig ≡ ys ++ rest → vs ≡ us ++ u ∷ [] → all ≡ vs ++ more → length us ≡ length xs
    → ((o : SentBy) (i : TakenBy) → x ≡ Some o → u ≡ Some i → LinkIsSettled o i) → AreSettled (length ys) orig all → AreSettled (length xs) orig all
settled_more xs ys rest orig us vs more all x u is front is' front' count one before l o i le at at' = ⊎_elim
    (λ (q : l ≡ length xs).
    one o i (same_some x (Some o) (sym (last_at xs ys rest orig x is front) ∙ ap (slice_get orig) (sym q) ∙ at))
    (same_some u (Some i) (sym (last_at us vs more all u is' front') ∙ ap (slice_get all) (count ∙ sym q) ∙ at')))
    (λ (ne : l ≡ length xs → ⊥). let len = one_less xs ys rest orig x is front in before l o i (omega (arith, len, le, ne)) at at')
    (cases_eq l (length xs))

pub if_both : (P : SentBy → TakenBy → Type 0) (x : Option SentBy) (u : Option TakenBy) → ((o : SentBy) (i : TakenBy) → x ≡ Some o → u ≡ Some i → P o i) → IfSome x (λ o. IfSome u (λ i. P o i))
if_both P None u h = tt
if_both P (Some o) None h = tt
if_both P (Some o) (Some i) h = h o i refl refl

pub of_both : (P : SentBy → TakenBy → Type 0) (x : Option SentBy) (u : Option TakenBy) → IfSome x (λ o. IfSome u (λ i. P o i)) → (o : SentBy) (i : TakenBy) → x ≡ Some o → u ≡ Some i → P o i
of_both P None u h o i ex eu = cc
of_both P (Some a) None h o i ex eu = cc
of_both P (Some a) (Some b) h o i ex eu = subst (λ z. P z i) (same_some a o ex) (subst (λ z. P a z) (same_some b i eu) h)

-- the two ends that are popped
pub one_pair : (xs ys rest orig : List (Option SentBy)) (us vs more all : List (Option TakenBy)) (x : Option SentBy) (u : Option TakenBy) → ys ≡ xs ++ x ∷ [] → orig ≡ ys ++ rest → vs ≡ us ++ u ∷ [] → all ≡ vs ++ more → length us ≡ length xs
    → AreOfOneLink orig all → IfSome x (λ o. IfSome u (λ i. i.link ≡ o.link))
one_pair xs ys rest orig us vs more all x u is front is' front' count ends = if_both (λ o i. i.link ≡ o.link) x u (λ o i ex eu.
    ends (length xs) o i (last_at xs ys rest orig x is front ∙ ap Some ex) (ap (slice_get all) (sym count) ∙ last_at us vs more all u is' front' ∙ ap Some eu))
