-- One thing more is collected, or laid.
use Rattle.std.proofs.Common.{◌≡◌, ℕ, ◌+◌, ◌<◌, ◌≤◌, List, [], ◌∷◌, ◌++◌, Some, None, Option, length, get_or, set, refl, sym, ap, subst, ◌∙◌, ⊎_elim, arith, append_assoc, length-append}
use Rattle.std.specs.Prelude.{slice_get}
use Rattle.std.proofs.lemmas.Bool.{cases_eq}
use Rattle.pt_workers.specs.LinkEnds.Places.{AreCollected, AreDistinct, AreLaid, NumbersAreBelow, IsElsewhere, PlaceIsFull}
use Rattle.pt_pool.proofs.Lanes.{get_here, same_some, set_elsewhere, set_here}
use Rattle.pt_workers.proofs.LinkEnds.Lists.{get_front, get_last, get_none, get_snoc}

module _ {T : Type 0} (owners : List ℕ) (owner : ℕ) (places : List (Option T)) where
  pub collected_none : AreCollected owners owner 0 places []
  collected_none = record {
    distinct = λ i j d e at. absurd (get_none i d at);
    within = λ i e at. absurd (get_none i e at);
    own = λ i e at. absurd (get_none i e at);
    from = λ i e at. absurd (get_none i e at);
    each = λ l lt. absurd (omega arith);
  }

  pub collected_skip : (k : ℕ) (things : List (ℕ × T)) → AreCollected owners owner k places things → IsElsewhere owners owner k → AreCollected owners owner (k + 1) places things
  collected_skip k things c other = record {
    distinct = c.distinct;
    within = λ i e at. let w = c.within i e at in omega (arith, w);
    own = c.own;
    from = c.from;
    each = λ l lt is. ⊎_elim (λ (q : l ≡ k). absurd (other (subst (λ (n : ℕ). slice_get owners n ≡ Some owner) q is))) (λ (ne : l ≡ k → ⊥). c.each l (omega arith) is) (cases_eq l k);
  }

  pub collected_more : (k : ℕ) (things : List (ℕ × T)) (t : T) → AreCollected owners owner k places things → slice_get owners k ≡ Some owner → slice_get places k ≡ Some (Some t) → AreCollected owners owner (k + 1) places (things ++ (k, t) ∷ [])
  collected_more k things t c mine at_k =
      let Own : ℕ × T → Type 0 = λ e. (slice_get owners e.0 ≡ Some owner) × (slice_get places e.0 ≡ Some (Some e.1)) in
      let one : (i : ℕ) (e : ℕ × T) → slice_get (things ++ (k, t) ∷ []) i ≡ Some e → Own e = λ i e at. ⊎_elim
      (λ (a : slice_get things i ≡ Some e). (c.own i e a, c.from i e a))
      (λ (b : (i ≡ length things) × (e ≡ (k, t))). subst Own (sym b.1) (mine, at_k))
      (get_snoc things (k, t) i e at) in
      record {
        distinct = λ i j d e at at' q. ⊎_elim
            (λ (a : slice_get things i ≡ Some d). ⊎_elim
            (λ (a' : slice_get things j ≡ Some e). c.distinct i j d e a a' q)
            (λ (b' : (j ≡ length things) × (e ≡ (k, t))). let w = c.within i d a in let n : d.0 ≡ k = q ∙ ap (λ (z : ℕ × T). z.0) b'.1 in absurd (omega (arith, w, n)))
            (get_snoc things (k, t) j e at'))
            (λ (b : (i ≡ length things) × (d ≡ (k, t))). ⊎_elim
            (λ (a' : slice_get things j ≡ Some e). let w = c.within j e a' in let n : k ≡ e.0 = sym (ap (λ (z : ℕ × T). z.0) b.1) ∙ q in absurd (omega (arith, w, n)))
            (λ (b' : (j ≡ length things) × (e ≡ (k, t))). b.0 ∙ sym b'.0)
            (get_snoc things (k, t) j e at'))
            (get_snoc things (k, t) i d at);
        within = λ i e at. ⊎_elim
            (λ (a : slice_get things i ≡ Some e). let w = c.within i e a in omega (arith, w))
            (λ (b : (i ≡ length things) × (e ≡ (k, t))). let n : e.0 ≡ k = ap (λ (z : ℕ × T). z.0) b.1 in omega (arith, n))
            (get_snoc things (k, t) i e at);
        own = λ i e at. (one i e at).0;
        from = λ i e at. (one i e at).1;
        each = λ l lt is. ⊎_elim
            (λ (q : l ≡ k). (length things, (k, t), get_last things (k, t), sym q))
            (λ (ne : l ≡ k → ⊥). let a = c.each l (omega arith) is in (a.0, a.1, get_front things ((k, t) ∷ []) a.0 a.1 a.2, a.3))
            (cases_eq l k);
      }

-- those with numbers below k were taken out of their places
pub record Collecting {T : Type 0} (owners : List ℕ) (owner k : ℕ) (old places : List (Option T)) (things : List (ℕ × T)) : Type 0 where
  pub collected : AreCollected owners owner k old things
  pub above : (l : ℕ) → k ≤ l → slice_get places l ≡ slice_get old l
  pub others : (l : ℕ) → IsElsewhere owners owner l → slice_get places l ≡ slice_get old l

module _ {T : Type 0} (owners : List ℕ) (owner : ℕ) (old : List (Option T)) where
  pub collecting_none : Collecting owners owner 0 old old []
  collecting_none = record { collected = collected_none owners owner old; above = λ l le. refl; others = λ l e. refl }

  pub collecting_skip : (k : ℕ) (places : List (Option T)) (things : List (ℕ × T)) → Collecting owners owner k old places things → k < length owners → (get_or owners k 0 ≡ owner → ⊥) → Collecting owners owner (k + 1) old places things
  collecting_skip k places things h lt other = record {
    collected = collected_skip owners owner old k things h.collected (λ e. other (same_some (get_or owners k 0) owner (sym (get_here owners k 0 lt) ∙ e)));
    above = λ l le. h.above l (omega arith);
    others = h.others;
  }

  pub collecting_more : (k : ℕ) (places : List (Option T)) (things : List (ℕ × T)) (t : T) → Collecting owners owner k old places things → k < length owners → get_or owners k 0 ≡ owner → slice_get places k ≡ Some (Some t) → Collecting owners owner (k + 1) old (set places k None) (things ++ (k, t) ∷ [])
  collecting_more k places things t h lt mine at =
      let here : slice_get owners k ≡ Some owner = get_here owners k 0 lt ∙ ap Some mine in record {
        collected = collected_more owners owner old k things t h.collected here (sym (h.above k (omega arith)) ∙ at);
        above = λ l le. set_elsewhere places k l None (λ q. absurd (omega (arith, q))) ∙ h.above l (omega arith);
        others = λ l e. set_elsewhere places k l None (λ q. e (subst (λ (n : ℕ). slice_get owners n ≡ Some owner) (sym q) here)) ∙ h.others l e;
      }

  pub place_is : (k : ℕ) (places : List (Option T)) (things : List (ℕ × T)) → Collecting owners owner k old places things → k < length owners → get_or owners k 0 ≡ owner → ((l : ℕ) → slice_get owners l ≡ Some owner → PlaceIsFull old l) → PlaceIsFull places k
  place_is k places things h lt mine full =
      let here : slice_get owners k ≡ Some owner = get_here owners k 0 lt ∙ ap Some mine in
      let f = full k here in
      (f.0, h.above k (omega arith) ∙ f.1)

-- what lies in a place, from the index of it
pub in_place : {T : Type 0} (places : List (Option T)) (k : ℕ) (o : Option T) → k < length places → o ≡ get_or places k o → slice_get places k ≡ Some o
in_place places k o lt e = get_here places k o lt ∙ ap Some (sym e)

-- the last of the front of a list goes to its place
module _ {T : Type 0} (xs ys rest orig : List (ℕ × T)) (x : ℕ × T) (is : ys ≡ xs ++ x ∷ []) (front : orig ≡ ys ++ rest) where
  whole : orig ≡ (xs ++ x ∷ []) ++ rest
  whole = front ∙ ap (λ (l : List (ℕ × T)). l ++ rest) is

  pub front_less : (more : List (ℕ × T)) × (orig ≡ xs ++ more)
  front_less = (x ∷ rest, whole ∙ append_assoc xs (x ∷ []) rest)

  pub last_is : slice_get orig (length xs) ≡ Some x
  last_is = ap (λ (l : List (ℕ × T)). slice_get l (length xs)) whole ∙ get_front (xs ++ x ∷ []) rest (length xs) x (get_last xs x)

  pub laid_more : (places : List (Option T)) (v : Option T) (n : ℕ) → AreDistinct orig → NumbersAreBelow n orig → n ≡ length places → v ≡ Some x.1 → AreLaid (length ys) orig places → AreLaid (length xs) orig (set places x.0 v)
  laid_more places v n distinct within count val laid i e le at = ⊎_elim
      (λ (q : i ≡ length xs).
      let same : e ≡ x = same_some e x (sym at ∙ ap (slice_get orig) q ∙ last_is) in
      let low : x.0 < length places = subst (λ (m : ℕ). x.0 < m) count (within (length xs) x last_is) in
      subst (λ (z : ℕ × T). slice_get (set places x.0 v) z.0 ≡ Some (Some z.1)) (sym same) (set_here places x.0 v low ∙ ap Some val))
      (λ (ne : i ≡ length xs → ⊥).
      let n : length ys ≡ length xs + 1 = ap length is ∙ length-append xs (x ∷ []) in
      set_elsewhere places x.0 e.0 v (λ q. ne (distinct i (length xs) e x at last_is q)) ∙ laid i e (omega (arith, n)) at)
      (cases_eq i (length xs))

  pub others_same : (places : List (Option T)) (v : Option T) (l : ℕ) → ((i : ℕ) (e : ℕ × T) → slice_get orig i ≡ Some e → e.0 ≡ l → ⊥) → slice_get (set places x.0 v) l ≡ slice_get places l
  others_same places v l none = set_elsewhere places x.0 l v (λ q. none (length xs) x last_is (sym q))
