-- Messages of many links, end by end.
use Rattle.std.proofs.Common.{◌≡◌, ℕ, zero, suc, ◌+◌, ◌<◌, ◌≤◌, List, [], ◌∷◌, ◌++◌, Some, length, get_or, map, set, refl, sym, ap, subst, ◌∙◌, ◌⊎◌, ⊎_elim, inl, inr, append-nil, arith}
use Rattle.std.specs.Prelude.{slice_get}
use Rattle.std.proofs.lemmas.Bool.{cases_eq, ne_eqb}
use Rattle.std.proofs.lemmas.Option.{slice_get_within}
use Rattle.pt_tags.specs.declared.message.Message.{Message}
use Rattle.pt_types.specs.declared.firing.OnLink.{OnLink}
use Rattle.pt_semantics.specs.Closing.{on_link}
use Rattle.pt_semantics.specs.Lists.{IsIn}
use Rattle.pt_turn.proofs.Coming.{on_append}
use Rattle.pt_turn.proofs.Leaving.{on_other}
use Rattle.pt_visits.specs.Pipes.{put_on}
use Rattle.pt_visits.proofs.Sent.{on_put, on_put_elsewhere}
use Rattle.pt_pool.specs.Ends.{NumbersDiffer, End}
use Rattle.pt_pool.specs.Lanes.{EndByEnd}

pub same_some : {A : Type 0} (x y : A) → Some x ≡ Some y → x ≡ y
same_some x y e = cc

pub get_here : {A : Type 0} (xs : List A) (k : ℕ) (d : A) → k < length xs → slice_get xs k ≡ Some (get_or xs k d)
get_here [] k d lt = absurd (omega arith)
get_here (x ∷ xs) zero d lt = refl
get_here (x ∷ xs) (suc k) d lt = get_here xs k d (omega arith)

pub set_here : {A : Type 0} (xs : List A) (n : ℕ) (y : A) → n < length xs → slice_get (set xs n y) n ≡ Some y
set_here [] n y lt = absurd (omega arith)
set_here (x ∷ xs) zero y lt = refl
set_here (x ∷ xs) (suc n) y lt = set_here xs n y (omega arith)

pub set_elsewhere : {A : Type 0} (xs : List A) (n k : ℕ) (y : A) → (k ≡ n → ⊥) → slice_get (set xs n y) k ≡ slice_get xs k
set_elsewhere [] n k y other = refl
set_elsewhere (x ∷ xs) zero zero y other = absurd (other refl)
set_elsewhere (x ∷ xs) zero (suc k) y other = refl
set_elsewhere (x ∷ xs) (suc n) zero y other = refl
set_elsewhere (x ∷ xs) (suc n) (suc k) y other = set_elsewhere xs n k y (λ (e : k ≡ n). other (ap suc e))

pub get_map : {A B : Type 0} (f : A → B) (xs : List A) (k : ℕ) (x : A) → slice_get xs k ≡ Some x → slice_get (map f xs) k ≡ Some (f x)
get_map f [] k x e = cc
get_map f (y ∷ xs) zero x e = ap (λ (z : _). Some (f z)) (same_some y x e)
get_map f (y ∷ xs) (suc k) x e = get_map f xs k x e

pub got_map : {A B : Type 0} (f : A → B) (xs : List A) (k : ℕ) (y : B) → slice_get (map f xs) k ≡ Some y → (x : A) × (slice_get xs k ≡ Some x) × (f x ≡ y)
got_map f [] k y e = cc
got_map f (x ∷ xs) zero y e = (x, refl, same_some (f x) y e)
got_map f (x ∷ xs) (suc k) y e = got_map f xs k y e

map_set : {A B : Type 0} (f : A → B) (xs : List A) (k : ℕ) (x y : A) → slice_get xs k ≡ Some x → f y ≡ f x → map f (set xs k y) ≡ map f xs
map_set f [] k x y at e = cc
map_set f (z ∷ xs) zero x y at e = ap (λ w. w ∷ map f xs) (e ∙ sym (ap f (same_some z x at)))
map_set f (z ∷ xs) (suc k) x y at e = ap (λ w. f z ∷ w) (map_set f xs k x y at e)

in_both : {X : Type 0} (x : X) (xs ys : List X) → IsIn x (xs ++ ys) → IsIn x xs ⊎ IsIn x ys
in_both x [] ys h = inr h
in_both x (y ∷ xs) ys h = ⊎_elim (λ (e : x ≡ y). inl (inl e)) (λ (m : IsIn x (xs ++ ys)). ⊎_elim (λ (a : IsIn x xs). inl (inr a)) (λ (b : IsIn x ys). inr b) (in_both x xs ys m)) h

in_put : (n : ℕ) (ms : List Message) (m : OnLink) → IsIn m (map (put_on n) ms) → n ≡ m.link
in_put n [] m h = absurd h
in_put n (x ∷ ms) m h = ⊎_elim (λ (e : m ≡ put_on n x). sym (ap (λ (z : OnLink). z.link) e)) (λ (r : IsIn m (map (put_on n) ms)). in_put n ms m r) h

-- a link without a message in the list
pub none_on : (l : ℕ) (ms : List OnLink) → ((m : OnLink) → IsIn m ms → m.link ≡ l → ⊥) → on_link l ms ≡ []
none_on l [] h = refl
none_on l (m ∷ ms) h = on_other l m ms (ne_eqb m.link l (h m (inl refl))) ∙ none_on l ms (λ x at. h x (inr at))

before : (k n : ℕ) → k < n + 1 → (k ≡ n → ⊥) → k < n
before k n lt ne = ⊎_elim (λ (same : k ≡ n). absurd (ne same)) (λ (other : k ≡ n → ⊥). less other) (cases_eq k n)
  where
    less : (k ≡ n → ⊥) → k < n
    less other = omega arith

past : (k n : ℕ) → n + 1 ≤ k → k ≡ n → ⊥
past k n le same = omega arith

module _ {X : Type 0} (way : ℕ → X → X → List Message → Type 0) (end_of : ℕ × X → End) (number : (e : ℕ × X) → (end_of e).number ≡ e.0) where
  pub no_lane : (xs : List (ℕ × X)) → EndByEnd way end_of 0 xs xs []
  no_lane xs = record { ends = refl; below = λ i e f lt. absurd (omega (arith, lt)); above = λ i le. refl; members = λ m h. absurd h }

  -- the list has no message yet on the link of the next end
  pub none_yet : (k : ℕ) (old now : List (ℕ × X)) (ms : List OnLink) (e : ℕ × X) → NumbersDiffer (map end_of old) → EndByEnd way end_of k old now ms → slice_get old k ≡ Some e → on_link e.0 ms ≡ []
  none_yet k old now ms e apart h at = none_on e.0 ms (λ m inside same.
      let w = h.members m inside in
      apart_from w.0 w.2 w.1 w.3 (w.4 ∙ same))
    where
      apart_from : (i : ℕ) (f : ℕ × X) → i < k → slice_get old i ≡ Some f → f.0 ≡ e.0 → ⊥
      apart_from i f lt there same =
          let q : i ≡ k = apart i k (end_of f) (end_of e) (get_map end_of old i f there) (get_map end_of old k e at) (number f ∙ same ∙ sym (number e)) in
          omega (arith, lt, q)

  -- one end more
  pub one_lane : (k : ℕ) (old now : List (ℕ × X)) (ms : List OnLink) (e f : ℕ × X) (more : List Message) → NumbersDiffer (map end_of old) → EndByEnd way end_of k old now ms → slice_get now k ≡ Some e → f.0 ≡ e.0 → end_of f ≡ end_of e → way e.0 e.1 f.1 more
      → EndByEnd way end_of (k + 1) old (set now k f) (ms ++ map (put_on e.0) more)
  one_lane k old now ms e f more apart h at num same w =
      let was : slice_get old k ≡ Some e = sym (h.above k (omega arith)) ∙ at in
      let lt : k < length now = slice_get_within now k e at in
      let here : on_link e.0 (ms ++ map (put_on e.0) more) ≡ more =
      on_append e.0 ms (map (put_on e.0) more) ∙ ap (λ (z : List Message). z ++ on_link e.0 (map (put_on e.0) more)) (none_yet k old now ms e apart h was) ∙ on_put e.0 more in
      let elsewhere : (l : ℕ) → (l ≡ e.0 → ⊥) → on_link l (ms ++ map (put_on e.0) more) ≡ on_link l ms =
      λ l ne. on_append l ms (map (put_on e.0) more) ∙ ap (λ (z : List Message). on_link l ms ++ z) (on_put_elsewhere l e.0 more ne) ∙ append-nil (on_link l ms) in
      record {
        ends = map_set end_of now k e f at same ∙ h.ends;
        below = λ i a b low x y. ⊎_elim
            (λ (q : i ≡ k).
            let xa : a ≡ e = same_some a e (sym (subst (λ (n : ℕ). slice_get old n ≡ Some a) q x) ∙ was) in
            let yb : b ≡ f = same_some b f (sym (subst (λ (n : ℕ). slice_get (set now k f) n ≡ Some b) q y) ∙ set_here now k f lt) in
            subst (λ (z : ℕ × X). way z.0 z.1 b.1 (on_link z.0 (ms ++ map (put_on e.0) more))) (sym xa)
            (subst (λ (z : ℕ × X). way e.0 e.1 z.1 (on_link e.0 (ms ++ map (put_on e.0) more))) (sym yb)
            (subst (λ (z : List Message). way e.0 e.1 f.1 z) (sym here) w)))
            (λ (ne : i ≡ k → ⊥).
            let y' : slice_get now i ≡ Some b = sym (set_elsewhere now k i f ne) ∙ y in
            subst (λ (z : List Message). way a.0 a.1 b.1 z) (sym (elsewhere a.0 (λ (q : a.0 ≡ e.0). ne (apart i k (end_of a) (end_of e) (get_map end_of old i a x) (get_map end_of old k e was) (number a ∙ q ∙ sym (number e))))))
            (h.below i a b (before i k low ne) x y'))
            (cases_eq i k);
        above = λ i le. set_elsewhere now k i f (past i k le) ∙ h.above i (omega (arith, le));
        members = λ m inside. ⊎_elim
            (λ (a : IsIn m ms). let v = h.members m a in (v.0, omega (arith, v.1), v.2, v.3, v.4))
            (λ (b : IsIn m (map (put_on e.0) more)). (k, omega arith, e, was, in_put e.0 more m b))
            (in_both m ms (map (put_on e.0) more) inside);
      }
