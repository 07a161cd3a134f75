-- In a lawful graph a name has a link exactly if it is a sender's.
use Rattle.std.proofs.Common.{◌≡◌, ℕ, zero, suc, ◌+◌, ◌<◌, List, [], ◌∷◌, true, false, cond, not, Bool, Option, Some, None, refl, sym, arith, ap, ◌∙◌, subst, ⊎_elim}
use Rattle.std.specs.Prelude.{bytes_eq, is_some, slice_get, ◌||◌, ◌&&◌, ◌==◌}
use Rattle.std.specs.List.{count_by, list_any, position_from}
use Rattle.std.proofs.lemmas.Bool.{and_parts, both_ways, eqb-true, not-true, or_cases, or_left}
use Rattle.std.proofs.lemmas.Iterator.Adapters.{position_from-zero}
use Rattle.std.proofs.lemmas.List.Sums.{sum_by-cons}
use Rattle.std.proofs.lemmas.Map.Keys.{any_passes_from_place}
use Rattle.std.proofs.lemmas.Option.{get_or_from_slice_get, slice_get-get_or}
use Rattle.pt_types.specs.declared.graph.Actor.{Actor}
use Rattle.pt_types.specs.declared.graph.Graph.{Graph}
use Rattle.pt_types.specs.declared.graph.Link.{Link}
use Rattle.pt_types.specs.declared.kind.Kind.{Kind}
use Rattle.pt_types.specs.declared.kind.Kind.TheVariants.{Receive}
use Rattle.pt_types.specs.Ends.{has_end, is_receive, is_send, links_fit, misfit_from}
use Rattle.pt_types.specs.Groups.{actor_at, no_actor}
use Rattle.pt_types.specs.Lawful.{IsLawful}
use Rattle.pt_types.specs.Lookups.{actor_name}
use Rattle.pt_types.proofs.LawfulLinks.{link_at}
use Rattle.pt_air.specs.Rows.{is_sender_named, link_named}

some_from : {X : Type 0} (p : X → Bool) (k : ℕ) (xs : List X) → is_some (position_from p k xs) ≡ list_any p xs
some_from p k [] = refl
some_from p k (x ∷ xs) = elim (p x) as (λ b. is_some (cond b (Some k) (position_from p (k + 1) xs)) ≡ (b || list_any p xs)) [ true ↦ refl | false ↦ some_from p (k + 1) xs ]

-- a place in a list at which a test passes
record Place {X : Type 0} (p : X → Bool) (xs : List X) : Type 0 where
  at : ℕ
  it : X
  there : slice_get xs at ≡ Some it
  passes : p it ≡ true

place_of : {X : Type 0} (p : X → Bool) (xs : List X) → list_any p xs ≡ true → Place p xs
place_of p [] h = absurd cc
place_of p (x ∷ xs) h = by_test (p x) refl (place_of p xs) h
  where
    by_test : (b : Bool) → p x ≡ b → (list_any p xs ≡ true → Place p xs) → (b || list_any p xs) ≡ true → Place p (x ∷ xs)
    by_test true is rest m = record { at = zero; it = x; there = refl; passes = is }
    by_test false is rest m = let r = rest m in record { at = suc r.at; it = r.it; there = r.there; passes = r.passes }

counted : {X : Type 0} (p : X → Bool) (xs : List X) → 0 < count_by p xs → list_any p xs ≡ true
counted p [] h = absurd (omega arith)
counted p (x ∷ xs) h = by_test (p x) (counted p xs) (subst (λ n. 0 < n) (sum_by-cons (λ y. cond (p y) 1 0) x xs) h)
  where
    by_test : (b : Bool) → (0 < count_by p xs → list_any p xs ≡ true) → 0 < cond b 1 0 + count_by p xs → (b || list_any p xs) ≡ true
    by_test true rest m = refl
    by_test false rest m = rest (omega arith)

none_else : (b : Bool) (x : ℕ) (o : Option ℕ) → cond b o (Some x) ≡ None → (b ≡ true) × (o ≡ None)
none_else true x o h = (refl, h)
none_else false x o h = absurd cc

-- each actor has as many links as it must
fits_at : (links : List Link) (i : ℕ) (actors : List Actor) (k : ℕ) (a : Actor) → misfit_from links i actors ≡ None → slice_get actors k ≡ Some a → links_fit links (i + k) a.kind ≡ true
fits_at links i [] k a h at = absurd cc
fits_at links i (b ∷ actors) zero a h at =
    let number : i ≡ i + 0 = omega arith in
    let same : b ≡ a = cc in
    subst (λ n. links_fit links n a.kind ≡ true) number
    (subst (λ (c : Actor). links_fit links i c.kind ≡ true) same (none_else (links_fit links i b.kind) i (misfit_from links (i + 1) actors) h).0)
fits_at links i (b ∷ actors) (suc k) a h at =
    let number : (i + 1) + k ≡ i + suc k = omega arith in
    subst (λ n. links_fit links n a.kind ≡ true) number (fits_at links (i + 1) actors k a (none_else (links_fit links i b.kind) i (misfit_from links (i + 1) actors) h).1 at)

-- a sender has a link
one_link : (links : List Link) (a : ℕ) (k : Kind) → is_send k ≡ true → links_fit links a k ≡ true → list_any (has_end a) links ≡ true
one_link links a k send h = ⊎_elim
    (λ (e : not (is_send k || is_receive k) ≡ true). absurd (both_ways (is_send k || is_receive k) (not-true (is_send k || is_receive k) e) (or_left (is_send k) (is_receive k) send)))
    (λ (e : (count_by (has_end a) links == 1) ≡ true). let one = eqb-true (count_by (has_end a) links) 1 e in counted (has_end a) links (omega arith))
    (or_cases (not (is_send k || is_receive k)) (count_by (has_end a) links == 1) h)

-- the actor at the place of a sender is that sender
actor_there : (g : Graph) (k : ℕ) (a : Actor) → slice_get g.actors k ≡ Some a → actor_at g.actors k ≡ a
actor_there g k a at = get_or_from_slice_get g.actors k a no_actor at

no_receiver : (k : Kind) → is_send k ≡ true → k ≡ Receive → ⊥
no_receiver k send is = let e : is_send k ≡ false = ap is_send is in cc

-- a sender's name has a link
linked : (g : Graph) (name : List ℕ) → IsLawful g → list_any (is_sender_named name) g.actors ≡ true → list_any (λ (l : Link). bytes_eq (actor_name g l.from) name) g.links ≡ true
linked g name lawful h =
    let a = place_of (is_sender_named name) g.actors h in
    let parts = and_parts (is_send a.it.kind) (bytes_eq a.it.name name) a.passes in
    let number : 0 + a.at ≡ a.at = omega arith in
    let fits = subst (λ n. links_fit g.links n a.it.kind ≡ true) number (fits_at g.links 0 g.actors a.at a.it lawful.one_link a.there) in
    let l = place_of (has_end a.at) g.links (one_link g.links a.at a.it.kind parts.0 fits) in
    let actor = actor_there g a.at a.it a.there in
    let from : l.it.from ≡ a.at = ⊎_elim
    (λ (e : (l.it.from == a.at) ≡ true). eqb-true l.it.from a.at e)
    (λ (e : (l.it.to == a.at) ≡ true). absurd (no_receiver a.it.kind parts.0
    (sym (ap (λ (b : Actor). b.kind) actor) ∙ (sym (ap (λ n. (actor_at g.actors n).kind) (eqb-true l.it.to a.at e)) ∙ (link_at g l.at l.it lawful l.there).receives))))
    (or_cases (l.it.from == a.at) (l.it.to == a.at) l.passes) in
    any_passes_from_place (λ (l : Link). bytes_eq (actor_name g l.from) name) g.links l.at l.it l.there
    (ap (λ n. bytes_eq (actor_name g n) name) from ∙ (ap (λ (b : Actor). bytes_eq b.name name) actor ∙ parts.1))

-- the name of a link's sender is a sender's
sent : (g : Graph) (name : List ℕ) → IsLawful g → list_any (λ (l : Link). bytes_eq (actor_name g l.from) name) g.links ≡ true → list_any (is_sender_named name) g.actors ≡ true
sent g name lawful h =
    let l = place_of (λ (l : Link). bytes_eq (actor_name g l.from) name) g.links h in
    let link = link_at g l.at l.it lawful l.there in
    any_passes_from_place (is_sender_named name) g.actors l.it.from (actor_at g.actors l.it.from) (slice_get-get_or g.actors l.it.from no_actor link.from)
    (ap (λ b. b && bytes_eq (actor_at g.actors l.it.from).name name) (ap is_send link.sends) ∙ l.passes)

same_tests : (a b : Bool) → (a ≡ true → b ≡ true) → (b ≡ true → a ≡ true) → a ≡ b
same_tests true b there back = sym (there refl)
same_tests false true there back = back refl
same_tests false false there back = refl

pub is_some-link_named : (g : Graph) (name : List ℕ) → IsLawful g → is_some (link_named g name) ≡ list_any (is_sender_named name) g.actors
is_some-link_named g name lawful =
    ap is_some (position_from-zero (λ (l : Link). bytes_eq (actor_name g l.from) name) g.links)
    ∙ (some_from (λ (l : Link). bytes_eq (actor_name g l.from) name) 0 g.links
    ∙ same_tests (list_any (λ (l : Link). bytes_eq (actor_name g l.from) name) g.links) (list_any (is_sender_named name) g.actors) (sent g name lawful) (linked g name lawful))
