-- Names that differ, and the platforms and links that they name.
use Rattle.std.proofs.Common.{◌≡◌, ℕ, zero, suc, ◌+◌, ◌<◌, Bool, true, false, cond, List, [], ◌∷◌, ◌++◌, Option, Some, None, bytes_eq, get_or, length, refl, sym, ap, ◌∙◌, arith, slice_get}
use Rattle.std.proofs.lemmas.Bool.{both_ways, or_parts}
use Rattle.std.proofs.lemmas.List.{get_or_read}
use Rattle.std.proofs.lemmas.List.Folds.{list_any-append}
use Rattle.std.proofs.lemmas.Option.{same_Some, slice_get-get_or}
use Rattle.std.proofs.lemmas.Slice.Eq.{bytes_eq-Decides}
use Rattle.pt_types.specs.declared.graph.Actor.{Actor}
use Rattle.pt_types.specs.declared.graph.Graph.{Graph}
use Rattle.pt_types.specs.declared.graph.Link.{Link}
use Rattle.pt_types.specs.Groups.{no_actor}
use Rattle.pt_types.specs.Lawful.{IsLawful, is_named, repeated_from}
use Rattle.pt_types.specs.Lookups.{actor_name, platform_name}
use Rattle.pt_types.proofs.LawfulLinks.{link_at, links_once, links_once_out}
use Rattle.pt_tables.specs.Names.{receiver_name, sender_name}

none_if : (b : Bool) (n : ℕ) (o : Option ℕ) → cond b (Some n) o ≡ None → (b ≡ false) × (o ≡ None)
none_if true n o h = absurd cc
none_if false n o h = (refl, h)

-- no later item has the name of one seen before
not_seen : {A : Type 0} (name_of : A → List ℕ) (seen : List A) (n : ℕ) (xs : List A) (j : ℕ) (y : A) → repeated_from name_of seen n xs ≡ None → slice_get xs j ≡ Some y → is_named name_of seen (name_of y) ≡ false
not_seen name_of seen n [] j y none h = absurd cc
not_seen name_of seen n (x ∷ xs) zero y none h =
    let parts = none_if (is_named name_of seen (name_of x)) n (repeated_from name_of (seen ++ x ∷ []) (n + 1) xs) none in
    rw (sym (same_Some x y h)) parts.0
not_seen name_of seen n (x ∷ xs) (suc j) y none h =
    let parts = none_if (is_named name_of seen (name_of x)) n (repeated_from name_of (seen ++ x ∷ []) (n + 1) xs) none in
    let later = not_seen name_of (seen ++ x ∷ []) (n + 1) xs j y parts.1 h in
    (or_parts (is_named name_of seen (name_of y)) (is_named name_of (x ∷ []) (name_of y)) (sym (list_any-append (λ z. bytes_eq (name_of z) (name_of y)) seen (x ∷ [])) ∙ later)).0

-- the first item and a later one have different names
first_differs : {A : Type 0} (name_of : A → List ℕ) (seen : List A) (n : ℕ) (x : A) (xs : List A) (j : ℕ) (y : A) → repeated_from name_of seen n (x ∷ xs) ≡ None → slice_get xs j ≡ Some y → name_of x ≡ name_of y → ⊥
first_differs name_of seen n x xs j y none h e =
    let parts = none_if (is_named name_of seen (name_of x)) n (repeated_from name_of (seen ++ x ∷ []) (n + 1) xs) none in
    let later = not_seen name_of (seen ++ x ∷ []) (n + 1) xs j y parts.1 h in
    let here = (or_parts (is_named name_of seen (name_of y)) (is_named name_of (x ∷ []) (name_of y)) (sym (list_any-append (λ z. bytes_eq (name_of z) (name_of y)) seen (x ∷ [])) ∙ later)).1 in
    let other = (or_parts (bytes_eq (name_of x) (name_of y)) false here).0 in
    both_ways (bytes_eq (name_of x) (name_of y)) other ((bytes_eq-Decides (name_of x) (name_of y)).1 e)

-- two items of one name are one
pub named_once : {A : Type 0} (name_of : A → List ℕ) (seen : List A) (n : ℕ) (xs : List A) (i j : ℕ) (x y : A) → repeated_from name_of seen n xs ≡ None → slice_get xs i ≡ Some x → slice_get xs j ≡ Some y → name_of x ≡ name_of y → i ≡ j
named_once name_of seen n [] i j x y none p q e = absurd cc
named_once name_of seen n (z ∷ xs) zero zero x y none p q e = refl
named_once name_of seen n (z ∷ xs) zero (suc j) x y none p q e = absurd (first_differs name_of seen n z xs j y none q (ap name_of (same_Some z x p) ∙ e))
named_once name_of seen n (z ∷ xs) (suc i) zero x y none p q e = absurd (first_differs name_of seen n z xs i x none p (ap name_of (same_Some z y q) ∙ sym e))
named_once name_of seen n (z ∷ xs) (suc i) (suc j) x y none p q e =
    let parts = none_if (is_named name_of seen (name_of z)) n (repeated_from name_of (seen ++ z ∷ []) (n + 1) xs) none in
    ap suc (named_once name_of (seen ++ z ∷ []) (n + 1) xs i j x y parts.1 p q e)

pub platforms_once : (g : Graph) (i j : ℕ) → IsLawful g → i < length g.platforms → j < length g.platforms → platform_name g i ≡ platform_name g j → i ≡ j
platforms_once g i j lawful p q e = named_once (λ (name : List ℕ). name) [] 0 g.platforms i j (get_or g.platforms i []) (get_or g.platforms j []) lawful.other_platforms (slice_get-get_or g.platforms i [] p) (slice_get-get_or g.platforms j [] q) e

actors_once : (g : Graph) (i j : ℕ) → IsLawful g → i < length g.actors → j < length g.actors → actor_name g i ≡ actor_name g j → i ≡ j
actors_once g i j lawful p q e = named_once (λ (a : Actor). a.name) [] 0 g.actors i j (get_or g.actors i no_actor) (get_or g.actors j no_actor) lawful.other_actors (slice_get-get_or g.actors i no_actor p) (slice_get-get_or g.actors j no_actor q) e

pub receivers_once : (g : Graph) (i j : ℕ) (l k : Link) → IsLawful g → slice_get g.links i ≡ Some l → slice_get g.links j ≡ Some k → actor_name g l.to ≡ actor_name g k.to → i ≡ j
receivers_once g i j l k lawful p q e = links_once g i j l k lawful p q (actors_once g l.to k.to lawful (link_at g i l lawful p).to (link_at g j k lawful q).to e)

pub senders_once : (g : Graph) (i j : ℕ) (l k : Link) → IsLawful g → slice_get g.links i ≡ Some l → slice_get g.links j ≡ Some k → actor_name g l.from ≡ actor_name g k.from → i ≡ j
senders_once g i j l k lawful p q e = links_once_out g i j l k lawful p q (actors_once g l.from k.from lawful (link_at g i l lawful p).from (link_at g j k lawful q).from e)

-- the platform at place n has the name, as platform p does
pub platform_found : (g : Graph) (items : List (List ℕ)) (n p : ℕ) (x name : List ℕ) → IsLawful g → items ≡ g.platforms → n < length items → x ≡ get_or items n x → bytes_eq x name ≡ true → p < length g.platforms → name ≡ platform_name g p → n ≡ p
platform_found g items n p x name lawful is less here same known e =
    let within : n < length g.platforms = omega (arith, ap length is) in
    let is_name : x ≡ name = (bytes_eq-Decides x name).0 same in
    let read : platform_name g n ≡ x = ap (λ (xs : List (List ℕ)). get_or xs n []) (sym is) ∙ sym (get_or_read items n x less here []) in
    platforms_once g n p lawful within known (read ∙ is_name ∙ e)

-- the link at place n, as a loop reads it
link_read : (g : Graph) (items : List Link) (n : ℕ) (d : Link) → items ≡ g.links → n < length items → slice_get g.links n ≡ Some (get_or items n d)
link_read g items n d is less = ap (λ (xs : List Link). slice_get xs n) (sym is) ∙ slice_get-get_or items n d less

pub receiver_found : (g : Graph) (items : List Link) (n l : ℕ) (d : Link) (text name : List ℕ) → IsLawful g → items ≡ g.links → n < length items → text ≡ actor_name g (get_or items n d).to → bytes_eq text name ≡ true → l < length g.links → name ≡ receiver_name g (slice_get g.links l) → n ≡ l
receiver_found g items n l d text name lawful is less here same known e =
    let other = slice_get-get_or g.links l d known in
    receivers_once g n l (get_or items n d) (get_or g.links l d) lawful (link_read g items n d is less) other (sym here ∙ (bytes_eq-Decides text name).0 same ∙ e ∙ ap (receiver_name g) other)

pub receiver_differs : (g : Graph) (items : List Link) (n : ℕ) (d : Link) (text name : List ℕ) → items ≡ g.links → n < length items → text ≡ actor_name g (get_or items n d).to → bytes_eq text name ≡ false → receiver_name g (slice_get g.links n) ≡ name → ⊥
receiver_differs g items n d text name is less here other e = both_ways (bytes_eq text name) other ((bytes_eq-Decides text name).1 (here ∙ sym (ap (receiver_name g) (link_read g items n d is less)) ∙ e))

pub sender_found : (g : Graph) (items : List Link) (n l : ℕ) (d : Link) (text name : List ℕ) → IsLawful g → items ≡ g.links → n < length items → text ≡ actor_name g (get_or items n d).from → bytes_eq text name ≡ true → l < length g.links → name ≡ sender_name g (slice_get g.links l) → n ≡ l
sender_found g items n l d text name lawful is less here same known e =
    let other = slice_get-get_or g.links l d known in
    senders_once g n l (get_or items n d) (get_or g.links l d) lawful (link_read g items n d is less) other (sym here ∙ (bytes_eq-Decides text name).0 same ∙ e ∙ ap (sender_name g) other)

pub sender_differs : (g : Graph) (items : List Link) (n : ℕ) (d : Link) (text name : List ℕ) → items ≡ g.links → n < length items → text ≡ actor_name g (get_or items n d).from → bytes_eq text name ≡ false → sender_name g (slice_get g.links n) ≡ name → ⊥
sender_differs g items n d text name is less here other e = both_ways (bytes_eq text name) other ((bytes_eq-Decides text name).1 (here ∙ sym (ap (sender_name g) (link_read g items n d is less)) ∙ e))
