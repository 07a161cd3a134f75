-- Starting events, one actor after another, and the numbers that actors begin with.
use Rattle.std.proofs.Common.{◌≡◌, ℕ, zero, suc, ◌+◌, ◌<◌, ◌≤◌, ◌==◌, ◌&&◌, ◌||◌, Bool, true, false, nat_lt, nat_le, List, [], ◌∷◌, Option, Some, None, ℤ, pos, get_or, length, map, refl, sym, ap, subst, ◌∙◌, ⊎_elim, lt-ltb, eq-eqb, ne_eqb, if◌then◌else◌, arith}
use Rattle.std.proofs.lemmas.Bool.{cases_lt, false≢true, and_parts, eqb-true}
use Rattle.std.proofs.lemmas.Bool.Decides.{nat_tests}
use Rattle.std.proofs.lemmas.List.{get_or_read}
use Rattle.pt_tags.specs.declared.tag.Tag.{Tag}
use Rattle.pt_tags.specs.Tags.{same_tag}
use Rattle.pt_types.specs.declared.graph.Actor.{Actor}
use Rattle.pt_types.specs.declared.graph.Graph.{Graph}
use Rattle.pt_types.specs.declared.kind.Kind.{Kind}
use Rattle.pt_types.specs.declared.kind.Kind.TheVariants.{Every}
use Rattle.pt_types.specs.Ports.{when}
use Rattle.pt_semantics.specs.Edges.{first_state}
use Rattle.pt_types.specs.Groups.{no_actor}
use Rattle.pt_types.specs.Lookups.{kind_of, platform_of}
use Rattle.pt_semantics.specs.Lists.{or_else}
use Rattle.pt_semantics.specs.Meaning.{Values, added, at_time, start_at}
use Rattle.pt_semantics.specs.Units.{at_input, groups}
use Rattle.pt_types.specs.Groups.{input_group}
use Rattle.pt_semantics.proofs.Lookups.{none_some, or_else_none, when_found, when_none}
use Rattle.pt_semantics.proofs.Words.{when-false}
use Rattle.pt_causality.specs.Units.{IsUnit}
use Rattle.pt_offsets.proofs.Small.{past_kind}
use Rattle.pt_queue.specs.Events.{value_in}
use Rattle.pt_turn.specs.Fields.State.{states_in}
use Rattle.pt_turn.specs.Starting.{first_of_actor, start_of, starting_event, starting}

-- an actor, read from the list of actors
pub actor_read : (g : Graph) (actors : List Actor) (a : ℕ) (x : Actor) → actors ≡ g.actors → a < length actors → x ≡ get_or actors a x → x ≡ get_or g.actors a no_actor
actor_read g actors a x same less is = get_or_read actors a x less is no_actor ∙ ap (λ xs. get_or xs a no_actor) same

-- one actor

flip : (p : ℕ) → (0 == p) ≡ (p == 0)
flip p = grind (arith, nat_tests)

-- when an actor of a kind has its starting event
abbrev starts_at : Option ℕ → Tag → Option ℤ
starts_at None t = None
starts_at (Some time) t = when (same_tag (at_time time) t) (Some (pos 0))

by_horizon : (start until : ℕ) (t : Tag) (b c : Bool) → b ≡ c → when (b && same_tag (at_time start) t) (Some (pos 0)) ≡ starts_at (if c then Some start else None) t
by_horizon start until t true c e = subst (λ c. when (same_tag (at_time start) t) (Some (pos 0)) ≡ starts_at (if c then Some start else None) t) e refl
by_horizon start until t false c e = subst (λ c. None ≡ starts_at (if c then Some start else None) t) e refl

same_test : (start until : ℕ) → nat_lt start (suc until) ≡ nat_le start until
same_test start until = grind (arith, nat_tests)

start_is : (g : Graph) (kind : Kind) (t : Tag) → start_at g kind t ≡ starts_at (start_of kind g.until) t
start_is g (Every start period) t = by_horizon start g.until t (nat_lt start (suc g.until)) (nat_le start g.until) (same_test start g.until)
start_is g _ t = refl

both : (b c d : Bool) (x : Option ℤ) → when (b && c && d) x ≡ when (b && c) (when d x)
both true true d x = refl
both true false d x = refl
both false c d x = refl

pub begins : (g : Graph) (actor time : ℕ) (kind : Kind) (w : Values) → start_of kind g.until ≡ Some time → added w (value_in (record { tag = at_time time; actor = actor; port = 0; value = pos 0 })) ≡ added w (starting_event g actor kind)
begins g actor time kind w e = ap (added w) (λ i a p t. at a p t i)
  where
    at : (a p : ℕ) (t : Tag) → value_in (record { tag = at_time time; actor = actor; port = 0; value = pos 0 }) a p t ≡ starting_event g actor kind a p t
    at a p t =
        both (actor == a) (0 == p) (same_tag (at_time time) t) (Some (pos 0))
        ∙ ap (λ b. when (actor == a && b) (starts_at (Some time) t)) (flip p)
        ∙ ap (λ o. when (actor == a && p == 0) (starts_at o t)) (sym e)
        ∙ ap (when (actor == a && p == 0)) (sym (start_is g kind t))

pub begins_never : (g : Graph) (actor : ℕ) (kind : Kind) (w : Values) → start_of kind g.until ≡ None → w ≡ added w (starting_event g actor kind)
begins_never g actor kind w e = λ i a p t. at a p t i
  where
    at : (a p : ℕ) (t : Tag) → w a p t ≡ added w (starting_event g actor kind) a p t
    at a p t =
        sym (ap (or_else (w a p t)) (ap (when (actor == a && p == 0)) (start_is g kind t ∙ ap (λ o. starts_at o t) e) ∙ when_none ℤ (actor == a && p == 0)) ∙ or_else_none (w a p t))

-- one actor more

-- the starting events of the first n actors
abbrev pub starts_below : Graph → ℕ → ℕ → Values
starts_below g i n a p t = when (nat_lt a n && (platform_of g a == i && p == 0)) (start_at g (kind_of g a) t)

upto : (a n : ℕ) → nat_lt a (n + 1) ≡ (nat_lt a n || (n == a))
upto a n = grind (arith, nat_tests)

apart : (a n : ℕ) → nat_lt a n ≡ true → (n == a) ≡ false
apart a n h = grind (arith, nat_tests)

pub starts_none : (g : Graph) (i : ℕ) (w : Values) → w ≡ (λ a p t. None) → w ≡ starts_below g i 0
starts_none g i w e = e ∙ (λ j a p t. at a p t j)
  where
    at : (a p : ℕ) (t : Tag) → None ≡ starts_below g i 0 a p t
    at a p t = let none : nat_lt a 0 ≡ false = grind (arith, nat_tests) in rw none refl

more : (below here home port : Bool) (x y : Option ℤ) → (below ≡ true → here ≡ false) → (here ≡ true → y ≡ x) → (here ≡ true → home ≡ true)
    → or_else (when (below && (home && port)) x) (when (here && port) y) ≡ when ((below || here) && (home && port)) x
more true true home port x y off same at = absurd (false≢true (sym (off refl)))
more true false home port x y off same at = or_else_none (when (home && port) x)
more false true home port x y off same at = rw (same refl, at refl) refl
more false false home port x y off same at = refl

skip : (below here home port : Bool) (x : Option ℤ) → (here ≡ true → home ≡ false) → when (below && (home && port)) x ≡ when ((below || here) && (home && port)) x
skip true here home port x off = refl
skip false true home port x off = rw (off refl) refl
skip false false home port x off = refl

pub starts_more : (g : Graph) (i n : ℕ) (kind : Kind) → kind ≡ kind_of g n → platform_of g n ≡ i → added (starts_below g i n) (starting_event g n kind) ≡ starts_below g i (n + 1)
starts_more g i n kind is home = λ j a p t. at a p t j
  where
    at : (a p : ℕ) (t : Tag) → added (starts_below g i n) (starting_event g n kind) a p t ≡ starts_below g i (n + 1) a p t
    at a p t =
        more (nat_lt a n) (n == a) (platform_of g a == i) (p == 0) (start_at g (kind_of g a) t) (start_at g kind t) (apart a n)
        (λ h. ap (λ k. start_at g k t) (is ∙ ap (kind_of g) (eqb-true n a h)))
        (λ h. eq-eqb (platform_of g a) i (ap (platform_of g) (sym (eqb-true n a h)) ∙ home))
        ∙ ap (λ b. when (b && (platform_of g a == i && p == 0)) (start_at g (kind_of g a) t)) (sym (upto a n))

pub starts_skip : (g : Graph) (i n : ℕ) → (platform_of g n ≡ i → ⊥) → starts_below g i n ≡ starts_below g i (n + 1)
starts_skip g i n other = λ j a p t. at a p t j
  where
    at : (a p : ℕ) (t : Tag) → starts_below g i n a p t ≡ starts_below g i (n + 1) a p t
    at a p t =
        skip (nat_lt a n) (n == a) (platform_of g a == i) (p == 0) (start_at g (kind_of g a) t)
        (λ h. ne_eqb (platform_of g a) i (λ e. other (ap (platform_of g) (eqb-true n a h) ∙ e)))
        ∙ ap (λ b. when (b && (platform_of g a == i && p == 0)) (start_at g (kind_of g a) t)) (sym (upto a n))

-- at the actor that comes next nothing waits yet
pub starts_free : (g : Graph) (i n : ℕ) (w : Values) (t : Tag) → w ≡ starts_below g i n → w n 0 t ≡ None
starts_free g i n w t e = ap (λ (z : Values). z n 0 t) e ∙ when-false (nat_lt n n && (platform_of g n == i && 0 == 0)) (start_at g (kind_of g n) t) (off (nat_lt n n) (platform_of g n == i && 0 == 0) (itself n))
  where
    itself : (n : ℕ) → nat_lt n n ≡ false
    itself n = grind (arith, nat_tests)

    off : (b c : Bool) → b ≡ false → (b && c) ≡ false
    off b c h = ap (λ z. z && c) h

-- all actors

past_start : (g : Graph) (a : ℕ) (t : Tag) → length g.actors ≤ a → start_at g (kind_of g a) t ≡ None
past_start g a t past = ap (λ k. start_at g k t) (past_kind g a past)

pub starts_all : (g : Graph) (i n : ℕ) → length g.actors ≤ n → starts_below g i n ≡ starting g i
starts_all g i n all = λ j a p t. at a p t j
  where
    at : (a p : ℕ) (t : Tag) → starts_below g i n a p t ≡ starting g i a p t
    at a p t =
        ⊎_elim
        (λ (l : a < n). ap (λ b. when (b && (platform_of g a == i && p == 0)) (start_at g (kind_of g a) t)) (lt-ltb a n l))
        (λ (past : n ≤ a). let none : start_at g (kind_of g a) t ≡ None = past_start g a t (omega arith) in
        ap (when (nat_lt a n && (platform_of g a == i && p == 0))) none ∙ when_none ℤ (nat_lt a n && (platform_of g a == i && p == 0))
        ∙ sym (ap (when (platform_of g a == i && p == 0)) none ∙ when_none ℤ (platform_of g a == i && p == 0)))
        (cases_lt a n)

-- a starting event waits for a unit of the graph
start_unit : (g : Graph) (a : ℕ) (kind : Kind) (t : Tag) (v : ℤ) → kind_of g a ≡ kind → start_at g kind t ≡ Some v → a < length g.actors → IsUnit g (at_input g a 0)
start_unit g a (Every start period) t v is h lt = (lt, subst (λ k. input_group k 0 < groups k) (sym is) (omega arith))
start_unit g a _ t v is h lt = absurd (none_some v h)

pub starting_unit : (g : Graph) (i a p : ℕ) (t : Tag) (v : ℤ) → starting g i a p t ≡ Some v → IsUnit g (at_input g a p)
starting_unit g i a p t v h =
    let f = when_found (platform_of g a == i && p == 0) (start_at g (kind_of g a) t) v h in
    let port : p ≡ 0 = eqb-true p 0 (and_parts (platform_of g a == i) (p == 0) f.0).1 in
    subst (λ q. IsUnit g (at_input g a q)) (sym port)
    (⊎_elim (λ (lt : a < length g.actors). start_unit g a (kind_of g a) t v refl f.1 lt) (λ (past : length g.actors ≤ a). absurd (none_some v (sym (past_start g a t past) ∙ f.1))) (cases_lt a (length g.actors)))

-- the numbers that actors begin with

numbers_at : (actors : List Actor) (a : ℕ) → states_in (map first_of_actor actors) a ≡ first_state (get_or actors a no_actor).kind
numbers_at [] a = refl
numbers_at (x ∷ xs) zero = refl
numbers_at (x ∷ xs) (suc a) = numbers_at xs a

pub numbers : (g : Graph) (states : List ℤ) → states ≡ map first_of_actor g.actors → states_in states ≡ (λ a. first_state (kind_of g a))
numbers g states e = ap states_in e ∙ (λ i a. numbers_at g.actors a i)
