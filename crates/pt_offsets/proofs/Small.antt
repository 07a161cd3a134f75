-- The bounds of a lawful graph are small, and are those of its actors.
use Rattle.std.proofs.Common.{◌≡◌, ℕ, zero, suc, get_or, ◌+◌, ◌<◌, ◌≤◌, ◌==◌, ◌≢◌, ◌&&◌, nat_lt, nat_le, sum, drop, not, Bool, true, false, cond, List, [], ◌∷◌, length, Option, Some, None, refl, sym, ap, ◌∙◌, arith, inl, inr, ⊎_elim, leb-true, unwrap_or, option_map, find, add-one, drop-cons}
use Rattle.std.specs.List.{list_all}
use Rattle.std.proofs.lemmas.Bool.{and_parts, cases_lt, ltb-true, eqb-true}
use Rattle.std.proofs.lemmas.List.{get_or_past, get_or_read}
use Rattle.pt_types.specs.declared.graph.Actor.{Actor}
use Rattle.pt_types.specs.declared.graph.Graph.{Graph}
use Rattle.pt_types.specs.declared.graph.Link.{Link}
use Rattle.pt_types.specs.declared.graph.PairError.{PairError}
use Rattle.pt_types.specs.declared.kind.Kind.{Kind}
use Rattle.pt_types.specs.declared.kind.Kind.TheVariants.{Lanes, Receive, Send, Sensor}
use Rattle.pt_types.specs.Groups.{error_between, groups_of, held, is_pair_of}
use Rattle.pt_types.specs.Kinds.{is_among, is_time, kind_is_lawful}
use Rattle.pt_types.specs.Names.{is_file}
use Rattle.pt_types.specs.Lawful.{IsLawful, link_is_lawful, pair_is_lawful}
use Rattle.pt_types.specs.Ports.{when}
use Rattle.pt_semantics.specs.Bounds.{bound_by, bound_of, error_of, link_bound, of_pair}
use Rattle.pt_types.specs.Lookups.{slack_of}
use Rattle.pt_types.specs.Groups.{no_actor}
use Rattle.pt_types.specs.Lookups.{kind_of, platform_of}
use Rattle.pt_semantics.specs.Lists.{IsIn, first_of, or_else}
use Rattle.std.proofs.lemmas.Bool.Decides.{nat_tests}
use Rattle.pt_semantics.proofs.Words.{when-false}
use Rattle.pt_semantics.proofs.Lookups.{first_of_found, same_some, when_found, none_some}
use Rattle.pt_semantics.specs.Units.{groups}
use Rattle.pt_types.proofs.LawfulActors.{any_kind}
use Rattle.pt_offsets.specs.Bounded.{AreBounds, AreModest, bound_at}

time_small : (t : ℕ) → is_time t ≡ true → t ≤ 1000000000000000
time_small t h = leb-true t 1000000000000000 h

-- the error that a pair states, found in either way
error_found : (p q error : ℕ) (pairs : List PairError) → unwrap_or (option_map (λ (e : PairError). e.error) (find (is_pair_of p q) pairs)) error ≡ unwrap_or (first_of (of_pair p q) pairs) error
error_found p q error [] = refl
error_found p q error (e ∷ pairs) = by_test (is_pair_of p q e) (error_found p q error pairs)
  where
    by_test : (b : Bool) → unwrap_or (option_map (λ (x : PairError). x.error) (find (is_pair_of p q) pairs)) error ≡ unwrap_or (first_of (of_pair p q) pairs) error → unwrap_or (option_map (λ (x : PairError). x.error) (cond b (Some e) (find (is_pair_of p q) pairs))) error ≡ unwrap_or (or_else (when b (Some e.error)) (first_of (of_pair p q) pairs)) error
    by_test true h = refl
    by_test false h = h

pub same_error : (g : Graph) (p q : ℕ) → error_between g p q ≡ error_of g p q
same_error g p q = error_found p q g.clock_error g.clock_errors

all_in : {X : Type 0} (test : X → Bool) (xs : List X) (x : X) → list_all test xs ≡ true → IsIn x xs → test x ≡ true
all_in test [] x h m = absurd m
all_in test (y ∷ xs) x h m =
    let parts = and_parts (test y) (list_all test xs) h in
    ⊎_elim (λ (e : x ≡ y). ap test e ∙ parts.0) (λ (r : IsIn x xs). all_in test xs x parts.1 r) m

pair_small : (n : ℕ) (e : PairError) → pair_is_lawful n e ≡ true → e.error ≤ 1000000000000000
pair_small n e h = time_small e.error (and_parts (nat_lt e.a n && nat_lt e.b n && not (e.a == e.b)) (is_time e.error) h).1

stated_small : (n p q error : ℕ) (pairs : List PairError) (o : Option ℕ) → first_of (of_pair p q) pairs ≡ o → list_all (pair_is_lawful n) pairs ≡ true → error ≤ 1000000000000000 → unwrap_or o error ≤ 1000000000000000
stated_small n p q error pairs None is h small = small
stated_small n p q error pairs (Some x) is h small =
    let one = first_of_found (of_pair p q) pairs x is in
    let here = when_found (is_pair_of p q one.0) (Some one.0.error) x one.2 in
    let same : one.0.error ≡ x = same_some one.0.error x here.1 in
    let le : one.0.error ≤ 1000000000000000 = pair_small n one.0 (all_in (pair_is_lawful n) pairs one.0 h one.1) in
    omega arith

error_small : (g : Graph) (p q : ℕ) → IsLawful g → error_of g p q ≤ 1000000000000000
error_small g p q lawful =
    stated_small (length g.platforms) p q g.clock_error g.clock_errors (first_of (of_pair p q) g.clock_errors) refl lawful.pairs (time_small g.clock_error lawful.clock_error)

pub slack_small : (k : Kind) → kind_is_lawful k ≡ true → slack_of k ≤ 1000000000000000
slack_small (Send slack) h = time_small slack h
slack_small (Kind.Actuator slack) h = time_small slack h
slack_small _ h = omega arith

delay_small : (n : ℕ) (l : Link) → link_is_lawful n l ≡ true → l.delay ≤ 1000000000000000
delay_small n l h = time_small l.delay (and_parts (nat_lt l.from n && nat_lt l.to n) (is_time l.delay) h).1

-- a link gives at most three of the greatest times
pub link_bound_small : (g : Graph) (l : Link) → IsLawful g → IsIn l g.links → link_bound g l ≤ 3000000000000000
link_bound_small g l lawful m =
    let slack : slack_of (kind_of g l.from) ≤ 1000000000000000 = slack_small (kind_of g l.from) (any_kind g l.from lawful) in
    let delay : l.delay ≤ 1000000000000000 = delay_small (length g.actors) l (all_in (link_is_lawful (length g.actors)) g.links l lawful.links m) in
    let error : error_of g (platform_of g l.from) (platform_of g l.to) ≤ 1000000000000000 = error_small g (platform_of g l.from) (platform_of g l.to) lawful in
    omega (arith, slack, delay, error)

-- the link that gives a receiver its bound
link_found : (g : Graph) (a b : ℕ) → bound_by g a Receive ≡ Some b → (l : Link) × IsIn l g.links × ((l.to == a) ≡ true) × (link_bound g l ≡ b)
link_found g a b h =
    let one = first_of_found (λ (l : Link). when (l.to == a) (Some (link_bound g l))) g.links b h in
    let here = when_found (one.0.to == a) (Some (link_bound g one.0)) b one.2 in
    (one.0, one.1, here.0, same_some (link_bound g one.0) b here.1)

small_by : (g : Graph) (a b : ℕ) (k : Kind) → IsLawful g → kind_is_lawful k ≡ true → bound_by g a k ≡ Some b → b ≤ 3000000000000000
small_by g a b (Sensor file bound) lawful h e =
    let same : bound ≡ b = same_some bound b e in
    let le : bound ≤ 1000000000000000 = time_small bound (and_parts (is_file file) (is_time bound) h).1 in
    omega arith
small_by g a b Receive lawful h e =
    let one = link_found g a b e in
    let same : link_bound g one.0 ≡ b = one.3 in
    let le : link_bound g one.0 ≤ 3000000000000000 = link_bound_small g one.0 lawful one.1 in
    omega (arith, same, le)
small_by g a b _ lawful h e = absurd (none_some b e)

pub bound_small : (g : Graph) (a b : ℕ) → IsLawful g → bound_of g a ≡ Some b → b ≤ 3000000000000000
bound_small g a b lawful h = small_by g a b (kind_of g a) lawful (any_kind g a lawful) h

-- a link leads to an actor of the graph
link_to : (g : Graph) (l : Link) → IsLawful g → IsIn l g.links → l.to < length g.actors
link_to g l lawful m =
    let n = length g.actors in
    let whole = and_parts (nat_lt l.from n && nat_lt l.to n) (is_time l.delay) (all_in (link_is_lawful n) g.links l lawful.links m) in
    ltb-true l.to n (and_parts (nat_lt l.from n) (nat_lt l.to n) whole.0).1

past_receives : (g : Graph) (a b : ℕ) → IsLawful g → bound_by g a Receive ≡ Some b → a < length g.actors
past_receives g a b lawful h =
    let one = link_found g a b h in
    let same : one.0.to ≡ a = eqb-true one.0.to a one.2 in
    let below : one.0.to < length g.actors = link_to g one.0 lawful one.1 in
    omega (arith, same, below)

-- what stands for an actor past the end receives
pub past_kind : (g : Graph) (a : ℕ) → length g.actors ≤ a → kind_of g a ≡ Receive
past_kind g a more = ap (λ (x : Actor). x.kind) (get_or_past g.actors a no_actor more)

-- what has a bound is an actor of the graph
pub bound_below : (g : Graph) (a b : ℕ) → IsLawful g → bound_of g a ≡ Some b → a < length g.actors
bound_below g a b lawful h =
    ⊎_elim
    (λ (less : a < length g.actors). less)
    (λ (more : length g.actors ≤ a). past_receives g a b lawful (sym (ap (bound_by g a) (past_kind g a more)) ∙ h))
    (cases_lt a (length g.actors))

few_cells : (cells : List ℕ) → kind_is_lawful (Lanes cells) ≡ true → (1 ≤ length cells) × (length cells ≤ 8)
few_cells cells h =
    let two = and_parts (is_among 1 8 (length cells) && list_all (is_among 1 8) cells) (nat_le (sum cells) 8) h in
    let one = and_parts (is_among 1 8 (length cells)) (list_all (is_among 1 8) cells) two.0 in
    let ends = and_parts (nat_le 1 (length cells)) (nat_le (length cells) 8) one.0 in
    (leb-true 1 (length cells) ends.0, leb-true (length cells) 8 ends.1)

pub in_get : {X : Type 0} (xs : List X) (i : ℕ) (d : X) → i < length xs → IsIn (get_or xs i d) xs
in_get [] i d h = absurd (omega arith)
in_get (x ∷ xs) zero d h = inl refl
in_get (x ∷ xs) (suc i) d h = inr (in_get xs i d (omega arith))

-- an actor past the end has no bound
pub none_past : (g : Graph) (a : ℕ) (o : Option ℕ) → IsLawful g → length g.actors ≤ a → bound_of g a ≡ o → o ≡ None
none_past g a None lawful past is = refl
none_past g a (Some b) lawful past is = let below : a < length g.actors = bound_below g a b lawful is in absurd (omega arith)

-- bounds of as many actors as the graph has are those of all
pub are_bounds : (g : Graph) (bounds : List (Option ℕ)) → IsLawful g → length bounds ≡ length g.actors → ((a : ℕ) → a < length g.actors → bound_at bounds a ≡ bound_of g a) → AreBounds g bounds
are_bounds g bounds lawful len each = record {
  len = len;
  each = λ a.
      ⊎_elim
      (λ (less : a < length g.actors). each a less)
      (λ (past : length g.actors ≤ a). get_or_past bounds a None (omega arith) ∙ sym (none_past g a (bound_of g a) lawful past refl))
      (cases_lt a (length g.actors));
}

pub are_modest : (g : Graph) (bounds : List (Option ℕ)) → IsLawful g → AreBounds g bounds → AreModest bounds
are_modest g bounds lawful are a b is =
    let le : b ≤ 3000000000000000 = bound_small g a b lawful (sym (are.each a) ∙ is) in
    omega arith

-- the kind of an actor, read from the list of actors
pub kind_read : (g : Graph) (actors : List Actor) (a : ℕ) (x : Actor) → actors ≡ g.actors → a < length actors → x ≡ get_or actors a x → x.kind ≡ kind_of g a
kind_read g actors a x same less is = ap (λ (y : Actor). y.kind) (get_or_read actors a x less is no_actor ∙ ap (λ xs. get_or xs a no_actor) same)

-- a lawful kind has a unit, and few
pub some_group : (k : Kind) → kind_is_lawful k ≡ true → 0 < groups k
some_group (Lanes cells) h = let n : 1 ≤ length cells = (few_cells cells h).0 in omega arith
some_group _ h = omega arith

pub few_groups : (k : Kind) → kind_is_lawful k ≡ true → held (groups_of k) ≡ groups k
few_groups (Lanes cells) h = let n : length cells ≤ 8 = (few_cells cells h).1 in omega arith
few_groups _ h = refl

drop_one : {X : Type 0} (xs : List X) (i : ℕ) (d : X) → i < length xs → drop i xs ≡ get_or xs i d ∷ drop (i + 1) xs
drop_one xs i d less = rw (add-one) (drop-cons xs i d less)

pub first_of_skip : {X Y : Type 0} (h : X → Option Y) (xs : List X) (i : ℕ) (d : X) → i < length xs → h (get_or xs i d) ≡ None → first_of h (drop (i + 1) xs) ≡ first_of h (drop i xs)
first_of_skip h xs i d less none = sym (ap (first_of h) (drop_one xs i d less) ∙ ap (λ o. or_else o (first_of h (drop (i + 1) xs))) none)

pub when_other : {X : Type 0} (n a : ℕ) (x : Option X) → n ≢ a → when (n == a) x ≡ None
when_other n a x other = when-false (n == a) x (grind (arith, nat_tests))
