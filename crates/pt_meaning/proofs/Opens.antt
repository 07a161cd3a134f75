-- What waits at the start: one event more, one actor more, one row more, one sensor more.
use Rattle.std.proofs.Common.{◌≡◌, ℕ, suc, ◌+◌, ◌<◌, ◌≤◌, ◌==◌, ◌&&◌, ◌||◌, Bool, true, false, cond, nat_lt, nat_le, Some, None, Option, ℤ, pos, List, [], ◌∷◌, ◌++◌, refl, sym, ap, ap₂, ◌∙◌, arith, lt-ltb, drop, drop-cons, get_or, length}
use Rattle.std.proofs.lemmas.Bool.Decides.{nat_tests}
use Rattle.std.proofs.lemmas.List.{drop_all, get_or_past, get_or_default}
use Rattle.pt_tags.specs.declared.tag.Tag.{Tag}
use Rattle.pt_tags.specs.Tags.{same_tag}
use Rattle.pt_types.specs.declared.graph.Graph.{Graph}
use Rattle.pt_types.specs.declared.graph.Actor.{Actor}
use Rattle.pt_types.specs.declared.rows.Row.{Row}
use Rattle.pt_types.specs.declared.kind.Kind.{Kind}
use Rattle.pt_types.specs.declared.kind.Kind.TheVariants.{Every}
use Rattle.pt_types.specs.Ports.{when}
use Rattle.pt_semantics.specs.Lists.{or_else}
use Rattle.pt_types.specs.Groups.{no_actor}
use Rattle.pt_types.specs.Lookups.{kind_of}
use Rattle.pt_semantics.specs.Meaning.{Values, added, at_time, start_at, row_at, rows_until, opening}
use Rattle.pt_sensors.specs.declared.sensor_rows.SensorRows.{SensorRows}
use Rattle.pt_meaning.specs.declared.place.EventPlace.{EventPlace}
use Rattle.pt_meaning.specs.Waiting.{value_at}
use Rattle.pt_meaning.specs.Opening.{start_event, start_one, starts_below, rows_of_actor, rows_from_sensors}
use Rattle.pt_sensors.specs.Listed.{rows_for}

flip : (p : ℕ) → (0 == p) ≡ (p == 0)
flip p = grind (arith, nat_tests)

-- an event that is put at input 0
pub begin_value : (place : EventPlace) (actor time : ℕ) (v : ℤ) → place.tag ≡ at_time time → place.actor ≡ actor → place.port ≡ 0 → value_at place v ≡ start_event actor time v
begin_value place actor time v tag is port = λ i a p t. at a p t i
  where
    at : (a p : ℕ) (t : Tag) → value_at place v a p t ≡ start_event actor time v a p t
    at a p t =
        ap (λ (q : Tag). when (place.actor == a && place.port == p && same_tag q t) (Some v)) tag
        ∙ ap₂ (λ x y. when (x == a && y == p && same_tag (at_time time) t) (Some v)) is port
        ∙ ap (λ b. when (actor == a && b && same_tag (at_time time) t) (Some v)) (flip p)

nothing_new : (b : Bool) (x : Option ℤ) → x ≡ or_else x (when b None)
nothing_new true None = refl
nothing_new true (Some v) = refl
nothing_new false None = refl
nothing_new false (Some v) = refl

two_tests : (b time c : Bool) (v : ℤ) → time ≡ true → when (b && c) (Some v) ≡ when b (when (time && c) (Some v))
two_tests true time c v h = rw h refl
two_tests false time c v h = refl

-- an actor that begins by itself within the horizon
pub start_within : (g : Graph) (actor start period : ℕ) → start ≤ g.until → start_event actor start (pos 0) ≡ start_one g actor (Every start period)
start_within g actor start period within = λ i a p t. two_tests (actor == a && p == 0) (nat_lt start (suc g.until)) (same_tag (at_time start) t) (pos 0) (lt-ltb start (suc g.until) (omega arith)) i

-- one that doesn't
past : (b c : Bool) (v : Option ℤ) → b ≡ false → when (b && c) v ≡ None
past b c v h = rw h refl

pub start_past : (g : Graph) (actor start period : ℕ) (w : Values) → g.until < start → w ≡ added w (start_one g actor (Every start period))
start_past g actor start period w h = λ i a p t. at a p t i
  where
    late : nat_lt start (suc g.until) ≡ false
    late = grind (arith, nat_tests)

    at : (a p : ℕ) (t : Tag) → w a p t ≡ added w (start_one g actor (Every start period)) a p t
    at a p t = nothing_new (actor == a && p == 0) (w a p t) ∙ ap (λ x. or_else (w a p t) (when (actor == a && p == 0) x)) (sym (past (nat_lt start (suc g.until)) (same_tag (at_time start) t) (Some (pos 0)) late))

-- a kind that never begins by itself
pub start_none : (g : Graph) (actor : ℕ) (kind : Kind) (w : Values) → ((t : Tag) → start_at g kind t ≡ None) → w ≡ added w (start_one g actor kind)
start_none g actor kind w none = λ i a p t. at a p t i
  where
    at : (a p : ℕ) (t : Tag) → w a p t ≡ added w (start_one g actor kind) a p t
    at a p t = nothing_new (actor == a && p == 0) (w a p t) ∙ ap (λ x. or_else (w a p t) (when (actor == a && p == 0) x)) (sym (none t))

-- one actor more
joined : (below here : Bool) (x y : Option ℤ) (port : Bool) → (below ≡ true → here ≡ false) → (here ≡ true → y ≡ x) → (upto : Bool) → upto ≡ (below || here)
    → or_else (when (below && port) x) (when (here && port) y) ≡ when (upto && port) x
joined true here x y port apart same upto is = rw (is, apart refl) (or_none (when (port) x))
  where
    or_none : (z : Option ℤ) → or_else z None ≡ z
    or_none None = refl
    or_none (Some v) = refl
joined false true x y port apart same upto is = rw (is, same refl) refl
joined false false x y port apart same upto is = rw is refl

pub starts_more : (g : Graph) (n : ℕ) (kind : Kind) → kind ≡ kind_of g n → added (starts_below g n) (start_one g n kind) ≡ starts_below g (n + 1)
starts_more g n kind is = λ i a p t. at a p t i
  where
    at : (a p : ℕ) (t : Tag) → added (starts_below g n) (start_one g n kind) a p t ≡ starts_below g (n + 1) a p t
    at a p t =
        joined (nat_lt a n) (n == a) (start_at g (kind_of g a) t) (start_at g kind t) (p == 0)
        (λ h. grind (arith, nat_tests))
        (λ h. let e : n ≡ a = grind (arith, nat_tests) in ap (λ k. start_at g k t) (is ∙ ap (kind_of g) e))
        (nat_lt a (n + 1)) (grind (arith, nat_tests))

abbrev pub none_waits : Values
none_waits a p t = None

pub starts_none : (g : Graph) → none_waits ≡ starts_below g 0
starts_none g = λ i a p t. zero_below a p t i
  where
    zero_below : (a p : ℕ) (t : Tag) → None ≡ starts_below g 0 a p t
    zero_below a p t = let none : nat_lt a 0 ≡ false = grind (arith, nat_tests) in rw none refl

or_assoc : (x y z : Option ℤ) → or_else (or_else x y) z ≡ or_else x (or_else y z)
or_assoc None y z = refl
or_assoc (Some v) y z = refl

or_none : (x : Option ℤ) → or_else x None ≡ x
or_none None = refl
or_none (Some v) = refl

-- one member more of a list whose values follow each other, from an index on
pub on_from : {X : Type 0} (all : List X → Values) (one : X → Values) → ((x : X) (xs : List X) → all (x ∷ xs) ≡ added (one x) (all xs)) → (w now : Values) (xs : List X) (i : ℕ) (d : X)
    → i < length xs → now ≡ added w (one (get_or xs i d)) → added now (all (drop (i + 1) xs)) ≡ added w (all (drop i xs))
on_from all one step w now xs i d within is =
    let next : i + 1 ≡ suc i = omega arith in
    ap₂ (λ x n. added x (all (drop n xs))) is next
    ∙ (λ j a p t. or_assoc (w a p t) (one (get_or xs i d) a p t) (all (drop (suc i) xs) a p t) j)
    ∙ ap (added w) (sym (step (get_or xs i d) (drop (suc i) xs)))
    ∙ ap (λ ys. added w (all ys)) (sym (drop-cons xs i d within))

-- no member is left
pub on_end : {X : Type 0} (all : List X → Values) → all [] ≡ none_waits → (w : Values) (xs : List X) (i : ℕ) → length xs ≤ i → w ≡ added w (all (drop i xs))
on_end all none w xs i past =
    (λ j a p t. sym (or_none (w a p t)) j)
    ∙ ap (added w) (sym none)
    ∙ ap (λ ys. added w (all ys)) (sym (drop_all i xs past))

-- the rows of one list and then of another
kept_append : (until : ℕ) (b : Bool) (x : Row) (xs ys : List Row) (t : Tag) → row_at (rows_until until (xs ++ ys)) t ≡ or_else (row_at (rows_until until xs) t) (row_at (rows_until until ys) t)
    → row_at (cond b (x ∷ rows_until until (xs ++ ys)) (rows_until until (xs ++ ys))) t ≡ or_else (row_at (cond b (x ∷ rows_until until xs) (rows_until until xs)) t) (row_at (rows_until until ys) t)
kept_append until true x xs ys t h = ap (or_else (when (same_tag (at_time x.time) t) (Some x.value))) h ∙ sym (or_assoc (when (same_tag (at_time x.time) t) (Some x.value)) (row_at (rows_until until xs) t) (row_at (rows_until until ys) t))
kept_append until false x xs ys t h = h

rows_append : (until : ℕ) (xs ys : List Row) (t : Tag) → row_at (rows_until until (xs ++ ys)) t ≡ or_else (row_at (rows_until until xs) t) (row_at (rows_until until ys) t)
rows_append until [] ys t = refl
rows_append until (x ∷ xs) ys t = kept_append until (nat_le x.time until) x xs ys t (rows_append until xs ys t)

when_or : (b : Bool) (x y : Option ℤ) → when b (or_else x y) ≡ or_else (when b x) (when b y)
when_or true x y = refl
when_or false x y = refl

pub rows_step : (until actor : ℕ) (x : Row) (xs : List Row) → rows_of_actor until actor (x ∷ xs) ≡ added (rows_of_actor until actor (x ∷ [])) (rows_of_actor until actor xs)
rows_step until actor x xs = λ i a p t. at a p t i
  where
    at : (a p : ℕ) (t : Tag) → rows_of_actor until actor (x ∷ xs) a p t ≡ added (rows_of_actor until actor (x ∷ [])) (rows_of_actor until actor xs) a p t
    at a p t = ap (when (actor == a && p == 0)) (rows_append until (x ∷ []) xs t) ∙ when_or (actor == a && p == 0) (row_at (rows_until until (x ∷ [])) t) (row_at (rows_until until xs) t)

abbrev no_value : Option ℤ
no_value = None

none_of : (b : Bool) → when b no_value ≡ no_value
none_of true = refl
none_of false = refl

pub rows_end : (until actor : ℕ) → rows_of_actor until actor [] ≡ none_waits
rows_end until actor = λ i a p t. none_of (actor == a && p == 0) i

one_sensor : (until actor : ℕ) (rows : List Row) (b port : Bool) (t : Tag) → when port (row_at (rows_until until (cond b rows [])) t) ≡ when (b && port) (row_at (rows_until until rows) t)
one_sensor until actor rows true port t = refl
one_sensor until actor rows false true t = refl
one_sensor until actor rows false false t = refl

pub sensors_step : (until : ℕ) (s : SensorRows) (sensors : List SensorRows) → rows_from_sensors until (s ∷ sensors) ≡ added (rows_of_actor until s.actor s.rows) (rows_from_sensors until sensors)
sensors_step until s sensors = λ i a p t. at a p t i
  where
    at : (a p : ℕ) (t : Tag) → rows_from_sensors until (s ∷ sensors) a p t ≡ added (rows_of_actor until s.actor s.rows) (rows_from_sensors until sensors) a p t
    at a p t =
        ap (when (p == 0)) (rows_append until (cond (s.actor == a) s.rows []) (rows_for sensors a) t)
        ∙ when_or (p == 0) (row_at (rows_until until (cond (s.actor == a) s.rows [])) t) (row_at (rows_until until (rows_for sensors a)) t)
        ∙ ap (λ x. or_else x (when (p == 0) (row_at (rows_until until (rows_for sensors a)) t))) (one_sensor until s.actor s.rows (s.actor == a) (p == 0) t)

pub sensors_end : (until : ℕ) → rows_from_sensors until [] ≡ none_waits
sensors_end until = λ i a p t. none_of (p == 0) i

-- past the graph's last actor nobody begins
start_past_end : (g : Graph) (a : ℕ) (t : Tag) → length g.actors ≤ a → start_at g (kind_of g a) t ≡ None
start_past_end g a t h = ap (λ (x : Actor). start_at g x.kind t) (get_or_past g.actors a no_actor h)

all_starts : (g : Graph) (a : ℕ) (t : Tag) (b : Bool) (port : Bool) → (b ≡ false → length g.actors ≤ a) → when (b && port) (start_at g (kind_of g a) t) ≡ when port (start_at g (kind_of g a) t)
all_starts g a t true port h = refl
all_starts g a t false true h = sym (start_past_end g a t (h refl))
all_starts g a t false false h = refl

-- all starting events and all rows are what waits at the start
pub opens : (g : Graph) (sensors : List SensorRows) → added (starts_below g (length g.actors)) (rows_from_sensors g.until sensors) ≡ opening g (λ a. rows_until g.until (rows_for sensors a))
opens g sensors = λ i a p t. at a p t i
  where
    at : (a p : ℕ) (t : Tag) → added (starts_below g (length g.actors)) (rows_from_sensors g.until sensors) a p t ≡ opening g (λ a. rows_until g.until (rows_for sensors a)) a p t
    at a p t =
        ap (λ x. or_else x (rows_from_sensors g.until sensors a p t)) (all_starts g a t (nat_lt a (length g.actors)) (p == 0) (λ h. grind (arith, nat_tests)))
        ∙ sym (when_or (p == 0) (start_at g (kind_of g a) t) (row_at (rows_until g.until (rows_for sensors a)) t))

-- what a read of the actors gives is the actor's kind
pub kind_read : (g : Graph) (items : List Actor) (a : ℕ) (x : Actor) → items ≡ g.actors → a < length g.actors → x ≡ get_or items a x → x.kind ≡ kind_of g a
kind_read g items a x same lt h = ap (λ (y : Actor). y.kind) (h ∙ ap (λ l. get_or l a x) same ∙ get_or_default g.actors a x no_actor lt)

abbrev pub no_row : Row
no_row = record { time = 0; seen = 0; value = pos 0 }

abbrev pub no_sensor : SensorRows
no_sensor = record { actor = 0; rows = [] }
