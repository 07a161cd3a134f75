-- The tables after one firing more.
use Rattle.std.proofs.Common.{◌≡◌, ◌≢◌, ℕ, ℤ, pos, zero, suc, ◌+◌, ◌<◌, ◌≤◌, ◌==◌, true, false, ⊎_elim, List, [], ◌∷◌, ◌++◌, refl, sym, ap, ap₂, ◌∙◌, arith, length, take, slice_index_or, slice_set, slice_get, Some, option_map}
use Rattle.std.specs.List.{concat}
use Rattle.std.proofs.lemmas.Bool.{cases_lt}
use Rattle.std.proofs.lemmas.Bool.Decides.{nat_tests}
use Rattle.std.proofs.lemmas.Option.{get_or_from_slice_get, slice_get_within}
use Rattle.std.proofs.lemmas.List.{append_assoc, append-nil, get_or_default, take_more}
use Rattle.pt_tags.specs.declared.tag.Tag.{Tag}
use Rattle.pt_types.specs.declared.graph.Actor.{Actor}
use Rattle.pt_types.specs.declared.kind.Kind.{Kind}
use Rattle.pt_types.specs.declared.kind.Kind.TheVariants.{Actuator}
use Rattle.pt_types.specs.declared.firing.ActorFiring.{ActorFiring}
use Rattle.pt_semantics.specs.Tables.{line, line_of, lines_of, table_of, tables_from}
use Rattle.pt_types.specs.Ports.{at_port}
use Rattle.pt_semantics.specs.Firing.{or_zero}
use Rattle.pt_types.specs.Groups.{no_actor}
use Rattle.pt_tables.specs.Gathered.{HasLine, has_table, is_actuator, texts_from}

-- for each actor a table without a line
abbrev pub no_texts : List Actor → List (List ℕ)
no_texts [] = []
no_texts (actor ∷ actors) = [] ∷ no_texts actors

-- what stands for a firing past a list's end
abbrev pub no_firing : ActorFiring
no_firing = record { actor = 0; tag = record { time = 0; step = 0 }; inputs = []; before = pos 0; after = pos 0; outputs = [] }

lines_append : (a : ℕ) (name : List ℕ) (xs : List ActorFiring) (x : ActorFiring) → lines_of a name (xs ++ x ∷ []) ≡ lines_of a name xs ++ line_of a name x
lines_append a name [] x = append-nil (line_of a name x)
lines_append a name (y ∷ xs) x = ap (λ ls. line_of a name y ++ ls) (lines_append a name xs x) ∙ sym (append_assoc (line_of a name y) (lines_of a name xs) (line_of a name x))

other_line : (a : ℕ) (name : List ℕ) (x : ActorFiring) → x.actor ≢ a → line_of a name x ≡ []
other_line a name x ne = let off : (x.actor == a) ≡ false = grind (arith, nat_tests, ne) in rw off refl

-- the firing of another actor adds nothing
same_table : (a : ℕ) (name : List ℕ) (kind : Kind) (xs : List ActorFiring) (x : ActorFiring) → x.actor ≢ a → table_of a name kind (xs ++ x ∷ []) ≡ table_of a name kind xs
same_table a name (Actuator slack) xs x ne = lines_append a name xs x ∙ ap (λ ls. lines_of a name xs ++ ls) (other_line a name x ne) ∙ append-nil (lines_of a name xs)
same_table a name _ xs x ne = refl

-- a firing of an actor that stands before these, or past them
same_before : (s : ℕ) (actors : List Actor) (xs : List ActorFiring) (x : ActorFiring) → x.actor < s → texts_from s actors (xs ++ x ∷ []) ≡ texts_from s actors xs
same_before s [] xs x low = refl
same_before s (y ∷ actors) xs x low =
    ap₂ (λ t ts. t ∷ ts) (same_table s y.name y.kind xs x (λ e. absurd (omega (arith, e, low)))) (same_before (suc s) actors xs x (omega (arith, low)))

pub same_past : (s : ℕ) (actors : List Actor) (xs : List ActorFiring) (x : ActorFiring) → s + length actors ≤ x.actor → texts_from s actors (xs ++ x ∷ []) ≡ texts_from s actors xs
same_past s [] xs x high = refl
same_past s (y ∷ actors) xs x high =
    ap₂ (λ t ts. t ∷ ts) (same_table s y.name y.kind xs x (λ e. absurd (omega (arith, e, high)))) (same_past (suc s) actors xs x (omega (arith, high)))

-- a firing of the actor at i of these, whose table is the same
at_same : (s : ℕ) (actors : List Actor) (xs : List ActorFiring) (x : ActorFiring) (i : ℕ) (d : Actor) → x.actor ≡ s + i → i < length actors
    → ((a : ℕ) (name : List ℕ) → table_of a name (slice_index_or actors i d).kind (xs ++ x ∷ []) ≡ table_of a name (slice_index_or actors i d).kind xs)
    → texts_from s actors (xs ++ x ∷ []) ≡ texts_from s actors xs
at_same s [] xs x i d is h same = refl
at_same s (y ∷ actors) xs x zero d is h same = ap₂ (λ t ts. t ∷ ts) (same s y.name) (same_before (suc s) actors xs x (omega (arith, is)))
at_same s (y ∷ actors) xs x (suc i) d is h same =
    ap₂ (λ t ts. t ∷ ts) (same_table s y.name y.kind xs x (λ e. absurd (omega (arith, e, is)))) (at_same (suc s) actors xs x i d (omega (arith, is)) (omega (arith, h)) same)

-- a firing of the actuator at i of these
at_more : (s : ℕ) (actors : List Actor) (xs : List ActorFiring) (x : ActorFiring) (i : ℕ) (d : Actor) (slack : ℕ) → x.actor ≡ s + i → i < length actors → (slice_index_or actors i d).kind ≡ Actuator slack
    → texts_from s actors (xs ++ x ∷ []) ≡ slice_set (texts_from s actors xs) i (slice_index_or (texts_from s actors xs) i [] ++ line_of x.actor (slice_index_or actors i d).name x)
at_more s [] xs x i d slack is h kind = refl
at_more s (y ∷ actors) xs x zero d slack is h kind =
    let here : s ≡ x.actor = omega (arith, is) in
    ap₂ (λ t ts. t ∷ ts)
    (ap (λ k. table_of s y.name k (xs ++ x ∷ [])) kind ∙ lines_append s y.name xs x
    ∙ ap₂ (λ k a. table_of s y.name k xs ++ line_of a y.name x) (sym kind) here)
    (same_before (suc s) actors xs x (omega (arith, is)))
at_more s (y ∷ actors) xs x (suc i) d slack is h kind =
    ap₂ (λ t ts. t ∷ ts) (same_table s y.name y.kind xs x (λ e. absurd (omega (arith, e, is)))) (at_more (suc s) actors xs x i d slack (omega (arith, is)) (omega (arith, h)) kind)

-- all tables, one after another
pub all_texts : (s : ℕ) (actors : List Actor) (xs : List ActorFiring) → concat (texts_from s actors xs) ≡ tables_from s actors xs
all_texts s [] xs = refl
all_texts s (y ∷ actors) xs = ap (λ ts. table_of s y.name y.kind xs ++ ts) (all_texts (suc s) actors xs)

nothing_yet : (a : ℕ) (name : List ℕ) (kind : Kind) → [] ≡ table_of a name kind []
nothing_yet a name (Actuator slack) = refl
nothing_yet a name _ = refl

pub none_yet : (s : ℕ) (actors : List Actor) → no_texts actors ≡ texts_from s actors []
none_yet s [] = refl
none_yet s (y ∷ actors) = ap₂ (λ t ts. t ∷ ts) (nothing_yet s y.name y.kind) (none_yet (suc s) actors)

pub length_texts : (s : ℕ) (actors : List Actor) (xs : List ActorFiring) → length (texts_from s actors xs) ≡ length actors
length_texts s [] xs = refl
length_texts s (y ∷ actors) xs = ap suc (length_texts (suc s) actors xs)

-- the actor of the firing at a place
pub actor_of : (xs : List ActorFiring) (i n : ℕ) (d : ActorFiring) → i < length xs → Some n ≡ option_map (λ (x : ActorFiring). x.actor) (slice_get xs i) → n ≡ (slice_index_or xs i d).actor
actor_of [] i n d h is = absurd (omega arith)
actor_of (x ∷ xs) zero n d h is = cc
actor_of (x ∷ xs) (suc i) n d h is = actor_of xs i n d (omega arith) is

own_line : (name : List ℕ) (x : ActorFiring) → line_of x.actor name x ≡ line name x.tag (or_zero (at_port x.inputs 0))
own_line name x = let same : (x.actor == x.actor) ≡ true = grind (arith, nat_tests) in rw same refl

no_table : (kind : Kind) → is_actuator kind ≡ false → (a : ℕ) (name : List ℕ) (xs : List ActorFiring) → table_of a name kind xs ≡ []
no_table (Actuator slack) h a name xs = cc
no_table _ h a name xs = refl

the_slack : (kind : Kind) → is_actuator kind ≡ true → (slack : ℕ) × (kind ≡ Actuator slack)
the_slack (Actuator slack) h = (slack, refl)
the_slack _ h = cc

-- the firing of an actor that is no actuator adds nothing
pub adds_nothing : (actors : List Actor) (xs : List ActorFiring) (x : ActorFiring) → has_table actors x.actor ≡ false → texts_from 0 actors (xs ++ x ∷ []) ≡ texts_from 0 actors xs
adds_nothing actors xs x none =
    ⊎_elim
    (λ (within : x.actor < length actors).
    at_same 0 actors xs x x.actor no_actor (omega arith) within
    (λ a name. let no = no_table (slice_index_or actors x.actor no_actor).kind none a name in no (xs ++ x ∷ []) ∙ sym (no xs)))
    (λ (past : length actors ≤ x.actor). same_past 0 actors xs x (omega arith))
    (cases_lt x.actor (length actors))

-- the firing of an actuator adds its line to its table
pub adds_line : (actors : List Actor) (xs : List ActorFiring) (x : ActorFiring) (name : List ℕ) → has_table actors x.actor ≡ true → x.actor < length actors → name ≡ (slice_index_or actors x.actor no_actor).name
    → texts_from 0 actors (xs ++ x ∷ []) ≡ slice_set (texts_from 0 actors xs) x.actor (slice_index_or (texts_from 0 actors xs) x.actor [] ++ line name x.tag (or_zero (at_port x.inputs 0)))
adds_line actors xs x name has within called =
    let s = the_slack (slice_index_or actors x.actor no_actor).kind has in
    at_more 0 actors xs x x.actor no_actor s.0 (omega arith) within s.1
    ∙ ap (λ l. slice_set (texts_from 0 actors xs) x.actor (slice_index_or (texts_from 0 actors xs) x.actor [] ++ l))
    (own_line (slice_index_or actors x.actor no_actor).name x ∙ ap (λ n. line n x.tag (or_zero (at_port x.inputs 0))) (sym called))

-- an actor that has a table is one of these
pub table_within : (actors : List Actor) (a : ℕ) → has_table actors a ≡ true → a < length actors
table_within [] a h = cc
table_within (x ∷ actors) zero h = omega arith
table_within (x ∷ actors) (suc a) h = let below = table_within actors a h in omega (arith, below)

-- the line of a firing is added
pub line_added : (actors : List Actor) (xs : List ActorFiring) (x : ActorFiring) (actor : ℕ) (tag : Tag) (value : ℤ) (old now : List (List ℕ)) (a : Actor) (name : List ℕ) → old ≡ texts_from 0 actors xs → HasLine actor tag value x → has_table actors actor ≡ true
    → a ≡ slice_index_or actors actor a → name ≡ (slice_index_or actors actor a).name → now ≡ slice_set old actor (slice_index_or old actor [] ++ line name tag value) → now ≡ texts_from 0 actors (xs ++ x ∷ [])
line_added actors xs x actor tag value old now a name are is has at called put =
    let has_x : has_table actors x.actor ≡ true = ap (has_table actors) is.by ∙ has in
    let within : x.actor < length actors = table_within actors x.actor has_x in
    let named : name ≡ (slice_index_or actors x.actor no_actor).name =
    called ∙ ap (λ n. (slice_index_or actors n a).name) (sym is.by) ∙ ap (λ (y : Actor). y.name) (get_or_default actors x.actor a no_actor within) in
    put
    ∙ ap₂ (λ ts n. slice_set ts n (slice_index_or ts n [] ++ line name tag value)) are (sym is.by)
    ∙ ap₂ (λ t v. slice_set (texts_from 0 actors xs) x.actor (slice_index_or (texts_from 0 actors xs) x.actor [] ++ line name t v)) (sym is.at) (sym is.with_value)
    ∙ sym (adds_line actors xs x name has_x within named)

-- and nothing, where it is no actuator's
pub line_left_out : (actors : List Actor) (xs : List ActorFiring) (x : ActorFiring) (actor : ℕ) (tag : Tag) (value : ℤ) (old : List (List ℕ)) → old ≡ texts_from 0 actors xs → HasLine actor tag value x → has_table actors actor ≡ false → old ≡ texts_from 0 actors (xs ++ x ∷ [])
line_left_out actors xs x actor tag value old are is none = are ∙ sym (adds_nothing actors xs x (ap (has_table actors) is.by ∙ none))

-- there is a table for each actuator
pub table_there : (actors : List Actor) (xs : List ActorFiring) (actor : ℕ) (old : List (List ℕ)) → old ≡ texts_from 0 actors xs → has_table actors actor ≡ true → actor < length old
table_there actors xs actor old are has =
    let within = table_within actors actor has in
    let same : length old ≡ length actors = ap length are ∙ length_texts 0 actors xs in
    omega (arith, within, same)

-- the firing at a place, and the firings up to it
pub firing_at : (firings : List ActorFiring) (place : ℕ) (x : ActorFiring) → slice_get firings place ≡ Some x → take (place + 1) firings ≡ take place firings ++ x ∷ []
firing_at firings place x there =
    take_more firings place x (slice_get_within firings place x there) ∙ ap (λ y. take place firings ++ y ∷ []) (get_or_from_slice_get firings place x x there)
