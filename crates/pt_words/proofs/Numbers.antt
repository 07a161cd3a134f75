-- The numbers of an order are in their bounds.
use Rattle.std.proofs.Common.{◌≡◌, ℕ, ◌≤◌, ◌&&◌, Bool, true, false, List, [], ◌∷◌, Option, None, Some, Result, Ok, Err, IfOk, IfSome, map, nat_le, option_map, option_and_then, string_bytes, if◌then◌else◌, refl, sym, subst, arith}
use Rattle.std.specs.Prelude.{String}
use Rattle.std.specs.Str.Parse.{digits_value}
use Rattle.std.specs.declared.alloc.AllocError.{AllocError}
use Rattle.std.specs.declared.alloc.Global.{Global}
use Rattle.std.proofs.lemmas.Bool.{and_parts}
use Rattle.std.proofs.lemmas.Bool.Decides.{nat_tests}
use Rattle.pt_words.specs.declared.orders.Command.TheVariants as command
use Rattle.pt_words.specs.declared.orders.Order as declared
use Rattle.pt_words.specs.declared.words.Verb.{Verb}
use Rattle.pt_words.specs.declared.words.Verb.TheVariants.{Run, Check, Meaning, Make, Migrate, Slacks, Audit, Replay}
use Rattle.pt_words.specs.Claims.{AreFewClaims, HasFewClaims}
use Rattle.pt_words.specs.Grammar.{GraphFile, Order, audit, audit_of, claims_in, claims_of, clock_in, file_of, greatest_claims, is_bare, is_numeral, log_in, made_number_of, make, make_of, meaning_of, migrate, number_within, only_word, order_by, order_of, order_over, order_with, over, pair_in, replay, replay_of, run_of, usual_claims, usual_file, verb_of, workers_in}
use Rattle.pt_words.specs.Said.{Said, among, said}
use Rattle.pt_words.specs.Views.{in_words}

-- the claims are few, and the number of a `make` is at most 100
abbrev IsBounded : Order → Type 0
IsBounded (over command graph) = HasFewClaims (over command graph)
IsBounded (make number workers) = number ≤ 100
IsBounded (migrate graph) = HasFewClaims (migrate graph)
IsBounded (audit graph log) = HasFewClaims (audit graph log)
IsBounded (replay graph air workers log) = HasFewClaims (replay graph air workers log)

-- what comes of an option is so if it is so for each value
and_then_each : {X Y : Type 0} (P : Y → Type 0) (f : X → Option Y) (o : Option X) → ((x : X) → IfSome (f x) P) → IfSome (option_and_then f o) P
and_then_each P f None each = tt
and_then_each P f (Some x) each = each x

and_then_holds : {X Y : Type 0} (Q : X → Type 0) (P : Y → Type 0) (f : X → Option Y) (o : Option X) → IfSome o Q → ((x : X) → Q x → IfSome (f x) P) → IfSome (option_and_then f o) P
and_then_holds Q P f None has each = tt
and_then_holds Q P f (Some x) has each = each x has

map_each : {X Y : Type 0} (P : Y → Type 0) (f : X → Y) (o : Option X) → ((x : X) → P (f x)) → IfSome (option_map f o) P
map_each P f None each = tt
map_each P f (Some x) each = each x

map_holds : {X Y : Type 0} (Q : X → Type 0) (P : Y → Type 0) (f : X → Y) (o : Option X) → IfSome o Q → ((x : X) → Q x → P (f x)) → IfSome (option_map f o) P
map_holds Q P f None has each = tt
map_holds Q P f (Some x) has each = each x has

if_holds : {Y : Type 0} (P : Y → Type 0) (b : Bool) (o : Option Y) → IfSome o P → IfSome (if b then o else None) P
if_holds P true o has = has
if_holds P false o has = tt

within : (low high : ℕ) (word : List ℕ) → IfSome (number_within low high word) (λ n. (low ≤ n) × (n ≤ high))
unfolding number_within
within low high word =
    let number = digits_value 10 word in
    elim (is_numeral word && (nat_le low number && nat_le number high)) as (λ b. is_numeral word && (nat_le low number && nat_le number high) ≡ b → IfSome (if b then Some number else None) (λ n. (low ≤ n) × (n ≤ high))) [
      | true ↦ λ e.
          let both = and_parts (nat_le low number) (nat_le number high) (and_parts (is_numeral word) (nat_le low number && nat_le number high) e).1 in
          (le_of low number both.0, le_of number high both.1)
      | false ↦ λ e. tt
    ] refl
  where
    le_of : (a b : ℕ) → nat_le a b ≡ true → a ≤ b
    le_of a b e = grind (arith, nat_tests)

claims_few : (values : List (List ℕ)) → IfSome (claims_in values) AreFewClaims
unfolding claims_of
claims_few [] = (omega arith, omega arith)
claims_few (value ∷ []) = within usual_claims greatest_claims value
claims_few (value ∷ next ∷ more) = tt

abbrev IsFew : GraphFile → Type 0
IsFew graph = AreFewClaims graph.claims

file_few : (words : Said) (name : List ℕ) → IfSome (file_of words name) IsFew
file_few words name = map_holds AreFewClaims IsFew (λ claims. record { name = name; claims = claims }) (claims_in words.claims) (claims_few words.claims) (λ claims few. few)

made_bounded : (words : Said) (word : List ℕ) → IfSome (make_of words word) IsBounded
unfolding made_number_of
made_bounded words word =
    if_holds IsBounded _ _ (and_then_holds (λ n. (1 ≤ n) × (n ≤ 100)) IsBounded _ (made_number_of word) (within 1 100 word)
    (λ number small. map_each IsBounded (make number) (workers_in words.workers) (λ workers. small.1)))

run_bounded : (words : Said) (name : List ℕ) → IfSome (run_of words name) IsBounded
run_bounded words name =
    and_then_each IsBounded _ (workers_in words.workers) (λ workers. and_then_each IsBounded _ (clock_in words.clocks) (λ clock. and_then_each IsBounded _ (log_in words.logs)
    (λ log. map_holds IsFew IsBounded (over (command.Run workers clock log)) (file_of words name) (file_few words name) (λ graph few. few))))

meaning_bounded : (words : Said) (name : List ℕ) → IfSome (meaning_of words name) IsBounded
meaning_bounded words name =
    if_holds IsBounded _ _ (map_holds IsFew IsBounded (over command.Meaning) (file_of words name) (file_few words name) (λ graph few. few))

over_bounded : (verb : Verb) (words : Said) (word : List ℕ) → IfSome (order_over verb words word) IsBounded
over_bounded Run words word = run_bounded words word
over_bounded Check words word = if_holds IsBounded (is_bare words) (Some (over command.Check (usual_file word))) refl
over_bounded Meaning words word = meaning_bounded words word
over_bounded Make words word = made_bounded words word
over_bounded Migrate words word = if_holds IsBounded (is_bare words) (Some (migrate (usual_file word))) refl
over_bounded Slacks words word = if_holds IsBounded (is_bare words) (Some (over command.Slacks (usual_file word))) refl
over_bounded Audit words word = tt
over_bounded Replay words word = tt

audit_bounded : (words : Said) → IfSome (audit_of words) IsBounded
audit_bounded words =
    if_holds IsBounded _ _ (and_then_each IsBounded _ (pair_in words.graphs)
    (λ pair. map_holds IsFew IsBounded (λ graph. audit graph pair.1) (file_of words pair.0) (file_few words pair.0) (λ graph few. few)))

replay_bounded : (words : Said) → IfSome (replay_of words) IsBounded
replay_bounded words =
    if_holds IsBounded _ _ (and_then_each IsBounded _ (pair_in words.graphs)
    (λ pair. and_then_each IsBounded _ (workers_in words.workers) (λ workers. and_then_each IsBounded _ (log_in words.logs)
    (λ log. map_holds IsFew IsBounded (λ graph. replay graph pair.1 workers log) (file_of words pair.0) (file_few words pair.0) (λ graph few. few)))))

by_bounded : (verb : Verb) (words : Said) → IfSome (order_by verb words) IsBounded
by_bounded Run words = and_then_each IsBounded (order_over Run words) (only_word words.graphs) (over_bounded Run words)
by_bounded Check words = and_then_each IsBounded (order_over Check words) (only_word words.graphs) (over_bounded Check words)
by_bounded Meaning words = and_then_each IsBounded (order_over Meaning words) (only_word words.graphs) (over_bounded Meaning words)
by_bounded Make words = and_then_each IsBounded (order_over Make words) (only_word words.graphs) (over_bounded Make words)
by_bounded Migrate words = and_then_each IsBounded (order_over Migrate words) (only_word words.graphs) (over_bounded Migrate words)
by_bounded Slacks words = and_then_each IsBounded (order_over Slacks words) (only_word words.graphs) (over_bounded Slacks words)
by_bounded Audit words = audit_bounded words
by_bounded Replay words = replay_bounded words

with_bounded : (verb : Verb) (words : List (List ℕ)) → IfSome (order_with verb words) IsBounded
with_bounded verb words = and_then_each IsBounded (order_by verb) (said among words) (by_bounded verb)

bounded : (words : List (String Global)) → IfSome (order_of words) IsBounded
bounded [] = tt
bounded (word ∷ words) = and_then_each IsBounded (λ verb. order_with verb (map string_bytes words)) (verb_of (string_bytes word)) (λ verb. with_bounded verb (map string_bytes words))

pub made_number : (words : List (String Global)) (n k : ℕ) → order_of words ≡ Some (make n k) → n ≤ 100
made_number words n k h = subst (λ o. IfSome o IsBounded) h (bounded words)

few_of : (order : Order) → IsBounded order → HasFewClaims order
few_of (over command graph) is = is
few_of (make number workers) is = tt
few_of (migrate graph) is = is
few_of (audit graph log) is = is
few_of (replay graph air workers log) is = is

few_each : (o : Option Order) → IfSome o IsBounded → IfSome o HasFewClaims
few_each None is = tt
few_each (Some order) is = few_of order is

-- the claims of each order are few
pub few_claims : (words : List (String Global)) → IfSome (order_of words) HasFewClaims
few_claims words = few_each (order_of words) (bounded words)

-- the claims of a command's order are few
few_with : (verb : Verb) (words : List (List ℕ)) (order : Option declared.Order) → option_map in_words order ≡ order_with verb words → IfSome order (λ order. HasFewClaims (in_words order))
few_with verb words None h = tt
few_with verb words (Some order) h = few_of (in_words order) (subst (λ o. IfSome o IsBounded) (sym h) (with_bounded verb words))

pub few_in_result : (verb : Verb) (words : List (List ℕ)) (result : Result (Option declared.Order) AllocError) → IfOk result (λ order. option_map in_words order ≡ order_with verb words)
    → IfOk result (λ order. IfSome order (λ order. HasFewClaims (in_words order)))
few_in_result verb words (Ok order) h = few_with verb words order h
few_in_result verb words (Err e) h = tt
