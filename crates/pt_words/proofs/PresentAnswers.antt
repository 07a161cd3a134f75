-- Without `--claims` the grammar gives what it gave before.
use Rattle.std.proofs.Common.{◌≡◌, ℕ, suc, ◌+◌, ◌==◌, ◌||◌, Bool, true, false, List, [], ◌∷◌, Option, None, Some, map, take, option_map, option_and_then, string_bytes, codes, if◌then◌else◌, refl, sym, ap, subst, arith, ◌∙◌}
use Rattle.std.specs.List.{before_first, position_or_len}
use Rattle.std.specs.Str.{bytes_eq}
use Rattle.std.proofs.lemmas.Slice.Eq.{bytes_eq-Decides}
use Rattle.clap.specs.Lexer.{name_and_value}
use Rattle.pt_words.specs.declared.orders.ClockChoice.{ClockChoice}
use Rattle.pt_words.specs.declared.orders.Command.TheVariants as command
use Rattle.pt_words.specs.declared.words.Verb.{Verb}
use Rattle.pt_words.specs.declared.words.Verb.TheVariants.{Run, Check, Meaning, Make, Migrate, Slacks, Audit, Replay}
use Rattle.pt_words.specs.Before as before
use Rattle.pt_words.specs.Grammar.{audit, audit_of, clock_in, log_in, made_number_of, make, make_of, only_word, order_by, order_over, order_with, over, pair_in, replay, replay_of, run_of, usual_file, verb_of, workers_in}
use Rattle.pt_words.specs.PresentAnswers.{NoPresentAnswerChanges, has_claims, names_claims, with_usual}
use Rattle.pt_words.specs.Said.{Place, Said, among, clock_due, ended, is_dashed, option_said, said, with_clock, with_graph, with_log, with_workers, workers_due}
use Rattle.pt_words.proofs.Shapes.{view, empty, dash, plain, ending, long, short}

abbrev Text : Type 0
Text = List ℕ

abbrev Words : Type 0
Words = List Text

-- what was said before says the same, and no number of claims
abbrev said_of : before.Said → Said
said_of s = record { graphs = s.graphs; workers = s.workers; clocks = s.clocks; claims = []; logs = s.logs }

abbrev place_of : before.Place → Place
place_of before.among = among
place_of before.workers_due = workers_due
place_of before.clock_due = clock_due
place_of before.ended = ended

same_graph : (w : Text) (o : Option before.Said) → with_graph w (option_map said_of o) ≡ option_map said_of (before.with_graph w o)
same_graph w None = refl
same_graph w (Some s) = refl

same_workers : (w : Text) (o : Option before.Said) → with_workers w (option_map said_of o) ≡ option_map said_of (before.with_workers w o)
same_workers w None = refl
same_workers w (Some s) = refl

same_clock : (w : Text) (o : Option before.Said) → with_clock w (option_map said_of o) ≡ option_map said_of (before.with_clock w o)
same_clock w None = refl
same_clock w (Some s) = refl

same_log : (o : Option before.Said) → with_log (option_map said_of o) ≡ option_map said_of (before.with_log o)
same_log None = refl
same_log (Some s) = refl

-- the words after a place say the same
abbrev AreSame : Words → Type 0
AreSame ws = (p : before.Place) → said (place_of p) ws ≡ option_map said_of (before.said p ws)

same_ended : (ws : Words) → said ended ws ≡ option_map said_of (before.said before.ended ws)
same_ended [] = refl
same_ended (w ∷ ws) = ap (with_graph w) (same_ended ws) ∙ same_graph w (before.said before.ended ws)

same_option : (name : Text) (value : Option Text) (ws : Words) → bytes_eq (codes "claims") name ≡ false → AreSame ws
    → option_said name value (λ next. said next ws) ≡ option_map said_of (before.option_said name value (λ next. before.said next ws))
same_option name None ws c same =
    elim (bytes_eq (codes "workers") name) as (λ b. bytes_eq (codes "workers") name ≡ b → option_said name None (λ next. said next ws) ≡ option_map said_of (before.option_said name None (λ next. before.said next ws))) [
      | true ↦ λ w. rw w (same before.workers_due)
      | false ↦ λ w. elim (bytes_eq (codes "clock") name) as (λ b. bytes_eq (codes "clock") name ≡ b → option_said name None (λ next. said next ws) ≡ option_map said_of (before.option_said name None (λ next. before.said next ws))) [
        | true ↦ λ k. rw (w, k) (same before.clock_due)
        | false ↦ λ k. elim (bytes_eq (codes "log") name) as (λ b. bytes_eq (codes "log") name ≡ b → option_said name None (λ next. said next ws) ≡ option_map said_of (before.option_said name None (λ next. before.said next ws))) [
          | true ↦ λ l. rw (w, k, c, l) (ap with_log (same before.among) ∙ same_log (before.said before.among ws))
          | false ↦ λ l. rw (w, k, c, l) refl
        ] refl
      ] refl
    ] refl
same_option name (Some value) ws c same =
    elim (bytes_eq (codes "workers") name) as (λ b. bytes_eq (codes "workers") name ≡ b → option_said name (Some value) (λ next. said next ws) ≡ option_map said_of (before.option_said name (Some value) (λ next. before.said next ws))) [
      | true ↦ λ w. rw w (ap (with_workers value) (same before.among) ∙ same_workers value (before.said before.among ws))
      | false ↦ λ w. elim (bytes_eq (codes "clock") name) as (λ b. bytes_eq (codes "clock") name ≡ b → option_said name (Some value) (λ next. said next ws) ≡ option_map said_of (before.option_said name (Some value) (λ next. before.said next ws))) [
        | true ↦ λ k. rw (w, k) (ap (with_clock value) (same before.among) ∙ same_clock value (before.said before.among ws))
        | false ↦ λ k. rw (w, k, c) refl
      ] refl
    ] refl

-- after `--` an option's value is missing, and among the options they end
same_end : (ws : Words) → AreSame ((45 ∷ 45 ∷ []) ∷ ws)
same_end ws before.among = same_ended ws
same_end ws before.workers_due = refl
same_end ws before.clock_due = refl
same_end ws before.ended = same_ended ((45 ∷ 45 ∷ []) ∷ ws)

-- a word that is no option
same_dash : (w : Text) (ws : Words) → bytes_eq w (45 ∷ 45 ∷ []) ≡ false → is_dashed w ≡ false → AreSame ws → AreSame (w ∷ ws)
same_dash w ws e d same before.among = rw (e, d) (ap (with_graph w) (same before.among) ∙ same_graph w (before.said before.among ws))
same_dash w ws e d same before.workers_due = rw d (ap (with_workers w) (same before.among) ∙ same_workers w (before.said before.among ws))
same_dash w ws e d same before.clock_due = rw d (ap (with_clock w) (same before.among) ∙ same_clock w (before.said before.among ws))
same_dash w ws e d same before.ended = same_ended (w ∷ ws)

-- a word that begins with a single `-` is refused
same_short : (y : ℕ) (ys : Text) (ws : Words) → (y == 45) ≡ false → AreSame ((45 ∷ y ∷ ys) ∷ ws)
same_short y ys ws k before.among = rw k refl
same_short y ys ws k before.workers_due = refl
same_short y ys ws k before.clock_due = refl
same_short y ys ws k before.ended = same_ended ((45 ∷ y ∷ ys) ∷ ws)

take_next : (n x : ℕ) (xs : Text) → take (1 + n) (x ∷ xs) ≡ x ∷ take n xs
take_next n x xs = let next : 1 + n ≡ suc n = omega arith in rw next refl

-- the name of an option is what is before `=` after the two dashes
name_of_long : (z : ℕ) (zs : Text) → before_first (λ byte. byte == 61) (45 ∷ 45 ∷ z ∷ zs) ≡ 45 ∷ 45 ∷ (name_and_value (z ∷ zs)).0
name_of_long z zs =
    let place = position_or_len (λ byte. byte == 61) (z ∷ zs) in
    take_next (1 + place) 45 (45 ∷ z ∷ zs) ∙ ap (λ t. 45 ∷ t) (take_next place 45 (z ∷ zs))

names_no_claims : (z : ℕ) (zs : Text) → names_claims (45 ∷ 45 ∷ z ∷ zs) ≡ false → bytes_eq (codes "claims") (name_and_value (z ∷ zs)).0 ≡ false
names_no_claims z zs h = subst (λ t. bytes_eq (codes "--claims") t ≡ false) (name_of_long z zs) h

same_long : (z : ℕ) (zs : Text) (ws : Words) → names_claims (45 ∷ 45 ∷ z ∷ zs) ≡ false → AreSame ws → AreSame ((45 ∷ 45 ∷ z ∷ zs) ∷ ws)
same_long z zs ws c same before.among = same_option (name_and_value (z ∷ zs)).0 (name_and_value (z ∷ zs)).1 ws (names_no_claims z zs c) same
same_long z zs ws c same before.workers_due = refl
same_long z zs ws c same before.clock_due = refl
same_long z zs ws c same before.ended = same_ended ((45 ∷ 45 ∷ z ∷ zs) ∷ ws)

or_false : (a b : Bool) → a || b ≡ false → (a ≡ false) × (b ≡ false)
or_false true b h = absurd cc
or_false false b h = (refl, h)

plain_dash : (x : ℕ) (xs : Text) → (x == 45) ≡ false → (bytes_eq (x ∷ xs) (45 ∷ 45 ∷ []) ≡ false) × (is_dashed (x ∷ xs) ≡ false)
plain_dash x [] h = (rw h refl, refl)
plain_dash x (y ∷ ys) h = (rw h refl, h)

plain_later : (x : ℕ) (xs : Text) (ws : Words) → (x == 45) ≡ false → has_claims ((x ∷ xs) ∷ ws) ≡ false → has_claims ws ≡ false
plain_later x xs ws k h = (or_false (names_claims (x ∷ xs)) (has_claims ws) (rw k at h)).1

short_later : (y : ℕ) (ys : Text) (ws : Words) → (y == 45) ≡ false → has_claims ((45 ∷ y ∷ ys) ∷ ws) ≡ false → has_claims ws ≡ false
short_later y ys ws k h = (or_false (names_claims (45 ∷ y ∷ ys)) (has_claims ws) (rw k at h)).1

same_said : (ws : Words) → has_claims ws ≡ false → AreSame ws
same_said [] h before.among = refl
same_said [] h before.workers_due = refl
same_said [] h before.clock_due = refl
same_said [] h before.ended = refl
same_said (w ∷ ws) h p = elim (view w) [
  | empty q ↦ rw q (same_dash [] ws refl refl (same_said ws (rw q at h)) p)
  | dash q ↦ rw q (same_dash (45 ∷ []) ws refl refl (same_said ws (rw q at h)) p)
  | plain x xs q k ↦ rw q (same_dash (x ∷ xs) ws (plain_dash x xs k).0 (plain_dash x xs k).1 (same_said ws (plain_later x xs ws k (rw q at h))) p)
  | ending q ↦ rw q (same_end ws p)
  | long z zs q ↦ rw q (let both = or_false (names_claims (45 ∷ 45 ∷ z ∷ zs)) (has_claims ws) (rw q at h) in same_long z zs ws both.0 (same_said ws both.1) p)
  | short y ys q k ↦ rw q (same_short y ys ws k p)
]

-- what comes of an option is the same if it is for each value
and_then_same : {X Y Z : Type 0} (k : Y → Z) (f : X → Option Y) (g : X → Option Z) (o : Option X) → ((x : X) → g x ≡ option_map k (f x)) → option_and_then g o ≡ option_map k (option_and_then f o)
and_then_same k f g None each = refl
and_then_same k f g (Some x) each = each x

map_same : {X Y Z : Type 0} (k : Y → Z) (f : X → Y) (g : X → Z) (o : Option X) → ((x : X) → g x ≡ k (f x)) → option_map g o ≡ option_map k (option_map f o)
map_same k f g None each = refl
map_same k f g (Some x) each = ap Some (each x)

if_same : {Y Z : Type 0} (k : Y → Z) (b : Bool) (o : Option Y) (p : Option Z) → p ≡ option_map k o → (if b then p else None) ≡ option_map k (if b then o else None)
if_same k true o p is = is
if_same k false o p is = refl

run_same : (s : before.Said) (name : Text) → run_of (said_of s) name ≡ option_map with_usual (before.run_of s name)
run_same s name =
    and_then_same with_usual _ _ (workers_in s.workers) (λ workers. and_then_same with_usual _ _ (clock_in s.clocks)
    (λ clock. and_then_log workers clock (log_in s.logs)))
  where
    and_then_log : (workers : ℕ) (clock : ClockChoice) (o : Option Bool) → option_and_then (λ log. Some (over (command.Run workers clock log) (usual_file name))) o
        ≡ option_map with_usual (option_map (λ log. before.over (command.Run workers clock log) name) o)
    and_then_log workers clock None = refl
    and_then_log workers clock (Some log) = refl

make_same : (s : before.Said) (word : Text) → make_of (said_of s) word ≡ option_map with_usual (before.make_of s word)
make_same s word =
    if_same with_usual _ _ _ (and_then_same with_usual _ _ (made_number_of word)
    (λ number. map_same with_usual (λ workers. before.make number workers) (λ workers. make number workers) (workers_in s.workers) (λ workers. refl)))

audit_same : (s : before.Said) → audit_of (said_of s) ≡ option_map with_usual (before.audit_of s)
audit_same s = if_same with_usual _ _ _ (pair_same (pair_in s.graphs))
  where
    pair_same : (o : Option (Text × Text)) → option_and_then (λ pair. Some (audit (usual_file pair.0) pair.1)) o ≡ option_map with_usual (option_map (λ pair. before.audit pair.0 pair.1) o)
    pair_same None = refl
    pair_same (Some pair) = refl

replay_same : (s : before.Said) → replay_of (said_of s) ≡ option_map with_usual (before.replay_of s)
replay_same s =
    if_same with_usual _ _ _ (and_then_same with_usual _ _ (pair_in s.graphs) (λ pair. and_then_same with_usual _ _ (workers_in s.workers)
    (λ workers. and_then_log pair workers (log_in s.logs))))
  where
    and_then_log : (pair : Text × Text) (workers : ℕ) (o : Option Bool) → option_and_then (λ log. Some (replay (usual_file pair.0) pair.1 workers log)) o
        ≡ option_map with_usual (option_map (λ log. before.replay pair.0 pair.1 workers log) o)
    and_then_log pair workers None = refl
    and_then_log pair workers (Some log) = refl

over_same : (verb : Verb) (s : before.Said) (word : Text) → order_over verb (said_of s) word ≡ option_map with_usual (before.order_over verb s word)
over_same Run s word = run_same s word
over_same Check s word = if_same with_usual _ _ _ refl
over_same Meaning s word = if_same with_usual _ _ _ refl
over_same Make s word = make_same s word
over_same Migrate s word = if_same with_usual _ _ _ refl
over_same Slacks s word = if_same with_usual _ _ _ refl
over_same Audit s word = refl
over_same Replay s word = refl

one_word : (verb : Verb) (s : before.Said) → option_and_then (order_over verb (said_of s)) (only_word s.graphs) ≡ option_map with_usual (option_and_then (before.order_over verb s) (only_word s.graphs))
one_word verb s = and_then_same with_usual (before.order_over verb s) (order_over verb (said_of s)) (only_word s.graphs) (over_same verb s)

by_same : (verb : Verb) (s : before.Said) → order_by verb (said_of s) ≡ option_map with_usual (before.order_by verb s)
by_same Run s = one_word Run s
by_same Check s = one_word Check s
by_same Meaning s = one_word Meaning s
by_same Make s = one_word Make s
by_same Migrate s = one_word Migrate s
by_same Slacks s = one_word Slacks s
by_same Audit s = audit_same s
by_same Replay s = replay_same s

with_same : (verb : Verb) (ws : Words) → has_claims ws ≡ false → order_with verb ws ≡ option_map with_usual (before.order_with verb ws)
with_same verb ws h = ap (option_and_then (order_by verb)) (same_said ws h before.among) ∙ each (before.said before.among ws)
  where
    each : (o : Option before.Said) → option_and_then (order_by verb) (option_map said_of o) ≡ option_map with_usual (option_and_then (before.order_by verb) o)
    each None = refl
    each (Some s) = by_same verb s

first_same : (first : Text) (ws : Words) → has_claims (first ∷ ws) ≡ false
    → option_and_then (λ verb. order_with verb ws) (verb_of first) ≡ option_map with_usual (option_and_then (λ verb. before.order_with verb ws) (verb_of first))
first_same first ws h =
    elim (bytes_eq first (45 ∷ 45 ∷ [])) as (λ b. bytes_eq first (45 ∷ 45 ∷ []) ≡ b → option_and_then (λ verb. order_with verb ws) (verb_of first) ≡ option_map with_usual (option_and_then (λ verb. before.order_with verb ws) (verb_of first))) [
      | true ↦ λ e. subst (λ t. option_and_then (λ verb. order_with verb ws) (verb_of t) ≡ option_map with_usual (option_and_then (λ verb. before.order_with verb ws) (verb_of t))) (sym ((bytes_eq-Decides first (45 ∷ 45 ∷ [])).0 e)) refl
      | false ↦ λ e. and_then_same with_usual (λ verb. before.order_with verb ws) (λ verb. order_with verb ws) (verb_of first) (λ verb. with_same verb ws (or_false (names_claims first) (has_claims ws) (rw e at h)).1)
    ] refl

pub no_present_answer_changes : NoPresentAnswerChanges
no_present_answer_changes [] h = refl
no_present_answer_changes (word ∷ words) h = first_same (string_bytes word) (map string_bytes words) h
