-- The grammar of a command line. A word is a list of bytes.
use Rattle.std.specs.Prelude.{ℕ, option_map, ◌==◌, nat_le, not, ◌&&◌, ◌||◌, Bool, true, false, List, [], ◌∷◌, length, map, Option, Some, None, option_and_then, ◌^◌, String, string_bytes, codes, bytes_eq, if◌then◌else◌}
use Rattle.std.specs.List.{after_first, before_first, list_all}
use Rattle.std.specs.Char.{is_ascii_digit}
use Rattle.std.specs.Str.Parse.{digits_value}
use Rattle.std.specs.declared.alloc.Global.{Global}
use Rattle.pt_words.specs.declared.orders.ClockChoice.{ClockChoice}
use Rattle.pt_words.specs.declared.orders.ClockChoice.TheVariants.{Machine, Paced, Step}
use Rattle.pt_words.specs.declared.orders.Command.{Command}
use Rattle.pt_words.specs.declared.orders.Command.TheVariants as command
use Rattle.pt_words.specs.declared.words.Verb.{Verb}
use Rattle.pt_words.specs.declared.words.Verb.TheVariants.{Run, Check, Meaning, Make, Migrate, Slacks, Audit, Replay}
use Rattle.pt_words.specs.Said.{Said, among, said}

-- a graph file, and the number of claims that a platform may make
pub record GraphFile : Type 0 where
  pub name : List ℕ
  pub claims : ℕ

-- the number of claims unless the words state another, and the greatest that they may state
abbrev pub usual_claims : ℕ
usual_claims = 200000

abbrev pub greatest_claims : ℕ
greatest_claims = 100000000

-- a graph file with the usual number of claims
abbrev pub usual_file : List ℕ → GraphFile
usual_file name = record { name = name; claims = usual_claims }

-- what a command line asks for: a command on a graph file, a run of an input made from a number, a graph file as a file of
-- version 2, an audit of a log of that graph, or a replay of that graph with the lags and transits that the file `air` says
pub data Order : Type 0 where
  over : (command : Command) (graph : GraphFile) → Order
  make : (number workers : ℕ) → Order
  migrate : (graph : GraphFile) → Order
  audit : (graph : GraphFile) (log : List ℕ) → Order
  replay : (graph : GraphFile) (air : List ℕ) (workers : ℕ) (log : Bool) → Order

-- the command that a word names
abbrev pub verb_of : List ℕ → Option Verb
verb_of word =
    if bytes_eq word (codes "run") then Some Run else (
    if bytes_eq word (codes "check") then Some Check else (
    if bytes_eq word (codes "meaning") then Some Meaning else (
    if bytes_eq word (codes "make") then Some Make else (
    if bytes_eq word (codes "migrate") then Some Migrate else (
    if bytes_eq word (codes "slacks") then Some Slacks else (
    if bytes_eq word (codes "audit") then Some Audit else (
    if bytes_eq word (codes "replay") then Some Replay else None)))))))

-- digits without a sign, and without a leading zero unless it is `0`
abbrev pub is_numeral : List ℕ → Bool
is_numeral [] = false
is_numeral (digit ∷ []) = is_ascii_digit digit
is_numeral (digit ∷ next ∷ more) = not (digit == 48) && list_all is_ascii_digit (digit ∷ next ∷ more)

-- the number that a word writes in decimal digits, if it is from `low` to `high`
unfoldable pub number_within : ℕ → ℕ → List ℕ → Option ℕ
number_within low high word =
    let number = digits_value 10 word in
    if is_numeral word && (nat_le low number && nat_le number high) then Some number else None

-- the number of workers: 1 to 64
unfoldable pub workers_of : List ℕ → Option ℕ
workers_of value = number_within 1 64 value

-- the number of claims that a platform may make: 200,000 to 100,000,000
unfoldable pub claims_of : List ℕ → Option ℕ
claims_of value = number_within usual_claims greatest_claims value

-- the number to make an input from: 1 to 100
unfoldable pub made_number_of : List ℕ → Option ℕ
made_number_of word = number_within 1 100 word

-- the byte `:`
abbrev pub is_colon : ℕ → Bool
is_colon byte = byte == 58

-- the clock that `START:STEP` names: START from 0 to 10^15 microseconds, and STEP from 1
unfoldable pub step_clock_of : List ℕ → Option ClockChoice
step_clock_of numbers =
    option_and_then (λ start. option_map (λ step. Step start step) (number_within 1 (10 ^ 15) (after_first is_colon numbers))) (number_within 0 (10 ^ 15) (before_first is_colon numbers))

-- the clock that a value names: `paced`, `machine` or `step:START:STEP`
abbrev pub clock_of : List ℕ → Option ClockChoice
clock_of value =
    if bytes_eq value (codes "paced") then Some Paced else (
    if bytes_eq value (codes "machine") then Some Machine else (
    if bytes_eq (before_first is_colon value) (codes "step") then step_clock_of (after_first is_colon value) else None))

-- exactly one positional word, which isn't empty: the graph file, or the number
abbrev pub only_word : List (List ℕ) → Option (List ℕ)
only_word [] = None
only_word (word ∷ []) = if length word == 0 then None else Some word
only_word (word ∷ next ∷ more) = None

-- exactly two positional words, neither of which is empty: the graph file, and the log or the recording
abbrev pub pair_in : List (List ℕ) → Option (List ℕ × List ℕ)
pair_in (first ∷ second ∷ []) = if length first == 0 || length second == 0 then None else Some (first, second)
pair_in _ = None

-- the number of workers: 4 if none is given, and at most one may be
abbrev pub workers_in : List (List ℕ) → Option ℕ
workers_in [] = Some 4
workers_in (value ∷ []) = workers_of value
workers_in (value ∷ next ∷ more) = None

-- the clock: the paced one if none is given, and at most one may be
abbrev pub clock_in : List (List ℕ) → Option ClockChoice
clock_in [] = Some Paced
clock_in (value ∷ []) = clock_of value
clock_in (value ∷ next ∷ more) = None

-- the number of claims: the usual one if none is given, and at most one may be
abbrev pub claims_in : List (List ℕ) → Option ℕ
claims_in [] = Some usual_claims
claims_in (value ∷ []) = claims_of value
claims_in (value ∷ next ∷ more) = None

-- whether the log is written too: `--log` may be given at most once
abbrev pub log_in : List (List ℕ) → Option Bool
log_in [] = Some false
log_in (word ∷ []) = Some true
log_in (word ∷ next ∷ more) = None

-- a graph file with the number of claims that the words state
abbrev pub file_of : Said → List ℕ → Option GraphFile
file_of words name = option_map (λ claims. record { name = name; claims = claims }) (claims_in words.claims)

-- a run of a graph file
abbrev pub run_of : Said → List ℕ → Option Order
run_of words name =
    option_and_then (λ workers. option_and_then (λ clock. option_and_then (λ log. option_map (over (command.Run workers clock log)) (file_of words name)) (log_in words.logs)) (clock_in words.clocks)) (workers_in words.workers)

-- no option is given but the number of claims
abbrev pub has_claims_alone : Said → Bool
has_claims_alone words = length words.workers == 0 && (length words.clocks == 0 && length words.logs == 0)

-- no option is given
abbrev pub is_bare : Said → Bool
is_bare words = length words.claims == 0 && has_claims_alone words

-- the meaning of a graph file: the number of claims is its only option
abbrev pub meaning_of : Said → List ℕ → Option Order
meaning_of words name = if has_claims_alone words then option_map (over command.Meaning) (file_of words name) else None

-- a run of an input made from a number: the number of workers is its only option
abbrev pub make_of : Said → List ℕ → Option Order
make_of words word =
    if length words.claims == 0 && (length words.clocks == 0 && length words.logs == 0) then option_and_then (λ number. option_map (λ workers. make number workers) (workers_in words.workers)) (made_number_of word) else None

-- an audit of a log: the number of claims is its only option
abbrev pub audit_of : Said → Option Order
audit_of words = if has_claims_alone words then option_and_then (λ pair. option_map (λ graph. audit graph pair.1) (file_of words pair.0)) (pair_in words.graphs) else None

-- a replay with a recording: the number of workers, the log and the number of claims are its options
abbrev pub replay_of : Said → Option Order
replay_of words =
    if length words.clocks == 0 then option_and_then (λ pair. option_and_then (λ workers. option_and_then (λ log. option_map (λ graph. replay graph pair.1 workers log) (file_of words pair.0)) (log_in words.logs)) (workers_in words.workers)) (pair_in words.graphs) else None

-- the order of a command with its one positional word: of these only `run`, `meaning` and `make` have options
abbrev pub order_over : Verb → Said → List ℕ → Option Order
order_over Run words name = run_of words name
order_over Check words name = if is_bare words then Some (over command.Check (usual_file name)) else None
order_over Meaning words name = meaning_of words name
order_over Make words number = make_of words number
order_over Migrate words name = if is_bare words then Some (migrate (usual_file name)) else None
order_over Slacks words name = if is_bare words then Some (over command.Slacks (usual_file name)) else None
order_over Audit words name = None
order_over Replay words name = None

-- the order of a command with the values of the words after it
abbrev pub order_by : Verb → Said → Option Order
order_by Audit words = audit_of words
order_by Replay words = replay_of words
order_by verb words = option_and_then (order_over verb words) (only_word words.graphs)

-- the order of a command and the words after it
abbrev pub order_with : Verb → List (List ℕ) → Option Order
order_with verb words = option_and_then (order_by verb) (said among words)

-- the order of all words: the first is the command
abbrev pub order_of : List (String Global) → Option Order
order_of [] = None
order_of (word ∷ words) = option_and_then (λ verb. order_with verb (map string_bytes words)) (verb_of (string_bytes word))
