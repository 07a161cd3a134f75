-- The grammar as it was before `--claims`: word for word what has changed since.
use Rattle.std.specs.Prelude.{ℕ, option_map, ◌==◌, ◌&&◌, Bool, List, [], ◌∷◌, length, map, Option, Some, None, option_and_then, String, string_bytes, codes, bytes_eq, if◌then◌else◌}
use Rattle.std.specs.declared.alloc.Global.{Global}
use Rattle.clap.specs.Lexer.{long_of}
use Rattle.pt_words.specs.declared.orders.Command.{Command}
use Rattle.pt_words.specs.declared.orders.Command.TheVariants as command
use Rattle.pt_words.specs.declared.words.Verb.{Verb}
use Rattle.pt_words.specs.declared.words.Verb.TheVariants.{Run, Check, Meaning, Make, Migrate, Slacks, Audit, Replay}
use Rattle.pt_words.specs.Grammar.{verb_of, made_number_of, only_word, pair_in, workers_in, clock_in, log_in}
use Rattle.pt_words.specs.Said.{is_dashed}

-- the positional words, the values of the options, and an empty word for each `--log`
pub record Said : Type 0 where
  pub graphs : List (List ℕ)
  pub workers : List (List ℕ)
  pub clocks : List (List ℕ)
  pub logs : List (List ℕ)

-- no words
abbrev pub no_words : Said
no_words = record { graphs = []; workers = []; clocks = []; logs = [] }

-- the place of a word: among the options, where an option needs its value, or after `--`
pub data Place : Type 0 where
  among : Place
  workers_due : Place
  clock_due : Place
  ended : Place

-- one more positional word, in front of the values of the words after it
abbrev pub with_graph : List ℕ → Option Said → Option Said
with_graph word = option_map (λ (said : Said). record said { graphs = word ∷ said.graphs })

-- one more number of workers, in front of them
abbrev pub with_workers : List ℕ → Option Said → Option Said
with_workers word = option_map (λ (said : Said). record said { workers = word ∷ said.workers })

-- one more clock, in front of them
abbrev pub with_clock : List ℕ → Option Said → Option Said
with_clock word = option_map (λ (said : Said). record said { clocks = word ∷ said.clocks })

-- one more `--log`, in front of them
abbrev pub with_log : Option Said → Option Said
with_log = option_map (λ (said : Said). record said { logs = [] ∷ said.logs })

-- an option, with its value in the same word, or without; `next` gives the values of the words after it, from a place on
abbrev pub option_said : List ℕ → Option (List ℕ) → (Place → Option Said) → Option Said
option_said name (Some value) next =
    if bytes_eq (codes "workers") name then with_workers value (next among) else (
    if bytes_eq (codes "clock") name then with_clock value (next among) else None)
option_said name None next =
    if bytes_eq (codes "workers") name then next workers_due else (
    if bytes_eq (codes "clock") name then next clock_due else (
    if bytes_eq (codes "log") name then with_log (next among) else None))

-- a word `--NAME` or `--NAME=VALUE` (`long_of`); no other word is an option
abbrev pub dashed_said : Option (List ℕ × Option (List ℕ)) → (Place → Option Said) → Option Said
dashed_said None next = None
dashed_said (Some p) next = option_said p.0 p.1 next

-- a word, and those after it: a word `--` ends the options, and a value that begins with `-` and is longer is refused
abbrev pub word_said : Place → List ℕ → (Place → Option Said) → Option Said
word_said among word next =
    if bytes_eq word (45 ∷ 45 ∷ []) then next ended else (
    if is_dashed word then dashed_said (long_of word) next else with_graph word (next among))
word_said workers_due word next = if is_dashed word then None else with_workers word (next among)
word_said clock_due word next = if is_dashed word then None else with_clock word (next among)
word_said ended word next = with_graph word (next ended)

-- after the last word no value may be missing
abbrev pub end_said : Place → Option Said
end_said among = Some no_words
end_said workers_due = None
end_said clock_due = None
end_said ended = Some no_words

-- the values of these words, the first of which is at this place
abbrev pub said : Place → List (List ℕ) → Option Said
said place [] = end_said place
said place (word ∷ words) = word_said place word (λ next. said next words)

-- what a command line asks for: a command on the graph file with this name, a run of an input made from a number, the graph file
-- with this name as a file of version 2, an audit of a log of that graph, or a replay of that graph with the lags and transits that
-- the file `air` says
pub data Order : Type 0 where
  over : (command : Command) (graph : List ℕ) → Order
  make : (number workers : ℕ) → Order
  migrate : (graph : List ℕ) → Order
  audit : (graph log : List ℕ) → Order
  replay : (graph air : List ℕ) (workers : ℕ) (log : Bool) → Order

-- a run of a graph file
abbrev pub run_of : Said → List ℕ → Option Order
run_of words graph =
    option_and_then (λ workers. option_and_then (λ clock. option_map (λ log. over (command.Run workers clock log) graph) (log_in words.logs)) (clock_in words.clocks)) (workers_in words.workers)

-- no option is given
abbrev pub is_bare : Said → Bool
is_bare words = length words.workers == 0 && (length words.clocks == 0 && length words.logs == 0)

-- a run of an input made from a number: the number of workers is its only option
abbrev pub make_of : Said → List ℕ → Option Order
make_of words word =
    if length words.clocks == 0 && length words.logs == 0 then option_and_then (λ number. option_map (λ workers. make number workers) (workers_in words.workers)) (made_number_of word) else None

-- an audit of a log, which has no options
abbrev pub audit_of : Said → Option Order
audit_of words = if is_bare words then option_map (λ pair. audit pair.0 pair.1) (pair_in words.graphs) else None

-- a replay with a recording: the number of workers and the log are its options
abbrev pub replay_of : Said → Option Order
replay_of words =
    if length words.clocks == 0 then option_and_then (λ pair. option_and_then (λ workers. option_map (λ log. replay pair.0 pair.1 workers log) (log_in words.logs)) (workers_in words.workers)) (pair_in words.graphs) else None

-- the order of a command with its one positional word: of these only `run` and `make` have options
abbrev pub order_over : Verb → Said → List ℕ → Option Order
order_over Run words graph = run_of words graph
order_over Check words graph = if is_bare words then Some (over command.Check graph) else None
order_over Meaning words graph = if is_bare words then Some (over command.Meaning graph) else None
order_over Make words number = make_of words number
order_over Migrate words graph = if is_bare words then Some (migrate graph) else None
order_over Slacks words graph = if is_bare words then Some (over command.Slacks graph) else None
order_over Audit words graph = None
order_over Replay words graph = None

-- the order of a command with the values of the words after it
abbrev pub order_by : Verb → Said → Option Order
order_by Audit words = audit_of words
order_by Replay words = replay_of words
order_by verb words = option_and_then (order_over verb words) (only_word words.graphs)

-- the order of a command and the words after it
abbrev pub order_with : Verb → List (List ℕ) → Option Order
order_with verb words = option_and_then (order_by verb) (said among words)

-- the order of all words: the first is the command
abbrev pub order_of : List (String Global) → Option Order
order_of [] = None
order_of (word ∷ words) = option_and_then (λ verb. order_with verb (map string_bytes words)) (verb_of (string_bytes word))
