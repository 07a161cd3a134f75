-- The values in the words after the command, from left to right, however often each option or positional word occurs.
use Rattle.std.specs.Prelude.{ℕ, ◌==◌, Bool, false, List, [], ◌∷◌, Option, Some, None, option_map, codes, bytes_eq, if◌then◌else◌}
use Rattle.clap.specs.Lexer.{long_of}

-- the positional words, the values of the options, and an empty word for each `--log`
pub record Said : Type 0 where
  pub graphs : List (List ℕ)
  pub workers : List (List ℕ)
  pub clocks : List (List ℕ)
  pub claims : List (List ℕ)
  pub logs : List (List ℕ)

-- no words
abbrev pub no_words : Said
no_words = record { graphs = []; workers = []; clocks = []; claims = []; logs = [] }

-- the place of a word: among the options, where an option needs its value, or after `--`
pub data Place : Type 0 where
  among : Place
  workers_due : Place
  clock_due : Place
  claims_due : Place
  ended : Place

-- a word that begins with `-` and is longer than that
abbrev pub is_dashed : List ℕ → Bool
is_dashed [] = false
is_dashed (byte ∷ []) = false
is_dashed (byte ∷ next ∷ more) = byte == 45

-- one more positional word, in front of the values of the words after it
abbrev pub with_graph : List ℕ → Option Said → Option Said
with_graph word = option_map (λ (said : Said). record said { graphs = word ∷ said.graphs })

-- one more number of workers, in front of them
abbrev pub with_workers : List ℕ → Option Said → Option Said
with_workers word = option_map (λ (said : Said). record said { workers = word ∷ said.workers })

-- one more clock, in front of them
abbrev pub with_clock : List ℕ → Option Said → Option Said
with_clock word = option_map (λ (said : Said). record said { clocks = word ∷ said.clocks })

-- one more number of claims, in front of them
abbrev pub with_claims : List ℕ → Option Said → Option Said
with_claims word = option_map (λ (said : Said). record said { claims = word ∷ said.claims })

-- one more `--log`, in front of them
abbrev pub with_log : Option Said → Option Said
with_log = option_map (λ (said : Said). record said { logs = [] ∷ said.logs })

-- an option, with its value in the same word, or without; `next` gives the values of the words after it, from a place on
abbrev pub option_said : List ℕ → Option (List ℕ) → (Place → Option Said) → Option Said
option_said name (Some value) next =
    if bytes_eq (codes "workers") name then with_workers value (next among) else (
    if bytes_eq (codes "clock") name then with_clock value (next among) else (
    if bytes_eq (codes "claims") name then with_claims value (next among) else None))
option_said name None next =
    if bytes_eq (codes "workers") name then next workers_due else (
    if bytes_eq (codes "clock") name then next clock_due else (
    if bytes_eq (codes "claims") name then next claims_due else (
    if bytes_eq (codes "log") name then with_log (next among) else None)))

-- a word `--NAME` or `--NAME=VALUE` (`long_of`); no other word is an option
abbrev pub dashed_said : Option (List ℕ × Option (List ℕ)) → (Place → Option Said) → Option Said
dashed_said None next = None
dashed_said (Some p) next = option_said p.0 p.1 next

-- a word, and those after it: a word `--` ends the options, and a value that begins with `-` and is longer is refused
abbrev pub word_said : Place → List ℕ → (Place → Option Said) → Option Said
word_said among word next =
    if bytes_eq word (45 ∷ 45 ∷ []) then next ended else (
    if is_dashed word then dashed_said (long_of word) next else with_graph word (next among))
word_said workers_due word next = if is_dashed word then None else with_workers word (next among)
word_said clock_due word next = if is_dashed word then None else with_clock word (next among)
word_said claims_due word next = if is_dashed word then None else with_claims word (next among)
word_said ended word next = with_graph word (next ended)

-- after the last word no value may be missing
abbrev pub end_said : Place → Option Said
end_said among = Some no_words
end_said workers_due = None
end_said clock_due = None
end_said claims_due = None
end_said ended = Some no_words

-- the values of these words, the first of which is at this place
abbrev pub said : Place → List (List ℕ) → Option Said
said place [] = end_said place
said place (word ∷ words) = word_said place word (λ next. said next words)
