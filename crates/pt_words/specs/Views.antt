-- The program's values, in terms of the grammar.
use Rattle.std.specs.Prelude.{ℕ, List, [], Option, map, option_map, unwrap_or}
use Rattle.std.specs.Borrow.{Bor}
use Rattle.clap.specs.Matches.{found_of, matched_of, raw_values}
use Rattle.clap.specs.declared.parser.matches.ArgMatches.{ArgMatches}
use Rattle.pt_words.specs.declared.orders.GraphFile as file
use Rattle.pt_words.specs.declared.orders.Order as declared
use Rattle.pt_words.specs.declared.orders.Order.TheVariants.{Over, Make, Migrate, Audit, Replay}
use Rattle.pt_words.specs.declared.words.Values.{Values}
use Rattle.pt_words.specs.Grammar.{GraphFile, Order, over, make, migrate, audit, replay}
use Rattle.pt_words.specs.Said.{Said}

-- the values of an argument; none if it is absent
abbrev pub texts_in : Option (Bor (List (Bor (List ℕ)))) → List (List ℕ)
texts_in words = unwrap_or (option_map (λ words. map (λ word. word.now) words.now) words) []

-- the values that clap read, as bytes
abbrev pub viewed : Values → Said
viewed values = record { graphs = texts_in values.graphs; workers = texts_in values.workers; clocks = texts_in values.clocks; claims = texts_in values.claims; logs = texts_in values.logs }

-- the values that clap's matches have for an argument
abbrev pub values_of : ArgMatches → List ℕ → List (List ℕ)
values_of matches id = unwrap_or (option_map raw_values (matched_of (found_of matches) id)) []

-- a graph file of the program, with its name as bytes
abbrev pub file_in : file.GraphFile → GraphFile
file_in graph = record { name = graph.name.now; claims = graph.claims }

-- an order of the program, with the names of its files as bytes
abbrev pub in_words : declared.Order → Order
in_words (Over command graph) = over command (file_in graph)
in_words (Make number workers) = make number workers
in_words (Migrate graph) = migrate (file_in graph)
in_words (Audit graph log) = audit (file_in graph) log.now
in_words (Replay graph air workers log) = replay (file_in graph) air.now workers log
