-- The clap command that reads the words after the first, as clap's specs see it.
use Rattle.std.specs.Prelude.{ℕ, List, [], ◌∷◌, true, Some, codes}
use Rattle.clap.specs.Words.{App, Rule, new_app, new_rule, with_rule}
use Rattle.clap.specs.declared.builder.action.ArgAction.TheVariants.{Append}

-- without arguments, and without help and version
abbrev pub bare_app : App
bare_app = record (new_app (codes "ptides")) {
  top = record (new_app (codes "ptides")).top { no_binary_name = true; disable_help_flag = true; disable_version_flag = true; disable_help_subcommand = true };
}

-- the positional words, any number of them
abbrev pub graph_rule : Rule
graph_rule = record (new_rule (codes "graph")) { action = Some Append }

-- an option with a value, any number of times
abbrev pub option_rule : List ℕ → Rule
option_rule name = record (new_rule name) { long = Some name; action = Some Append }

-- an option without a value, any number of times
abbrev pub flag_rule : List ℕ → Rule
flag_rule name = record (option_rule name) { range = Some (record { start_inclusive = 0; end_inclusive = 0 }); missing = [] ∷ [] }

-- with all arguments
abbrev pub words_app : App
words_app = with_rule (with_rule (with_rule (with_rule (with_rule bare_app (option_rule (codes "workers"))) (option_rule (codes "clock"))) (option_rule (codes "claims"))) (flag_rule (codes "log"))) graph_rule
