-- Which files the source was asked for, by how a call ended.
use Rattle.std.specs.Prelude.{◌≡◌, ◌⊎◌, ◌+◌, ◌++◌, ℕ, List, [], ◌∷◌, Option, Some, None, take}
use Rattle.pt_types.specs.declared.graph.Graph.{Graph}
use Rattle.pt_types.specs.declared.graph.Actor.{Actor}
use Rattle.pt_blocks.specs.declared.blocks.Named.{Named}
use Rattle.pt_sensor_files.specs.Asked.{Asks, AsksOrNot, sensor_files}
use Rattle.pt_io.specs.Calls.{Contents, SourceCall}
use Rattle.pt_run.specs.declared.fault.Fault.{Fault}
use Rattle.pt_run.specs.declared.fault.Fault.TheVariants as fault
use Rattle.pt_words.specs.declared.orders.Command.{Command}
use Rattle.pt_words.specs.declared.orders.Command.TheVariants.{Check, Slacks}
use Rattle.pt_words.specs.Grammar.{GraphFile, Order, over, make, migrate, audit, replay}
use Rattle.pt_run.specs.Written.{GraphWith}

-- `all` begins with the names in `part`
abbrev pub Begins : List (List ℕ) → List (List ℕ) → Type 0
Begins part all = (rest : List (List ℕ)) × (part ++ rest ≡ all)

-- what is asked for after the graph file, of the files of these actors and then of `last`: nothing if the graph is refused; the files up
-- to that of a refused sensor, its own included, if one is; if memory runs out, some of all, from the first on; else all
abbrev pub AreAsked : Option Fault → List Actor → List (List ℕ) → List (List ℕ) → Type 0
AreAsked (Some (fault.Graph f)) actors last files = files ≡ []
AreAsked (Some (fault.Read None)) actors last files = files ≡ []
AreAsked (Some (fault.Cycle found)) actors last files = files ≡ []
AreAsked (Some (fault.Infeasible send offset slack)) actors last files = files ≡ []
AreAsked (Some (fault.Ring sends gain)) actors last files = files ≡ []
AreAsked (Some (fault.Read (Some actor))) actors last files = files ≡ sensor_files (take (actor + 1) actors)
AreAsked (Some (fault.Sensor actor f)) actors last files = files ≡ sensor_files (take (actor + 1) actors)
AreAsked (Some (fault.LateRow actor row seen limit)) actors last files = files ≡ sensor_files (take (actor + 1) actors)
AreAsked (Some fault.Memory) actors last files = Begins files (sensor_files actors ++ last)
AreAsked outcome actors last files = files ≡ sensor_files actors ++ last

-- they were asked for after the files in `first`
abbrev pub AsksOver : Option Fault → List (List ℕ) → List Actor → List (List ℕ) → Option (List (List ℕ)) → Option (List (List ℕ)) → Type 0
AsksOver outcome first actors last before now = (files : List (List ℕ)) × AreAsked outcome actors last files × Asks before now (first ++ files)

-- the graph file gave no graph, and was asked for alone; if memory ran out, perhaps not even that
abbrev pub AsksAlone : Option Fault → GraphFile → Option (List (List ℕ)) → Option (List (List ℕ)) → Type 0
AsksAlone (Some (fault.Graph f)) graph_file before now = Asks before now (graph_file.name ∷ [])
AsksAlone (Some (fault.Read None)) graph_file before now = Asks before now (graph_file.name ∷ [])
AsksAlone (Some fault.Memory) graph_file before now = AsksOrNot before now (graph_file.name ∷ [])
AsksAlone outcome graph_file before now = ⊥

-- of a call on a graph file: it gave no graph; or it defines one, and the files of these actors of it and `last` come after it
abbrev pub AsksFrom : Option Fault → Contents → List Named → GraphFile → (Graph → List Actor) → List (List ℕ) → Option (List (List ℕ)) → Option (List (List ℕ)) → Type 0
AsksFrom outcome contents blocks graph_file actors last before now = AsksAlone outcome graph_file before now ⊎ GraphWith contents blocks graph_file (λ g. AsksOver outcome (graph_file.name ∷ []) (actors g) last before now)

-- the files of all sensors of a graph, in its order
abbrev pub all_sensors : Graph → List (List ℕ)
all_sensors g = sensor_files g.actors

-- the actors whose files a command asks for
abbrev pub actors_for : Command → Graph → List Actor
actors_for Check g = []
actors_for Slacks g = []
actors_for _ g = g.actors

-- of each order: no file for a made input, the graph file alone for `migrate`, and one more at the end of an audit or a replay
abbrev pub AsksOf : Option Fault → Option Order → Contents → List Named → SourceCall → Type 0
AsksOf outcome None contents blocks r = Asks r.asked_before r.asked_now []
AsksOf outcome (Some (over command graph_file)) contents blocks r = AsksFrom outcome contents blocks graph_file (actors_for command) [] r.asked_before r.asked_now
AsksOf outcome (Some (make number workers)) contents blocks r = Asks r.asked_before r.asked_now []
AsksOf outcome (Some (migrate graph_file)) contents blocks r = AsksFrom outcome contents blocks graph_file (λ g. []) [] r.asked_before r.asked_now
AsksOf outcome (Some (audit graph_file log)) contents blocks r = AsksFrom outcome contents blocks graph_file (λ g. g.actors) (log ∷ []) r.asked_before r.asked_now
AsksOf outcome (Some (replay graph_file air workers log)) contents blocks r = AsksFrom outcome contents blocks graph_file (λ g. g.actors) (air ∷ []) r.asked_before r.asked_now
