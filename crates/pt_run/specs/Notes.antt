-- The line that reports a fault.
use Rattle.std.specs.Prelude.{ℕ, List, [], ◌∷◌, ◌++◌, Option, Some, None, codes, flat_map, slice_get, slice_index_or}
use Rattle.std.specs.Option.{option_map_or}
use Rattle.std.specs.Fmt.{decimal, signed_decimal}
use Rattle.pt_tags.specs.declared.tag.Tag.{Tag}
use Rattle.pt_types.specs.declared.graph.Graph.{Graph}
use Rattle.pt_types.specs.declared.graph.Link.{Link}
use Rattle.pt_graph_text.specs.Lines as graph
use Rattle.pt_sensors.specs.Lines as sensor
use Rattle.pt_air.specs.Lines as air
use Rattle.pt_types.specs.Groups.{no_actor}
use Rattle.pt_audit.specs.declared.verdict.Verdict.{Verdict}
use Rattle.pt_audit.specs.declared.verdict.Verdict.TheVariants as verdict
use Rattle.pt_run.specs.declared.fault.Fault.{Fault}
use Rattle.pt_run.specs.declared.fault.Fault.TheVariants as fault

-- the name of an actor of the graph; empty without a graph
abbrev pub actor_name_in : Option Graph → ℕ → List ℕ
actor_name_in None a = []
actor_name_in (Some g) a = (slice_index_or g.actors a no_actor).name

-- the name of a platform of the graph; empty without a graph
abbrev pub platform_name_in : Option Graph → ℕ → List ℕ
platform_name_in None p = []
platform_name_in (Some g) p = slice_index_or g.platforms p []

-- the name of the sender of a link of the graph; empty without a graph, and where the graph has no such link
abbrev pub sender_name_in : Option Graph → ℕ → List ℕ
sender_name_in None l = []
sender_name_in (Some g) l = option_map_or (λ (link : Link). actor_name_in (Some g) link.from) (slice_get g.links l) []

-- the name of an actor, after a space
abbrev pub name_after_space : Option Graph → ℕ → List ℕ
name_after_space g a = codes " " ++ actor_name_in g a

-- why a log is refused. No log is refused as fine
abbrev pub verdict_text : Verdict → Option Graph → List ℕ
verdict_text verdict.TooLong g = codes "too long"
verdict_text verdict.NoLog g = codes "no log"
verdict_text (verdict.Turn line) g = codes "turn at line " ++ decimal line
verdict_text (verdict.Unfinished platform) g = codes "unfinished " ++ platform_name_in g platform
verdict_text (verdict.Unlinked link) g = codes "link " ++ sender_name_in g link
verdict_text verdict.Table g = codes "table"
verdict_text verdict.Fine g = codes "fine"

-- where a late message was late: at TIME.STEP, reading N past L
abbrev pub past_text : Tag → ℕ → ℕ → List ℕ
past_text tag reading limit = codes " at " ++ decimal tag.time ++ codes "." ++ decimal tag.step ++ codes ", reading " ++ decimal reading ++ codes " past " ++ decimal limit

-- the line of each fault
abbrev pub note_line : Fault → Option Graph → List ℕ
note_line fault.Usage g = codes "usage: ptides run GRAPH [--workers N] [--clock paced|step:START:STEP|machine] [--log] | check GRAPH | meaning GRAPH | make NUMBER [--workers N] | migrate GRAPH | audit GRAPH LOG | slacks GRAPH | replay GRAPH AIR [--workers N] [--log]" ++ 10 ∷ []
note_line (fault.Graph f) g = graph.fault_line f
note_line (fault.Cycle actors) g = codes "graph: cycle" ++ flat_map (name_after_space g) actors ++ 10 ∷ []
note_line (fault.Infeasible send offset slack) g = codes "graph: infeasible " ++ actor_name_in g send ++ codes ", offset " ++ signed_decimal offset ++ codes ", slack " ++ decimal slack ++ 10 ∷ []
note_line (fault.Ring sends gain) g = codes "graph: ring" ++ flat_map (name_after_space g) sends ++ codes ", gain " ++ decimal gain ++ 10 ∷ []
note_line (fault.Sensor actor f) g = sensor.sensor_fault_line (actor_name_in g actor) f
note_line (fault.LateRow actor row seen limit) g = sensor.late_line (actor_name_in g actor) row seen limit
note_line (fault.LateMessage platform actor tag reading limit) g = codes "late " ++ actor_name_in g actor ++ past_text tag reading limit ++ 10 ∷ []
note_line (fault.LateAir platform actor tag reading limit row) g = codes "late " ++ actor_name_in g actor ++ past_text tag reading limit ++ codes ", air row " ++ decimal row ++ 10 ∷ []
note_line (fault.Long None) g = codes "long meaning" ++ 10 ∷ []
note_line (fault.Long (Some platform)) g = codes "long " ++ platform_name_in g platform ++ 10 ∷ []
note_line (fault.Read None) g = codes "read fault: graph" ++ 10 ∷ []
note_line (fault.Read (Some actor)) g = codes "read fault: sensor " ++ actor_name_in g actor ++ 10 ∷ []
note_line fault.ReadLog g = codes "read fault: log" ++ 10 ∷ []
note_line (fault.Air f) g = air.air_fault_line f
note_line fault.ReadAir g = codes "read fault: air" ++ 10 ∷ []
note_line (fault.Unlawful v) g = codes "unlawful: " ++ verdict_text v g ++ 10 ∷ []
note_line fault.Write g = codes "write fault" ++ 10 ∷ []
note_line fault.Memory g = codes "memory" ++ 10 ∷ []
