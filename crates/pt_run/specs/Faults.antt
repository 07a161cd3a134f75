-- The fault of a call, from the faults of its parts.
use Rattle.std.specs.Prelude.{ℕ, None, Option, Some}
use Rattle.pt_graph_text.specs.declared.fault.GraphFault.{GraphFault}
use Rattle.pt_graph_text.specs.declared.fault.GraphFault.TheVariants as graph
use Rattle.pt_causality.specs.declared.cycle.CycleFault.{CycleFault}
use Rattle.pt_causality.specs.declared.cycle.CycleFault.TheVariants as cycle
use Rattle.pt_offsets.specs.declared.fault.OffsetFault.{OffsetFault}
use Rattle.pt_offsets.specs.declared.fault.OffsetFault.TheVariants as offset
use Rattle.pt_offsets.specs.declared.fault.PlanFault.{PlanFault}
use Rattle.pt_offsets.specs.declared.fault.PlanFault.TheVariants as plan
use Rattle.pt_sensor_files.specs.declared.recorded_fault.RecordedFault.{RecordedFault}
use Rattle.pt_sensor_files.specs.declared.recorded_fault.RecordedFault.TheVariants as recorded
use Rattle.pt_air.specs.declared.fault.AirFault.{AirFault}
use Rattle.pt_air.specs.declared.fault.AirFault.TheVariants as air
use Rattle.pt_slacks.specs.declared.slack.SlackFault.{SlackFault}
use Rattle.pt_slacks.specs.declared.slack.SlackFault.TheVariants as slack
use Rattle.pt_turn.specs.declared.fault.TurnFault.{TurnFault}
use Rattle.pt_turn.specs.declared.fault.TurnFault.TheVariants as turn
use Rattle.pt_run.specs.declared.fault.Fault.{Fault}
use Rattle.pt_run.specs.declared.fault.Fault.TheVariants as fault

-- the fault of a call, from that of the graph file: out of memory is one fault for all parts
abbrev pub fault_of_graph : GraphFault → Fault
fault_of_graph graph.Memory = fault.Memory
fault_of_graph f = fault.Graph f

-- the fault of a call, from that of a graph with a cycle
abbrev pub fault_of_cycle : CycleFault → Fault
fault_of_cycle cycle.Memory = fault.Memory
fault_of_cycle (cycle.Cycle actors) = fault.Cycle actors

-- the fault of a call, from that of a graph with a sender that can't send in time
abbrev pub fault_of_offset : OffsetFault → Fault
fault_of_offset offset.Memory = fault.Memory
fault_of_offset (offset.Infeasible send o slack) = fault.Infeasible send o slack

-- the fault of a call, from that of a graph without least slacks
abbrev pub fault_of_slacks : SlackFault → Fault
fault_of_slacks slack.Memory = fault.Memory
fault_of_slacks (slack.Ring sends gain) = fault.Ring sends gain

-- the fault of a call, from that of a graph without a plan
abbrev pub fault_of_plan : PlanFault → Fault
fault_of_plan plan.Memory = fault.Memory
fault_of_plan (plan.Cycle f) = fault_of_cycle f
fault_of_plan (plan.Offset f) = fault_of_offset f

-- the fault of a call, from that of the sensors' files
abbrev pub fault_of_rows : RecordedFault → Fault
fault_of_rows recorded.Memory = fault.Memory
fault_of_rows (recorded.Read sensor) = fault.Read (Some sensor)
fault_of_rows (recorded.Sensor actor f) = fault.Sensor actor f
fault_of_rows (recorded.Late actor row seen limit) = fault.LateRow actor row seen limit

-- the fault of a call, from that of the recording of a network
abbrev pub fault_of_air : AirFault → Fault
fault_of_air air.Memory = fault.Memory
fault_of_air f = fault.Air f

-- the fault of a call whose run this platform stopped with this fault; in a replay with the first row of its recording that breaks a
-- stated bound, if one does
abbrev pub fault_of_turn : ℕ → Option ℕ → TurnFault → Fault
fault_of_turn platform breach turn.Long = fault.Long (Some platform)
fault_of_turn platform None (turn.Late actor tag reading limit) = fault.LateMessage platform actor tag reading limit
fault_of_turn platform (Some row) (turn.Late actor tag reading limit) = fault.LateAir platform actor tag reading limit row
