-- The visible ports of each kind, and the ranges of its parameters.
use Rattle.std.specs.Prelude.{ℕ, ℤ, pos, negsuc, ◌&&◌, Bool, true, length, sum, nat_le, int_le, nat_lt, Option, Some, None}
use Rattle.std.specs.List.{list_all}
use Rattle.pt_types.specs.Limits.{most_time}
use Rattle.pt_types.specs.Names.{is_file}
use Rattle.pt_types.specs.declared.kind.Kind.{Kind}
use Rattle.pt_types.specs.declared.kind.Kind.TheVariants.{Sensor, Receive, Send, Actuator, Scale, Add, Sub, Merge, Delay, Latch, Machine, Every, Block, Lanes}
use Rattle.pt_types.specs.declared.kind.Law.{Law}
use Rattle.pt_types.specs.declared.kind.Law.TheVariants.{Least, Greatest, Middle, Deadband, Weighted, Formula}
use Rattle.pt_types.specs.declared.kind.MachineRow.{MachineRow}

-- the number of inputs that wires of the file can lead to
abbrev pub visible_inputs : Kind → ℕ
visible_inputs (Sensor file bound) = 0
visible_inputs Receive = 0
visible_inputs (Every start period) = 0
visible_inputs Add = 2
visible_inputs Sub = 2
visible_inputs Latch = 2
visible_inputs (Block block law) = 2
visible_inputs (Merge n) = n
visible_inputs (Lanes cells) = sum cells
visible_inputs _ = 1

-- the number of outputs that wires of the file can leave
abbrev pub visible_outputs : Kind → ℕ
visible_outputs (Send slack) = 0
visible_outputs (Actuator slack) = 0
visible_outputs (Machine start outputs rows) = outputs
visible_outputs (Lanes cells) = length cells
visible_outputs _ = 1

-- the number of inputs with hidden ones: a row, a message or the next start comes in at a hidden input 0
abbrev pub all_inputs : Kind → ℕ
all_inputs (Sensor file bound) = 1
all_inputs Receive = 1
all_inputs (Every start period) = 1
all_inputs kind = visible_inputs kind

abbrev pub is_between : ℤ → ℤ → ℤ → Bool
is_between low high z = int_le low z && int_le z high

abbrev pub is_among : ℕ → ℕ → ℕ → Bool
is_among low high n = nat_le low n && nat_le n high

-- a time in microseconds: at most 10 ^ 15, about 31 years
abbrev pub is_time : ℕ → Bool
is_time t = nat_le t most_time

-- the parameters of a law are in their ranges
abbrev pub law_in_range : Law → Bool
law_in_range Least = true
law_in_range Greatest = true
law_in_range (Middle low high) = int_le low high
law_in_range (Deadband width) = int_le (pos 0) width
law_in_range (Weighted num den) = int_le (pos 0) num && int_le num den && is_between (pos 1) (pos 1000000000) den
law_in_range (Formula steps) = nat_le (length steps) 64

-- the output is below the number of outputs
abbrev pub emit_is_lawful : ℕ → Option (ℕ × ℤ) → Bool
emit_is_lawful outputs None = true
emit_is_lawful outputs (Some emit) = nat_lt emit.0 outputs

abbrev pub guard_is_lawful : Option (ℕ × Law) → Bool
guard_is_lawful None = true
guard_is_lawful (Some guard) = law_in_range guard.1

abbrev pub row_is_lawful : ℕ → MachineRow → Bool
row_is_lawful outputs row = int_le row.low row.high && emit_is_lawful outputs row.emit && guard_is_lawful row.guard

-- the parameters of a kind are in their ranges
abbrev pub kind_is_lawful : Kind → Bool
kind_is_lawful (Sensor file bound) = is_file file && is_time bound
kind_is_lawful (Send slack) = is_time slack
kind_is_lawful (Actuator slack) = is_time slack
kind_is_lawful (Scale num den) = is_between (negsuc 999999999) (pos 1000000000) num && is_between (pos 1) (pos 1000000000) den
kind_is_lawful (Merge n) = is_among 2 8 n
kind_is_lawful (Delay d) = is_time d
kind_is_lawful (Machine start outputs rows) = is_among 1 8 outputs && nat_le (length rows) 64 && list_all (row_is_lawful outputs) rows
kind_is_lawful (Every start period) = is_time start && is_among 1 most_time period
kind_is_lawful (Block block law) = law_in_range law
kind_is_lawful (Lanes cells) = is_among 1 8 (length cells) && list_all (is_among 1 8) cells && nat_le (sum cells) 8
kind_is_lawful _ = true
