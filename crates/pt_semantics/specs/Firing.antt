-- What each kind gives for its state and its inputs.
use Rattle.std.specs.Prelude.{ℕ, zero, suc, Bool, true, false, ◌&&◌, List, [], ◌∷◌, take, drop, pos, ℤ, ◌+ℤ◌, ◌-ℤ◌, ◌*ℤ◌, int_lt, int_le, int_div, Option, Some, None, unwrap_or, is_some}
use Rattle.std.specs.Ordering.{int_eq}
use Rattle.pt_types.specs.declared.kind.Kind.{Kind}
use Rattle.pt_types.specs.declared.kind.Kind.TheVariants.{Sensor, Receive, Send, Actuator, Scale, Shift, Add, Sub, Above, Merge, Count, Sum, Latch, Machine, Every, Block, Lanes}
use Rattle.pt_types.specs.declared.kind.Law.{Law}
use Rattle.pt_types.specs.declared.kind.MachineRow.{MachineRow}
use Rattle.pt_types.specs.declared.firing.Fired.{Fired}
use Rattle.pt_types.specs.Ports.{when, at_port, eight, nothing, only}
use Rattle.pt_semantics.specs.Lists.{first_of}
use Rattle.pt_semantics.specs.Laws.{nearest, law_value}

-- an absent value counts as 0
abbrev pub or_zero : Option ℤ → ℤ
or_zero x = unwrap_or x (pos 0)

-- a row without a guard can always be taken; one with a guard only if the law of input and state is greater than 0
abbrev pub guard_holds : Option (ℕ × Law) → ℤ → ℤ → Bool
guard_holds None a q = true
guard_holds (Some guard) a q = int_lt (pos 0) (law_value guard.1 a q)

-- the row, if it fits the state q and the input a
abbrev pub row_fits : ℤ → ℤ → MachineRow → Option MachineRow
row_fits q a row = when (int_eq row.state q && int_le row.low a && int_le a row.high && guard_holds row.guard a q) (Some row)

abbrev pub emitted_by : Option (ℕ × ℤ) → ℕ → Option ℤ
emitted_by None = nothing
emitted_by (Some emit) = only emit.0 (Some emit.1)

-- a machine takes the first row that fits; if there is none, its state is unchanged and it gives nothing
abbrev pub machine_step : ℤ → Option MachineRow → Fired
machine_step q None = record { state = q; outputs = eight nothing }
machine_step q (Some row) = record { state = row.next; outputs = eight (emitted_by row.emit) }

-- the sum of the values that are present
abbrev pub present_sum : List (Option ℤ) → ℤ
present_sum [] = pos 0
present_sum (None ∷ xs) = present_sum xs
present_sum (Some x ∷ xs) = x +ℤ present_sum xs

abbrev pub any_present : List (Option ℤ) → Bool
any_present [] = false
any_present (None ∷ xs) = any_present xs
any_present (Some x ∷ xs) = true

-- each cell gives the sum of its inputs that are present, and nothing if none is
abbrev pub lane_outputs : List ℕ → List (Option ℤ) → ℕ → Option ℤ
lane_outputs [] inputs p = None
lane_outputs (n ∷ ns) inputs zero = when (any_present (take n inputs)) (Some (nearest (present_sum (take n inputs))))
lane_outputs (n ∷ ns) inputs (suc p) = lane_outputs ns (drop n inputs) p

abbrev pub identity : Option ℤ → Option ℤ
identity x = x

-- this state, and this value at output 0
abbrev pub gives : ℤ → Option ℤ → Fired
gives q value = record { state = q; outputs = eight (only 0 value) }

-- an `every` gives its count at output 0, and 0 at its hidden output 1
abbrev pub count_and_tick : ℤ → ℕ → Option ℤ
count_and_tick q zero = Some q
count_and_tick q (suc zero) = Some (pos 0)
count_and_tick q (suc (suc p)) = None

abbrev pub lift : (ℤ → ℤ) → Option ℤ → Option ℤ
lift f None = None
lift f (Some x) = Some (f x)

abbrev pub keep_if : (ℤ → Bool) → Option ℤ → Option ℤ
keep_if f None = None
keep_if f (Some x) = when (f x) (Some x)

-- the new state and the outputs of an actor of this kind, for its state q and its inputs
abbrev pub fired : Kind → ℤ → List (Option ℤ) → Fired
fired (Sensor file bound) q inputs = gives q (at_port inputs 0)
fired Receive q inputs = gives q (at_port inputs 0)
fired (Send slack) q inputs = gives q (at_port inputs 0)
fired (Actuator slack) q inputs = gives q None
fired (Scale num den) q inputs = gives q (lift (λ a. nearest (int_div (a *ℤ num) den)) (at_port inputs 0))
fired (Shift by) q inputs = gives q (lift (λ a. nearest (a +ℤ by)) (at_port inputs 0))
fired Add q inputs = gives q (Some (nearest (or_zero (at_port inputs 0) +ℤ or_zero (at_port inputs 1))))
fired Sub q inputs = gives q (Some (nearest (or_zero (at_port inputs 0) -ℤ or_zero (at_port inputs 1))))
fired (Above limit) q inputs = gives q (keep_if (λ a. int_lt limit a) (at_port inputs 0))
fired (Merge n) q inputs = gives q (first_of identity inputs)
fired (Kind.Delay d) q inputs = gives q (at_port inputs 0)
fired Count q inputs = let next = nearest (q +ℤ pos 1) in gives next (Some next)
fired Sum q inputs = let next = nearest (q +ℤ or_zero (at_port inputs 0)) in gives next (Some next)
fired Latch q inputs = let next = unwrap_or (at_port inputs 0) q in gives next (when (is_some (at_port inputs 1)) (Some next))
fired (Machine start outputs rows) q inputs = machine_step q (first_of (row_fits q (or_zero (at_port inputs 0))) rows)
fired (Every start period) q inputs = record { state = nearest (q +ℤ pos 1); outputs = eight (count_and_tick q) }
fired (Block block law) q inputs = gives q (Some (law_value law (or_zero (at_port inputs 0)) (or_zero (at_port inputs 1))))
fired (Lanes cells) q inputs = record { state = q; outputs = eight (lane_outputs cells inputs) }
