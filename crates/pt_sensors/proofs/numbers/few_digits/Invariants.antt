use Rattle.std.proofs.Common.{◌≡◌, ◌<◌, ◌^◌, drop}
use Rattle.pt_sensors.specs.Numbers.{held_number, value_from}
use Rattle.pt_sensors.proofs.numbers.few_digits.Given as goal

abbrev pub invariant-loop-byte : goal.invariant-loop-byte
invariant-loop-byte l = (held_number (value_from l.value (drop l.byte-index l.field)) ≡ held_number (value_from 0 l.field)) × (l.value < 10 ^ l.byte-index)
