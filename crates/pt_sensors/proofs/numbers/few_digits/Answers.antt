use Rattle.std.proofs.Common.{rules, arith, ◌≡◌, ◌+◌, ◌*◌, ◌<◌, get_or, length, true}
use Rattle.pt_sensors.specs.Numbers.{is_decimal_digit}
use Rattle.pt_sensors.proofs.Values.{digit_is_small, few_fit, more_digits}
use Rattle.pt_sensors.proofs.numbers.few_digits.Goals as goal

pub overflow_mul-value : goal.overflow_mul-value
overflow_mul-value c =
    let within : c.loop-byte.byte-index < length c.args.field.now = search rules in
    let more = more_digits c.loop-byte.value c.loop-byte.byte-index 0 c.loop-byte.invariant.1 (omega arith) in
    let fits = few_fit (c.loop-byte.value * 10 + 0) (c.loop-byte.byte-index + 1) more (omega (arith, within, c.requires)) in
    omega (arith, fits)

pub overflow_add-value : goal.overflow_add-value
overflow_add-value c =
    let within : c.loop-byte.byte-index < length c.args.field.now = search rules in
    let digit : is_decimal_digit (get_or c.args.field.now c.loop-byte.byte-index 0) ≡ true = search rules in
    let small : c.from.result < 10 = rw c.from.ensures (digit_is_small _ digit) in
    let more = more_digits c.loop-byte.value c.loop-byte.byte-index c.from.result c.loop-byte.invariant.1 small in
    let fits = few_fit (c.loop-byte.value * 10 + c.from.result) (c.loop-byte.byte-index + 1) more (omega (arith, within, c.requires)) in
    omega (arith, fits)
