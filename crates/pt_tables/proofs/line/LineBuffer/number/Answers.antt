use Rattle.std.proofs.Common.{rules, ◌≡◌, ◌-◌, ◌++◌, drop, length, sym, subst, ap, ◌∙◌, arith}
use Rattle.std.specs.Fmt.{decimal}
use Rattle.std.specs.Str.{IsUtf8}
use Rattle.std.proofs.lemmas.Fmt.{IsAscii-decimal, decimal_digit, length-decimal-le}
use Rattle.std.proofs.lemmas.List.{length-drop}
use Rattle.std.proofs.lemmas.Str.{IsUtf8-append, IsUtf8-from_ascii}
use Rattle.pt_tables.proofs.Placed.{digits_fit}
use Rattle.pt_tables.proofs.line.LineBuffer.number.Goals as goal

pub returns-then-number-lt10-clause-value : goal.returns-then-number-lt10-clause-value
returns-then-number-lt10-clause-value c =
    let digit = decimal_digit c.args.number c.if-number-lt10.true in
    search (rules, digit)

pub returns-then-number-lt10-clause-length : goal.returns-then-number-lt10-clause-length
returns-then-number-lt10-clause-length c = omega (arith, ap length c.put.ensures)

pub write_digits-self-inside-requires : goal.write_digits-self-inside-requires
write_digits-self-inside-requires c =
    let digits = length-decimal-le 20 c.args.number (omega arith) (omega (arith, c.ranges.number.fits)) c.ranges.number.fits in
    let long : length c.args.self.now ≡ length c.self.inside.bytes - c.self.inside.start = sym (ap length c.self.view_is) ∙ length-drop c.self.inside.start c.self.inside.bytes in
    search (rules, digits, long)

pub invariant_of-self : goal.invariant_of-self
invariant_of-self c =
    let w = c.write_digits-self-inside in (
      omega (arith, w.ensures.start, c.self.invariant.0),
      subst IsUtf8 (sym w.ensures.written) (IsUtf8-append (decimal c.args.number) (drop c.self.inside.start c.self.inside.bytes) (IsUtf8-from_ascii (decimal c.args.number) (IsAscii-decimal c.args.number c.ranges.number.fits)) c.self.invariant.1),
    )

pub returns-clause-length : goal.returns-clause-length
returns-clause-length c =
    let w = c.write_digits-self-inside in
    digits_fit c.args.number c.args.self.now (drop w.result w.new.buf) c.ranges.number.fits (w.ensures.written ∙ ap (λ rest. decimal c.args.number ++ rest) c.self.view_is)
