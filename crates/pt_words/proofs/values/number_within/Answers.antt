use Rattle.std.proofs.Common.{◌≡◌, ℕ, ◌<◌, ◌^◌, true, List, [], ◌∷◌, Err, None, sym, ◌∙◌, arith, rules, length}
use Rattle.std.specs.Char.{is_ascii_digit}
use Rattle.std.specs.List.{list_all}
use Rattle.std.specs.Str.Parse.{digits_value}
use Rattle.std.proofs.lemmas.Str.Parse.{IsNumeralModel, numerals_by_value, parse_digits}
use Rattle.std.proofs.lemmas.Bool.Decides.{nat_tests}
use Rattle.pt_words.specs.Grammar.{is_numeral, number_within}
use Rattle.pt_words.proofs.values.number_within.Goals as goal

-- the test of digits is std's
model : IsNumeralModel (λ ds. list_all is_ascii_digit ds ≡ true) (digits_value 10)
model = numerals_by_value (λ ds. list_all is_ascii_digit ds ≡ true) (search rules)

-- a numeral is not empty, and has digits alone
digits : (bs : List ℕ) → is_numeral bs ≡ true → (0 < length bs) × (list_all is_ascii_digit bs ≡ true)
digits [] h = cc
digits (b ∷ []) h = (omega arith, search rules)
digits (b ∷ c ∷ cs) h = (omega arith, search rules)

none_above : (low high : ℕ) (bs : List ℕ) → high < 2 ^ 64 → (digits_value 10 bs < 2 ^ 64 → ⊥) → None ≡ number_within low high bs
unfolding number_within
none_above low high bs fits large = let past : high < digits_value 10 bs = omega arith in grind (arith, nat_tests)

pub returns-in_default-clause-number : goal.returns-in_default-clause-number
returns-in_default-clause-number c =
    let known = digits c.args.word.now (sym c.is_numeral.ensures ∙ c.if-not-is_numeral.false) in
    let fails = parse_digits model 64 c.args.word.now (Err c.in_default.field-0) c.in_default.ensures.value.0 known.1 in
    none_above c.args.low c.args.high c.args.word.now (omega arith) (λ small. fails (known.0, small))
