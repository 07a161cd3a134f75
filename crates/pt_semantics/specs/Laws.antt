-- Saturating arithmetic, and the laws of blocks and guards.
use Rattle.std.specs.Prelude.{◌-◌, ◌^◌, if◌then◌else◌, pos, negsuc, ℤ, ◌+ℤ◌, ◌-ℤ◌, ◌*ℤ◌, int_lt, int_le, int_div, nat_abs}
use Rattle.pt_types.specs.declared.kind.Law.{Law}
use Rattle.pt_types.specs.declared.kind.Law.TheVariants.{Least, Greatest, Middle, Deadband, Weighted, Formula}
use Rattle.pt_formula.specs.Meaning.{value}
pub use Rattle.pt_formula.specs.Meaning.{nearest}

-- the value of a law for a and b
abbrev pub law_value : Law → ℤ → ℤ → ℤ
law_value Least a b = if int_lt b a then b else a
law_value Greatest a b = if int_lt a b then b else a
law_value (Middle low high) a b = if int_lt a low then low else (if int_lt high a then high else a)
law_value (Deadband width) a b = if int_le (pos (nat_abs (a -ℤ b))) width then pos 0 else nearest (a -ℤ b)
law_value (Weighted num den) a b = int_div ((a *ℤ num) +ℤ (b *ℤ (den -ℤ num))) den
law_value (Formula steps) a b = value steps a b
