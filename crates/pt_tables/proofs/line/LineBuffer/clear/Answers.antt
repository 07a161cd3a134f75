use Rattle.std.proofs.Common.{rules, ◌≡◌, [], drop, length, sym, subst, arith}
use Rattle.std.specs.Str.{IsUtf8}
use Rattle.std.proofs.lemmas.List.{drop_all}
use Rattle.std.proofs.lemmas.Str.{IsUtf8-nil}
use Rattle.pt_tables.proofs.line.LineBuffer.clear.Goals as goal

pub invariant_of-self : goal.invariant_of-self
invariant_of-self c =
    let size : length c.self.inside.bytes ≡ 128 = search rules in
    let none : drop 128 c.self.inside.bytes ≡ [] = drop_all 128 c.self.inside.bytes (omega (arith, size)) in
    (omega arith, subst IsUtf8 (sym none) IsUtf8-nil)

pub returns : goal.returns
returns c =
    let size : length c.self.inside.bytes ≡ 128 = search rules in
    drop_all 128 c.self.inside.bytes (omega (arith, size))
