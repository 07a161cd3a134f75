use Rattle.std.proofs.Common.{rules, ◌≡◌, ◌+◌, ◌-◌, ◌<◌, ◌∷◌, [], drop, length, set, sym, subst, ap, ◌∙◌, arith}
use Rattle.std.specs.Str.{IsUtf8}
use Rattle.std.proofs.lemmas.List.{drop-set}
use Rattle.std.proofs.lemmas.Str.{IsUtf8-append, IsUtf8-from_ascii}
use Rattle.std.proofs.lemmas.Str.Ascii.{IsAscii-cons, IsAscii-nil}
use Rattle.pt_tables.proofs.line.LineBuffer.put.Goals as goal

pub invariant_of-self : goal.invariant_of-self
invariant_of-self c =
    let start = c.self.inside.start in
    let bytes = c.self.inside.bytes in
    let within : 0 < start = search rules in
    let there : start - 1 < length bytes = search (rules, within) in
    let back : start - 1 + 1 ≡ start = omega (arith, within) in
    let is : drop (start - 1) (set bytes (start - 1) c.args.byte) ≡ c.args.byte ∷ drop start bytes = drop-set bytes (start - 1) c.args.byte there ∙ ap (λ n. c.args.byte ∷ drop n bytes) back in (
      omega (arith, c.self.invariant.0),
      subst IsUtf8 (sym is) (IsUtf8-append (c.args.byte ∷ []) (drop start bytes) (IsUtf8-from_ascii (c.args.byte ∷ []) (IsAscii-cons c.args.byte [] c.requires.ascii IsAscii-nil)) c.self.invariant.1),
    )
