use Rattle.std.proofs.Common.{rules, ◌≡◌, ◌-◌, ◌≤◌, drop, length, sym, subst, ap, ◌∙◌, arith}
use Rattle.std.specs.Str.{IsUtf8}
use Rattle.std.proofs.lemmas.List.{length-drop}
use borrow.Rule.Slice.PartMut.{put_mid}
use Rattle.pt_tables.proofs.Placed.{copied}
use Rattle.pt_tables.proofs.line.LineBuffer.copy_short.Goals as goal

pub invariant_of-self : goal.invariant_of-self
invariant_of-self c =
    let start = c.short.inside.start in
    let bytes = c.self.inside.bytes in
    let other = c.short.inside.bytes in
    let long : length c.args.short.now ≡ length other - start = sym (ap length c.short.view_is) ∙ length-drop start other in
    let size : length bytes ≡ 128 = search rules in
    let same : length other ≡ 128 = search rules in
    let late : 64 ≤ start = omega (arith, long, same, c.requires) in
    let is : drop start (put_mid 64 64 bytes c.copy_from_slice.new.self) ≡ drop start other = copied start bytes other c.copy_from_slice.new.self size same late c.short.invariant.0 c.copy_from_slice.ensures.after in
    (c.short.invariant.0, subst IsUtf8 (sym is) c.short.invariant.1)

pub returns : goal.returns
returns c =
    let start = c.short.inside.start in
    let bytes = c.self.inside.bytes in
    let other = c.short.inside.bytes in
    let long : length c.args.short.now ≡ length other - start = sym (ap length c.short.view_is) ∙ length-drop start other in
    let size : length bytes ≡ 128 = search rules in
    let same : length other ≡ 128 = search rules in
    let late : 64 ≤ start = omega (arith, long, same, c.requires) in
    let is : drop start (put_mid 64 64 bytes c.copy_from_slice.new.self) ≡ drop start other = copied start bytes other c.copy_from_slice.new.self size same late c.short.invariant.0 c.copy_from_slice.ensures.after in
    is ∙ c.short.view_is
