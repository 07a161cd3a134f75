use Rattle.std.proofs.Common.{rules, ◌≡◌, ◌+◌, ◌-◌, ◌≤◌, ◌++◌, drop, length, sym, subst, ap, ◌∙◌, arith}
use Rattle.std.specs.Str.{IsUtf8}
use Rattle.std.proofs.lemmas.List.{length-drop}
use Rattle.std.proofs.lemmas.Str.{IsUtf8-append}
use borrow.Rule.Slice.PartMut.{put_mid}
use Rattle.pt_tables.proofs.Placed.{copied_before}
use Rattle.pt_tables.proofs.line.LineBuffer.put_short.Goals as goal

pub invariant_of-self : goal.invariant_of-self
invariant_of-self c =
    let end = c.self.inside.start in
    let start = c.short.inside.start in
    let bytes = c.self.inside.bytes in
    let other = c.short.inside.bytes in
    let size : length bytes ≡ 128 = search rules in
    let same : length other ≡ 128 = search rules in
    let here : length c.args.self.now ≡ length bytes - end = sym (ap length c.self.view_is) ∙ length-drop end bytes in
    let there : length c.args.short.now ≡ length other - start = sym (ap length c.short.view_is) ∙ length-drop start other in
    let far : 64 ≤ end = omega (arith, here, size, c.requires.room) in
    let late : 64 ≤ start = omega (arith, there, same, c.requires.short) in
    let is : drop (end - 64 + (start - 64)) (put_mid (end - 64) (end - (end - 64)) bytes c.copy_from_slice.new.self) ≡ drop start other ++ drop end bytes =
    copied_before end start bytes other c.copy_from_slice.new.self size same far c.self.invariant.0 late c.short.invariant.0 c.copy_from_slice.ensures.after in
    (omega (arith, far, late, c.self.invariant.0, c.short.invariant.0), subst IsUtf8 (sym is) (IsUtf8-append (drop start other) (drop end bytes) c.short.invariant.1 c.self.invariant.1))

pub returns : goal.returns
returns c =
    let end = c.self.inside.start in
    let start = c.short.inside.start in
    let bytes = c.self.inside.bytes in
    let other = c.short.inside.bytes in
    let size : length bytes ≡ 128 = search rules in
    let same : length other ≡ 128 = search rules in
    let here : length c.args.self.now ≡ length bytes - end = sym (ap length c.self.view_is) ∙ length-drop end bytes in
    let there : length c.args.short.now ≡ length other - start = sym (ap length c.short.view_is) ∙ length-drop start other in
    let far : 64 ≤ end = omega (arith, here, size, c.requires.room) in
    let late : 64 ≤ start = omega (arith, there, same, c.requires.short) in
    let is : drop (end - 64 + (start - 64)) (put_mid (end - 64) (end - (end - 64)) bytes c.copy_from_slice.new.self) ≡ drop start other ++ drop end bytes =
    copied_before end start bytes other c.copy_from_slice.new.self size same far c.self.invariant.0 late c.short.invariant.0 c.copy_from_slice.ensures.after in
    is ∙ ap (λ l. l ++ drop end bytes) c.short.view_is ∙ ap (λ l. c.args.short.now ++ l) c.self.view_is
