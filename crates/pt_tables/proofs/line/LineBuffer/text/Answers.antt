use Rattle.std.proofs.Common.{rules, ◌≡◌, ◌+◌, ◌-◌, ◌≤◌, ◌++◌, drop, length, sym, subst, ap, ◌∙◌, arith}
use Rattle.std.specs.Str.{IsUtf8}
use Rattle.std.proofs.lemmas.List.{length-drop}
use Rattle.std.proofs.lemmas.Str.{IsUtf8-append}
use borrow.Rule.Slice.PartMut.{put_mid}
use Rattle.pt_tables.proofs.Placed.{placed}
use Rattle.pt_tables.proofs.line.LineBuffer.text.Goals as goal

pub invariant_of-self : goal.invariant_of-self
invariant_of-self c =
    let start = c.self.inside.start in
    let bytes = c.self.inside.bytes in
    let text = c.args.text.now in
    let from = start - length text in
    let long : length c.args.self.now ≡ length bytes - start = sym (ap length c.self.view_is) ∙ length-drop start bytes in
    let room : length text ≤ start = search (rules, long) in
    let within : from ≤ length bytes = search (rules, long) in
    let back : from + (start - from) ≡ start = omega (arith, room) in
    let is : drop from (put_mid from (start - from) bytes c.copy_from_slice.new.self) ≡ text ++ drop start bytes =
    placed from (start - from) bytes c.copy_from_slice.new.self within
    ∙ ap (λ n. c.copy_from_slice.new.self ++ drop n bytes) back
    ∙ ap (λ new. new ++ drop start bytes) (c.copy_from_slice.ensures.after ∙ c.as_bytes.ensures.value) in
    (omega (arith, c.self.invariant.0), subst IsUtf8 (sym is) (IsUtf8-append text (drop start bytes) c.utf8.text c.self.invariant.1))
