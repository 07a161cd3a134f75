use Rattle.std.proofs.Common.{◌≡◌, ◌∙◌, ◌∷◌, true, refl, sym, subst, rules}
use Rattle.pt_meaning.specs.Front.{TakesOne, is_place_of}
use Rattle.pt_meaning.specs.Line.{begins_with, in_line, IsSortedLine}
use Rattle.pt_meaning.specs.Waiting.{place_cmp}
use Rattle.pt_meaning.proofs.Lines.{leaves_first, none_in_front}
use Rattle.pt_meaning.proofs.gap_buffer.GapBufferTakeFirst.take_first.Goals as goal

pub returns-then-not-is_first_of-clause-none : goal.returns-then-not-is_first_of-clause-none
returns-then-not-is_first_of-clause-none c =
    (none_in_front c.args.tag c.args.actor c.args.self.now c.is_first_of.ensures.rising (sym c.is_first_of.ensures.is ∙ c.if-not-is_first_of.true), refl)

pub returns-clause-some : goal.returns-clause-some
returns-clause-some c =
    let t = c.args.tag in let a = c.args.actor in
    let sent = c.in_ok-sent.sent in let now = c.pop.new.self in
    let whole : c.args.self.now ≡ c.in_ok-sent.sent ∷ c.pop.new.self = c.in_ok-sent.ensures in
    let is : is_place_of c.args.tag c.args.actor c.in_ok-sent.sent.place ≡ true = subst (λ es. begins_with t a es ≡ true) whole (sym c.is_first_of.ensures.is ∙ c.if-not-is_first_of.false) in
    let leaves : TakesOne c.args.tag c.args.actor c.in_ok-sent.sent.place.port c.in_ok-sent.sent.value (in_line place_cmp c.args.self.now) (in_line place_cmp c.pop.new.self) =
    subst (λ es. TakesOne t a sent.place.port sent.value (in_line place_cmp es) (in_line place_cmp now)) (sym whole)
    (leaves_first t a sent now (subst (IsSortedLine place_cmp) whole c.is_first_of.ensures.rising) is) in
    search rules
