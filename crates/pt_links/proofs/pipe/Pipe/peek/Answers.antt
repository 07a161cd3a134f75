use Rattle.std.proofs.Common.{List, ap, sym, ◌∙◌, arith, rules}
use Rattle.std.specs.Prelude.{slice_get}
use Rattle.pt_tags.specs.declared.message.Message.{Message}
use Rattle.pt_links.proofs.Windows.{window_before_take}
use Rattle.pt_links.proofs.pipe.Pipe.peek.Goals as goal

-- what is held begins with the message at the oldest place
pub returns : goal.returns
returns c =
    sym (ap (λ (messages : List Message). slice_get messages 0) (sym c.self.view_is
    ∙ window_before_take 64 _ _ c.self.inside.places c.self.invariant.0 c.self.invariant.1 (search rules) _ (omega (arith, c.if-self-eq0.false))))
