use Rattle.std.proofs.Common.{OnOk, rules, sym, subst}
use Rattle.std.proofs.lemmas.Result.{IfOk-weaker}
use Rattle.pt_meaning.specs.Current.{current_value, Slate}
use Rattle.pt_meaning.specs.Front.{Enters}
use Rattle.pt_meaning.specs.Held.{late_value, pending_value}
use Rattle.pt_meaning.proofs.Parts.{either_of, enters_far, enters_near}
use Rattle.pt_meaning.proofs.late.Late.put.Goals as goal

pub returns-then-enter : goal.returns-then-enter
returns-then-enter c =
    let entered : Enters c.args.place c.args.value (current_value c.args.self.now.current) (current_value c.enter.new.self) = search rules in
    enters_far c.args.place c.args.value (pending_value c.args.self.now.pending) (current_value c.args.self.now.current) (current_value c.enter.new.self) entered

pub returns : goal.returns
returns c =
    let entered : OnOk c.enter-2.result (Enters c.args.place c.args.value (pending_value c.args.self.now.pending) (pending_value c.enter-2.new.self)) = search rules in
    let none = c.if-enter.ensures in
    IfOk-weaker c.enter-2.result _ _
    (λ u h. subst (λ (s : Slate). Enters c.args.place c.args.value (late_value c.args.self.now) (either_of (pending_value c.enter-2.new.self) (current_value s))) (sym none.1)
    (enters_near c.args.place c.args.value (pending_value c.args.self.now.pending) (current_value c.args.self.now.current) (pending_value c.enter-2.new.self) none.0 h))
    entered
