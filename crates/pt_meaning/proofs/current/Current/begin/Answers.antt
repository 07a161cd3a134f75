use Rattle.std.proofs.Common.{◌≡◌, ◌∙◌, None, sym, subst}
use Rattle.pt_meaning.specs.Current.{current_value, Slate}
use Rattle.pt_meaning.proofs.Currents.{no_values, none_first}
use Rattle.pt_meaning.proofs.current.Current.begin.Goals as goal

pub returns : goal.returns
returns c = λ q.
    let none = none_first _ _ c.first.result (sym c.is_some.ensures ∙ c.if-is_some.false) c.first.ensures in
    no_values c.args.tag c.self.inside.order.items c.self.inside.positions.items c.self.inside.inputs none q
    ∙ sym (subst (λ (s : Slate). current_value s q ≡ None) c.self.view_is (no_values c.self.inside.tag c.self.inside.order.items c.self.inside.positions.items c.self.inside.inputs none q))
