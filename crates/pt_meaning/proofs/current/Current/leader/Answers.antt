use Rattle.std.proofs.Common.{◌≡◌, ◌∙◌, None, MatchOption, sym, subst}
use Rattle.pt_causality.proofs.Members.{same_default}
use Rattle.pt_meaning.specs.declared.place.EventPlace.{EventPlace}
use Rattle.pt_meaning.specs.Current.{current_value, Slate}
use Rattle.pt_meaning.specs.ComesFirst.{ComesFirst}
use Rattle.pt_meaning.proofs.Currents.{no_values, leads, within}
use Rattle.pt_meaning.proofs.current.Current.leader.Goals as goal

pub returns-in_err-position : goal.returns-in_err-position
returns-in_err-position c =
    let none = no_values c.self.inside.tag c.self.inside.order.items c.self.inside.positions.items c.self.inside.inputs c.in_err-position.ensures in
    subst (λ r. MatchOption r ((q : EventPlace) → current_value c.args.self.now q ≡ None) (ComesFirst (current_value c.args.self.now))) (sym c.from_residual.ensures)
    (subst (λ (s : Slate). (q : EventPlace) → current_value s q ≡ None) c.self.view_is none)

pub returns : goal.returns
returns c =
    let tag = c.self.inside.tag in let order = c.self.inside.order.items in let positions = c.self.inside.positions.items in let inputs = c.self.inside.inputs in
    let k = c.in_ok-position.position in
    let less = within tag order positions inputs c.self.invariant k c.in_ok-position.ensures.there in
    let stands = c.index-standing.ensures ∙ same_default order k c.index-standing.result.now (record { rank = 0; actor = 0 }) less in
    subst (λ (s : Slate). ComesFirst (current_value s) (record { tag = tag; rank = c.index-standing.result.now.rank; actor = c.index-standing.result.now.actor; port = 0 })) c.self.view_is
    (leads tag order positions inputs c.self.invariant k c.in_ok-position.ensures c.index-standing.result.now stands)
