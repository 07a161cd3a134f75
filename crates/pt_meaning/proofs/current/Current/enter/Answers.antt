use Rattle.std.proofs.Common.{◌≡◌, ◌∙◌, ◌<◌, ◌&&◌, nat_lt, true, None, Some, length, slice_set, sym, subst, arith, rules}
use Rattle.pt_types.specs.Ports.{at_port}
use Rattle.pt_meaning.specs.Ready.{ports_at}
use Rattle.pt_meaning.specs.Current.{current_value, is_standing_of, position_at, standing_at, slate_value, Slate}
use Rattle.pt_meaning.specs.Front.{Enters}
use Rattle.pt_meaning.proofs.Currents.{and_both, enters_at, less_then, none_if, not_false, tag_is}
use Rattle.pt_meaning.proofs.current.Current.enter.Goals as goal

pub returns : goal.returns
returns c =
    let tag = c.self.inside.tag in let order = c.self.inside.order.items in let positions = c.self.inside.positions.items in let inputs = c.self.inside.inputs in
    let k = c.position_of-position.result in
    let place = c.args.place in
    let at : position_at c.self.inside.order.items c.self.inside.positions.items c.args.place.actor ≡ c.position_of-position.result = search rules in
    let both : (nat_lt c.position_of-position.result (length c.self.inside.order.items) && is_standing_of c.args.place (standing_at c.self.inside.order.items c.position_of-position.result)) ≡ true = search rules in
    let parts = and_both (nat_lt k (length order)) (is_standing_of place (standing_at order k)) both in
    let low : k < length order = less_then k (length order) parts.0 in
    let there : k < length inputs = let same = c.self.invariant.same in omega (arith, low, same) in
    let tagged = tag_is place.tag tag (not_false _ (sym c.ne.ensures ∙ c.if-ne.false)) in
    let none : at_port (ports_at c.self.inside.inputs c.position_of-position.result) c.args.place.port ≡ None = sym c.get.ensures.value ∙ none_if c.get.result (sym c.is_some.ensures ∙ c.if-is_some.false) in
    let port : place.port < length (ports_at inputs k) = let wide = c.get.ensures.len in let few = c.if-place-ge8.false in omega (arith, wide, few) in
    let put : c.put.new.self ≡ slice_set c.self.inside.inputs c.position_of-position.result (slice_set (ports_at c.self.inside.inputs c.position_of-position.result) c.args.place.port (Some c.args.value)) = search rules in
    subst (λ (s : Slate). Enters place c.args.value (current_value s) (slate_value tag order positions c.put.new.self)) c.self.view_is
    (subst (λ xs. Enters place c.args.value (slate_value tag order positions inputs) (slate_value tag order positions xs)) (sym put)
    (enters_at tag order positions inputs place c.args.value k at parts.1 tagged there port none))
