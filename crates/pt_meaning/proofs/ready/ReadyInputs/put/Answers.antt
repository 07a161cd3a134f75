use Rattle.std.proofs.Common.{◌≡◌, ◌<◌, ◌∙◌, length, slice_set, Some, [], sym, ap, subst, arith, rules}
use Rattle.std.proofs.lemmas.List.{length-set}
use Rattle.pt_causality.proofs.Members.{same_default}
use Rattle.pt_meaning.specs.Ready.{ports_at, bit_if}
use Rattle.pt_semantics.specs.Firing.{any_present}
use Rattle.pt_meaning.proofs.Readies.{changed, put_present}
use Rattle.pt_meaning.proofs.ready.ReadyInputs.put.Goals as goal

pub invariant_of-self : goal.invariant_of-self
invariant_of-self c =
    let inputs = c.self.inside.inputs.items in
    let there : c.args.position < length inputs = subst (λ xs. c.args.position < length xs) (sym c.self.view_is) c.requires.position in
    let was : c.index_mut.result.now ≡ ports_at inputs c.args.position = c.index_mut.ensures.value ∙ same_default inputs c.args.position c.index_mut.result.now [] there in
    let put : c.put.new.self ≡ slice_set c.index_mut.result.now c.args.port (Some c.args.value) = search rules in
    let eight : length c.index_mut.result.now ≡ 8 = ap length was ∙ c.self.invariant.eight c.args.position there in
    let wide : length c.put.new.self ≡ 8 = ap length put ∙ length-set c.index_mut.result.now c.args.port (Some c.args.value) ∙ eight in
    let present = ap any_present put ∙ put_present c.index_mut.result.now c.args.port c.args.value (omega (arith, eight, c.requires.port)) in
    changed inputs c.self.inside.ready.items c.set_bit.new.words.items c.args.position c.put.new.self c.self.invariant there wide
    (c.set_bit.ensures.here ∙ sym (ap bit_if present)) c.set_bit.ensures.others c.set_bit.ensures.len
