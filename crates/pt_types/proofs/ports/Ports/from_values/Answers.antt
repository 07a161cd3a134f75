use Rattle.std.proofs.Common.{rules, ◌≡◌, w64, sym, ◌∙◌, subst₂, ap₂, length}
use Rattle.std.proofs.lemmas.Int.{to_z-of_z}
use Rattle.pt_types.specs.Apart.{AreApart, together}
use Rattle.pt_types.proofs.Eight.{apart_all, apart_eight, eight_in, eight_of, together_all}
use Rattle.pt_types.proofs.ports.Ports.from_values.Goals as goal

pub invariant_of-result : goal.invariant_of-result
invariant_of-result c =
    let parts = apart_eight c.args.values
    c.is_there.ensures c.is_there-2.ensures c.is_there-3.ensures c.is_there-4.ensures c.is_there-5.ensures c.is_there-6.ensures c.is_there-7.ensures c.is_there-8.ensures
    (to_z-of_z w64 c.or_zero.result (record { sfits = c.or_zero.type_inv }) ∙ c.or_zero.ensures)
    (to_z-of_z w64 c.or_zero-2.result (record { sfits = c.or_zero-2.type_inv }) ∙ c.or_zero-2.ensures)
    (to_z-of_z w64 c.or_zero-3.result (record { sfits = c.or_zero-3.type_inv }) ∙ c.or_zero-3.ensures)
    (to_z-of_z w64 c.or_zero-4.result (record { sfits = c.or_zero-4.type_inv }) ∙ c.or_zero-4.ensures)
    (to_z-of_z w64 c.or_zero-5.result (record { sfits = c.or_zero-5.type_inv }) ∙ c.or_zero-5.ensures)
    (to_z-of_z w64 c.or_zero-6.result (record { sfits = c.or_zero-6.type_inv }) ∙ c.or_zero-6.ensures)
    (to_z-of_z w64 c.or_zero-7.result (record { sfits = c.or_zero-7.type_inv }) ∙ c.or_zero-7.ensures)
    (to_z-of_z w64 c.or_zero-8.result (record { sfits = c.or_zero-8.type_inv }) ∙ c.or_zero-8.ensures) in
    subst₂ AreApart (sym parts.0) (sym parts.1) (apart_all (eight_in c.args.values))

pub returns : goal.returns
returns c =
    let parts = apart_eight c.args.values
    c.is_there.ensures c.is_there-2.ensures c.is_there-3.ensures c.is_there-4.ensures c.is_there-5.ensures c.is_there-6.ensures c.is_there-7.ensures c.is_there-8.ensures
    (to_z-of_z w64 c.or_zero.result (record { sfits = c.or_zero.type_inv }) ∙ c.or_zero.ensures)
    (to_z-of_z w64 c.or_zero-2.result (record { sfits = c.or_zero-2.type_inv }) ∙ c.or_zero-2.ensures)
    (to_z-of_z w64 c.or_zero-3.result (record { sfits = c.or_zero-3.type_inv }) ∙ c.or_zero-3.ensures)
    (to_z-of_z w64 c.or_zero-4.result (record { sfits = c.or_zero-4.type_inv }) ∙ c.or_zero-4.ensures)
    (to_z-of_z w64 c.or_zero-5.result (record { sfits = c.or_zero-5.type_inv }) ∙ c.or_zero-5.ensures)
    (to_z-of_z w64 c.or_zero-6.result (record { sfits = c.or_zero-6.type_inv }) ∙ c.or_zero-6.ensures)
    (to_z-of_z w64 c.or_zero-7.result (record { sfits = c.or_zero-7.type_inv }) ∙ c.or_zero-7.ensures)
    (to_z-of_z w64 c.or_zero-8.result (record { sfits = c.or_zero-8.type_inv }) ∙ c.or_zero-8.ensures) in
    let eight : length c.args.values ≡ 8 = search rules in
    ap₂ together parts.0 parts.1 ∙ together_all (eight_in c.args.values) ∙ eight_of c.args.values eight
