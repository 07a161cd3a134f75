use Rattle.std.proofs.Common.{◌≡◌, sym, ap, ◌∙◌, List, Option, ℤ, length}
use Rattle.pt_types.proofs.Eight.{eight_of, same_eight, same_length}
use Rattle.pt_types.proofs.ports.Ports.values.Goals as goal

pub returns : goal.returns
returns c =
    let eight : length c.args.self.now ≡ 8 = ap (λ (xs : List (Option ℤ)). length xs) (sym c.self.view_is) ∙ same_length c.self.inside.there c.self.inside.values c.self.invariant ∙ c.self.told.0 in
    same_eight c.get.ensures c.get-2.ensures c.get-3.ensures c.get-4.ensures c.get-5.ensures c.get-6.ensures c.get-7.ensures c.get-8.ensures ∙ eight_of c.args.self.now eight
