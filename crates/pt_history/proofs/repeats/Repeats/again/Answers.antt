use Rattle.std.proofs.Common.{◌≡◌, ◌-◌, ◌<◌, ◌∷◌, ◌++◌, [], length, get_or, refl, ap, sym, subst, ◌∙◌, arith}
use Rattle.std.specs.Prelude.{slice_get}
use Rattle.pt_history.specs.Indices.{AreBelow, RoomyItems, values_at}
use Rattle.pt_history.proofs.Blocks.{last_pushed}
use Rattle.pt_history.proofs.ValuesAt.{below_get, below_push, length-values, repeated}
use Rattle.pt_history.proofs.repeats.Repeats.again.Goals as goal

pub invariant_of-self : goal.invariant_of-self
invariant_of-self g c =
    let values = c.self.inside.values.items in
    let is = c.self.inside.indices.indices in
    let many : length c.args.self.now.items ≡ length is = ap (λ (v : RoomyItems g.row.T.Denot). length v.items) (sym c.self.view_is) ∙ length-values values is c.self.invariant.0 in
    let low : get_or is (length is - 1) 0 < length values = below_get (length values) (length is - 1) is c.self.invariant.0 (omega (arith, many, c.requires.begun)) in (
      subst (AreBelow (length values)) (sym c.again.ensures.indices) (below_push (length values) (get_or is (length is - 1) 0) is c.self.invariant.0 low),
      last_pushed c.again.new.self.indices is (get_or is (length is - 1) 0) c.again.ensures.indices ∙ c.self.invariant.1,
      omega (arith, c.self.invariant.2, c.again.ensures.room),
      omega (arith, c.self.invariant.3, c.again.ensures.room),
    )

pub returns-clause-items : goal.returns-clause-items
returns-clause-items g c = λ x at.
    let values = c.self.inside.values.items in
    let is = c.self.inside.indices.indices in
    ap (values_at values) c.again.ensures.indices
    ∙ repeated values x is (get_or is (length is - 1) 0) refl c.self.invariant.0 (ap (λ (v : RoomyItems g.row.T.Denot). slice_get v.items (length v.items - 1)) c.self.view_is ∙ at)
    ∙ ap (λ (v : RoomyItems g.row.T.Denot). v.items ++ x ∷ []) c.self.view_is
