use Rattle.std.proofs.Common.{◌≡◌, ◌+◌, ◌-◌, ◌∷◌, ◌++◌, [], length, ap, ap₂, sym, subst, ◌∙◌, arith}
use Rattle.std.proofs.lemmas.List.{length_push}
use Rattle.pt_history.specs.Indices.{AreBelow, RoomyItems, values_at}
use Rattle.pt_history.proofs.Blocks.{last_pushed}
use Rattle.pt_history.proofs.ValuesAt.{below_more, below_push, pushed}
use Rattle.pt_history.proofs.repeats.Repeats.push.Goals as goal

pub invariant_of-self : goal.invariant_of-self
invariant_of-self g c =
    let values = c.self.inside.values.items in
    let is = c.self.inside.indices.indices in
    let new = c.push_reserved.new.self.items in
    let spare : c.args.self.now.spare ≡ c.self.inside.indices.spare = ap (λ (v : RoomyItems g.row.T.Denot). v.spare) (sym c.self.view_is) in
    let long : length new ≡ length values + 1 = ap length c.push_reserved.ensures.items ∙ length_push values c.args.item in
    let last : c.len-index.result ≡ length new - 1 = omega (arith, long, c.len-index.ensures, c.self.inside.values.ok.0) in (
      subst (AreBelow (length new)) (sym c.push.ensures.indices) (below_push (length new) c.len-index.result is (below_more (length values) (length new) is (omega (arith, long)) c.self.invariant.0) (omega (arith, last, long))),
      last_pushed c.push.new.self.indices is c.len-index.result c.push.ensures.indices ∙ last,
      omega (arith, c.push_reserved.ensures.len, c.push_reserved.ensures.capacity, c.push.ensures.room, c.self.invariant.2, spare, c.requires),
      omega (arith, long, c.push.ensures.room, c.self.invariant.3, spare, c.requires),
    )

pub returns-clause-items : goal.returns-clause-items
returns-clause-items g c =
    let values = c.self.inside.values.items in
    let is = c.self.inside.indices.indices in
    ap₂ (λ vs ks. values_at vs ks) c.push_reserved.ensures.items c.push.ensures.indices
    ∙ pushed values c.args.item is c.len-index.result (c.len-index.ensures ∙ c.self.inside.values.ok.0) c.self.invariant.0
    ∙ ap (λ (v : RoomyItems g.row.T.Denot). v.items ++ c.args.item ∷ []) c.self.view_is
