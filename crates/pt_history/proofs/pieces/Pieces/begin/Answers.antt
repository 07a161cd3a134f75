use Rattle.std.proofs.Common.{◌≡◌, ◌++◌, ◌∷◌, [], length, ap, sym, subst, ◌∙◌}
use Rattle.pt_history.specs.Lists.{RoomyLists, pieces, Rises}
use Rattle.pt_history.proofs.Cutting.{pieces_begin, rises_begin}
use Rattle.pt_history.proofs.pieces.Pieces.begin.Goals as goal

pub invariant_of-self : goal.invariant_of-self
invariant_of-self g c =
    let is : c.begin.new.self.ends ≡ c.self.inside.ends.ends ++ length c.self.inside.items.items ∷ [] = c.begin.ensures.ends ∙ ap (λ k. c.self.inside.ends.ends ++ k ∷ []) c.self.invariant.2 in (
      subst (λ es. Rises 0 es (length c.self.inside.items.items)) (sym is) (rises_begin 0 c.self.inside.ends.ends (length c.self.inside.items.items) c.self.invariant.0),
      c.self.invariant.1,
      c.begin.ensures.total ∙ c.self.invariant.2,
      c.self.invariant.3,
    )

pub returns-clause-lists : goal.returns-clause-lists
returns-clause-lists g c =
    let is : c.begin.new.self.ends ≡ c.self.inside.ends.ends ++ length c.self.inside.items.items ∷ [] = c.begin.ensures.ends ∙ ap (λ k. c.self.inside.ends.ends ++ k ∷ []) c.self.invariant.2 in
    ap (λ es. pieces 0 es c.self.inside.items.items) is
    ∙ pieces_begin 0 c.self.inside.ends.ends c.self.inside.items.items c.self.invariant.0
    ∙ ap (λ (v : RoomyLists g.row.T.Denot). v.lists ++ [] ∷ []) c.self.view_is
