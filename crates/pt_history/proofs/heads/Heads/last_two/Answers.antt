use Rattle.std.proofs.Common.{◌++◌, ◌∷◌, [], ap, ap₂, sym, ◌∙◌}
use Rattle.pt_history.specs.declared.head.Head.{Head}
use Rattle.pt_history.specs.declared.heads.Recent.{Recent}
use Rattle.pt_history.specs.Indices.{RoomyItems}
use Rattle.pt_history.specs.Recents.{heads_in}
use Rattle.pt_history.proofs.LastTwo.{ends_with}
use Rattle.pt_history.proofs.heads.Heads.last_two.Goals as goal

pub returns-in-TwoSingles : goal.returns-in-TwoSingles
returns-in-TwoSingles c =
    let past = c.self.inside.past.items in
    let two = ap (λ (r : Recent). past ++ heads_in r) c.in-TwoSingles.is ∙ ap₂ (λ (a b : Head). past ++ a ∷ b ∷ []) (sym c.single.ensures) (sym c.single-in-TwoSingles.ensures) in
    ends_with past c.args.self.now.items c.single.result c.single-in-TwoSingles.result (ap (λ (v : RoomyItems Head). v.items) (sym c.self.view_is) ∙ two)

pub returns-in-Two : goal.returns-in-Two
returns-in-Two c =
    let past = c.self.inside.past.items in
    let two = ap (λ (r : Recent). past ++ heads_in r) c.in-Two.is ∙ ap (λ (h : Head). past ++ c.in-Two.before ∷ h ∷ []) (sym c.single-in-Two.ensures) in
    ends_with past c.args.self.now.items c.in-Two.before c.single-in-Two.result (ap (λ (v : RoomyItems Head). v.items) (sym c.self.view_is) ∙ two)
