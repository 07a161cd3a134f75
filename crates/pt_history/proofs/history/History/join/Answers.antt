use Rattle.std.proofs.Common.{◌≡◌, ◌+◌, ◌-◌, ◌∷◌, [], ◌++◌, suc, set, take, length, ap, ap₂, subst, sym, ◌∙◌, arith, ℕ}
use Rattle.pt_history.specs.Heads.{single}
use Rattle.pt_history.specs.Keeping.{IsQuietAt, turns_from}
use Rattle.pt_history.specs.Turns.{RoomyTurns, fresh, quiet}
use Rattle.pt_history.specs.Whole.{lists_of}
use Rattle.pt_history.proofs.Reading.{length-turns}
use Rattle.pt_history.proofs.Joining.{turns_join}
use Rattle.pt_history.proofs.history.History.join.Goals as goal

pub replace-requires : goal.replace-requires
replace-requires c =
    let lists : length c.args.self.now.turns ≡ length c.self.inside.heads.items = ap (λ (v : RoomyTurns). length v.turns) (sym c.self.view_is) ∙ length-turns (lists_of c.self.inside) 0 c.self.inside.heads.items in
    omega (arith, lists, c.requires.are_last)

pub returns-clause-turns : goal.returns-clause-turns
returns-clause-turns c =
    let heads = c.self.inside.heads.items in
    let lists : length c.args.self.now.turns ≡ length heads = ap (λ (v : RoomyTurns). length v.turns) (sym c.self.view_is) ∙ length-turns (lists_of c.self.inside) 0 heads in
    let n : ℕ = length c.args.self.now.turns - 2 in
    let before : length heads - 2 ≡ n = omega (arith, lists) in
    let last : length heads - 1 ≡ suc n = omega (arith, lists, c.requires.are_last) in
    ap (turns_from (lists_of c.self.inside) 0) c.replace.ensures.items
    ∙ ap₂ (λ i k. turns_from (lists_of c.self.inside) 0 (set (set heads i c.args.run) k (single c.args.reading))) before last
    ∙ turns_join (lists_of c.self.inside) n heads c.args.run (single c.args.reading) (c.requires.are_last ∙ lists)
    (subst (λ (v : RoomyTurns). IsQuietAt v.turns n) (sym c.self.view_is) c.requires.before)
    (subst (λ (v : RoomyTurns). IsQuietAt v.turns (n + 1)) (sym c.self.view_is) c.requires.last)
    ∙ ap (λ (v : RoomyTurns). take n v.turns ++ quiet c.args.run.first c.args.run.last c.args.run.count ∷ fresh c.args.reading ∷ []) c.self.view_is
