use Rattle.std.proofs.Common.{◌≡◌, ◌+◌, ◌∷◌, ◌++◌, [], length, ap, ap₂, sym, ◌∙◌, arith}
use Rattle.std.proofs.lemmas.List.{length_push}
use Rattle.pt_history.specs.declared.head.Head.{Head}
use Rattle.pt_history.specs.Heads.{heads_of, single}
use Rattle.pt_history.specs.Indices.{RoomyItems}
use Rattle.pt_history.proofs.HeadLists.{heads_push, last_is}
use Rattle.pt_history.proofs.past_heads.PastHeads.push_single.Goals as goal

pub invariant_of-self : goal.invariant_of-self
invariant_of-self c =
    let lists : length c.begin.new.self.lists ≡ length c.self.inside.runs.lists + 1 = ap length c.begin.ensures.lists ∙ length_push c.self.inside.runs.lists [] in
    let lasts : length c.store.new.lasts.items ≡ length c.self.inside.lasts.items + 1 = ap length c.store.ensures.items ∙ length_push c.self.inside.lasts.items c.args.last in
    let spare : c.args.self.now.spare ≡ c.self.inside.lasts.spare = ap (λ (v : RoomyItems Head). v.spare) (sym c.self.view_is) in
    record {
      newest = c.store.ensures.newest ∙ sym (last_is c.self.inside.lasts.items c.store.new.lasts.items c.args.last c.store.ensures.items);
      same = omega (arith, lists, lasts, c.self.invariant.same);
      lists_room = omega (arith, c.store.ensures.room, c.begin.ensures.room, c.self.invariant.lists_room, spare, c.requires);
      runs_room = omega (arith, c.store.ensures.room, c.begin.ensures.items, c.self.invariant.runs_room, spare, c.requires);
    }

pub returns-clause-items : goal.returns-clause-items
returns-clause-items c =
    let lasts = c.self.inside.lasts.items in
    let lists = c.self.inside.runs.lists in
    ap₂ heads_of c.store.ensures.items c.begin.ensures.lists
    ∙ heads_push lasts lists c.args.last [] c.self.invariant.same
    ∙ ap (λ (v : RoomyItems Head). v.items ++ single c.args.last ∷ []) c.self.view_is
