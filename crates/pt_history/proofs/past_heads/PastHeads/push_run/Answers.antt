use Rattle.std.proofs.Common.{◌≡◌, ◌+◌, ◌∷◌, ◌++◌, [], List, length, ap, ap₂, sym, ◌∙◌, arith}
use Rattle.std.proofs.lemmas.List.{length_push}
use Rattle.pt_history.specs.declared.head.Head.{Head}
use Rattle.pt_history.specs.declared.past_heads.Run.{Run}
use Rattle.pt_history.specs.Heads.{head_with, heads_of}
use Rattle.pt_history.specs.Indices.{RoomyItems}
use Rattle.pt_history.specs.Lists.{on_last}
use Rattle.pt_history.proofs.HeadLists.{heads_push, last_is}
use Rattle.pt_history.proofs.LastMember.{on_last-push}
use Rattle.pt_history.proofs.past_heads.PastHeads.push_run.Goals as goal

pub invariant_of-self : goal.invariant_of-self
invariant_of-self c =
    let add : List Run → List Run = λ (l : List Run). l ++ c.args.run ∷ [] in
    let more : c.push.new.self.lists ≡ c.self.inside.runs.lists ++ (c.args.run ∷ []) ∷ [] = c.push.ensures.lists ∙ ap (λ ls. on_last add ls) c.begin.ensures.lists ∙ on_last-push add c.self.inside.runs.lists [] in
    let lists : length c.push.new.self.lists ≡ length c.self.inside.runs.lists + 1 = ap length more ∙ length_push c.self.inside.runs.lists (c.args.run ∷ []) in
    let lasts : length c.store.new.lasts.items ≡ length c.self.inside.lasts.items + 1 = ap length c.store.ensures.items ∙ length_push c.self.inside.lasts.items c.args.last in
    let spare : c.args.self.now.spare ≡ c.self.inside.lasts.spare = ap (λ (v : RoomyItems Head). v.spare) (sym c.self.view_is) in
    record {
      newest = c.store.ensures.newest ∙ sym (last_is c.self.inside.lasts.items c.store.new.lasts.items c.args.last c.store.ensures.items);
      same = omega (arith, lists, lasts, c.self.invariant.same);
      lists_room = omega (arith, c.store.ensures.room, c.begin.ensures.room, c.push.ensures.room, c.self.invariant.lists_room, spare, c.requires);
      runs_room = omega (arith, c.store.ensures.room, c.begin.ensures.items, c.push.ensures.items, c.self.invariant.runs_room, spare, c.requires);
    }

pub returns-clause-items : goal.returns-clause-items
returns-clause-items c =
    let lasts = c.self.inside.lasts.items in
    let lists = c.self.inside.runs.lists in
    let run = c.args.run in
    let add : List Run → List Run = λ (l : List Run). l ++ run ∷ [] in
    ap₂ heads_of c.store.ensures.items (c.push.ensures.lists ∙ ap (λ ls. on_last add ls) c.begin.ensures.lists ∙ on_last-push add lists [])
    ∙ heads_push lasts lists c.args.last (run ∷ []) c.self.invariant.same
    ∙ ap (λ (v : RoomyItems Head). v.items ++ head_with c.args.last (run ∷ []) ∷ []) c.self.view_is
