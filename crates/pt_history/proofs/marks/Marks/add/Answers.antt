use Rattle.std.proofs.Common.{◌≡◌, ◌+◌, ◌++◌, ◌∷◌, [], length, ap, ap₂, ◌∙◌, arith}
use Rattle.std.proofs.lemmas.List.{length_push}
use Rattle.pt_history.specs.declared.claims.Mark.{Mark}
use Rattle.pt_history.specs.Indices.{RoomyItems}
use Rattle.pt_history.specs.Marks.{marks_of, mark_numbers}
use Rattle.pt_history.proofs.MarkLists.{length-numbers, marks_push}
use Rattle.pt_history.proofs.marks.Marks.add.Goals as goal

pub returns-clause-items : goal.returns-clause-items
returns-clause-items c =
    let tags = c.self.inside.tags.items in
    let actors = c.self.inside.actors.items in
    let old = c.self.inside.numbers.items in
    let new = c.store_number.new.numbers.items in
    let new_tags = c.store_tag.new.tags.items in
    let new_actors = c.push_reserved.new.self.items in
    let mark = c.args.mark in
    let numbers = mark_numbers (length tags) old in
    let len_is : c.len.result ≡ length tags = c.len.ensures in
    let long : length new_tags ≡ length tags + 1 = ap length c.store_tag.ensures.items ∙ length_push tags mark.tag in
    let more : length new_tags ≡ c.len.result + 1 = omega (arith, long, len_is) in
    let numbers_are : mark_numbers (length new_tags) new ≡ numbers ++ mark.number ∷ [] = ap (λ k. mark_numbers k new) more ∙ c.store_number.ensures.numbers ∙ ap (λ k. mark_numbers k old ++ mark.number ∷ []) len_is in
    ap (marks_of new_tags new_actors) numbers_are
    ∙ ap₂ (λ t a. marks_of t a (numbers ++ mark.number ∷ [])) c.store_tag.ensures.items c.push_reserved.ensures.items
    ∙ marks_push tags actors numbers mark c.self.invariant.actors (length-numbers (length tags) old c.self.invariant.numbers)
    ∙ ap (λ (v : RoomyItems Mark). v.items ++ mark ∷ []) c.self.view_is
