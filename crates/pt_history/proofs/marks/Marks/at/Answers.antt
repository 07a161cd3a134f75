use Rattle.std.proofs.Common.{◌≡◌, length, get_or, ap, ap₂, sym, ◌∙◌, arith}
use Rattle.std.specs.Prelude.{slice_get}
use Rattle.std.proofs.lemmas.Option.{get_or_from_slice_get}
use Rattle.pt_history.specs.declared.claims.Mark.{Mark}
use Rattle.pt_history.specs.Indices.{RoomyItems}
use Rattle.pt_history.specs.Marks.{mark_numbers}
use Rattle.pt_history.proofs.MarkLists.{length-marks, length-numbers, marks_at}
use Rattle.pt_history.proofs.marks.Marks.at.Goals as goal

pub get-requires : goal.get-requires
get-requires c =
    let tags = c.self.inside.tags.items in
    let actors = c.self.inside.actors.items in
    let numbers = mark_numbers (length tags) c.self.inside.numbers.items in
    let many : length numbers ≡ length tags = length-numbers (length tags) c.self.inside.numbers.items c.self.invariant.numbers in
    let lists : length c.args.self.now.items ≡ length tags = ap (λ (v : RoomyItems Mark). length v.items) (sym c.self.view_is) ∙ length-marks tags actors numbers c.self.invariant.actors many in
    omega (arith, lists, c.requires)

pub number_at-requires-clause-inside : goal.number_at-requires-clause-inside
number_at-requires-clause-inside c =
    let tags = c.self.inside.tags.items in
    let actors = c.self.inside.actors.items in
    let numbers = mark_numbers (length tags) c.self.inside.numbers.items in
    let many : length numbers ≡ length tags = length-numbers (length tags) c.self.inside.numbers.items c.self.invariant.numbers in
    let lists : length c.args.self.now.items ≡ length tags = ap (λ (v : RoomyItems Mark). length v.items) (sym c.self.view_is) ∙ length-marks tags actors numbers c.self.invariant.actors many in
    omega (arith, lists, c.requires, c.len.ensures)

pub index-requires : goal.index-requires
index-requires c =
    let tags = c.self.inside.tags.items in
    let actors = c.self.inside.actors.items in
    let numbers = mark_numbers (length tags) c.self.inside.numbers.items in
    let many : length numbers ≡ length tags = length-numbers (length tags) c.self.inside.numbers.items c.self.invariant.numbers in
    let lists : length c.args.self.now.items ≡ length tags = ap (λ (v : RoomyItems Mark). length v.items) (sym c.self.view_is) ∙ length-marks tags actors numbers c.self.invariant.actors many in
    omega (arith, lists, c.requires, c.self.invariant.actors, c.self.inside.actors.ok.0)

pub returns : goal.returns
returns c =
    let tags = c.self.inside.tags.items in
    let actors = c.self.inside.actors.items in
    let numbers = mark_numbers (length tags) c.self.inside.numbers.items in
    let many : length numbers ≡ length tags = length-numbers (length tags) c.self.inside.numbers.items c.self.invariant.numbers in
    let lists : length c.args.self.now.items ≡ length tags = ap (λ (v : RoomyItems Mark). length v.items) (sym c.self.view_is) ∙ length-marks tags actors numbers c.self.invariant.actors many in
    let mark : Mark = record { tag = c.get.result; number = c.number_at.result; actor = c.index.result.now } in
    let len_is : c.len.result ≡ length tags = c.len.ensures in
    let number_is : c.number_at.result ≡ get_or numbers c.args.index 0 = c.number_at.ensures ∙ ap₂ (λ k ns. get_or (mark_numbers k ns) c.args.index 0) len_is c.as_slice.ensures.value in
    ap (λ (v : RoomyItems Mark). slice_get v.items c.args.index) (sym c.self.view_is)
    ∙ marks_at tags actors numbers c.args.index mark c.self.invariant.actors many (omega (arith, lists, c.requires)) (sym (get_or_from_slice_get tags c.args.index c.get.result c.get.result c.get.ensures)) c.index.ensures number_is
