use Rattle.std.proofs.Common.{◌≡◌, ◌<◌, ◌≤◌, ◌-◌, ◌∙◌, sym, ap, subst, length, rules, slice_get, slice_index_or, take, drop}
use Rattle.std.proofs.lemmas.List.{get_or_default}
use Rattle.pt_meaning.specs.declared.firings.FiringEntry.{FiringEntry}
use Rattle.pt_meaning.specs.Flat.{with_cells, firing_from, empty_cells, no_tag}
use Rattle.pt_meaning.specs.Marks.{values_start_at}
use Rattle.pt_meaning.proofs.Lists.{read_at, get_past, within_at, no_mark}
use Rattle.pt_meaning.proofs.firings.Firings.get.Goals as goal

pub returns-then-number-len : goal.returns-then-number-len
returns-then-number-len c =
    let f = c.self.inside in
    let past : length c.self.inside.marks.items ≤ c.args.number = search rules in
    sym (get_past f.tags.items f.places.items f.values.items 0 f.marks.items c.args.number past) ∙ ap (λ xs. slice_get xs c.args.number) c.self.view_is

pub cells_between-cells-requires-clause-places : goal.cells_between-cells-requires-clause-places
cells_between-cells-requires-clause-places c =
    let f = c.self.inside in
    let within : c.args.number < length c.self.inside.marks.items = search rules in
    let low = within_at (length f.tags.items) (length f.places.items) f.marks.items c.args.number no_mark within c.self.invariant.within in
    let is = c.index-mark.ensures ∙ get_or_default f.marks.items c.args.number c.index-mark.result.now no_mark within in
    let ends : c.index-mark.result.now.end ≤ length c.self.inside.places.items = subst (λ (m : FiringEntry). m.end ≤ length c.self.inside.places.items) (sym is) low in
    search (rules, ends)

pub cells_between-cells-requires-clause-values : goal.cells_between-cells-requires-clause-values
cells_between-cells-requires-clause-values c =
    let f = c.self.inside in
    let within : c.args.number < length c.self.inside.marks.items = search rules in
    let low = within_at (length f.tags.items) (length f.places.items) f.marks.items c.args.number no_mark within c.self.invariant.within in
    let is = c.index-mark.ensures ∙ get_or_default f.marks.items c.args.number c.index-mark.result.now no_mark within in
    let ends : c.index-mark.result.now.end ≤ length c.self.inside.places.items = subst (λ (m : FiringEntry). m.end ≤ length c.self.inside.places.items) (sym is) low in
    let same : length c.self.inside.places.items ≡ length c.self.inside.values.items = c.self.invariant.same in
    search (rules, ends, same)

pub returns : goal.returns
returns c =
    let f = c.self.inside in
    let within : c.args.number < length c.self.inside.marks.items = search rules in
    let start : c.start_at-start.result ≡ values_start_at 0 c.self.inside.marks.items c.args.number = search rules in
    let tag : c.tag_at-tag.result ≡ slice_index_or c.self.inside.tags.items c.index-mark.result.now.moment no_tag = search rules in
    let cells : c.cells_between-cells.result ≡ with_cells empty_cells (take (c.index-mark.result.now.end - c.start_at-start.result) (drop c.start_at-start.result c.self.inside.places.items)) (take (c.index-mark.result.now.end - c.start_at-start.result) (drop c.start_at-start.result c.self.inside.values.items)) = search rules in
    let is : c.firing_from.result ≡ firing_from c.index-mark.result.now.actor c.tag_at-tag.result c.cells_between-cells.result = search rules in
    read_at f.tags.items f.places.items f.values.items f.marks.items c.args.number c.index-mark.result.now c.start_at-start.result c.tag_at-tag.result c.cells_between-cells.result c.firing_from.result within c.index-mark.ensures start tag cells is
    ∙ ap (λ xs. slice_get xs c.args.number) c.self.view_is
