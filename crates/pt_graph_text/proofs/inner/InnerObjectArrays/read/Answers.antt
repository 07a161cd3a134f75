use Rattle.std.proofs.Common.{◌≡◌, sym, ap, ◌∙◌}
use Rattle.serde_json.specs.Data.{put}
use Rattle.pt_graph_text.specs.Inner.{inner_of}
use Rattle.pt_graph_text.proofs.Inners.{made, with_rows, with_cells, with_other}
use Rattle.pt_graph_text.proofs.inner.InnerObjectArrays.read.Goals as goal

pub returns-in_ok-read_apart-in-rows-clause-ok : goal.returns-in_ok-read_apart-in-rows-clause-ok
returns-in_ok-read_apart-in-rows-clause-ok c =
    let v = c.args.version in
    let i = c.args.self.now in
    let read = c.in_ok-read_apart-in-rows.ensures.ok in
    let d = read.0 in (d, read.1, read.2, λ ms was. ap (λ x. made x i.cells) read.3 ∙ with_rows v d ms i was ∙ ap (λ k. inner_of v (put k d ms)) (sym c.in-rows.is))

pub returns-in_ok-read_apart-in-cells-clause-ok : goal.returns-in_ok-read_apart-in-cells-clause-ok
returns-in_ok-read_apart-in-cells-clause-ok c =
    let v = c.args.version in
    let i = c.args.self.now in
    let read = c.in_ok-read_apart-in-cells.ensures.ok in
    let d = read.0 in (d, read.1, read.2, λ ms was. ap (λ x. made i.rows x) read.3 ∙ with_cells v d ms i was ∙ ap (λ k. inner_of v (put k d ms)) (sym c.in-cells.is))

pub returns-in_ok-read_hollow-in_default-clause-ok : goal.returns-in_ok-read_hollow-in_default-clause-ok
returns-in_ok-read_hollow-in_default-clause-ok c =
    let other = c.in_default in
    let read = c.in_ok-read_hollow-in_default.ensures.ok in
    let d = read.0 in (d, read.1, read.2, λ ms was. with_other c.args.version d ms c.args.self.now was c.args.key.now (λ e. other.not-rows (sym e)) (λ e. other.not-cells (sym e)))
