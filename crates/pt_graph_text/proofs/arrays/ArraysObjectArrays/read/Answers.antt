use Rattle.std.proofs.Common.{sym, ap, ◌∙◌}
use Rattle.serde_json.specs.Data.{put}
use Rattle.pt_graph_text.specs.Arrays.{arrays_of}
use Rattle.pt_graph_text.proofs.Tops.{made, with_platforms, with_actors, with_wires, with_links, with_pairs, with_other}
use Rattle.pt_graph_text.proofs.arrays.ArraysObjectArrays.read.Goals as goal

pub returns-in_ok-read_apart-in-platforms-clause-ok : goal.returns-in_ok-read_apart-in-platforms-clause-ok
returns-in_ok-read_apart-in-platforms-clause-ok c =
    let v = c.args.version in
    let a = c.args.self.now in
    let read = c.in_ok-read_apart-in-platforms.ensures.ok in
    let d = read.0 in (d, read.1, read.2, λ ms was. ap (λ x. made x a.actors a.wires a.links a.pairs) read.3 ∙ with_platforms v d ms a was ∙ ap (λ k. arrays_of v (put k d ms)) (sym c.in-platforms.is))

pub returns-in_ok-read_apart-in-actors-clause-ok : goal.returns-in_ok-read_apart-in-actors-clause-ok
returns-in_ok-read_apart-in-actors-clause-ok c =
    let v = c.args.version in
    let a = c.args.self.now in
    let read = c.in_ok-read_apart-in-actors.ensures.ok in
    let d = read.0 in (d, read.1, read.2, λ ms was. ap (λ x. made a.platforms x a.wires a.links a.pairs) read.3 ∙ with_actors v d ms a was ∙ ap (λ k. arrays_of v (put k d ms)) (sym c.in-actors.is))

pub returns-in_ok-read_apart-in-wires-clause-ok : goal.returns-in_ok-read_apart-in-wires-clause-ok
returns-in_ok-read_apart-in-wires-clause-ok c =
    let v = c.args.version in
    let a = c.args.self.now in
    let read = c.in_ok-read_apart-in-wires.ensures.ok in
    let d = read.0 in (d, read.1, read.2, λ ms was. ap (λ x. made a.platforms a.actors x a.links a.pairs) read.3 ∙ with_wires v d ms a was ∙ ap (λ k. arrays_of v (put k d ms)) (sym c.in-wires.is))

pub returns-in_ok-read_apart-in-links-clause-ok : goal.returns-in_ok-read_apart-in-links-clause-ok
returns-in_ok-read_apart-in-links-clause-ok c =
    let v = c.args.version in
    let a = c.args.self.now in
    let read = c.in_ok-read_apart-in-links.ensures.ok in
    let d = read.0 in (d, read.1, read.2, λ ms was. ap (λ x. made a.platforms a.actors a.wires x a.pairs) read.3 ∙ with_links v d ms a was ∙ ap (λ k. arrays_of v (put k d ms)) (sym c.in-links.is))

pub returns-in_ok-read_apart-in-clock_errors-clause-ok : goal.returns-in_ok-read_apart-in-clock_errors-clause-ok
returns-in_ok-read_apart-in-clock_errors-clause-ok c =
    let v = c.args.version in
    let a = c.args.self.now in
    let read = c.in_ok-read_apart-in-clock_errors.ensures.ok in
    let d = read.0 in (d, read.1, read.2, λ ms was. ap (λ x. made a.platforms a.actors a.wires a.links x) read.3 ∙ with_pairs v d ms a was ∙ ap (λ k. arrays_of v (put k d ms)) (sym c.in-clock_errors.is))

pub returns-in_ok-read_hollow-in_default-clause-ok : goal.returns-in_ok-read_hollow-in_default-clause-ok
returns-in_ok-read_hollow-in_default-clause-ok c =
    let other = c.in_default in
    let read = c.in_ok-read_hollow-in_default.ensures.ok in
    let d = read.0 in (
      d,
      read.1,
      read.2,
      λ ms was. with_other c.args.version d ms c.args.self.now was c.args.key.now (λ e. other.not-platforms (sym e)) (λ e. other.not-actors (sym e)) (λ e. other.not-wires (sym e)) (λ e. other.not-links (sym e)) (λ e. other.not-clock_errors (sym e)),
    )
