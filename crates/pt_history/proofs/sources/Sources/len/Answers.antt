use Rattle.std.proofs.Common.{◌≡◌, ◌+◌, length, ap, sym, ◌∙◌, arith}
use Rattle.pt_history.specs.declared.sources.Source.{Source}
use Rattle.pt_history.specs.Indices.{RoomyItems}
use Rattle.pt_history.proofs.SourceLists.{length-sources}
use Rattle.pt_history.proofs.sources.Sources.len.Goals as goal

pub returns : goal.returns
returns c =
    let claims = c.self.inside.claims.items in
    let rest = c.self.inside.rest.items in
    let many : length c.args.self.now.items ≡ c.self.inside.in_order + length claims + length rest = ap (λ (v : RoomyItems Source). length v.items) (sym c.self.view_is) ∙ length-sources c.self.inside.in_order claims rest in
    omega (arith, many, c.len.ensures, c.len-2.ensures, c.self.inside.claims.ok.0, c.self.inside.rest.ok.0)
