use Rattle.std.proofs.Common.{◌≡◌, ◌+◌, ◌-◌, ◌++◌, length, ap, ap₂, sym, ◌∙◌, arith}
use Rattle.std.specs.Prelude.{map, slice_get}
use Rattle.pt_history.specs.declared.sources.Source.{Source}
use Rattle.pt_history.specs.declared.sources.Source.TheVariants.{Claim}
use Rattle.pt_history.specs.Indices.{RoomyItems}
use Rattle.pt_history.proofs.SourceLists.{length-sources, source_counted, source_stored}
use Rattle.pt_history.proofs.sources.Sources.get.Goals as goal

pub returns-then-number-self : goal.returns-then-number-self
returns-then-number-self c =
    ap (λ (v : RoomyItems Source). slice_get v.items c.args.number) (sym c.self.view_is)
    ∙ source_counted c.self.inside.in_order c.args.number c.self.inside.claims.items c.self.inside.rest.items c.if-number-self.true

pub stored-requires : goal.stored-requires
stored-requires c =
    let claims = c.self.inside.claims.items in
    let rest = c.self.inside.rest.items in
    let many : length c.args.self.now.items ≡ c.self.inside.in_order + length claims + length rest = ap (λ (v : RoomyItems Source). length v.items) (sym c.self.view_is) ∙ length-sources c.self.inside.in_order claims rest in
    let first : length c.as_slice.result.now ≡ length claims = ap length c.as_slice.ensures.value in
    let second : length c.as_slice-2.result.now ≡ length rest = ap length c.as_slice-2.ensures.value in
    omega (arith, many, first, second, c.requires, c.if-number-self.false)

pub returns : goal.returns
returns c =
    ap (λ (v : RoomyItems Source). slice_get v.items c.args.number) (sym c.self.view_is)
    ∙ source_stored c.self.inside.in_order c.args.number c.self.inside.claims.items c.self.inside.rest.items c.if-number-self.false
    ∙ sym (ap₂ (λ claims rest. slice_get (map Claim claims ++ rest) (c.args.number - c.self.inside.in_order)) c.as_slice.ensures.value c.as_slice-2.ensures.value)
    ∙ c.stored.ensures
