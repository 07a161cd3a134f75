use Rattle.std.proofs.Common.{◌≡◌, ◌+◌, length, ap, sym, ◌∙◌, arith}
use Rattle.pt_history.specs.declared.sources.Source.{Source}
use Rattle.pt_history.specs.Indices.{RoomyItems}
use Rattle.pt_history.proofs.SourceLists.{length-sources}
use Rattle.pt_history.proofs.sources.Sources.reserve.Goals as goal

pub overflow_sub-len : goal.overflow_sub-len
overflow_sub-len c =
    let claims = c.self.inside.claims.items in
    let rest = c.self.inside.rest.items in
    let many : length c.args.self.now.items ≡ c.self.inside.in_order + length claims + length rest = ap (λ (v : RoomyItems Source). length v.items) (sym c.self.view_is) ∙ length-sources c.self.inside.in_order claims rest in
    omega (arith, many, c.len.ensures, c.self.invariant.fits)

pub invariant_of-self-2 : goal.invariant_of-self-2
invariant_of-self-2 c =
    let claims = c.self.inside.claims.items in
    let rest = c.self.inside.rest.items in
    let many : length c.args.self.now.items ≡ c.self.inside.in_order + length claims + length rest = ap (λ (v : RoomyItems Source). length v.items) (sym c.self.view_is) ∙ length-sources c.self.inside.in_order claims rest in
    let same_claims : length c.widened.new.items.items ≡ length claims = ap length c.in_ok-widened.ensures.items in
    let same_rest : length c.widened-2.new.items.items ≡ length rest = ap length c.in_ok-widened-2.ensures.items in
    record {
      claims = omega (arith, c.in_ok-widened.ensures.room, c.max-self-inside.ensures);
      rest = omega (arith, c.in_ok-widened-2.ensures.room, c.max-self-inside.ensures);
      fits = omega (arith, many, same_claims, same_rest, c.max-self-inside.ensures, c.if-more-len.false, c.len.ensures, c.self.invariant.fits);
    }
