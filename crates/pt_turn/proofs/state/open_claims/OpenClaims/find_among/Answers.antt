use Rattle.std.proofs.Common.{◌≡◌, ◌<◌, length, ap, sym, ⊎_elim, get_or, take, refl, ◌∙◌, subst, arith}
use Rattle.std.proofs.lemmas.Bool.{false≢true}
use Rattle.std.proofs.lemmas.List.{take_all}
use Rattle.pt_semantics.specs.Lists.{IsIn}
use Rattle.pt_turn.specs.declared.state.fields.OpenClaim.{OpenClaim}
use Rattle.pt_turn.specs.Fields.Unposted.{Unposted}
use Rattle.pt_turn.proofs.Fields.ClaimLists.{in_more, read_in}
use Rattle.pt_turn.proofs.state.open_claims.OpenClaims.find_among.Goals as goal

pub returns-then-same_task : goal.returns-then-same_task
returns-then-same_task c =
    let below : c.loop-place.place < length c.self.inside.claims.items = omega (arith, c.loop-place-test.true, c.len-place-end.ensures, c.self.inside.claims.ok.0) in
    let here : IsIn c.index-claim.result.now c.self.inside.claims.items = subst (λ x. IsIn x c.self.inside.claims.items) (sym c.index-claim.ensures) (read_in c.self.inside.claims.items c.loop-place.place c.index-claim.result.now below) in
    (c.index-claim.result.now, subst (λ (v : Unposted). IsIn c.index-claim.result.now v.items) c.self.view_is here, refl, c.same_task.ensures.0 c.if-same_task.true)

pub loop-place-preserved : goal.loop-place-preserved
loop-place-preserved c = λ o mem same.
    let below : c.loop-place.place < length c.self.inside.claims.items = omega (arith, c.loop-place-test.true, c.len-place-end.ensures, c.self.inside.claims.ok.0) in
    ⊎_elim (λ (old : IsIn o (take c.loop-place.place c.self.inside.claims.items)). c.loop-place.invariant o old same)
    (λ (new : o ≡ get_or c.self.inside.claims.items c.loop-place.place c.index-claim.result.now).
    false≢true (sym c.if-same_task.false ∙ c.same_task.ensures.1 (ap (λ (x : OpenClaim). x.task) (c.index-claim.ensures ∙ sym new) ∙ same)))
    (in_more c.self.inside.claims.items c.loop-place.place c.index-claim.result.now o below mem)

pub returns : goal.returns
returns c = λ o mem same.
    let inside : IsIn o c.self.inside.claims.items = subst (λ (v : Unposted). IsIn o v.items) (sym {A = Unposted} c.self.view_is) mem in
    c.loop-place.invariant o (subst (IsIn o) (sym (take_all c.loop-place.place c.self.inside.claims.items (omega (arith, c.loop-place-test.false, c.len-place-end.ensures, c.self.inside.claims.ok.0)))) inside) same
