use Rattle.std.proofs.Common.{◌≡◌, ◌+◌, ◌-◌, ◌%◌, ◌++◌, ◌∷◌, [], length, get_or, replicate, ap, refl, ◌∙◌, arith}
use Rattle.pt_history.proofs.Repeating.{last_stays, repeated_more}
use Rattle.pt_history.proofs.indices.Indices.fill.Goals as goal

pub returns-clause-indices : goal.returns-clause-indices
returns-clause-indices c =
    let old = c.args.self.now.indices in
    let x = get_or old (length old - 1) 0 in
    let m = 64 - 1 - c.len.result % 64 in
    let mid = c.stay.new.self.indices in
    let last : get_or mid (length mid - 1) 0 ≡ x = last_stays old mid x m refl c.stay.ensures.indices in
    let all : m + 1 ≡ 64 - length old % 64 = omega (arith, c.len.ensures) in
    repeated_more old mid c.again.new.self.indices x m 1 c.stay.ensures.indices (c.again.ensures.indices ∙ ap (λ y. mid ++ y ∷ []) last)
    ∙ ap (λ n. old ++ replicate n x) all
