use Rattle.std.proofs.Common.{rules, ◌≡◌, ◌+◌, ◌-◌, ◌*◌, ◌∙◌, ℕ, map, ◌++◌, ◌∷◌, [], sym, ap, arith, is_ok, true}
use Rattle.std.specs.List.{range_with_len}
use Rattle.std.proofs.lemmas.List.FromFn.{map-range_with_len_more}
use Rattle.pt_make.specs.Input.{made_row}
use Rattle.pt_make.proofs.rows.sensor_rows.Goals as goal

pub loop-k-preserved : goal.loop-k-preserved
loop-k-preserved c =
    let pushed : is_ok c.push.result ≡ true = search rules in
    let items = rw pushed at c.push.ensures.items in
    let before : ℕ = c.loop-k.k - 1 in
    let f = made_row c.args.number c.args.sensor in
    let more : (c.loop-k.k + 1) - 1 ≡ before + 1 = omega arith in
    items
    ∙ ap (λ xs. xs ++ c.row.result ∷ []) c.loop-k.invariant
    ∙ ap (λ r. map f (range_with_len 1 before) ++ r ∷ []) c.row.ensures
    ∙ sym (map-range_with_len_more f 1 before c.loop-k.k (omega arith))
    ∙ ap (λ m. map f (range_with_len 1 m)) (sym more)

pub returns : goal.returns
returns c =
    let counted : c.row_count-k-end.result ≡ 100 * c.args.number = c.row_count-k-end.ensures in
    let whole : c.loop-k.k - 1 ≡ 100 * c.args.number = omega arith in
    c.new.ensures ∙ c.loop-k.invariant ∙ ap (λ m. map (made_row c.args.number c.args.sensor) (range_with_len 1 m)) whole
