use Rattle.std.proofs.Common.{◌≡◌, ◌+◌, ◌%◌, ◌/◌, ◌∷◌, ◌++◌, [], drop, ap, ap₂, sym, ◌∙◌, arith}
use Rattle.std.proofs.lemmas.List.{drop-drop}
use Rattle.pt_history.specs.Cells.{cell_of, six_absent}
use Rattle.pt_history.proofs.Comparing.{ones_three, short_back}
use Rattle.pt_history.proofs.cells.short_group.Goals as goal

pub cell_at-requires : goal.cell_at-requires
cell_at-requires c = let most = ones_three c.args.mask in omega (arith, most, c.requires.fits)

pub cell_at-requires-2 : goal.cell_at-requires-2
cell_at-requires-2 c = let most = ones_three c.args.mask in omega (arith, most, c.requires.fits)

pub cell_at-requires-3 : goal.cell_at-requires-3
cell_at-requires-3 c = let most = ones_three c.args.mask in omega (arith, most, c.requires.fits)

pub returns : goal.returns
returns c =
    let m = c.args.mask in
    let vs = drop c.args.start c.args.values.now in
    let second : c.cell_at-2.result ≡ cell_of (m / 2 % 2) (drop (m % 2) vs) = c.cell_at-2.ensures ∙ ap (cell_of (m / 2 % 2)) (sym (drop-drop (m % 2) c.args.start c.args.values.now)) in
    let last : c.cell_at-3.result ≡ cell_of (m / 256 % 2) (drop (m / 2 % 2) (drop (m % 2) vs)) =
    c.cell_at-3.ensures ∙ ap (cell_of (m / 256 % 2)) (sym (drop-drop (m / 2 % 2) (c.args.start + m % 2) c.args.values.now) ∙ ap (drop (m / 2 % 2)) (sym (drop-drop (m % 2) c.args.start c.args.values.now))) in
    ap₂ (λ x y. x ∷ y ∷ six_absent ++ c.cell_at-3.result ∷ []) c.cell_at.ensures second
    ∙ ap (λ z. cell_of (m % 2) vs ∷ cell_of (m / 2 % 2) (drop (m % 2) vs) ∷ six_absent ++ z ∷ []) last
    ∙ sym (short_back m vs c.requires.short)
