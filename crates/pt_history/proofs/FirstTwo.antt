-- The first two ports and the later ones.
use Rattle.std.proofs.Common.{◌≡◌, None, Option, ℤ, List, [], ◌∷◌, sym, ap, ap₂, ◌∙◌, arith, length, drop, slice_index_or}
use Rattle.std.proofs.lemmas.List.{take_all}
use Rattle.pt_history.proofs.Filling.{eight_front}
use Rattle.pt_history.specs.Cells.{six_absent}

-- eight ports, one by one
eight_ports : (ports : List (Option ℤ)) → length ports ≡ 8
    → ports ≡ slice_index_or ports 0 None ∷ slice_index_or ports 1 None ∷ slice_index_or ports 2 None ∷ slice_index_or ports 3 None ∷ slice_index_or ports 4 None ∷ slice_index_or ports 5 None ∷ slice_index_or ports 6 None ∷ slice_index_or ports 7 None ∷ []
eight_ports ports eight = sym (take_all 8 ports (omega (arith, eight))) ∙ sym (eight_front ports (omega (arith, eight)))

-- none of the ports after port 1 has a value
pub later_ports : (ports : List (Option ℤ)) (c d e f g h : Option ℤ) → length ports ≡ 8
    → c ≡ slice_index_or ports 2 None → d ≡ slice_index_or ports 3 None → e ≡ slice_index_or ports 4 None → f ≡ slice_index_or ports 5 None → g ≡ slice_index_or ports 6 None → h ≡ slice_index_or ports 7 None
    → c ≡ None → d ≡ None → e ≡ None → f ≡ None → g ≡ None → h ≡ None → drop 2 ports ≡ six_absent
later_ports ports c d e f g h eight cs ds es fs gs hs c0 d0 e0 f0 g0 h0 =
    ap (drop 2) (eight_ports ports eight)
    ∙ ap₂ (λ x xs. x ∷ xs) (sym cs ∙ c0) (ap₂ (λ x xs. x ∷ xs) (sym ds ∙ d0) (ap₂ (λ x xs. x ∷ xs) (sym es ∙ e0) (ap₂ (λ x xs. x ∷ xs) (sym fs ∙ f0) (ap₂ (λ x xs. x ∷ xs) (sym gs ∙ g0) (ap (λ x. x ∷ []) (sym hs ∙ h0))))))
