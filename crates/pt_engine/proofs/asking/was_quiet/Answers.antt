use Rattle.std.proofs.Common.{◌≡◌, ◌+◌, ◌-◌, ◌∷◌, ◌++◌, [], List, Some, length, refl, sym, ap, ◌∙◌, arith, length-append}
use Rattle.std.specs.Prelude.{option_map, slice_get}
use Rattle.pt_semantics.specs.Turn.{Turn, is_quiet}
use Rattle.pt_semantics.proofs.Lookups.{same_some}
use Rattle.pt_engine.proofs.asking.was_quiet.Goals as goal

last_of : (before : List Turn) (turn : Turn) → slice_get (before ++ turn ∷ []) (length before) ≡ Some turn
last_of [] turn = refl
last_of (x ∷ before) turn = last_of before turn

pub returns : goal.returns
returns c = λ before turn is.
    let count : length (before ++ turn ∷ []) ≡ length before + 1 = length-append before (turn ∷ []) in
    let at : length (before ++ turn ∷ []) - 1 ≡ length before = omega (arith, count) in
    let all : c.history.result.now.turns ≡ before ++ turn ∷ [] = c.history.ensures.turns ∙ is in
    same_some c.was_quiet.result (is_quiet turn) (sym c.was_quiet.ensures
    ∙ ap (λ (ts : List Turn). option_map is_quiet (slice_get ts (length ts - 1))) all
    ∙ ap (λ n. option_map is_quiet (slice_get (before ++ turn ∷ []) n)) at
    ∙ ap (option_map is_quiet) (last_of before turn))
