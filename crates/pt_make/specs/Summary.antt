-- The summary of a run over a made input.
use Rattle.std.specs.Prelude.{ℕ, ◌*◌, ◌==◌, List, [], ◌∷◌, ◌++◌, Option, None, Some, codes, filter, length, if◌then◌else◌}
use Rattle.std.specs.Fmt.{decimal, signed_decimal}
use Rattle.pt_types.specs.declared.firing.ActorFiring.{ActorFiring}
use Rattle.pt_types.specs.Ports.{at_port}
use Rattle.pt_semantics.specs.Firing.{or_zero}
use Rattle.pt_make.specs.Input.{row_count}

-- the firings of `out`, which is actor 17
abbrev pub actuations : List ActorFiring → List ActorFiring
actuations xs = filter (λ (x : ActorFiring). x.actor == 17) xs

-- the last of these firings, if there is one
abbrev pub last_firing : List ActorFiring → Option ActorFiring
last_firing [] = None
last_firing (x ∷ []) = Some x
last_firing (x ∷ y ∷ xs) = last_firing (y ∷ xs)

-- a firing as TIME.STEP VALUE, with its value at input 0; - without a firing
abbrev pub firing_text : Option ActorFiring → List ℕ
firing_text None = codes "-"
firing_text (Some x) = decimal x.tag.time ++ 46 ∷ decimal x.tag.step ++ 32 ∷ signed_decimal (or_zero (at_port x.inputs 0))

-- a line: a word, a text and a line feed
abbrev pub summary_line : List ℕ → List ℕ → List ℕ
summary_line word text = word ++ text ++ 10 ∷ []

-- the summary for number n, these firings and this number of misses
abbrev pub summary : ℕ → List ActorFiring → ℕ → List ℕ
summary n xs missed =
    summary_line (codes "make ") (decimal n)
    ++ summary_line (codes "rows ") (decimal (4 * row_count n))
    ++ summary_line (codes "firings ") (decimal (length xs))
    ++ summary_line (codes "actuations ") (decimal (length (actuations xs)))
    ++ summary_line (codes "last out ") (firing_text (last_firing (actuations xs)))
    ++ summary_line (codes "missed ") (decimal missed)

-- a firing, if it is one of `out`
abbrev pub if_out : Option ActorFiring → Option ActorFiring
if_out None = None
if_out (Some x) = if x.actor == 17 then Some x else None
