-- A history that is read by a list of readings records as many as the list has.
use Rattle.std.proofs.Common.{◌≡◌, ℕ, suc, ◌+◌, List, [], ◌∷◌, length, refl, sym, ap, ap₂, ◌∙◌, length-append}
use Rattle.pt_semantics.specs.Readings.{ArePieces, IsReadBy, later_of, raised_from}
use Rattle.pt_semantics.specs.Turn.{Turn}
use Rattle.pt_paced_laws.specs.FixedOrderTheorems.{count_readings}

raised_length : (p : ℕ) (readings : List ℕ) → length (raised_from p readings) ≡ length readings
raised_length p [] = refl
raised_length p (r ∷ readings) = ap suc (raised_length (later_of p r) readings)

pieces_length : (turns : List Turn) (readings : List ℕ) → ArePieces turns readings → length readings ≡ count_readings turns
pieces_length [] readings none = ap length none
pieces_length (turn ∷ turns) readings (piece, rest, whole, is, more) = ap length whole ∙ length-append piece rest ∙ ap₂ (λ a b. a + b) is.count (pieces_length turns rest more)

pub counted : (turns : List Turn) (readings : List ℕ) → IsReadBy turns readings → length readings ≡ count_readings turns
counted turns readings read = sym (raised_length 0 readings) ∙ pieces_length turns (raised_from 0 readings) read
