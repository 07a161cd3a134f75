-- One message before the others, on its own link and on another.
use Rattle.std.proofs.Common.{◌≡◌, ℕ, Bool, true, false, cond, List, ◌∷◌, Some, refl, ◌∙◌}
use Rattle.std.specs.List.{cons_option}
use Rattle.std.specs.Prelude.{◌==◌}
use Rattle.std.proofs.lemmas.Bool.{cond-true, cond-false}
use Rattle.pt_tags.specs.declared.message.Message.{Message}
use Rattle.pt_types.specs.declared.firing.OnLink.{OnLink}
use Rattle.pt_types.specs.Ports.{when}
use Rattle.pt_semantics.specs.Closing.{on_link}

on_step : (b : Bool) (message : Message) (rest : List Message) → cons_option (when b (Some message)) rest ≡ cond b (message ∷ rest) rest
on_step true message rest = refl
on_step false message rest = refl

pub on_own : (l : ℕ) (m : OnLink) (xs : List OnLink) → (m.link == l) ≡ true → on_link l (m ∷ xs) ≡ m.message ∷ on_link l xs
on_own l m xs e = on_step (m.link == l) m.message (on_link l xs) ∙ cond-true (m.link == l) (m.message ∷ on_link l xs) (on_link l xs) e

pub on_other : (l : ℕ) (m : OnLink) (xs : List OnLink) → (m.link == l) ≡ false → on_link l (m ∷ xs) ≡ on_link l xs
on_other l m xs e = on_step (m.link == l) m.message (on_link l xs) ∙ cond-false (m.link == l) (m.message ∷ on_link l xs) (on_link l xs) e
