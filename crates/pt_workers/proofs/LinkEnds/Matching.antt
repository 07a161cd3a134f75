-- Once both ends of a link are settled, what its receiver's turns took is a front of what its sender's turns sent.
use Rattle.std.proofs.Common.{◌≡◌, ℕ, List, [], ◌∷◌, ◌++◌, refl, sym, ap, ◌∙◌, append_assoc}
use Rattle.pt_tags.specs.declared.message.Message.{Message}
use Rattle.pt_semantics.specs.Closing.{on_link}
use Rattle.pt_semantics.specs.Linked.{all_sent, all_taken}
use Rattle.pt_semantics.specs.Turn.{Turn}
use Rattle.pt_turn.specs.Platforms.{messages_of}
use Rattle.pt_turn.proofs.Coming.{on_append}

taken_on : (l : ℕ) (turns : List Turn) → all_taken l turns ≡ on_link l (messages_of turns)
taken_on l [] = refl
taken_on l (x ∷ turns) = ap (λ (z : List Message). on_link l x.taken ++ z) (taken_on l turns) ∙ sym (on_append l x.taken (messages_of turns))

pub matched_at : (l : ℕ) (from to : List Turn) (sent taken rest left : List Message) → sent ≡ all_sent l from → taken ≡ on_link l (messages_of to) ++ rest → sent ≡ taken ++ left → (more : List Message) × (all_sent l from ≡ all_taken l to ++ more)
matched_at l from to sent taken rest left s t whole =
    (rest ++ left, sym s ∙ whole ∙ ap (λ (z : List Message). z ++ left) (t ∙ ap (λ (z : List Message). z ++ rest) (sym (taken_on l to))) ∙ append_assoc (all_taken l to) rest left)
