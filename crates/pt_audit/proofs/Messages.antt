-- The messages of one link, turn by turn.
use Rattle.std.proofs.Common.{◌≡◌, ℕ, List, ◌++◌, Option, Some, None, sym, ap, ◌∙◌}
use Rattle.std.specs.Prelude.{option_map}
use Rattle.pt_tags.specs.declared.message.Message.{Message}
use Rattle.pt_types.specs.declared.firing.OnLink.{OnLink}
use Rattle.pt_semantics.specs.Closing.{on_link}
use Rattle.pt_semantics.proofs.Lookups.{none_some, same_some}

pub one_turn : {X : Type 0} (h : X → List OnLink) (l : ℕ) (o : Option X) (ms : List OnLink) (old new : List Message) → option_map h o ≡ Some ms → new ≡ old ++ on_link l ms → option_map (λ (x : X). old ++ on_link l (h x)) o ≡ Some new
one_turn h l None ms old new e is = absurd (none_some ms e)
one_turn h l (Some x) ms old new e is = ap Some (ap (λ zs. old ++ on_link l zs) (same_some (h x) ms e) ∙ sym is)
