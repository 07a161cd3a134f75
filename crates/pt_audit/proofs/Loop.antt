-- A log verified up to a place.
use Rattle.std.proofs.Common.{◌≡◌, ℕ, List, [], ◌∷◌, ◌++◌, Option, refl, sym, ap, subst, ◌∙◌, append-nil, append_assoc}
use Rattle.pt_tags.specs.declared.message.Message.{Message}
use Rattle.pt_types.specs.declared.rows.Row.{Row}
use Rattle.pt_causality.specs.Ranked.{level_of}
use Rattle.pt_offsets.specs.Plans.{Parts}
use Rattle.pt_turn.specs.Platforms.{PlatformView}
use Rattle.pt_audit.specs.Parsing.Lines.{Block}
use Rattle.pt_audit.specs.Verifying.{AreVerified}
use Rattle.pt_audit.specs.Logged.{BlocksAreLawful}
use Rattle.pt_audit.specs.Verdicts.{StopsAt}
use Rattle.pt_audit.specs.declared.order.Order.{Order}
use Rattle.pt_audit.proofs.Judged.{are_lawful}

-- the blocks before the rest are verified
pub record VerifiedTo (plan : Parts) (rows : ℕ → List Row) (all rest : List Block) (order : Order) (last : List (Option Message)) (platforms : List PlatformView) : Type 0 where
  pub before : List Block
  pub parts : all ≡ before ++ rest
  pub have : AreVerified plan rows before order last platforms

pub begin : (plan : Parts) (rows : ℕ → List Row) (all : List Block) (order : Order) (last : List (Option Message)) (platforms : List PlatformView) → AreVerified plan rows [] order last platforms → VerifiedTo plan rows all all order last platforms
begin plan rows all order last platforms h = record { before = []; parts = refl; have = h }

pub ended : (plan : Parts) (rows : ℕ → List Row) (all rest : List Block) (order : Order) (last : List (Option Message)) (platforms : List PlatformView) → VerifiedTo plan rows all rest order last platforms → rest ≡ [] → AreVerified plan rows all order last platforms
ended plan rows all rest order last platforms r e =
    subst (λ (bs : List Block). AreVerified plan rows bs order last platforms) (sym (r.parts ∙ ap (λ (bs : List Block). r.before ++ bs) e ∙ append-nil r.before)) r.have

pub further : (plan : Parts) (rows : ℕ → List Row) (all rest now : List Block) (b : Block) (order new : Order) (last newer : List (Option Message)) (platforms views : List PlatformView) → (r : VerifiedTo plan rows all rest order last platforms) → rest ≡ b ∷ now
    → AreVerified plan rows (r.before ++ b ∷ []) new newer views → VerifiedTo plan rows all now new newer views
further plan rows all rest now b order new last newer platforms views r e h = record {
  before = r.before ++ b ∷ [];
  parts = r.parts ∙ ap (λ (bs : List Block). r.before ++ bs) e ∙ sym (append_assoc r.before (b ∷ []) now);
  have = h;
}

pub stops : (plan : Parts) (rows : ℕ → List Row) (all rest now : List Block) (b : Block) (order : Order) (last : List (Option Message)) (platforms : List PlatformView) → (r : VerifiedTo plan rows all rest order last platforms) → rest ≡ b ∷ now
    → (BlocksAreLawful plan.graph (level_of plan.ranks) rows (r.before ++ b ∷ []) → ⊥) → StopsAt plan.graph (level_of plan.ranks) rows b.line all
stops plan rows all rest now b order last platforms r e never = record {
  before = r.before;
  bad = b;
  after = now;
  is = r.parts ∙ ap (λ (bs : List Block). r.before ++ bs) e;
  at = refl;
  are_lawful = are_lawful plan rows r.before order last platforms r.have;
  never = never;
}
