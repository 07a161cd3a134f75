-- Why no turn that may follow has the text of a block.
use Rattle.std.proofs.Common.{◌≡◌, ℕ, Bool, true, false, List, [], ◌∷◌, ◌++◌, Option, Some, None, sym, subst, ◌∙◌, slice_get}
use Rattle.std.proofs.lemmas.Bool.{false≢true}
use Rattle.pt_tags.specs.declared.message.Message.{Message}
use Rattle.pt_types.specs.declared.graph.Graph.{Graph}
use Rattle.pt_types.specs.declared.rows.Row.{Row}
use Rattle.pt_semantics.specs.Turn.{Turn}
use Rattle.pt_causality.specs.Ranked.{level_of}
use Rattle.pt_offsets.specs.Plans.{Parts}
use Rattle.pt_turn.specs.Platforms.{PlatformView}
use Rattle.pt_tables.specs.Log.{turn_lines}
use Rattle.pt_audit.specs.Parsing.Hints.{AreHints, IsLoggable}
use Rattle.pt_audit.specs.Parsing.Lines.{Block}
use Rattle.pt_audit.specs.declared.parse.hints.Hints.{Hints}
use Rattle.pt_audit.specs.Logged.{BlocksAreLawful}
use Rattle.pt_audit.specs.Verifying.{AreVerified, entered}
use Rattle.pt_audit.specs.FromText.{NoneFromText}
use Rattle.pt_audit.specs.declared.order.Order.{Order}
use Rattle.pt_audit.proofs.Next.{after, is_refused, joins, may_follow, x as next}

-- what is read of a text that is a turn's
abbrev pub ReadsBack : Graph → List ℕ → Bool → Hints → Type 0
ReadsBack g text given hints = (p : ℕ) (t : Turn) → IsLoggable g p t → text ≡ turn_lines g p t → (given ≡ true) × AreHints p t hints

module _ (plan : Parts) (rows : ℕ → List Row) (blocks : List Block) (order : Order) (last : List (Option Message)) (platforms : List PlatformView) (r : AreVerified plan rows blocks order last platforms) (b : Block) (given : Bool) (hints : Hints) (back : ReadsBack plan.graph b.text given hints) where
  -- the text is of no turn's form
  pub unread : given ≡ false → BlocksAreLawful plan.graph (level_of plan.ranks) rows (blocks ++ b ∷ []) → ⊥
  unread e (others, ends, are, lawful) =
      let n = next plan rows blocks order last platforms r b others ends are lawful in
      false≢true (sym e ∙ (back n.turn.platform n.turn.turn n.loggable n.text).0)

  -- its platform or one of its links is not of the graph
  pub unloggable : ((p : ℕ) (turn : Turn) → AreHints p turn hints → IsLoggable plan.graph p turn → ⊥) → BlocksAreLawful plan.graph (level_of plan.ranks) rows (blocks ++ b ∷ []) → ⊥
  unloggable never (others, ends, are, lawful) =
      let n = next plan rows blocks order last platforms r b others ends are lawful in
      never n.turn.platform n.turn.turn (back n.turn.platform n.turn.turn n.loggable n.text).1 n.loggable

  -- its platform is before the last one, or it would stand after two quiet turns
  pub out_of_order : entered hints.platform order ≡ None → BlocksAreLawful plan.graph (level_of plan.ranks) rows (blocks ++ b ∷ []) → ⊥
  out_of_order e (others, ends, are, lawful) =
      let n = next plan rows blocks order last platforms r b others ends are lawful in
      let here : hints.platform ≡ n.turn.platform = (back n.turn.platform n.turn.turn n.loggable n.text).1.platform in
      is_refused r.logged order r.up_to r.two n.turn.platform (subst (λ p. entered p order ≡ None) here e)
      (after plan rows blocks order last platforms r b others ends are lawful) (joins plan rows blocks order last platforms r b others ends are lawful)

  -- its platform can't make it
  pub unmade : (old : PlatformView) → slice_get platforms hints.platform ≡ Some old → NoneFromText b.text hints old → BlocksAreLawful plan.graph (level_of plan.ranks) rows (blocks ++ b ∷ []) → ⊥
  unmade old at none (others, ends, are, lawful) =
      let n = next plan rows blocks order last platforms r b others ends are lawful in
      let theirs = (back n.turn.platform n.turn.turn n.loggable n.text).1 in
      let here : hints.platform ≡ n.turn.platform = theirs.platform in
      let there : slice_get platforms n.turn.platform ≡ Some old = subst (λ p. slice_get platforms p ≡ Some old) here at in
      let number : old.number ≡ n.turn.platform = r.all.numbers n.turn.platform old there in
      none n.turn.turn
      (subst (λ p. AreHints p n.turn.turn hints) (sym number) theirs)
      (subst (λ (z : Parts). b.text ≡ turn_lines z.graph old.number n.turn.turn) (sym (r.all.plans n.turn.platform old there)) (subst (λ p. b.text ≡ turn_lines plan.graph p n.turn.turn) (sym number) n.text))
      (may_follow plan rows blocks order last platforms r b others ends are lawful old there)
