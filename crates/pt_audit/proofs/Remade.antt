-- A turn made again from hints, and its text.
use Rattle.std.proofs.Common.{◌≡◌, ◌<◌, ◌^◌, ℕ, Bool, true, false, List, ◌++◌, Option, Some, None, sym, ap, subst, ◌∙◌, length, slice_get}
use Rattle.std.specs.Prelude.{◌-◌, ◌↔◌, if◌then◌else◌, option_map}
use Rattle.std.proofs.lemmas.Bool.{false≢true}
use Rattle.pt_types.specs.declared.graph.Graph.{Graph}
use Rattle.pt_types.specs.Lookups.{platform_name}
use Rattle.pt_semantics.specs.Kept.{kept_with, settled}
use Rattle.pt_semantics.specs.Turn.{Turn, is_quiet}
use Rattle.pt_semantics.proofs.Lookups.{same_some}
use Rattle.pt_tables.specs.Log.{list_lines, turn_line, turn_lines}
use Rattle.pt_turn.specs.Platforms.{PlatformView}
use Rattle.pt_audit.specs.Parsing.Hints.{AreHints}
use Rattle.pt_audit.specs.declared.parse.hints.Hints.{Hints}
use Rattle.pt_audit.specs.Remaking.Following.{CanFollow}
use Rattle.pt_audit.specs.Remaking.Remade.{HasRemade, IsOnly, at_last}
use Rattle.pt_audit.proofs.Remaking.Logged.{same_turn}
use Rattle.pt_audit.specs.Verifying.{quiet_count}
use Rattle.pt_audit.specs.FromText.{HasMadeFromText, NoneFromText}
use Rattle.pt_audit.proofs.Members.{last_member}

module _ (old new : PlatformView) (hints : Hints) (block : List ℕ) (g : Graph) (turns : List Turn) (made : HasRemade hints old new) (named : hints.platform ≡ old.number) (g_is : g ≡ old.plan.graph) (turns_are : turns ≡ new.turns) where
  are_kept : turns ≡ kept_with old.turns (at_last made.turn)
  are_kept = turns_are ∙ made.kept

  -- the last recorded turn
  recorded : slice_get turns (length turns - 1) ≡ Some (at_last made.turn)
  recorded = subst (λ (ts : List Turn). slice_get ts (length ts - 1) ≡ Some (at_last made.turn)) (sym are_kept) (last_member (settled old.turns) (at_last made.turn))

  -- the count that was read of the last recorded turn
  pub quiet_here : (o : Option ℕ) → ((turn : Turn) → slice_get turns (length turns - 1) ≡ Some turn → o ≡ quiet_count (record turn { count = hints.count })) → o ≡ quiet_count made.turn
  quiet_here o counts = counts (at_last made.turn) recorded ∙ ap (λ n. if is_quiet made.turn then Some n else None) made.hints_are.count

  module _ (only : IsOnly hints old new) (quiet : Bool) (reads_quiet : option_map is_quiet (slice_get turns (length turns - 1)) ≡ Some quiet) where
    -- whichever turn may follow with these hints is the one that was made
    same_made : (turn : Turn) → AreHints old.number turn hints → CanFollow old turn → turn ≡ made.turn
    same_made turn h can = same_turn hints old new made only turn can.late can.new h can.is

    quiet_is : is_quiet made.turn ≡ quiet
    quiet_is = same_some (is_quiet made.turn) quiet (ap (option_map is_quiet) (sym recorded) ∙ reads_quiet)

    pub uncounted : ((quiet ≡ false → hints.count ≡ 1) → ⊥) → NoneFromText block hints old
    uncounted wrong turn h text can =
        let same : turn ≡ made.turn = same_made turn h can in
        wrong (λ e. h.count ∙ can.counted.4 (ap is_quiet same ∙ quiet_is ∙ e))

    module _ (same : Bool) (compares : (turn : Turn) → slice_get turns (length turns - 1) ≡ Some turn → (same ≡ true) ↔ (block ≡ turn_line (platform_name g hints.platform) hints.first hints.last hints.count ++ list_lines g turn)) where
      -- the text of a turn with these hints, in the words of the hints
      text_by : (turn : Turn) → AreHints old.number turn hints → turn_line (platform_name g hints.platform) hints.first hints.last hints.count ++ list_lines g turn ≡ turn_lines old.plan.graph old.number turn
      text_by turn h i = turn_line (platform_name (g_is i) (h.platform i)) (h.first i) (h.last i) (h.count i) ++ list_lines (g_is i) turn

      pub logged_here : (hints.last < 2 ^ 64) × (hints.count < 2 ^ 64) → (quiet ≡ false → hints.count ≡ 1) → same ≡ true → HasMadeFromText block hints old new
      logged_here fits counted e = record {
        made = made;
        text_of = (compares (at_last made.turn) recorded).0 e ∙ text_by made.turn theirs;
        counted = (
          made.counts.0,
          subst (λ n. n < 2 ^ 64) theirs.count fits.1,
          subst (λ n. n < 2 ^ 64) theirs.last fits.0,
          made.counts.1,
          λ q. sym theirs.count ∙ counted (sym quiet_is ∙ q),
        );
      }
        where
          theirs : AreHints old.number made.turn hints
          theirs = made.hints_are

      pub unlogged_here : same ≡ false → NoneFromText block hints old
      unlogged_here e turn h text can =
          let is : turn ≡ made.turn = same_made turn h can in
          let theirs : AreHints old.number made.turn hints = made.hints_are in
          false≢true (sym e ∙ (compares (at_last made.turn) recorded).1 (text ∙ ap (turn_lines old.plan.graph old.number) is ∙ sym (text_by made.turn theirs)))
