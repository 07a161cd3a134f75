-- Pipes without messages, and platforms on which nothing can happen.
use Rattle.std.proofs.Common.{◌≡◌, ◌∷◌, ◌∙◌, ◌≤◌, ℕ, Bool, Bor, List, [], None, Option, Some, arith, false, length, refl, sym, true}
use Rattle.std.specs.Prelude.{◌==◌, option_map, slice_get}
use Rattle.std.specs.Option.{is_some}
use Rattle.std.proofs.lemmas.Bool.{eqb-true, false≢true}
use Rattle.std.proofs.lemmas.List.{nil_from_length}
use Rattle.pt_tags.specs.declared.message.Message.{Message}
use Rattle.pt_semantics.proofs.Lookups.{none_some}
use Rattle.pt_semantics.specs.Paced.{IsNextReading}
use Rattle.pt_turn.specs.Platforms.{PlatformView, state_at}
use Rattle.pt_engine.specs.Idle.{IsIdleUntil}

-- where no message is the oldest, there are none
pub no_oldest : (oldest : Option (Bor Message)) (messages : List Message) → is_some oldest ≡ false → option_map (λ (message : Bor Message). message.now) oldest ≡ slice_get messages 0 → messages ≡ []
no_oldest None [] none is = refl
no_oldest None (m ∷ messages) none is = absurd (none_some m is)
no_oldest (Some m) messages none is = absurd (false≢true (sym none))

-- where nothing can happen before a reading, nothing can before an earlier one
pub idle_before : (until : ℕ) (earlier : ℕ) (v : PlatformView) → earlier ≤ until → IsIdleUntil until v → IsIdleUntil earlier v
idle_before until earlier v less idle = record {
  sent_all = idle.sent_all;
  next = λ runs c at. le_trans earlier until c less (idle.next runs c at);
}
  where
    le_trans : (a b c : ℕ) → a ≤ b → b ≤ c → a ≤ c
    le_trans a b c x y = omega (arith, x, y)

-- a platform with nothing to send is idle until its next reading
pub idle_to_next : (v : PlatformView) (sent : Bool) (next : ℕ) → sent ≡ (length v.outbox == 0) → sent ≡ true → IsNextReading v.plan.graph v.number (state_at v) next → IsIdleUntil next v
idle_to_next v sent next is all at = record {
  sent_all = nil_from_length v.outbox (eqb-true (length v.outbox) 0 (sym is ∙ all));
  next = λ runs c other. at.1 c other.0;
}
