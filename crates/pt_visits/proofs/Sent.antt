-- Messages that are sent after the last turn, some after others.
use Rattle.std.proofs.Common.{◌≡◌, ℕ, ◌<◌, ◌≤◌, true, false, List, [], ◌∷◌, ◌++◌, length, map, refl, sym, ap, subst, ◌∙◌, ⊎_elim, append_assoc, append-nil, eqb-true, eq-eqb, arith}
use Rattle.std.specs.Prelude.{◌==◌}
use Rattle.std.proofs.lemmas.Bool.{cases_Bool, false≢true, ne_eqb}
use Rattle.pt_tags.specs.declared.message.Message.{Message}
use Rattle.pt_types.specs.declared.firing.OnLink.{OnLink}
use Rattle.pt_history.specs.Lists.{on_last}
use Rattle.pt_semantics.specs.Closing.{on_link}
use Rattle.pt_semantics.specs.Lists.{Each}
use Rattle.pt_semantics.specs.Turn.{Turn}
use Rattle.pt_history.specs.Turns.{sending}
use Rattle.pt_turn.specs.Gone.{FirstHasGone, last_sent}
use Rattle.pt_turn.specs.Platforms.{PlatformView}
use Rattle.pt_turn.proofs.Coming.{on_append}
use Rattle.pt_turn.proofs.Leaving.{on_own, on_other}
use Rattle.pt_visits.specs.Pipes.{put_on}
use Rattle.pt_visits.specs.Visited.{HasSent}

sending_none : (turns : List Turn) → on_last (sending []) turns ≡ turns
sending_none [] = refl
sending_none (x ∷ []) = ap (λ (z : List OnLink). record x { sent = z } ∷ []) (append-nil x.sent)
sending_none (x ∷ y ∷ turns) = ap (λ (z : List Turn). x ∷ z) (sending_none (y ∷ turns))

sending_both : (ms ns : List OnLink) (turns : List Turn) → on_last (sending ns) (on_last (sending ms) turns) ≡ on_last (sending (ms ++ ns)) turns
sending_both ms ns [] = refl
sending_both ms ns (x ∷ []) = ap (λ (z : List OnLink). record x { sent = z } ∷ []) (append_assoc x.sent ms ns)
sending_both ms ns (x ∷ y ∷ []) = ap (λ (z : List Turn). x ∷ z) (sending_both ms ns (y ∷ []))
sending_both ms ns (x ∷ y ∷ z ∷ turns) = ap (λ (ts : List Turn). x ∷ ts) (sending_both ms ns (y ∷ z ∷ turns))

pub last_sent_more : (ms : List OnLink) (turns : List Turn) → 0 < length turns → last_sent (on_last (sending ms) turns) ≡ last_sent turns ++ ms
last_sent_more ms [] some = absurd (omega arith)
last_sent_more ms (x ∷ []) some = refl
last_sent_more ms (x ∷ y ∷ []) some = refl
last_sent_more ms (x ∷ y ∷ z ∷ turns) some = last_sent_more ms (y ∷ z ∷ turns) (omega arith)

-- messages that were put on one link
pub on_put : (l : ℕ) (ms : List Message) → on_link l (map (put_on l) ms) ≡ ms
on_put l [] = refl
on_put l (m ∷ ms) = on_own l (put_on l m) (map (put_on l) ms) (eq-eqb l l refl) ∙ ap (λ (z : List Message). m ∷ z) (on_put l ms)

pub on_put_elsewhere : (k l : ℕ) (ms : List Message) → (k ≡ l → ⊥) → on_link k (map (put_on l) ms) ≡ []
on_put_elsewhere k l [] other = refl
on_put_elsewhere k l (m ∷ ms) other = on_other k (put_on l m) (map (put_on l) ms) (ne_eqb l k (λ (same : l ≡ k). other (sym same))) ∙ on_put_elsewhere k l ms other

-- there are none on a link past all of them
pub on_past : (n l : ℕ) (ms : List OnLink) → Each (λ (m : OnLink). m.link < n) ms → n ≤ l → on_link l ms ≡ []
on_past n l [] below past = refl
on_past n l (m ∷ ms) below past = on_other l m ms (ne_eqb m.link l (λ (same : m.link ≡ l). apart m.link same below.0)) ∙ on_past n l ms below.1 past
  where
    apart : (k : ℕ) → k ≡ l → k < n → ⊥
    apart k same lt = omega arith

pub sent_none : (v : PlatformView) → HasSent v v []
sent_none v = record { rest = λ l. refl; turns = sym (sending_none v.turns); stays = refl }

pub sent_both : (old mid new : PlatformView) (ms ns : List OnLink) → HasSent old mid ms → HasSent mid new ns → HasSent old new (ms ++ ns)
sent_both old mid new ms ns h k = record {
  rest = λ l.
      h.rest l
      ∙ ap (λ (z : List Message). on_link l ms ++ z) (k.rest l)
      ∙ sym (append_assoc (on_link l ms) (on_link l ns) (on_link l new.outbox))
      ∙ ap (λ (z : List Message). z ++ on_link l new.outbox) (sym (on_append l ms ns));
  turns = k.turns ∙ ap (on_last (sending ns)) h.turns ∙ sending_both ms ns old.turns;
  stays = k.stays ∙ ap (λ (z : PlatformView). record z { turns = new.turns; outbox = new.outbox }) h.stays;
}

pub sent_one : (old new : PlatformView) (l : ℕ) → (h : FirstHasGone old new l) → HasSent old new (put_on l h.message ∷ [])
sent_one old new l h = record {
  rest = λ k.
      ⊎_elim
      (λ (e : (l == k) ≡ true). subst (λ (z : ℕ). on_link z old.outbox ≡ on_link z (put_on l h.message ∷ []) ++ on_link z new.outbox) (eqb-true l k e) (h.first ∙ ap (λ (z : List Message). z ++ on_link l new.outbox) (sym (on_put l (h.message ∷ [])))))
      (λ (e : (l == k) ≡ false). sym (ap (λ (z : List Message). z ++ on_link k new.outbox) (on_other k (put_on l h.message) [] e) ∙ h.others k (λ (same : k ≡ l). false≢true (sym e ∙ eq-eqb l k (sym same)))))
      (cases_Bool (l == k));
  turns = h.sent;
  stays = h.rest;
}
