-- Messages that are sent at one end.
use Rattle.std.proofs.Common.{◌≡◌, ℕ, ◌+◌, ◌<◌, ◌≤◌, List, [], ◌∷◌, ◌++◌, Some, None, Option, length, get_or, map, set, refl, sym, ap, subst, ◌∙◌, ◌⊎◌, inl, inr, append_assoc, append-nil, length-append, arith}
use Rattle.std.specs.Prelude.{slice_get}
use Rattle.std.proofs.lemmas.List.{map-append}
use Rattle.pt_tags.specs.declared.message.Message.{Message}
use Rattle.pt_types.specs.declared.firing.OnLink.{OnLink}
use Rattle.pt_semantics.specs.Closing.{on_link}
use Rattle.pt_semantics.specs.Lists.{Each}
use Rattle.pt_semantics.specs.Orderly.{ComesAfter, FitsStep, InOrder}
use Rattle.pt_semantics.specs.Turn.{Turn}
use Rattle.pt_history.proofs.LastMember.{length-on_last}
use Rattle.pt_history.specs.Turns.{sending}
use Rattle.pt_turn.specs.Gone.{FirstHasGone, last_sent}
use Rattle.pt_turn.specs.Platforms.{PlatformView}
use Rattle.pt_turn.proofs.Coming.{on_append}
use Rattle.pt_links.specs.declared.rule.Bounds.{Bounds}
use Rattle.pt_links.specs.Ends.{SentBy}
use Rattle.pt_links.specs.Line.{IsOrderlyBy}
use Rattle.pt_visits.specs.Pipes.{put_on}
use Rattle.pt_visits.specs.Visited.{HasSent}
use Rattle.pt_visits.proofs.Sent.{last_sent_more, on_put, sent_both, sent_none, sent_one}
use Rattle.pt_pool.specs.Ends.{NumbersDiffer, end_out}
use Rattle.pt_pool.specs.Lanes.{ArePut, WentOut, EndByEnd, Put}
use Rattle.pt_pool.proofs.Lanes.{get_here, no_lane, none_yet, one_lane}

each_front : {X : Type 0} (P : X → Type 0) (xs ys : List X) → Each P (xs ++ ys) → Each P xs
each_front P [] ys h = tt
each_front P (x ∷ xs) ys h = (h.0, each_front P xs ys h.1)

order_front : (xs ys : List Message) → InOrder (xs ++ ys) → InOrder xs
order_front [] ys h = tt
order_front (x ∷ xs) ys h = (each_front (ComesAfter x) xs ys h.0, order_front xs ys h.1)

pub orderly_front : (b : Option Bounds) (xs ys : List Message) → IsOrderlyBy b (xs ++ ys) → IsOrderlyBy b xs
orderly_front None xs ys h = tt
orderly_front (Some b) xs ys h = (order_front xs ys h.0, each_front (FitsStep b.until b.actors b.level) xs ys h.1)

-- k messages were sent so far
pub record PutsOn (n k : ℕ) (old now : PlatformView) (out after : SentBy) : Type 0 where
  pub ms : List Message
  pub gone : HasSent old now (map (put_on n) ms)
  pub stays : (after.link ≡ out.link) × (after.limits ≡ out.limits)
  pub sent : after.sent ≡ out.sent ++ ms
  pub count : length ms ≡ k

pub puts_none : (n : ℕ) (v : PlatformView) (out : SentBy) → PutsOn n 0 v v out out
puts_none n v out = record { ms = []; gone = sent_none v; stays = (refl, refl); sent = sym (append-nil out.sent); count = refl }

module _ (n k : ℕ) (old mid : PlatformView) (out between : SentBy) (h : PutsOn n k old mid out between) where
  outbox_was : on_link n old.outbox ≡ h.ms ++ on_link n mid.outbox
  outbox_was = h.gone.rest n ∙ ap (λ (z : List Message). z ++ on_link n mid.outbox) (on_put n h.ms)

  pub still_begun : 0 < length old.turns → 0 < length mid.turns
  still_begun some =
      let same : length mid.turns ≡ length old.turns = ap length h.gone.turns ∙ length-on_last (sending (map (put_on n) h.ms)) old.turns in
      omega (arith, same, some)

  pub few_so_far : 0 < length old.turns → on_link n (last_sent old.turns) ≡ [] → k < 64 → length (on_link n (last_sent mid.turns)) < 64
  few_so_far some none lt =
      let same : length (on_link n (last_sent mid.turns)) ≡ length h.ms = ap length (
      ap (λ (ts : List Turn). on_link n (last_sent ts)) h.gone.turns
      ∙ ap (on_link n) (last_sent_more (map (put_on n) h.ms) old.turns some)
      ∙ on_append n (last_sent old.turns) (map (put_on n) h.ms)
      ∙ ap (λ (z : List Message). z ++ on_link n (map (put_on n) h.ms)) none
      ∙ on_put n h.ms) in
      omega (arith, same, h.count, lt)

  pub waits : (m : Message) → Some m ≡ slice_get (on_link n mid.outbox) 0 → 0 < length (on_link n mid.outbox)
  waits m e = some (on_link n mid.outbox) e
    where
      some : (ms : List Message) → Some m ≡ slice_get ms 0 → 0 < length ms
      some [] e = cc
      some (x ∷ ms) e = omega arith

  -- the first of the outbox may be sent
  pub may_go : (m : Message) → Some m ≡ slice_get (on_link n mid.outbox) 0 → IsOrderlyBy out.limits (out.sent ++ on_link n old.outbox) → IsOrderlyBy between.limits (between.sent ++ m ∷ [])
  may_go m e orderly =
      let f = first (on_link n mid.outbox) e in
      let all : out.sent ++ on_link n old.outbox ≡ (between.sent ++ m ∷ []) ++ f.0 =
      ap (λ (z : List Message). out.sent ++ z) (outbox_was ∙ ap (λ (z : List Message). h.ms ++ z) f.1)
      ∙ sym (append_assoc out.sent h.ms (m ∷ f.0))
      ∙ ap (λ (z : List Message). z ++ m ∷ f.0) (sym h.sent)
      ∙ sym (append_assoc between.sent (m ∷ []) f.0) in
      subst (λ (b : Option Bounds). IsOrderlyBy b (between.sent ++ m ∷ [])) (sym h.stays.1) (orderly_front out.limits (between.sent ++ m ∷ []) f.0 (subst (IsOrderlyBy out.limits) all orderly))
    where
      first : (ms : List Message) → Some m ≡ slice_get ms 0 → (rest : List Message) × (ms ≡ m ∷ rest)
      first [] e = cc
      first (x ∷ ms) e = (ms, cc)

  pub puts_one : (new : PlatformView) (after : SentBy) (m : Message) → Some m ≡ slice_get (on_link n mid.outbox) 0 → (after.link ≡ between.link) × (after.limits ≡ between.limits) → after.sent ≡ between.sent ++ m ∷ [] → FirstHasGone mid new n → PutsOn n (k + 1) old new out after
  puts_one new after m e same one g =
      let both : Some m ≡ Some g.message = e ∙ ap (λ (z : List Message). slice_get z 0) g.first in
      let m_is : m ≡ g.message = cc in
      let count : length (h.ms ++ g.message ∷ []) ≡ length h.ms + 1 = length-append h.ms (g.message ∷ []) in
      record {
        ms = h.ms ++ g.message ∷ [];
        gone = subst (HasSent old new) (sym (map-append (put_on n) h.ms (g.message ∷ []))) (sent_both old mid new (map (put_on n) h.ms) (put_on n g.message ∷ []) h.gone (sent_one mid new n g));
        stays = (same.0 ∙ h.stays.0, same.1 ∙ h.stays.1);
        sent = one ∙ ap (λ (z : List Message). z ++ m ∷ []) h.sent ∙ append_assoc out.sent h.ms (m ∷ []) ∙ ap (λ (x : Message). out.sent ++ (h.ms ++ x ∷ [])) m_is;
        count = omega (arith, count, h.count);
      }

  pub when_empty : k ≤ 64 → None ≡ slice_get (on_link n mid.outbox) 0 → WentOut n old mid out between
  when_empty le none = record {
    messages = h.ms;
    gone = h.gone;
    put = record { stays = h.stays; sent = h.sent; few = omega (arith, h.count); until = inl (outbox_was ∙ ap (λ (z : List Message). h.ms ++ z) (nothing (on_link n mid.outbox) none) ∙ append-nil h.ms) };
  }
    where
      nothing : (ms : List Message) → None ≡ slice_get ms 0 → ms ≡ []
      nothing [] e = refl
      nothing (m ∷ ms) e = cc

  pub when_full : (after : SentBy) → k ≤ 64 → (after.link ≡ between.link) × (after.limits ≡ between.limits) → after.sent ≡ between.sent → 64 ≤ length between.sent → WentOut n old mid out after
  when_full after le same is full = record {
    messages = h.ms;
    gone = h.gone;
    put = record { stays = (same.0 ∙ h.stays.0, same.1 ∙ h.stays.1); sent = is ∙ h.sent; few = omega (arith, h.count); until = inr (inr (subst (λ (z : List Message). 64 ≤ length z) (sym is) full)) };
  }

  pub when_many : k ≡ 64 → WentOut n old mid out between
  when_many all = record {
    messages = h.ms;
    gone = h.gone;
    put = record { stays = h.stays; sent = h.sent; few = omega (arith, h.count); until = inr (inl (h.count ∙ all)) };
  }

-- messages went out of a platform through the first k ends
pub record PutsTo (k : ℕ) (old now : PlatformView) (outs after : List (ℕ × SentBy)) : Type 0 where
  pub sent : List OnLink
  pub gone : HasSent old now sent
  pub put : EndByEnd (Put (λ l. on_link l old.outbox)) end_out k outs after sent

out_number : (e : ℕ × SentBy) → (end_out e).number ≡ e.0
out_number e = refl

pub puts_nowhere : (v : PlatformView) (outs : List (ℕ × SentBy)) → PutsTo 0 v v outs outs
puts_nowhere v outs = record { sent = []; gone = sent_none v; put = no_lane (Put (λ l. on_link l v.outbox)) end_out out_number outs }

module _ (k : ℕ) (old mid : PlatformView) (outs between : List (ℕ × SentBy)) (h : PutsTo k old mid outs between) where
  pub to_begun : 0 < length old.turns → 0 < length mid.turns
  to_begun some =
      let same : length mid.turns ≡ length old.turns = ap length h.gone.turns ∙ length-on_last (sending h.sent) old.turns in
      omega (arith, same, some)

  module _ (D : ℕ × SentBy) (apart : NumbersDiffer (map end_out outs)) (lt : k < length between) where
    abbrev e : ℕ × SentBy
    e = get_or between k D

    at : slice_get between k ≡ Some e
    at = get_here between k D lt

    was : slice_get outs k ≡ Some e
    was = sym (h.put.above k (omega arith)) ∙ at

    none : on_link e.0 h.sent ≡ []
    none = none_yet (Put (λ l. on_link l old.outbox)) end_out out_number k outs between h.sent e apart h.put was

    outbox_is : on_link e.0 mid.outbox ≡ on_link e.0 old.outbox
    outbox_is = sym (h.gone.rest e.0 ∙ ap (λ (z : List Message). z ++ on_link e.0 mid.outbox) none)

    pub to_nothing_sent : 0 < length old.turns → last_sent old.turns ≡ [] → on_link e.0 (last_sent mid.turns) ≡ []
    to_nothing_sent some quiet =
        ap (λ (ts : List Turn). on_link e.0 (last_sent ts)) h.gone.turns
        ∙ ap (on_link e.0) (last_sent_more h.sent old.turns some ∙ ap (λ (z : List OnLink). z ++ h.sent) quiet)
        ∙ none

    pub to_orderly : ((i : ℕ) (d : ℕ × SentBy) → slice_get outs i ≡ Some d → IsOrderlyBy d.1.limits (d.1.sent ++ on_link d.0 old.outbox)) → IsOrderlyBy e.1.limits (e.1.sent ++ on_link e.0 mid.outbox)
    to_orderly each = subst (λ (z : List Message). IsOrderlyBy e.1.limits (e.1.sent ++ z)) (sym outbox_is) (each k e was)

    pub to_next : (new : PlatformView) (after : SentBy) → WentOut e.0 mid new e.1 after → PutsTo (k + 1) old new outs (set between k (e.0, after))
    to_next new after p = record {
      sent = h.sent ++ map (put_on e.0) p.messages;
      gone = sent_both old mid new h.sent (map (put_on e.0) p.messages) h.gone p.gone;
      put = one_lane (Put (λ l. on_link l old.outbox)) end_out out_number k outs between h.sent e (e.0, after) p.messages apart h.put at refl same
          (record { stays = p.put.stays; sent = p.put.sent; few = p.put.few; until = subst (λ (z : List Message). (z ≡ p.messages) ⊎ ((length p.messages ≡ 64) ⊎ (64 ≤ length after.sent))) outbox_is p.put.until });
    }
      where
        same : end_out (e.0, after) ≡ end_out e
        same = λ i. record { number = e.0; link = p.put.stays.0 i; limits = p.put.stays.1 i }

pub to_all : (old new : PlatformView) (outs after : List (ℕ × SentBy)) → PutsTo (length outs) old new outs after → ArePut old new outs after
to_all old new outs after h = record { sent = h.sent; gone = h.gone; put = h.put }
