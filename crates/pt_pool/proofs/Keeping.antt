-- After a visit a linked platform still belongs to its run.
use Rattle.std.proofs.Common.{◌≡◌, ℕ, ◌+◌, ◌<◌, Bool, true, false, true≢false, List, [], ◌∷◌, ◌++◌, Some, None, Option, length, map, refl, sym, ap, subst, ◌∙◌, append_assoc, append-nil, length-append, arith}
use Rattle.std.specs.Prelude.{nat_le, slice_get}
use Rattle.std.specs.List.{flat_map}
use Rattle.std.proofs.lemmas.Bool.{cond-true}
use Rattle.std.proofs.lemmas.Bool.Decides.{nat_tests}
use Rattle.std.proofs.lemmas.List.Concat.{flat_map-append}
use Rattle.pt_tags.specs.declared.message.Message.{Message}
use Rattle.pt_types.specs.declared.firing.Done.{Done}
use Rattle.pt_types.specs.declared.firing.OnLink.{OnLink}
use Rattle.pt_types.specs.declared.firing.Task.{Task}
use Rattle.pt_types.specs.declared.rows.Row.{Row}
use Rattle.pt_semantics.specs.Closing.{on_link}
use Rattle.pt_types.specs.Lookups.{platform_of}
use Rattle.pt_semantics.specs.Kept.{kept_with, settled}
use Rattle.pt_semantics.specs.Linked.{all_sent}
use Rattle.pt_semantics.specs.Readings.{ArePieces, IsReadBy, greatest_of, later_of, raised_from}
use Rattle.pt_semantics.specs.Turn.{Turn}
use Rattle.pt_laws.proofs.Read.{read_on}
use Rattle.pt_history.specs.Lists.{on_last}
use Rattle.pt_history.proofs.LastMember.{on_last-push}
use Rattle.pt_history.specs.Turns.{sending}
use Rattle.pt_history.proofs.Gathered.{sent_settled}
use Rattle.pt_offsets.specs.Plans.{Parts}
use Rattle.pt_turn.specs.Platforms.{PlatformView, messages_of, raised_to, rows_at}
use Rattle.pt_turn.specs.Running.{last_reading}
use Rattle.pt_turn.specs.Turned.{is_late}
use Rattle.pt_turn.proofs.Coming.{on_append}
use Rattle.pt_turn.proofs.Sending.{taken_still}
use Rattle.pt_turn.proofs.Turns.{messages_more}
use Rattle.pt_io.specs.Clocks.{IsAsAhead, ReportsOneMore}
use Rattle.pt_io.proofs.Stepping.{ahead_more, handed_more}
use Rattle.pt_links.specs.declared.rule.Bounds.{Bounds}
use Rattle.pt_links.specs.Ends.{LinkId, SentBy, TakenBy}
use Rattle.pt_links.specs.Line.{IsOrderlyBy}
use Rattle.pt_pool.specs.Ends.{AreEnds, AreNamed, End, end_in, end_out, leaves, receiving_platform}
use Rattle.pt_pool.specs.Lanes.{Put, Took}
use Rattle.pt_pool.specs.LinkedPlatform.{AreRead, BelongTogether, IsOfRun, WasVisited}
use Rattle.pt_pool.proofs.Lanes.{get_map, got_map, same_some}
use Rattle.std.proofs.lemmas.Option.{slice_get_within}

-- Readings.

final : List ℕ → ℕ
final [] = 0
final (x ∷ []) = x
final (x ∷ y ∷ ys) = final (y ∷ ys)

final_push : (xs : List ℕ) (x : ℕ) → final (xs ++ x ∷ []) ≡ x
unfolding final
final_push [] x = refl
final_push (y ∷ []) x = refl
final_push (y ∷ z ∷ zs) x = final_push (z ∷ zs) x

final_raised : (p r : ℕ) (rs : List ℕ) → final (raised_from p (r ∷ rs)) ≡ greatest_of p (r ∷ rs)
unfolding final
final_raised p r [] = refl
final_raised p r (s ∷ rs) = final_raised (later_of p r) s rs

greatest_is : (p : ℕ) (rs before : List ℕ) (q : ℕ) → raised_from p rs ≡ before ++ q ∷ [] → q ≡ greatest_of p rs
greatest_is p [] before q e = let n : 0 ≡ length before + 1 = ap length e ∙ length-append before (q ∷ []) in absurd (omega (arith, n))
greatest_is p (r ∷ rs) before q e = sym (final_push before q) ∙ ap final (sym e) ∙ final_raised p r rs

none_raised : (rs : List ℕ) → raised_from 0 rs ≡ [] → rs ≡ []
none_raised [] e = refl
none_raised (r ∷ rs) e = cc

none_last : (turns : List Turn) → last_reading turns ≡ None → turns ≡ []
none_last [] e = refl
none_last (x ∷ []) e = cc
none_last (x ∷ y ∷ turns) e = absurd (never y turns e)
  where
    never : (x : Turn) (xs : List Turn) → last_reading (x ∷ xs) ≡ None → ⊥
    never x [] e = cc
    never x (z ∷ xs) e = never z xs e

last_of_pieces : (turns : List Turn) (xs : List ℕ) (q : ℕ) → ArePieces turns xs → last_reading turns ≡ Some q → (before : List ℕ) × (xs ≡ before ++ q ∷ [])
last_of_pieces [] xs q h e = cc
last_of_pieces (x ∷ []) xs q (piece, rest, split, is, none) e =
    (is.last.0, split ∙ ap (λ (z : List ℕ). piece ++ z) none ∙ append-nil piece ∙ is.last.1 ∙ ap (λ (n : ℕ). is.last.0 ++ n ∷ []) (same_some x.last q e))
last_of_pieces (x ∷ y ∷ turns) xs q (piece, rest, split, is, more) e =
    let w = last_of_pieces (y ∷ turns) rest q more e in
    (piece ++ w.0, split ∙ ap (λ (z : List ℕ). piece ++ z) w.1 ∙ sym (append_assoc piece w.0 (q ∷ [])))

later_zero : (r : ℕ) → later_of 0 r ≡ r
later_zero r = let f : nat_le 0 r ≡ true = grind (arith, nat_tests) in cond-true (nat_le 0 r) r 0 f

pub raised_is : (turns : List Turn) (readings : List ℕ) (r : ℕ) (o : Option ℕ) → o ≡ last_reading turns → IsReadBy turns readings → raised_to o r ≡ later_of (greatest_of 0 readings) r
raised_is turns readings r None e h =
    let none : readings ≡ [] = none_raised readings (subst (λ (ts : List Turn). ArePieces ts (raised_from 0 readings)) (none_last turns (sym e)) h) in
    sym (ap (λ (z : List ℕ). later_of (greatest_of 0 z) r) none ∙ later_zero r)
raised_is turns readings r (Some q) e h =
    let w = last_of_pieces turns (raised_from 0 readings) q h (sym e) in
    ap (λ (n : ℕ). later_of n r) (greatest_is 0 readings w.0 q w.1)

read_still : (ms : List OnLink) (turns : List Turn) (xs : List ℕ) → ArePieces turns xs → ArePieces (on_last (sending ms) turns) xs
read_still ms [] xs h = h
read_still ms (x ∷ []) xs (piece, rest, split, is, none) = (piece, rest, split, record { count = is.count; first = is.first; last = is.last }, none)
read_still ms (x ∷ y ∷ turns) xs (piece, rest, split, is, more) = (piece, rest, split, is, read_still ms (y ∷ turns) rest more)

-- Messages.

all_on : (l : ℕ) (turns : List Turn) → all_sent l turns ≡ on_link l (flat_map (λ (t : Turn). t.sent) turns)
all_on l [] = refl
all_on l (x ∷ turns) = ap (λ (z : List Message). on_link l x.sent ++ z) (all_on l turns) ∙ sym (on_append l x.sent (flat_map (λ (t : Turn). t.sent) turns))

-- after a turn in which nothing was sent yet, and these messages after it
pub sent_after : (l : ℕ) (before mid after : List Turn) (turn : Turn) (ms : List OnLink) → mid ≡ kept_with before turn → turn.sent ≡ [] → after ≡ on_last (sending ms) mid → all_sent l after ≡ all_sent l before ++ on_link l ms
sent_after l before mid after turn ms made none gone =
    let turns : after ≡ settled before ++ sending ms turn ∷ [] = gone ∙ ap (on_last (sending ms)) made ∙ on_last-push (sending ms) (settled before) turn in
    all_on l after
    ∙ ap (λ (ts : List Turn). on_link l (flat_map (λ (t : Turn). t.sent) ts)) turns
    ∙ ap (on_link l) (flat_map-append (λ (t : Turn). t.sent) (settled before) (sending ms turn ∷ []) ∙ ap (λ (z : List OnLink). flat_map (λ (t : Turn). t.sent) (settled before) ++ z) (append-nil (turn.sent ++ ms) ∙ ap (λ (z : List OnLink). z ++ ms) none) ∙ ap (λ (z : List OnLink). z ++ ms) (sent_settled before))
    ∙ on_append l (flat_map (λ (t : Turn). t.sent) before) ms
    ∙ ap (λ (z : List Message). z ++ on_link l ms) (sym (all_on l before))

pub taken_after : (before mid after : List Turn) (turn : Turn) (ms : List OnLink) → mid ≡ kept_with before turn → after ≡ on_last (sending ms) mid → messages_of after ≡ messages_of before ++ turn.taken
taken_after before mid after turn ms made gone = ap messages_of gone ∙ taken_still mid ms ∙ ap messages_of made ∙ messages_more before turn

-- of two lists of ends that are the same ends, the member of a number
out_before : (outs outs' : List (ℕ × SentBy)) (i : ℕ) (f : ℕ × SentBy) → map end_out outs' ≡ map end_out outs → slice_get outs' i ≡ Some f → (e : ℕ × SentBy) × (slice_get outs i ≡ Some e) × (end_out e ≡ end_out f)
out_before outs outs' i f same at = got_map end_out outs i (end_out f) (ap (λ (z : List End). slice_get z i) (sym same) ∙ get_map end_out outs' i f at)

in_before : (ins ins' : List (ℕ × TakenBy)) (i : ℕ) (f : ℕ × TakenBy) → map end_in ins' ≡ map end_in ins → slice_get ins' i ≡ Some f → (e : ℕ × TakenBy) × (slice_get ins i ≡ Some e) × (end_in e ≡ end_in f)
in_before ins ins' i f same at = got_map end_in ins i (end_in f) (ap (λ (z : List End). slice_get z i) (sym same) ∙ get_map end_in ins' i f at)

module _ (r most : ℕ) (dones : List Done) (old new : PlatformView) (outs outs' : List (ℕ × SentBy)) (ins ins' : List (ℕ × TakenBy)) (handed now : List Task) (w : WasVisited r most dones old new outs outs' ins ins' handed now) where
  pub plan_stays : new.plan ≡ old.plan
  plan_stays = ap (λ (v : PlatformView). v.plan) w.put.gone.stays ∙ w.stays.plan

  pub number_stays : new.number ≡ old.number
  number_stays = ap (λ (v : PlatformView). v.number) w.put.gone.stays ∙ w.stays.number

  pub rows_stay : rows_at new ≡ rows_at old
  rows_stay = ap rows_at w.put.gone.stays ∙ w.stays.rows

  pub fault_is : new.fault ≡ w.mid.fault
  fault_is = ap (λ (v : PlatformView). v.fault) w.put.gone.stays

  taken_now : messages_of new.turns ≡ messages_of old.turns ++ w.made.turn.taken
  taken_now = taken_after old.turns w.mid.turns new.turns w.made.turn w.put.sent w.made.turns w.put.gone.turns

  -- an end took what was taken before, what the turn took and what the turn left
  all_taken_at : BelongTogether old outs ins → old.fault ≡ None → (i : ℕ) (f : ℕ × TakenBy) → slice_get ins' i ≡ Some f → f.1.taken ≡ on_link f.0 (messages_of new.turns) ++ on_link f.0 w.made.taken.rest
  all_taken_at fits none i f at =
      let b = in_before ins ins' i f w.took.ends at in
      let n : b.0.0 ≡ f.0 = ap (λ (z : End). z.number) b.2 in
      let t : Took b.0.0 b.0.1 f.1 (on_link b.0.0 w.given) = w.took.below i b.0 f (slice_get_within ins i b.0 b.1) b.1 at in
      t.taken
      ∙ ap (λ (z : List Message). z ++ on_link b.0.0 w.given) (fits.taken none i b.0 b.1)
      ∙ sym (on_append b.0.0 (messages_of old.turns) w.given)
      ∙ ap (on_link b.0.0) (ap (λ (z : List OnLink). messages_of old.turns ++ z) w.made.taken.front ∙ sym (append_assoc (messages_of old.turns) w.made.turn.taken w.made.taken.rest) ∙ ap (λ (z : List OnLink). z ++ w.made.taken.rest) (sym taken_now))
      ∙ on_append b.0.0 (messages_of new.turns) w.made.taken.rest
      ∙ ap (λ (l : ℕ). on_link l (messages_of new.turns) ++ on_link l w.made.taken.rest) n

  pub fits_still : BelongTogether old outs ins → old.fault ≡ None → BelongTogether new outs' ins'
  fits_still fits none = record {
    outs_are = subst (λ (p : Parts). AreEnds p leaves new.number (map end_out outs')) (sym plan_stays) (subst (λ (n : ℕ). AreEnds old.plan leaves n (map end_out outs')) (sym number_stays) (subst (AreEnds old.plan leaves old.number) (sym w.put.put.ends) fits.outs_are));
    ins_are = subst (λ (p : Parts). AreEnds p receiving_platform new.number (map end_in ins')) (sym plan_stays) (subst (λ (n : ℕ). AreEnds old.plan receiving_platform n (map end_in ins')) (sym number_stays) (subst (AreEnds old.plan receiving_platform old.number) (sym w.took.ends) fits.ins_are));
    sent = λ i f at.
        let b = out_before outs outs' i f w.put.put.ends at in
        let n : b.0.0 ≡ f.0 = ap (λ (z : End). z.number) b.2 in
        let p : Put (λ l. on_link l w.mid.outbox) b.0.0 b.0.1 f.1 (on_link b.0.0 w.put.sent) = w.put.put.below i b.0 f (slice_get_within outs i b.0 b.1) b.1 at in
        p.sent
        ∙ ap (λ (z : List Message). z ++ on_link b.0.0 w.put.sent) (fits.sent i b.0 b.1)
        ∙ sym (sent_after b.0.0 old.turns w.mid.turns new.turns w.made.turn w.put.sent w.made.turns w.made.at.3 w.put.gone.turns)
        ∙ ap (λ (l : ℕ). all_sent l new.turns) n;
    taken = λ no i f at.
        let on_time : is_late w.mid.fault ≡ false = ap is_late (sym fault_is ∙ no) in
        all_taken_at fits none i f at ∙ ap (λ (z : List OnLink). on_link f.0 (messages_of new.turns) ++ on_link f.0 z) (w.made.taken.all on_time) ∙ append-nil (on_link f.0 (messages_of new.turns));
    begins = λ i f at. (on_link f.0 w.made.taken.rest, all_taken_at fits none i f at);
    orderly = λ i f at.
        let b = in_before ins ins' i f w.took.ends at in
        let t : Took b.0.0 b.0.1 f.1 (on_link b.0.0 w.given) = w.took.below i b.0 f (slice_get_within ins i b.0 b.1) b.1 at in
        subst (λ (z : Option Bounds). IsOrderlyBy z f.1.taken) (ap (λ (z : End). z.limits) b.2) (t.orderly (fits.orderly i b.0 b.1));
  }

  pub read_still_by : (fixed : Option (ℕ → ℕ)) (began reported reported' : Option (List ℕ)) → old.reading ≡ last_reading old.turns → ReportsOneMore reported r reported' → IsAsAhead fixed reported r → AreRead fixed began reported old.turns → AreRead fixed began reported' new.turns
  read_still_by fixed began reported reported' reading one ahead (readings, out, as_ahead, is) = (
    readings ++ r ∷ [],
    handed_more began reported reported' readings r out one,
    ahead_more fixed began reported reported' readings r out as_ahead ahead one,
    subst (λ (ts : List Turn). IsReadBy ts (readings ++ r ∷ [])) (sym (w.put.gone.turns ∙ ap (on_last (sending w.put.sent)) w.made.turns))
        (read_still w.put.sent (kept_with old.turns w.made.turn) (raised_from 0 (readings ++ r ∷ []))
        (read_on old.turns w.made.turn readings r is w.made.at.2 (w.made.at.0 ∙ sym w.made.at.1) (w.made.at.1 ∙ raised_is old.turns readings r old.reading reading is))),
  )

module _ (plan : Option Parts) (rows : ℕ → List Row) (link : ℕ → LinkId) (B : ℕ → Option (List ℕ)) (F : ℕ → Option (ℕ → ℕ)) where
  -- memory ran out: only the clock and the reserved memory changed
  pub kept_marked : (ahead ahead' : Option (ℕ → ℕ)) (reported reported' : Option (List ℕ)) (p q : PlatformView) (outs : List (ℕ × SentBy)) (ins : List (ℕ × TakenBy)) (marked : Bool) → IsOfRun plan rows link (B p.number) (F p.number) ahead reported p outs ins marked → ahead' ≡ ahead → q ≡ record p { room = q.room } → IsOfRun plan rows link (B q.number) (F q.number) ahead' reported' q outs ins true
  kept_marked ahead ahead' reported reported' p q outs ins marked k same e =
      let P : PlatformView → Type 0 = λ v. IsOfRun plan rows link (B v.number) (F v.number) ahead' reported' v outs ins true in
      subst P (sym e) (record {
        plan_is = k.plan_is;
        opened = k.opened;
        number = k.number;
        fits = record { outs_are = k.fits.outs_are; ins_are = k.fits.ins_are; sent = k.fits.sent; taken = k.fits.taken; begins = k.fits.begins; orderly = k.fits.orderly };
        outs_named = k.outs_named;
        ins_named = k.ins_named;
        ahead_is = same ∙ k.ahead_is;
        reads = λ m. absurd (true≢false m);
      })

  -- a visit was made
  pub kept_visited : (r most : ℕ) (dones : List Done) (ahead ahead' : Option (ℕ → ℕ)) (reported reported' : Option (List ℕ)) (p q : PlatformView) (outs outs' : List (ℕ × SentBy)) (ins ins' : List (ℕ × TakenBy)) (handed now : List Task) (marked : Bool) → IsOfRun plan rows link (B p.number) (F p.number) ahead reported p outs ins marked → p.fault ≡ None → p.reading ≡ last_reading p.turns
      → ahead' ≡ ahead → ReportsOneMore reported r reported' → IsAsAhead ahead reported r → WasVisited r most dones p q outs outs' ins ins' handed now → IsOfRun plan rows link (B q.number) (F q.number) ahead' reported' q outs' ins' marked
  kept_visited r most dones ahead ahead' reported reported' p q outs outs' ins ins' handed now marked k none reading same one as_ahead w =
      let stays : q.plan ≡ p.plan = plan_stays r most dones p q outs outs' ins ins' handed now w in
      let number : q.number ≡ p.number = number_stays r most dones p q outs outs' ins ins' handed now w in
      subst (λ (n : ℕ). IsOfRun plan rows link (B n) (F n) ahead' reported' q outs' ins' marked) (sym number) (record {
        plan_is = k.plan_is ∙ ap Some (sym stays);
        opened = λ a home. ap (λ (f : ℕ → List Row). f a) (rows_stay r most dones p q outs outs' ins ins' handed now w) ∙ k.opened a (subst (λ (x : Parts). platform_of x.graph a ≡ p.number) stays (home ∙ number));
        number = subst (λ (x : Parts). q.number < length x.graph.platforms) (sym stays) (subst (λ (n : ℕ). n < length p.plan.graph.platforms) (sym number) k.number);
        fits = fits_still r most dones p q outs outs' ins ins' handed now w k.fits none;
        outs_named = subst (AreNamed link) (sym w.put.put.ends) k.outs_named;
        ins_named = subst (AreNamed link) (sym w.took.ends) k.ins_named;
        ahead_is = same ∙ k.ahead_is;
        reads = λ m. read_still_by r most dones p q outs outs' ins ins' handed now w (F p.number) (B p.number) reported reported' reading one (subst (λ (z : Option (ℕ → ℕ)). IsAsAhead z reported r) k.ahead_is as_ahead) (k.reads m);
      })
