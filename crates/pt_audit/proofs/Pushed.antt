-- A log verified one block further.
use Rattle.std.proofs.Common.{◌≡◌, ◌≢◌, ℕ, ◌≤◌, true, List, [], ◌∷◌, ◌++◌, Option, Some, refl, sym, ap, subst, ◌∙◌, ⊎_elim, arith, set, slice_get}
use Rattle.std.proofs.lemmas.List.{length-set}
use Rattle.pt_tags.specs.declared.message.Message.{Message}
use Rattle.pt_types.specs.declared.rows.Row.{Row}
use Rattle.pt_semantics.specs.Lists.{Each}
use Rattle.pt_semantics.specs.Turn.{Turn}
use Rattle.pt_semantics.proofs.Lookups.{Each-from, Each-in}
use Rattle.pt_causality.specs.Ranked.{level_of}
use Rattle.pt_offsets.specs.Plans.{Parts}
use Rattle.pt_turn.specs.All.{AreAll}
use Rattle.pt_turn.specs.Platforms.{PlatformView, rows_at, state_at}
use Rattle.pt_tables.specs.Log.{turn_lines}
use Rattle.pt_audit.specs.Parsing.Hints.{AreHints, IsLoggable}
use Rattle.pt_audit.specs.Parsing.Lines.{Block}
use Rattle.pt_audit.specs.declared.parse.hints.Hints.{Hints}
use Rattle.pt_audit.specs.Remaking.Lasts.{AreLast, KeepOthers}
use Rattle.pt_audit.specs.Logged.{LoggedTurn, turns_of}
use Rattle.pt_audit.specs.Verifying.{HasMadeLogged, AreVerified, fresh_order, is_joined, quiet_count, with_turn, with_turns}
use Rattle.pt_audit.specs.FromText.{HasMadeFromText}
use Rattle.pt_audit.specs.declared.order.Order.{Order}
use Rattle.pt_audit.proofs.Changed.{set_cases}
use Rattle.pt_audit.proofs.JoinedTurns.{joined_more, with_turns_push}
use Rattle.pt_audit.proofs.Making.{made_more, step_of}
use Rattle.pt_audit.proofs.Next.{IsEntered}
use Rattle.pt_audit.proofs.LoggedTurns.{each_last, each_push, order_push, logged_push, turns_here, turns_there}

order_platform : (turns : List Turn) (order : Order) → (with_turns turns order).platform ≡ order.platform
order_platform [] order = refl
order_platform (x ∷ turns) order = order_platform turns (with_turn (quiet_count x) order)

module _ (plan : Parts) (rows : ℕ → List Row) (blocks : List Block) (order entered : Order) (last now : List (Option Message)) (platforms : List PlatformView) (r : AreVerified plan rows blocks order last platforms)
    (b : Block) (p : ℕ) (old new : PlatformView) (hints : Hints) (quiet : Option ℕ) (at : slice_get platforms p ≡ Some old) (in_order : IsEntered r.logged order p entered)
    (logged : HasMadeFromText b.text hints old new)
    (loggable : (q : ℕ) (t : Turn) → AreHints q t hints → IsLoggable plan.graph q t)
    (lasts : AreLast old.plan.graph old.number (state_at new).taken now) (keeps : KeepOthers old.plan.graph old.number last now) (is_quiet : quiet ≡ quiet_count logged.made.turn) where
  plan_is : old.plan ≡ plan
  plan_is = r.all.plans p old at

  number_is : old.number ≡ p
  number_is = r.all.numbers p old at

  abbrev turn : Turn
  turn = logged.made.turn

  abbrev t : LoggedTurn
  t = record { platform = p; turn = turn }

  their_hints : AreHints p turn hints
  their_hints = subst (λ n. AreHints n turn hints) number_is logged.made.hints_are

  is_loggable : IsLoggable plan.graph p turn
  is_loggable = loggable p turn their_hints

  text : b.text ≡ turn_lines plan.graph p turn
  text = subst (λ (z : Parts). b.text ≡ turn_lines z.graph p turn) plan_is (subst (λ n. b.text ≡ turn_lines old.plan.graph n turn) number_is logged.text_of)

  more_made : HasMadeLogged plan.graph (level_of plan.ranks) p rows new (turns_of p r.logged ++ turn ∷ [])
  more_made =
      let h = r.made p old at in
      made_more plan.graph (level_of plan.ranks) p rows old new (turns_of p r.logged) turn h logged.made.no_fault (step_of plan p hints old new plan_is number_is logged.made) logged.made.kept logged.counted
      (joined_more (turns_of p r.logged) turn p h.joined (subst (λ (o : Order). is_joined o.before o.last ≡ true) in_order.turns in_order.joins))

  all_now : AreAll plan rows (set platforms p new)
  all_now = record {
    count = length-set platforms p new ∙ r.all.count;
    plans = λ j v there.
        ⊎_elim
        (λ (here : (j ≡ p) × (v ≡ new)). ap (λ (z : PlatformView). z.plan) here.1 ∙ logged.made.stays.plan ∙ plan_is)
        (λ (other : (j ≢ p) × (slice_get platforms j ≡ Some v)). r.all.plans j v other.1)
        (set_cases platforms p j new old v at there);
    numbers = λ j v there.
        ⊎_elim
        (λ (here : (j ≡ p) × (v ≡ new)). ap (λ (z : PlatformView). z.number) here.1 ∙ logged.made.stays.number ∙ number_is ∙ sym here.0)
        (λ (other : (j ≢ p) × (slice_get platforms j ≡ Some v)). r.all.numbers j v other.1)
        (set_cases platforms p j new old v at there);
    opened = λ j a v there home.
        ⊎_elim
        (λ (here : (j ≡ p) × (v ≡ new)). ap (λ (z : PlatformView). rows_at z a) here.1 ∙ ap (λ (f : ℕ → List Row). f a) logged.made.stays.rows ∙ r.all.opened p a old at (home ∙ here.0))
        (λ (other : (j ≢ p) × (slice_get platforms j ≡ Some v)). r.all.opened j a v other.1 home)
        (set_cases platforms p j new old v at there);
  }

  at_p : (with_turn quiet entered).platform ≡ p
  at_p = ap (λ (o : Order). o.platform) in_order.turns ∙ order_platform (turns_of p r.logged) (fresh_order p)

  up_to_p : Each (λ (u : LoggedTurn). u.platform ≤ p) r.logged
  up_to_p = Each-from (λ (u : LoggedTurn). u.platform ≤ p) r.logged (λ u m.
      let le : u.platform ≤ order.platform = Each-in (λ (z : LoggedTurn). z.platform ≤ order.platform) r.logged r.up_to u m in
      let on : order.platform ≤ p = in_order.after in
      omega (arith, le, on))

  two_now : with_turn quiet entered ≡ with_turns (turns_of p (r.logged ++ t ∷ [])) (fresh_order p)
  two_now =
      ap (λ q. with_turn q entered) is_quiet
      ∙ ap (with_turn (quiet_count turn)) in_order.turns
      ∙ sym (with_turns_push (turns_of p r.logged) turn (fresh_order p))
      ∙ ap (λ (ts : List Turn). with_turns ts (fresh_order p)) (sym (turns_here p r.logged t refl))

  last_here : AreLast plan.graph p (state_at new).taken now
  last_here = subst (λ (z : Parts). AreLast z.graph p (state_at new).taken now) plan_is (subst (λ n. AreLast old.plan.graph n (state_at new).taken now) number_is lasts)

  keeps_others : KeepOthers plan.graph p last now
  keeps_others = subst (λ (z : Parts). KeepOthers z.graph p last now) plan_is (subst (λ n. KeepOthers old.plan.graph n last now) number_is keeps)

  last_there : (j : ℕ) (v : PlatformView) → j ≢ p → slice_get platforms j ≡ Some v → AreLast plan.graph j (state_at v).taken now
  last_there j v other there =
      let was = r.lasts j v there in
      record {
        count = last_here.count;
        is = λ l link found home. keeps_others l link found (λ e. other (sym home ∙ e)) ∙ was.is l link found home;
      }

  pub pushed : AreVerified plan rows (blocks ++ b ∷ []) (with_turn quiet entered) now (set platforms p new)
  pushed = record {
    admitted = r.admitted;
    all = all_now;
    logged = r.logged ++ t ∷ [];
    are_logged = logged_push plan.graph blocks r.logged b t r.are_logged text is_loggable;
    in_order = order_push r.logged t r.in_order up_to_p;
    up_to = subst (λ n. Each (λ (u : LoggedTurn). u.platform ≤ n) (r.logged ++ t ∷ [])) (sym at_p) (each_push (λ (u : LoggedTurn). u.platform ≤ p) r.logged t up_to_p (omega arith));
    reached = λ i h. let le : p ≤ i = each_last (λ (u : LoggedTurn). u.platform ≤ i) r.logged t h in omega (arith, at_p, le);
    two = subst (λ n. with_turn quiet entered ≡ with_turns (turns_of n (r.logged ++ t ∷ [])) (fresh_order n)) (sym at_p) two_now;
    lasts = λ j v there.
        ⊎_elim
        (λ (here : (j ≡ p) × (v ≡ new)). subst (λ (z : PlatformView). AreLast plan.graph j (state_at z).taken now) (sym here.1) (subst (λ n. AreLast plan.graph n (state_at new).taken now) (sym here.0) last_here))
        (λ (other : (j ≢ p) × (slice_get platforms j ≡ Some v)). last_there j v other.0 other.1)
        (set_cases platforms p j new old v at there);
    made = λ j v there.
        ⊎_elim
        (λ (here : (j ≡ p) × (v ≡ new)).
        subst (λ (z : PlatformView). HasMadeLogged plan.graph (level_of plan.ranks) j rows z (turns_of j (r.logged ++ t ∷ []))) (sym here.1)
        (subst (λ n. HasMadeLogged plan.graph (level_of plan.ranks) n rows new (turns_of n (r.logged ++ t ∷ []))) (sym here.0)
        (subst (λ (ts : List Turn). HasMadeLogged plan.graph (level_of plan.ranks) p rows new ts) (sym (turns_here p r.logged t refl)) more_made)))
        (λ (other : (j ≢ p) × (slice_get platforms j ≡ Some v)).
        subst (λ (ts : List Turn). HasMadeLogged plan.graph (level_of plan.ranks) j rows v ts) (sym (turns_there j r.logged t (λ e. other.0 (sym e)))) (r.made j v other.1))
        (set_cases platforms p j new old v at there);
  }
