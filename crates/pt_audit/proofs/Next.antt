-- What the next turn of a log has to be.
use Rattle.std.proofs.Common.{◌≡◌, ℕ, ◌≤◌, ◌<◌, Bool, true, false, List, [], ◌∷◌, ◌++◌, Option, Some, None, refl, sym, ap, subst, ◌∙◌, arith, slice_get}
use Rattle.std.specs.Prelude.{if◌then◌else◌, nat_lt}
use Rattle.std.proofs.lemmas.Bool.{false≢true, ltb-false, ltb-true}
use Rattle.pt_tags.specs.declared.message.Message.{Message}
use Rattle.pt_types.specs.declared.rows.Row.{Row}
use Rattle.pt_semantics.specs.History.{IsCounted, IsLegal}
use Rattle.pt_semantics.specs.Lists.{Each}
use Rattle.pt_semantics.specs.Platform.{State, opened}
use Rattle.pt_semantics.specs.Turn.{IsTurn, Turn}
use Rattle.pt_semantics.proofs.Lookups.{none_some}
use Rattle.pt_causality.specs.Ranked.{level_of}
use Rattle.pt_offsets.specs.Plans.{Parts}
use Rattle.pt_turn.specs.Platforms.{PlatformView, level_at, state_at}
use Rattle.pt_turn.specs.declared.fault.TurnFault.{TurnFault}
use Rattle.pt_audit.specs.Parsing.Lines.{Block}
use Rattle.pt_audit.specs.Remaking.Following.{CanFollow}
use Rattle.pt_audit.specs.Logged.{AreLawful, AreLogged, LoggedTurn, turns_of}
use Rattle.pt_audit.specs.Verifying.{HasMadeLogged, AreVerified, entered, fresh_order, is_joined, with_turns}
use Rattle.pt_audit.specs.declared.order.Order.{Order}
use Rattle.pt_audit.proofs.JoinedTurns.{MayJoin, may_join}
use Rattle.pt_audit.proofs.Judged.{ends as ends_of, lawful as are_lawful}
use Rattle.pt_audit.proofs.OneState.{Parted, legal_parted, legal_state}
use Rattle.pt_audit.proofs.LoggedOnce.{logged_once}
use Rattle.pt_audit.proofs.LoggedTurns.{LastLogged, before_ends, each_last, lawful_before, none_of, order_last, own, logged_last}

-- A turn of a plan's platform, as one of the platform itself.
pub turn_at : (plan : Parts) (i : ℕ) (v : PlatformView) (s new : State) (turn : Turn) (late : Bool) → v.plan ≡ plan → v.number ≡ i → IsTurn plan.graph (level_of plan.ranks) i s turn late new → IsTurn v.plan.graph (level_at v) v.number s turn late new
turn_at plan i v s new turn late plan_is number_is is =
    subst (λ (p : Parts). IsTurn p.graph (level_of p.ranks) v.number s turn late new) (sym plan_is) (subst (λ n. IsTurn plan.graph (level_of plan.ranks) n s turn late new) (sym number_is) is)

some_none : {X : Type 0} (x : X) → Some x ≡ None → ⊥
some_none x e = none_some x (sym e)

-- a platform that may make one more turn has no fault
no_fault : (o : Option TurnFault) → ((o ≡ None → ⊥) → ⊥) → o ≡ None
no_fault None h = refl
no_fault (Some f) h = absurd (h (some_none f))

module _ (plan : Parts) (rows : ℕ → List Row) (blocks : List Block) (order : Order) (last : List (Option Message)) (platforms : List PlatformView) (r : AreVerified plan rows blocks order last platforms)
    (b : Block) (others : List LoggedTurn) (ends : ℕ → State) (logged : AreLogged plan.graph (blocks ++ b ∷ []) others) (lawful : AreLawful plan.graph (level_of plan.ranks) rows others ends) where
  pub x : LastLogged plan.graph blocks b others
  x = logged_last plan.graph blocks b others logged

  whole : AreLawful plan.graph (level_of plan.ranks) rows (x.front ++ x.turn ∷ []) ends
  whole = subst (λ (ts : List LoggedTurn). AreLawful plan.graph (level_of plan.ranks) rows ts ends) x.is lawful

  front_is : x.front ≡ r.logged
  front_is =
      logged_once plan.graph (level_of plan.ranks) rows r.admitted.lawful blocks x.front r.logged (before_ends plan.graph (level_of plan.ranks) rows x.front x.turn ends x.loggable.platform whole) (ends_of plan rows blocks order last platforms r)
      x.before (lawful_before plan.graph (level_of plan.ranks) rows x.front x.turn ends x.loggable.platform whole) r.are_logged (are_lawful plan rows blocks order last platforms r)

  own_turns : IsLegal plan.graph (level_of plan.ranks) x.turn.platform rows (turns_of x.turn.platform r.logged ++ x.turn.turn ∷ []) (ends x.turn.platform)
  own_turns = subst (λ (ts : List LoggedTurn). IsLegal plan.graph (level_of plan.ranks) x.turn.platform rows (turns_of x.turn.platform ts ++ x.turn.turn ∷ []) (ends x.turn.platform)) front_is
      (own plan.graph (level_of plan.ranks) rows x.front x.turn ends x.loggable.platform whole)

  parted : Parted plan.graph (level_of plan.ranks) x.turn.platform (opened plan.graph x.turn.platform rows) (turns_of x.turn.platform r.logged) x.turn.turn (ends x.turn.platform)
  parted = legal_parted plan.graph (level_of plan.ranks) x.turn.platform (opened plan.graph x.turn.platform rows) (turns_of x.turn.platform r.logged) x.turn.turn (ends x.turn.platform) own_turns.leads

  -- its platform isn't before the last one
  pub after : order.platform ≤ x.turn.platform
  after = r.reached x.turn.platform (subst (λ (ts : List LoggedTurn). Each (λ (u : LoggedTurn). u.platform ≤ x.turn.platform) ts) front_is (order_last x.front x.turn whole.in_order))

  -- and it may stand after the turns of its platform
  pub joins : MayJoin (with_turns (turns_of x.turn.platform r.logged) (fresh_order x.turn.platform))
  joins = may_join (turns_of x.turn.platform r.logged) x.turn.turn x.turn.platform own_turns.joined

  pub may_follow : (v : PlatformView) → slice_get platforms x.turn.platform ≡ Some v → CanFollow v x.turn.turn
  may_follow v at = record {
    no_fault = no_fault v.fault (λ fault. made.over fault x.turn.turn (ends x.turn.platform) own_turns.leads);
    counted = each_last IsCounted (turns_of x.turn.platform r.logged) x.turn.turn own_turns.counted;
    late = parted.late;
    new = ends x.turn.platform;
    is = turn_at plan x.turn.platform v (state_at v) (ends x.turn.platform) x.turn.turn parted.late (r.all.plans x.turn.platform v at) (r.all.numbers x.turn.platform v at)
        (subst (λ (s : State). IsTurn plan.graph (level_of plan.ranks) x.turn.platform s x.turn.turn parted.late (ends x.turn.platform)) same parted.is);
  }
    where
      made : HasMadeLogged plan.graph (level_of plan.ranks) x.turn.platform rows v (turns_of x.turn.platform r.logged)
      made = r.made x.turn.platform v at

      same : parted.mid ≡ state_at v
      same = legal_state plan.graph (level_of plan.ranks) x.turn.platform (opened plan.graph x.turn.platform rows) (turns_of x.turn.platform r.logged) parted.mid (state_at v) parted.leads made.leads

-- The order of a turn that may follow.

-- the order after the turns of its platform so far
pub record IsEntered (logged : List LoggedTurn) (order : Order) (i : ℕ) (new : Order) : Type 0 where
  pub after : order.platform ≤ i
  pub turns : new ≡ with_turns (turns_of i logged) (fresh_order i)
  pub joins : MayJoin new

module _ (logged : List LoggedTurn) (order : Order) (up_to : Each (λ (t : LoggedTurn). t.platform ≤ order.platform) logged) (two : order ≡ with_turns (turns_of order.platform logged) (fresh_order order.platform)) (i : ℕ) where
  -- a later platform
  later : order.platform < i → IsEntered logged order i (fresh_order i)
  later lt = record {
    after = omega arith;
    turns = sym (ap (λ (ts : List Turn). with_turns ts (fresh_order i)) (none_of i order.platform logged up_to lt));
    joins = refl;
  }

  here : order.platform ≡ i → MayJoin order → IsEntered logged order i order
  here e joins = record {
    after = omega (arith, e);
    turns = subst (λ n. order ≡ with_turns (turns_of n logged) (fresh_order n)) e two;
    joins = joins;
  }

  entered_by : (before after joined : Bool) (new : Order) → nat_lt i order.platform ≡ before → nat_lt order.platform i ≡ after → is_joined order.before order.last ≡ joined
      → (if before then None else (if after then Some (fresh_order i) else (if joined then Some order else None))) ≡ Some new → IsEntered logged order i new
  entered_by true after joined new eb ea ej e = absurd (none_some new e)
  entered_by false true joined new eb ea ej e = subst (IsEntered logged order i) (same (fresh_order i) new e) (later (omega (arith, ltb-true order.platform i ea)))
    where
      same : (a b : Order) → Some a ≡ Some b → a ≡ b
      same a b h = cc
  entered_by false false true new eb ea ej e = subst (IsEntered logged order i) (same order new e) (here (omega (arith, ltb-false i order.platform eb, ltb-false order.platform i ea)) ej)
    where
      same : (a b : Order) → Some a ≡ Some b → a ≡ b
      same a b h = cc
  entered_by false false false new eb ea ej e = absurd (none_some new e)

  pub is_entered : (new : Order) → entered i order ≡ Some new → IsEntered logged order i new
  is_entered new e = entered_by (nat_lt i order.platform) (nat_lt order.platform i) (is_joined order.before order.last) new refl refl refl e

  refused_by : (before after joined : Bool) → nat_lt i order.platform ≡ before → nat_lt order.platform i ≡ after → is_joined order.before order.last ≡ joined
      → (if before then None else (if after then Some (fresh_order i) else (if joined then Some order else None))) ≡ None → order.platform ≤ i → MayJoin (with_turns (turns_of i logged) (fresh_order i)) → ⊥
  refused_by true after joined eb ea ej e le joins = absurd (omega (arith, ltb-true i order.platform eb, le))
  refused_by false true joined eb ea ej e le joins = some_none (fresh_order i) e
  refused_by false false true eb ea ej e le joins = some_none order e
  refused_by false false false eb ea ej e le joins =
      let here : order.platform ≡ i = omega (arith, ltb-false i order.platform eb, ltb-false order.platform i ea) in
      let is : order ≡ with_turns (turns_of i logged) (fresh_order i) = subst (λ n. order ≡ with_turns (turns_of n logged) (fresh_order n)) here two in
      false≢true (sym ej ∙ subst MayJoin (sym is) joins)

  -- an order that refuses a turn is right
  pub is_refused : entered i order ≡ None → order.platform ≤ i → MayJoin (with_turns (turns_of i logged) (fresh_order i)) → ⊥
  is_refused e le joins = refused_by (nat_lt i order.platform) (nat_lt order.platform i) (is_joined order.before order.last) refl refl refl e le joins
