-- After a turn it is a platform again.
use Rattle.std.proofs.Common.{◌≡◌, ℕ, List, [], ◌∷◌, ◌++◌, Option, Some, None, refl, sym, ap, subst, ◌∙◌}
use Rattle.pt_types.specs.declared.graph.Graph.{Graph}
use Rattle.pt_types.specs.declared.firing.OnLink.{OnLink}
use Rattle.pt_types.specs.declared.rows.Row.{Row}
use Rattle.pt_semantics.specs.Kept.{IsSingle, kept_with, settled}
use Rattle.pt_semantics.specs.Platform.{State, opened}
use Rattle.pt_semantics.specs.Turn.{IsLast, IsTurn, Turn}
use Rattle.pt_history.proofs.Gathered.{kept-push}
use Rattle.pt_turn.specs.declared.claim_step.TurnEnd.{TurnEnd}
use Rattle.pt_turn.specs.declared.claim_step.TurnEnd.TheVariants.{On, Late as LateEnd, Long as LongEnd}
use Rattle.pt_turn.specs.Steps.{EndsAsLast as EndsBy, took_late as ends_late}
use Rattle.pt_turn.specs.declared.fault.TurnFault.{TurnFault}
use Rattle.pt_turn.specs.declared.fault.TurnFault.TheVariants.{Late, Long}
use Rattle.pt_turn.specs.Faults.{IsFaultOf}
use Rattle.pt_semantics.proofs.Lookups.{none_some}
use Rattle.pt_turn.specs.Running.{GoesOn, LastIsLate, LeadsOn, Ran, Shows, ShowsLong, last_reading}
use Rattle.pt_turn.specs.Turned.{FaultsIfLast, is_late}
use Rattle.pt_turn.proofs.Turns.{each_push, goes_on_push, last_pushed, last_settled, legal_push}

-- a fault is late where the turn ended so
pub late_as : (g : Graph) (last : Option ℕ) (messages : List OnLink) (ending : TurnEnd) (fault : Option TurnFault) → IsFaultOf g last messages ending fault → is_late fault ≡ ends_late ending
late_as g last messages On fault h = ap is_late h
late_as g last messages LongEnd fault h = ap is_late h
late_as g last messages LateEnd None h = absurd h
late_as g last messages LateEnd (Some (Late actor tag reading limit)) h = refl
late_as g last messages LateEnd (Some Long) h = absurd h

-- and it is there where no turn may follow
pub ends_as : (g : Graph) (last : Option ℕ) (messages : List OnLink) (ending : TurnEnd) (fault : Option TurnFault) (X : Type 0) → IsFaultOf g last messages ending fault → EndsBy g ending X → FaultsIfLast fault X
ends_as g last messages On fault X h e = subst (λ f. FaultsIfLast f X) (sym h) e
ends_as g last messages LongEnd fault X h e = subst (λ f. FaultsIfLast f X) (sym h) e
ends_as g last messages LateEnd None X h e = absurd h
ends_as g last messages LateEnd (Some fault) X h e = e

-- what the kept turns show
abbrev shows_some : Graph → List Turn → State → Option TurnFault → Type 0
shows_some g turns s None = Unit {0}
shows_some g turns s (Some fault) = Shows g turns s fault

shows : (g : Graph) (turns : List Turn) (turn : Turn) (s : State) (ending : TurnEnd) (fault : TurnFault) → IsFaultOf g (last_reading turns) turn.taken ending (Some fault) → (ending ≡ LongEnd → ShowsLong g s) → Shows g (kept_with turns turn) s fault
shows g turns turn s On fault h long = absurd (none_some fault (sym h))
shows g turns turn s LongEnd fault h long = subst (shows_some g (kept_with turns turn) s) (sym h) (long refl)
shows g turns turn s LateEnd (Late actor tag reading limit) h long = record {
  before = settled turns;
  turn = turn;
  ends = refl;
  late = subst (λ last. LastIsLate g last turn.taken actor tag reading limit) (sym (last_settled turns)) h;
}
shows g turns turn s LateEnd Long h long = absurd h

leads_on : (g : Graph) (level : ℕ → ℕ) (i : ℕ) (start s new : State) (turns all : List Turn) (turn : Turn) (ending : TurnEnd) (fault : Option TurnFault) → GoesOn g level i start all s
    → (is : IsTurn g level i s turn (ends_late ending) new) → EndsBy g ending (IsLast g s turn.last (ends_late ending) is.ready) → IsFaultOf g (last_reading turns) turn.taken ending fault → (ending ≡ LongEnd → ShowsLong g new)
    → LeadsOn g level i start (kept_with turns turn) (all ++ turn ∷ []) new fault
leads_on g level i start s new turns all turn On None on is last h long = goes_on_push g level i start s new all turn on is last
leads_on g level i start s new turns all turn LateEnd None on is last h long = absurd h
leads_on g level i start s new turns all turn LongEnd None on is last h long = absurd (none_some Long h)
leads_on g level i start s new turns all turn ending (Some fault) on is last h long = (legal_push g level i start s new all turn (ends_late ending) on is, shows g turns turn new ending fault h long)

pub ran_on : (g : Graph) (level : ℕ → ℕ) (i : ℕ) (rows : ℕ → List Row) (turns : List Turn) (turn : Turn) (s new : State) (ending : TurnEnd) (fault : Option TurnFault) → Ran g level i rows turns s None → IsSingle turn
    → (is : IsTurn g level i s turn (ends_late ending) new) → EndsBy g ending (IsLast g s turn.last (ends_late ending) is.ready) → IsFaultOf g s.reading turn.taken ending fault → (ending ≡ LongEnd → ShowsLong g new) → new.reading ≡ Some turn.last
    → Ran g level i rows (kept_with turns turn) new fault
ran_on g level i rows turns turn s new ending fault ran single is last h long read = record {
  all = ran.all ++ turn ∷ [];
  single = each_push IsSingle ran.all turn ran.single single;
  are_kept = ap (λ ts. kept_with ts turn) ran.are_kept ∙ sym (kept-push ran.all turn);
  leads = leads_on g level i (opened g i rows) s new turns ran.all turn ending fault ran.leads is last (subst (λ r. IsFaultOf g r turn.taken ending fault) ran.read h) long;
  read = read ∙ sym (last_pushed (settled turns) turn);
}
