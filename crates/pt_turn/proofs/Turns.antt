-- Turns since a platform opened: one more, and what their history makes sure of.
use Rattle.std.proofs.Common.{◌≡◌, ℕ, ◌+◌, ◌^◌, ◌&&◌, if◌then◌else◌, nat_lt, Bool, true, false, List, [], ◌∷◌, ◌++◌, Option, Some, None, refl, sym, ap, subst, ◌∙◌, append-nil}
use Rattle.std.proofs.lemmas.List.Concat.{flat_map-append}
use Rattle.pt_semantics.proofs.Lookups.{none_some}
use Rattle.pt_types.specs.declared.graph.Graph.{Graph}
use Rattle.pt_types.specs.declared.rows.Row.{Row}
use Rattle.pt_semantics.specs.Floor.{Bounded, NeverTwice}
use Rattle.pt_semantics.specs.History.{IsLegal, Legal, LegalOnTime, claims_of}
use Rattle.pt_semantics.specs.Kept.{kept_with, settled}
use Rattle.pt_semantics.specs.Lists.{Each}
use Rattle.pt_semantics.specs.Platform.{State, opened}
use Rattle.pt_semantics.specs.Ranks.{AreLevels}
use Rattle.pt_semantics.specs.Rows.{FitRows}
use Rattle.pt_semantics.specs.Turn.{IsLast, IsTurn, Turn, is_quiet, joined}
use Rattle.pt_semantics.specs.Wired.{IsWired}
use Rattle.pt_laws.proofs.Once.{no_port_twice}
use Rattle.pt_laws.proofs.Bounds.{steps_bounded}
use Rattle.pt_laws.proofs.KeptTurns.{kept_is_legal}
use Rattle.pt_history.proofs.Gathered.{taken_settled}
use Rattle.pt_turn.specs.declared.fault.TurnFault.{TurnFault}
use Rattle.pt_turn.specs.Platforms.{messages_of}
use Rattle.pt_turn.specs.Running.{GoesOn, LeadsOn, Ran, Shows, last_reading}

-- one turn more, after which another may come
pub goes_on_push : (g : Graph) (level : ℕ → ℕ) (i : ℕ) (s mid new : State) (turns : List Turn) (turn : Turn) → GoesOn g level i s turns mid → (is : IsTurn g level i mid turn false new) → (IsLast g mid turn.last false is.ready → ⊥) → GoesOn g level i s (turns ++ turn ∷ []) new
goes_on_push g level i s mid new [] turn h is on = subst (λ (z : State). GoesOn g level i z (turn ∷ []) new) h (new, is, on, refl)
goes_on_push g level i s mid new (x ∷ turns) turn h is on = (h.0, h.1, h.2, goes_on_push g level i h.0 mid new turns turn h.3 is on)

-- or after which none may
pub legal_push : (g : Graph) (level : ℕ → ℕ) (i : ℕ) (s mid new : State) (turns : List Turn) (turn : Turn) (late : Bool) → GoesOn g level i s turns mid → IsTurn g level i mid turn late new → Legal g level i s (turns ++ turn ∷ []) new
legal_push g level i s mid new [] turn late h is = subst (λ (z : State). Legal g level i z (turn ∷ []) new) h (late, new, is, λ last. refl, refl)
legal_push g level i s mid new (x ∷ turns) turn late h is = (false, h.0, h.1, λ last. absurd (h.2 last), legal_push g level i h.0 mid new turns turn late h.3 is)

pub goes_on_legal : (g : Graph) (level : ℕ → ℕ) (i : ℕ) (s new : State) (turns : List Turn) → GoesOn g level i s turns new → Legal g level i s turns new
goes_on_legal g level i s new [] h = h
goes_on_legal g level i s new (turn ∷ turns) h = (false, h.0, h.1, λ last. absurd (h.2 last), goes_on_legal g level i h.0 new turns h.3)

pub goes_on_in_time : (g : Graph) (level : ℕ → ℕ) (i : ℕ) (s new : State) (turns : List Turn) → GoesOn g level i s turns new → LegalOnTime g level i s turns new
goes_on_in_time g level i s new [] h = h
goes_on_in_time g level i s new (turn ∷ turns) h = (h.0, h.1, goes_on_in_time g level i h.0 new turns h.3)

leads_legal : (g : Graph) (level : ℕ → ℕ) (i : ℕ) (start s : State) (turns all : List Turn) (fault : Option TurnFault) → LeadsOn g level i start turns all s fault → Legal g level i start all s
leads_legal g level i start s turns all None h = goes_on_legal g level i start s all h
leads_legal g level i start s turns all (Some fault) h = h.0

-- the kept turns are a legal history
pub ran_is_legal : (g : Graph) (level : ℕ → ℕ) (i : ℕ) (rows : ℕ → List Row) (turns : List Turn) (s : State) (fault : Option TurnFault) → IsWired g → AreLevels g level → FitRows g rows → Ran g level i rows turns s fault → IsLegal g level i rows turns s
ran_is_legal g level i rows turns s fault wired levels fit ran =
    subst (λ ts. IsLegal g level i rows ts s) (sym ran.are_kept)
    ((kept_is_legal g level i rows ran.all s wired levels fit ran.single).0 (leads_legal g level i (opened g i rows) s turns ran.all fault ran.leads))

-- and where no turn answered a fault, none of the kept turns is late
pub ran_in_time : (g : Graph) (level : ℕ → ℕ) (i : ℕ) (rows : ℕ → List Row) (turns : List Turn) (s : State) (fault : Option TurnFault) → IsWired g → AreLevels g level → FitRows g rows → Ran g level i rows turns s fault → fault ≡ None → LegalOnTime g level i (opened g i rows) turns s
ran_in_time g level i rows turns s None wired levels fit ran none =
    subst (λ ts. LegalOnTime g level i (opened g i rows) ts s) (sym ran.are_kept)
    ((kept_is_legal g level i rows ran.all s wired levels fit ran.single).1 (goes_on_in_time g level i (opened g i rows) s ran.all ran.leads))
ran_in_time g level i rows turns s (Some fault) wired levels fit ran none = absurd (none_some fault (sym none))

shown : (g : Graph) (level : ℕ → ℕ) (i : ℕ) (start s : State) (turns all : List Turn) (fault : TurnFault) → LeadsOn g level i start turns all s (Some fault) → Shows g turns s fault
shown g level i start s turns all fault h = h.1

-- what the turns so far give to the next one
pub record NextTurn (g : Graph) (level : ℕ → ℕ) (i : ℕ) (s : State) (turns : List Turn) : Type 0 where
  pub never : NeverTwice g level i s
  pub bounded : Bounded g level s (claims_of g turns)

pub next_turn : (g : Graph) (level : ℕ → ℕ) (i : ℕ) (rows : ℕ → List Row) (turns : List Turn) (s : State) → IsWired g → AreLevels g level → FitRows g rows → (ran : Ran g level i rows turns s None) → NextTurn g level i s ran.all
next_turn g level i rows turns s wired levels fit ran =
    let on : LegalOnTime g level i (opened g i rows) ran.all s = goes_on_in_time g level i (opened g i rows) s ran.all ran.leads in
    record {
      never = no_port_twice g level i rows ran.all s wired levels fit on;
      bounded = steps_bounded g level i rows ran.all s wired levels fit on;
    }

-- members of a list and one more
pub each_push : {X : Type 0} (P : X → Type 0) (xs : List X) (x : X) → Each P xs → P x → Each P (xs ++ x ∷ [])
each_push P [] x h p = (p, tt)
each_push P (y ∷ ys) x h p = (h.0, each_push P ys x h.1 p)

pub last_pushed : (turns : List Turn) (turn : Turn) → last_reading (turns ++ turn ∷ []) ≡ Some turn.last
last_pushed [] turn = refl
last_pushed (x ∷ []) turn = refl
last_pushed (x ∷ y ∷ turns) turn = last_pushed (y ∷ turns) turn

-- settling keeps the last reading
last_of_pair : (x y : Turn) (b : Bool) → last_reading (if b then joined x y ∷ [] else x ∷ y ∷ []) ≡ Some y.last
last_of_pair x y true = refl
last_of_pair x y false = refl

last_after : (x : Turn) (xs ys : List Turn) (r : ℕ) → last_reading xs ≡ Some r → last_reading (x ∷ xs) ≡ Some r
last_after x [] ys r h = absurd (none_some r h)
last_after x (y ∷ xs) ys r h = h

last_is : (x : Turn) (xs : List Turn) → (r : ℕ) × (last_reading (x ∷ xs) ≡ Some r)
last_is x [] = (x.last, refl)
last_is x (y ∷ xs) = last_is y xs

pub last_settled : (turns : List Turn) → last_reading (settled turns) ≡ last_reading turns
last_settled [] = refl
last_settled (x ∷ []) = refl
last_settled (x ∷ y ∷ []) = last_of_pair x y (is_quiet x && is_quiet y && nat_lt (x.count + y.count) (2 ^ 64))
last_settled (x ∷ y ∷ z ∷ rest) =
    let r = last_is z rest in
    last_after x (settled (y ∷ z ∷ rest)) [] r.0 (last_settled (y ∷ z ∷ rest) ∙ r.1) ∙ sym r.1

-- all messages that were taken, with those of one turn more
pub messages_more : (turns : List Turn) (turn : Turn) → messages_of (kept_with turns turn) ≡ messages_of turns ++ turn.taken
messages_more turns turn =
    flat_map-append (λ (t : Turn). t.taken) (settled turns) (turn ∷ [])
    ∙ ap (λ ms. ms ++ (turn.taken ++ [])) (taken_settled turns)
    ∙ ap (λ ms. messages_of turns ++ ms) (append-nil turn.taken)
