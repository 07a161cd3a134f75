-- A turn over the fields of a platform.
use Rattle.std.specs.Prelude.{◌≡◌, ℕ, ◌+◌, ◌*◌, ◌<◌, ◌≤◌, ◌⊎◌, ◌++◌, [], Bool, false, true, List, length, vec_len, vec_capacity}
use Rattle.pt_types.specs.declared.graph.Graph.{Graph}
use Rattle.pt_types.specs.declared.firing.Done.{Done}
use Rattle.pt_types.specs.declared.firing.OnLink.{OnLink}
use Rattle.pt_types.specs.declared.rows.Row.{Row}
use Rattle.pt_semantics.specs.Entering.{all_due, due}
use Rattle.pt_semantics.specs.Floor.{NeverTwice}
use Rattle.pt_semantics.specs.Safe.{NothingSafe}
use Rattle.pt_semantics.specs.Turn.{Turn, IsTurn, IsLast}
use Rattle.pt_turn.specs.declared.state.fields.Fields.{Fields}
use Rattle.pt_turn.specs.Fields.State.{busy_in, left_in, state_of}
use Rattle.pt_turn.specs.Posts.Posted.{ArePlaces, ArePosted, ClaimsFit, picked}
use Rattle.pt_turn.specs.Posts.Room.{leaving_open}
use Rattle.pt_turn.specs.Takes.Taken.{Basis}
use Rattle.pt_turn.specs.declared.claim_step.TurnEnd.{TurnEnd}
use Rattle.pt_turn.specs.declared.claim_step.TurnEnd.TheVariants.{On, Late, Long}
use Rattle.pt_turn.specs.declared.steps.Lists.{Lists}
use Rattle.pt_turn.specs.Claiming.{IsIdle}

-- what a history without a late turn guarantees to the next turn: no port gets two events of one tag, and tags fit 64 bits
pub record IsGround (g : Graph) (w : Basis) (f : Fields) : Type 0 where
  pub never : NeverTwice g w.level w.platform (state_of f w.taken)
  pub fit : ClaimsFit g f.open_claims.items

-- the lists of a turn are empty
pub record AreEmpty (lists : Lists) : Type 0 where
  pub posted : lists.posted.items ≡ []
  pub rows : lists.rows.items ≡ []
  pub taken : lists.taken.items ≡ []
  pub claimed : lists.claimed.items ≡ []

-- the number of rows seen by a reading
abbrev pub count_due : Graph → ℕ → Fields → ℕ
count_due g r f = length (all_due g r (left_in f.sensors.items))

-- no row is seen by a reading below this one
abbrev pub NoneSeenBefore : ℕ → (ℕ → List Row) → Type 0
NoneSeenBefore next left = (r a : ℕ) → r < next → due r (left a) ≡ []

-- there is memory for a turn at reading r, with that many results, messages and claims
pub record HasRoom (g : Graph) (f : Fields) (lists : Lists) (r dones messages most : ℕ) : Type 0 where
  pub events : leaving_open g (busy_in f.open_claims.items) g.wires + count_due g r f + messages ≤ f.queue.spare
  pub outbox : dones * length g.links + length g.links ≤ f.outbox.spare
  pub open_claims : most ≤ f.open_claims.spare
  pub posted : vec_len lists.posted + dones ≤ vec_capacity lists.posted
  pub rows : vec_len lists.rows + count_due g r f ≤ vec_capacity lists.rows
  pub taken : vec_len lists.taken + messages ≤ vec_capacity lists.taken
  pub claimed : vec_len lists.claimed + most ≤ vec_capacity lists.claimed

-- the lists have no more than was given, was due, and could be claimed; what was posted is among the results
pub record FitIn (dones : List Done) (messages : List OnLink) (most : ℕ) (g : Graph) (r : ℕ) (old : Fields) (lists : Lists) : Type 0 where
  pub posted : length lists.posted.items ≤ length dones
  pub places : ArePlaces dones lists.posted.items
  pub rows : length lists.rows.items ≡ count_due g r old
  pub taken : length lists.taken.items ≤ length messages
  pub claimed : length lists.claimed.items ≤ most

-- if a turn ends as Long, the fields after it show why: all claims were made, and a unit is safe
abbrev pub ShowsEnd : Graph → ℕ → Fields → TurnEnd → Type 0
ShowsEnd g r new On = Unit {0}
ShowsEnd g r new Late = Unit {0}
ShowsEnd g r new Long = (g.claims ≤ new.claims) × (IsIdle g new r → ⊥)

-- the turn at a reading with these lists, given the results that came
abbrev pub turn_of : ℕ → List Done → Lists → Turn
turn_of r dones lists = record { first = r; last = r; count = 1; posted = picked dones lists.posted.items; rows = lists.rows.items; taken = lists.taken.items; claimed = lists.claimed.items; sent = [] }

-- whether the last message taken was late
abbrev pub took_late : TurnEnd → Bool
took_late On = false
took_late Late = true
took_late Long = false

-- the first of these messages were taken: all of them unless one was late
pub record IsFront (messages taken : List OnLink) (late : Bool) : Type 0 where
  pub rest : List OnLink
  pub front : messages ≡ taken ++ rest
  pub all : late ≡ false → rest ≡ []

-- a turn is a last one, unless it ends as On
abbrev pub EndsAsLast : Graph → TurnEnd → (IsLast : Type 0) → Type 0
EndsAsLast g On last = last → ⊥
EndsAsLast g Late last = last
EndsAsLast g Long last = last

-- a turn from the old fields to the new ones: it posts those of the results that are of open claims, takes the messages or
-- the first of them, and claims the greedy list or its first tasks
pub record IsMade (g : Graph) (w : Basis) (r most : ℕ) (dones : List Done) (messages : List OnLink) (old new : Fields) (lists : Lists) (ending : TurnEnd) : Type 0 where
  pub turn : IsTurn g w.level w.platform (state_of old w.taken) (turn_of r dones lists) (took_late ending) (state_of new (w.taken ++ lists.taken.items))
  pub posted : ArePosted g (busy_in old.open_claims.items) dones (picked dones lists.posted.items)
  pub taken : IsFront messages lists.taken.items (took_late ending)
  pub few : length lists.claimed.items ≤ most
  pub all_or : took_late ending ≡ false → NothingSafe g turn.ready.waits turn.ready.busy r ⊎ ((most ≤ length lists.claimed.items) ⊎ (g.claims ≤ turn.ready.claims))
  pub last : EndsAsLast g ending (IsLast g (state_of old w.taken) r (took_late ending) turn.ready)
