-- Turns whose numbers 64 bits hold.
use Rattle.std.specs.Prelude.{◌<◌, ◌^◌, FitsSigned}
use Rattle.std.specs.Int.{w64}
use Rattle.pt_tags.specs.Tags.{Fits}
use Rattle.pt_tags.specs.declared.message.Message.{Message}
use Rattle.pt_tags.specs.declared.message.Message.TheVariants.{End, Event}
use Rattle.pt_types.specs.declared.firing.Done.{Done}
use Rattle.pt_types.specs.declared.firing.OnLink.{OnLink}
use Rattle.pt_semantics.specs.Lists.{Each}
use Rattle.pt_semantics.specs.Turn.{Turn}

-- the value of a message is one that 64 bits hold, with a sign
abbrev pub IsHeld : Message → Type 0
IsHeld (Event tag value) = FitsSigned w64 value
IsHeld End = Unit {0}

-- the tag of a message fits in 64 bits
abbrev pub FitsTag : Message → Type 0
FitsTag (Event tag value) = Fits tag
FitsTag End = Unit {0}

-- 64 bits hold the numbers of a message on a link
pub record IsHeldMessage (x : OnLink) : Type 0 where
  pub tag : FitsTag x.message
  pub value : IsHeld x.message

-- 64 bits hold the number of a posted result
abbrev pub IsHeldResult : Done → Type 0
IsHeldResult done = done.task.number < 2 ^ 64

-- 64 bits hold the numbers of the results that a turn posted, and of the messages that it took and sent
pub record HasHeldLists (t : Turn) : Type 0 where
  pub posted : Each IsHeldResult t.posted
  pub taken : Each IsHeldMessage t.taken
  pub sent : Each IsHeldMessage t.sent

-- and its readings and its count
pub record HasHeldHead (t : Turn) : Type 0 where
  pub first : t.first < 2 ^ 64
  pub last : t.last < 2 ^ 64
  pub count : t.count < 2 ^ 64

-- 64 bits hold the numbers of a turn: also its readings and its count
pub record IsHeldTurn (t : Turn) : Type 0 where
  pub first : t.first < 2 ^ 64
  pub last : t.last < 2 ^ 64
  pub count : t.count < 2 ^ 64
  pub lists : HasHeldLists t
