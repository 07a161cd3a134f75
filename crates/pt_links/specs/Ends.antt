-- What contracts see of a link's ends.
use Rattle.std.specs.Prelude.{List, Option, []}
use Rattle.pt_links.specs.declared.rule.Bounds.{Bounds}
use Rattle.pt_tags.specs.declared.message.Message.{Message}
use Rattle.atomic_table.specs.Seated.{TableId}

-- which link it is
abbrev pub LinkId : Type 0
LinkId = TableId

pub record SentBy : Type 0 where
  pub link : LinkId
  pub limits : Option Bounds
  pub sent : List Message

pub record TakenBy : Type 0 where
  pub link : LinkId
  pub limits : Option Bounds
  pub taken : List Message

pub record Parted : Type 0 where
  pub sent : List Message
  pub taken : List Message
  pub left : List Message

-- an identity for where there is no link
abbrev pub no_link : LinkId
no_link = record { words = 0; slots = 0; views_name = 0; atom = 0; block = 0; offset = 0; slot_names = [] }
