-- The lines of a turn after its first, one by one, and what they add to the hints.
use Rattle.std.specs.Prelude.{ℕ, ◌+◌, ◌<◌, ◌^◌, List, [], ◌∷◌, ◌++◌, codes, Option, Some, None, bytes_eq, if◌then◌else◌}
use Rattle.std.specs.Fmt.{decimal, signed_decimal}
use Rattle.pt_tags.specs.declared.message.Message.{Message}
use Rattle.pt_tags.specs.declared.message.Message.TheVariants.{End, Event}
use Rattle.pt_types.specs.declared.firing.Done.{Done}
use Rattle.pt_types.specs.declared.firing.OnLink.{OnLink}
use Rattle.pt_types.specs.declared.firing.Task.{Task}
use Rattle.pt_types.specs.declared.graph.Graph.{Graph}
use Rattle.pt_types.specs.declared.rows.RowAt.{RowAt}
use Rattle.pt_tables.specs.Log.{claim_line, post_line, row_line, sent_line, take_line}
use Rattle.pt_audit.specs.Parsing.Hints.{IsLoggableOn}
use Rattle.pt_audit.specs.declared.parse.entries.Entry.{Entry}
use Rattle.pt_audit.specs.declared.parse.entries.Entry.TheVariants.{Claim, Post, Row, Sent, Take}
use Rattle.pt_audit.specs.declared.parse.entries.Word.{Word}
use Rattle.pt_audit.specs.declared.parse.entries.Word.TheVariants as word
use Rattle.pt_audit.specs.declared.parse.hints.Hints.{Hints}

-- what a line of a turn after its first is for
pub data Item : Type 0 where
  post : Done → Item
  row : RowAt → Item
  got : OnLink → Item
  claim : Task → Item
  sent : OnLink → Item

-- the line, as the log has it
abbrev pub item_line : Graph → Item → List ℕ
item_line g (post done) = post_line done
item_line g (row at) = row_line g at
item_line g (got x) = take_line g x
item_line g (claim task) = claim_line g task
item_line g (sent x) = sent_line g x

-- its numbers are ones that 64 bits hold, and its link is one of the graph
abbrev pub IsLoggableItem : Graph → Item → Type 0
IsLoggableItem g (post done) = done.task.number < 2 ^ 64
IsLoggableItem g (row at) = Unit {0}
IsLoggableItem g (got x) = IsLoggableOn g x
IsLoggableItem g (claim task) = Unit {0}
IsLoggableItem g (sent x) = IsLoggableOn g x

-- a message as its line has it after the name: TIME,STEP,VALUE or end
abbrev pub message_text : Message → List ℕ
message_text (Event tag value) = decimal tag.time ++ 44 ∷ decimal tag.step ++ 44 ∷ signed_decimal value
message_text End = codes "end"

-- a name, and then the message
abbrev pub message_fields : List ℕ → Message → List ℕ
message_fields name message = name ++ 44 ∷ message_text message

-- what the hints have of the lines so far
pub record Tally : Type 0 where
  pub posts : List ℕ
  pub taken : List OnLink
  pub claims : ℕ
  pub sent : List OnLink

-- the hints before any line
abbrev pub nothing_yet : Tally
nothing_yet = record { posts = []; taken = []; claims = 0; sent = [] }

-- what these hints have
abbrev pub tally : Hints → Tally
tally hints = record { posts = hints.posts.items; taken = hints.taken.items; claims = hints.claims; sent = hints.sent.items }

-- what a line says to one who reads it
abbrev pub entry_of : Item → Entry
entry_of (post done) = Post done.task.number
entry_of (row at) = Row
entry_of (got x) = Take x
entry_of (claim task) = Claim
entry_of (sent x) = Sent x

-- the word of a line
abbrev pub word_is : List ℕ → Option Word
word_is text =
    if bytes_eq text (codes "post") then Some word.Post else (if bytes_eq text (codes "row") then Some word.Row else (if bytes_eq text (codes "take") then Some word.Take else (if bytes_eq text (codes "claim") then Some word.Claim else (if bytes_eq text (codes "sent") then Some word.Sent else None))))

-- what the hints have after one more line
abbrev pub with_line : Tally → Entry → Tally
with_line so_far (Post number) = record so_far { posts = so_far.posts ++ number ∷ [] }
with_line so_far Row = so_far
with_line so_far (Take x) = record so_far { taken = so_far.taken ++ x ∷ [] }
with_line so_far Claim = record so_far { claims = so_far.claims + 1 }
with_line so_far (Sent x) = record so_far { sent = so_far.sent ++ x ∷ [] }

-- what they have after several lines
abbrev pub with_entries : Tally → List Entry → Tally
with_entries so_far [] = so_far
with_entries so_far (entry ∷ entries) = with_entries (with_line so_far entry) entries
