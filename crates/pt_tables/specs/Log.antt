-- The text of the log.
use Rattle.std.specs.Prelude.{ℕ, ◌+◌, ◌++◌, ◌∷◌, [], List, codes, flat_map, slice_get}
use Rattle.std.specs.Fmt.{decimal, signed_decimal}
use Rattle.pt_tags.specs.declared.message.Message.{Message}
use Rattle.pt_tags.specs.declared.message.Message.TheVariants.{End, Event}
use Rattle.pt_tags.specs.declared.tag.Tag.{Tag}
use Rattle.pt_types.specs.declared.firing.Done.{Done}
use Rattle.pt_types.specs.declared.firing.OnLink.{OnLink}
use Rattle.pt_types.specs.declared.firing.Task.{Task}
use Rattle.pt_types.specs.declared.graph.Graph.{Graph}
use Rattle.pt_types.specs.declared.rows.RowAt.{RowAt}
use Rattle.pt_semantics.specs.Turn.{Turn}
use Rattle.pt_tables.specs.Names.{receiver_name, sender_name}
use Rattle.pt_types.specs.Lookups.{actor_name, platform_name}

-- turn,PLATFORM,FIRST,LAST,COUNT
abbrev pub turn_line : List ℕ → ℕ → ℕ → ℕ → List ℕ
turn_line platform first last count = codes "turn," ++ platform ++ 44 ∷ decimal first ++ 44 ∷ decimal last ++ 44 ∷ decimal count ++ 10 ∷ []

-- post,NUMBER
abbrev pub post_line : Done → List ℕ
post_line done = codes "post," ++ decimal done.task.number ++ 10 ∷ []

-- row,SENSOR,TIME,SEEN,VALUE
abbrev pub row_line : Graph → RowAt → List ℕ
row_line g at = codes "row," ++ actor_name g at.sensor ++ 44 ∷ decimal at.row.time ++ 44 ∷ decimal at.row.seen ++ 44 ∷ signed_decimal at.row.value ++ 10 ∷ []

-- WORD,NAME,TIME,STEP,VALUE or WORD,NAME,end
abbrev pub message_line : List ℕ → List ℕ → Message → List ℕ
message_line word name (Event tag value) = word ++ 44 ∷ name ++ 44 ∷ decimal tag.time ++ 44 ∷ decimal tag.step ++ 44 ∷ signed_decimal value ++ 10 ∷ []
message_line word name End = word ++ 44 ∷ name ++ codes ",end" ++ 10 ∷ []

-- take,RECEIVER,..
abbrev pub take_line : Graph → OnLink → List ℕ
take_line g taken = message_line (codes "take") (receiver_name g (slice_get g.links taken.link)) taken.message

-- the end of the line of a claim with this tag: ,TIME,STEP
abbrev pub claim_end : Tag → List ℕ
claim_end tag = 44 ∷ decimal tag.time ++ 44 ∷ decimal tag.step ++ 10 ∷ []

-- claim,NUMBER,ACTOR,TIME,STEP
abbrev pub claim_line : Graph → Task → List ℕ
claim_line g task = codes "claim," ++ decimal task.number ++ 44 ∷ actor_name g task.actor ++ 44 ∷ decimal task.tag.time ++ 44 ∷ decimal task.tag.step ++ 10 ∷ []

-- sent,SENDER,..
abbrev pub sent_line : Graph → OnLink → List ℕ
sent_line g sent = message_line (codes "sent") (sender_name g (slice_get g.links sent.link)) sent.message

-- the lines of a turn's lists: one for each result, row, message taken, claim and message sent
abbrev pub list_lines : Graph → Turn → List ℕ
list_lines g turn =
    flat_map post_line turn.posted
    ++ flat_map (row_line g) turn.rows
    ++ flat_map (take_line g) turn.taken
    ++ flat_map (claim_line g) turn.claimed
    ++ flat_map (sent_line g) turn.sent

-- the lines of a turn: its own, and then those of its lists
abbrev pub turn_lines : Graph → ℕ → Turn → List ℕ
turn_lines g platform turn = turn_line (platform_name g platform) turn.first turn.last turn.count ++ list_lines g turn

-- the lines of all recorded turns of a platform
abbrev pub history_lines : Graph → ℕ → List Turn → List ℕ
history_lines g platform turns = flat_map (turn_lines g platform) turns

-- the lines of several platforms, numbered from `platform` on
abbrev pub lines_from : Graph → ℕ → List (List Turn) → List ℕ
lines_from g platform [] = []
lines_from g platform (turns ∷ histories) = history_lines g platform turns ++ lines_from g (platform + 1) histories

-- the first line: log
abbrev pub log_head : List ℕ
log_head = codes "log" ++ 10 ∷ []

-- the log of all platforms, in order
abbrev pub log_text : Graph → List (List Turn) → List ℕ
log_text g histories = log_head ++ lines_from g 0 histories
