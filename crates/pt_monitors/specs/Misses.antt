-- The misses of recorded turns, in order.
use Rattle.std.specs.Prelude.{◌≡◌, ◌+◌, ◌++◌, ◌↔◌, ℕ, List, None, Option, Some, filter_map, flat_map, nat_lt, option_map, slice_get, take}
use Rattle.pt_tags.specs.declared.message.Message.{Message}
use Rattle.pt_tags.specs.declared.message.Message.TheVariants.{Event}
use Rattle.pt_tags.specs.declared.tag.Tag.{Tag}
use Rattle.pt_types.specs.declared.firing.Done.{Done}
use Rattle.pt_types.specs.declared.firing.OnLink.{OnLink}
use Rattle.pt_types.specs.declared.firing.Task.{Task}
use Rattle.pt_types.specs.declared.graph.Graph.{Graph}
use Rattle.pt_types.specs.declared.graph.Link.{Link}
use Rattle.pt_types.specs.declared.kind.Kind.{Kind}
use Rattle.pt_types.specs.declared.kind.Kind.TheVariants.{Actuator}
use Rattle.pt_types.specs.Ports.{when}
use Rattle.pt_types.specs.Lookups.{slack_of}
use Rattle.pt_types.specs.Lookups.{kind_of}
use Rattle.pt_semantics.specs.Lists.{IsIn}
use Rattle.pt_semantics.specs.Missed.{IsMissed}
use Rattle.pt_semantics.specs.Turn.{Turn}
use Rattle.pt_history.specs.declared.miss.Miss.{Miss}
use Rattle.pt_history.specs.declared.claims.Mark.{Mark}
use Rattle.pt_history.specs.Tasks.{mark_of}

-- the miss of an actor at a tag, if the reading is past the tag's time plus the slack
abbrev pub miss_past : ℕ → ℕ → Tag → ℕ → Option Miss
miss_past reading actor tag slack =
    when (nat_lt (tag.time + slack) reading) (Some (record { actor = actor; tag = tag; reading = reading; limit = tag.time + slack }))

-- the miss of a task's result, if its actor is an actuator
abbrev pub miss_by : Kind → ℕ → Task → Option Miss
miss_by (Actuator slack) reading task = miss_past reading task.actor task.tag slack
miss_by _ reading task = None

-- the miss of a result posted at a reading
abbrev pub miss_of_result : Graph → ℕ → Done → Option Miss
miss_of_result g reading done = miss_by (kind_of g done.task.actor) reading done.task

-- the miss of an event on a link, which is its sender's
abbrev pub miss_on : Graph → ℕ → Option Link → Message → Option Miss
miss_on g reading (Some link) (Event tag value) = miss_past reading link.from tag (slack_of (kind_of g link.from))
miss_on g reading _ _ = None

-- the miss of a message sent at a reading
abbrev pub miss_of_message : Graph → ℕ → OnLink → Option Miss
miss_of_message g reading sent = miss_on g reading (slice_get g.links sent.link) sent.message

-- the misses of a turn: first of the results that it posted, and then of the messages sent after it
abbrev pub missed_at : Graph → Turn → List Miss
missed_at g turn = filter_map (miss_of_result g turn.last) turn.posted ++ filter_map (miss_of_message g turn.last) turn.sent

-- this is the last reading of a turn
abbrev pub IsLastReading : Option Turn → ℕ → Type 0
IsLastReading turn reading = option_map (λ (t : Turn). t.last) turn ≡ Some reading

-- the misses of this turn, which is there, were appended
abbrev pub AppendsMissed : Graph → Option Turn → List Miss → List Miss → Type 0
AppendsMissed g turn old new = option_map (λ (t : Turn). old ++ missed_at g t) turn ≡ Some new

-- this is the miss of a result of the turn whose task has this mark
abbrev pub IsMissOfMark : Graph → Option Turn → Mark → Option Miss → Type 0
IsMissOfMark g turn mark miss = (done : Done) (reading : ℕ) → mark_of done.task ≡ mark → IsLastReading turn reading → miss ≡ miss_of_result g reading done

-- the misses of the first of these results, at the last reading of their turn, were appended
abbrev pub AppendsMisses : Graph → Option Turn → List Done → List Miss → List Miss → Type 0
AppendsMisses g turn dones old new = (reading : ℕ) → IsLastReading turn reading → new ≡ old ++ filter_map (miss_of_result g reading) dones

-- the misses of the messages sent after this turn, if there is one, were appended
abbrev pub AppendsSent : Graph → Option Turn → List Miss → List Miss → Type 0
AppendsSent g o old new = (turn : Turn) → o ≡ Some turn → new ≡ old ++ filter_map (miss_of_message g turn.last) turn.sent

-- the misses of all turns, in order
abbrev pub missed_of : Graph → List Turn → List Miss
missed_of g turns = flat_map (missed_at g) turns

-- the misses of the turns from turn `from` up to turn `end` were appended to those of the turns before
abbrev pub AppendsUpTo : Graph → List Turn → ℕ → ℕ → List Miss → List Miss → Type 0
AppendsUpTo g turns from end old new =
    (start : List Miss) → old ≡ start ++ flat_map (missed_at g) (take from turns) → new ≡ start ++ flat_map (missed_at g) (take end turns)

-- the list has exactly the misses of these turns, each with its turn's reading
abbrev pub ListsMissed : Graph → List Turn → List Miss → Type 0
ListsMissed g turns misses = (m : Miss) → IsIn m misses ↔ ((turn : Turn) × IsIn turn turns × (m.reading ≡ turn.last) × IsMissed g turn m.actor m.tag m.limit)
