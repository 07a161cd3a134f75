-- The fields of the lines of a turn after its first.
use Rattle.std.proofs.Common.{◌≡◌, ℕ, ◌<◌, ◌^◌, ℤ, List, [], ◌∷◌, ◌++◌, Option, Some, codes, slice_get, refl, ap, ◌∙◌, append_assoc, arith}
use Rattle.std.specs.Fmt.{decimal, signed_decimal}
use Rattle.pt_tags.specs.declared.message.Message.{Message}
use Rattle.pt_tags.specs.declared.message.Message.TheVariants.{End, Event}
use Rattle.pt_tags.specs.declared.tag.Tag.{Tag}
use Rattle.pt_types.specs.declared.firing.OnLink.{OnLink}
use Rattle.pt_types.specs.declared.graph.Graph.{Graph}
use Rattle.pt_types.specs.Lookups.{actor_name}
use Rattle.pt_tables.specs.Log.{message_line}
use Rattle.pt_tables.specs.Names.{receiver_name, sender_name}
use Rattle.pt_audit.specs.Parsing.Fields.{after, before}
use Rattle.pt_audit.specs.Parsing.Hints.{IsLoggableOn}
use Rattle.pt_audit.specs.declared.parse.entries.Entry.TheVariants.{Claim, Post, Row, Sent, Take}
use Rattle.pt_audit.specs.Parsing.Items.{IsLoggableItem, Item, entry_of, item_line, message_fields, message_text, word_is}
use Rattle.pt_audit.specs.declared.parse.entries.Word.{Word}
use Rattle.pt_audit.specs.declared.parse.entries.Word.TheVariants as word
use Rattle.pt_audit.specs.Parsing.Items.Item.{claim, got, post, row, sent}
use Rattle.pt_audit.proofs.Parsing.Cuts.{Lacks, after_at, before_at}
use Rattle.pt_audit.proofs.Parsing.Heads.{push_cancel}
use Rattle.pt_audit.proofs.Parsing.Printed.{IsNoDigit, comma, lacks_decimal}

-- the three fields of an event
pub event_parts : (fields time rest step value : List ℕ) (tag : Tag) (z : ℤ) → fields ≡ message_text (Event tag z) → time ≡ before 44 fields → rest ≡ after 44 fields → step ≡ before 44 rest → value ≡ after 44 rest → (time ≡ decimal tag.time) × (step ≡ decimal tag.step) × (value ≡ signed_decimal z)
event_parts fields time rest step value tag z e a b c d =
    let shape : fields ≡ decimal tag.time ++ 44 ∷ (decimal tag.step ++ 44 ∷ signed_decimal z) = e ∙ append_assoc (decimal tag.time) (44 ∷ decimal tag.step) (44 ∷ signed_decimal z) in
    let later : rest ≡ decimal tag.step ++ 44 ∷ signed_decimal z = b ∙ ap (after 44) shape ∙ after_at 44 (decimal tag.time) (decimal tag.step ++ 44 ∷ signed_decimal z) (lacks_decimal 44 tag.time comma) in (
      a ∙ ap (before 44) shape ∙ before_at 44 (decimal tag.time) (decimal tag.step ++ 44 ∷ signed_decimal z) (lacks_decimal 44 tag.time comma),
      c ∙ ap (before 44) later ∙ before_at 44 (decimal tag.step) (signed_decimal z) (lacks_decimal 44 tag.step comma),
      d ∙ ap (after 44) later ∙ after_at 44 (decimal tag.step) (signed_decimal z) (lacks_decimal 44 tag.step comma),
    )

letter_e : IsNoDigit 101
letter_e = record { apart = λ d less e. omega arith }

starts_with_e : (xs : List ℕ) → Lacks 101 xs → codes "end" ≡ xs → ⊥
starts_with_e [] lacks e = absurd cc
starts_with_e (x ∷ xs) lacks e = lacks.0 cc

-- the text of an event is not `end`
pub no_end : (tag : Tag) (z : ℤ) → codes "end" ≡ message_text (Event tag z) → ⊥
no_end tag z e =
    let shape : codes "end" ≡ decimal tag.time ++ 44 ∷ (decimal tag.step ++ 44 ∷ signed_decimal z) = e ∙ append_assoc (decimal tag.time) (44 ∷ decimal tag.step) (44 ∷ signed_decimal z) in
    starts_with_e (decimal tag.time) (lacks_decimal 101 tag.time letter_e) (ap (before 44) shape ∙ before_at 44 (decimal tag.time) (decimal tag.step ++ 44 ∷ signed_decimal z) (lacks_decimal 44 tag.time comma))

-- the name at an end of a link, and the message
pub named_parts : (fields name rest at_end : List ℕ) (message : Message) → Lacks 44 at_end → fields ≡ message_fields at_end message → name ≡ before 44 fields → rest ≡ after 44 fields → (name ≡ at_end) × (rest ≡ message_text message)
named_parts fields name rest at_end message lacks e a b =
    (a ∙ ap (before 44) e ∙ before_at 44 at_end (message_text message) lacks, b ∙ ap (after 44) e ∙ after_at 44 at_end (message_text message) lacks)

-- the word of a line, and its other fields
abbrev pub word_of : Item → List ℕ
word_of (post done) = codes "post"
word_of (row at) = codes "row"
word_of (got x) = codes "take"
word_of (claim task) = codes "claim"
word_of (sent x) = codes "sent"

abbrev pub fields_of : Graph → Item → List ℕ
fields_of g (post done) = decimal done.task.number
fields_of g (row at) = actor_name g at.sensor ++ 44 ∷ decimal at.row.time ++ 44 ∷ decimal at.row.seen ++ 44 ∷ signed_decimal at.row.value
fields_of g (got x) = message_fields (receiver_name g (slice_get g.links x.link)) x.message
fields_of g (claim task) = decimal task.number ++ 44 ∷ actor_name g task.actor ++ 44 ∷ decimal task.tag.time ++ 44 ∷ decimal task.tag.step
fields_of g (sent x) = message_fields (sender_name g (slice_get g.links x.link)) x.message

four_pieces : (a b c d : List ℕ) → ((a ++ b) ++ c) ++ d ≡ (a ++ (b ++ c)) ++ d
four_pieces a b c d = simp append_assoc

six_pieces : (a b c d e f : List ℕ) → ((((a ++ b) ++ c) ++ d) ++ e) ++ f ≡ (a ++ (b ++ ((c ++ d) ++ e))) ++ f
six_pieces a b c d e f = simp append_assoc

message_line_is : (word name : List ℕ) (message : Message) → message_line word name message ≡ word ++ 44 ∷ message_fields name message ++ 10 ∷ []
message_line_is word name (Event tag value) = six_pieces word (44 ∷ name) (44 ∷ decimal tag.time) (44 ∷ decimal tag.step) (44 ∷ signed_decimal value) (10 ∷ [])
message_line_is word name End = four_pieces word (44 ∷ name) (codes ",end") (10 ∷ [])

pub item_line_is : (g : Graph) (item : Item) → item_line g item ≡ word_of item ++ 44 ∷ fields_of g item ++ 10 ∷ []
item_line_is g (post done) = refl
item_line_is g (row at) = refl
item_line_is g (got x) = message_line_is (codes "take") (receiver_name g (slice_get g.links x.link)) x.message
item_line_is g (claim task) = refl
item_line_is g (sent x) = message_line_is (codes "sent") (sender_name g (slice_get g.links x.link)) x.message

pub word_lacks : (item : Item) → Lacks 44 (word_of item)
word_lacks (post done) = (omega arith, (omega arith, (omega arith, (omega arith, tt))))
word_lacks (row at) = (omega arith, (omega arith, (omega arith, tt)))
word_lacks (got x) = (omega arith, (omega arith, (omega arith, (omega arith, tt))))
word_lacks (claim task) = (omega arith, (omega arith, (omega arith, (omega arith, (omega arith, tt)))))
word_lacks (sent x) = (omega arith, (omega arith, (omega arith, (omega arith, tt))))

pub item_parts : (g : Graph) (line word rest : List ℕ) (item : Item) → line ++ 10 ∷ [] ≡ item_line g item → word ≡ before 44 line → rest ≡ after 44 line → (word ≡ word_of item) × (rest ≡ fields_of g item)
item_parts g line word rest item e a b =
    let shape : line ≡ word_of item ++ 44 ∷ fields_of g item = push_cancel line (word_of item ++ 44 ∷ fields_of g item) 10 (e ∙ item_line_is g item) in
    (a ∙ ap (before 44) shape ∙ before_at 44 (word_of item) (fields_of g item) (word_lacks item), b ∙ ap (after 44) shape ∙ after_at 44 (word_of item) (fields_of g item) (word_lacks item))

-- which word it is
abbrev pub kind_of : Item → Word
kind_of (post done) = word.Post
kind_of (row at) = word.Row
kind_of (got x) = word.Take
kind_of (claim task) = word.Claim
kind_of (sent x) = word.Sent

pub known_word : (item : Item) → word_is (word_of item) ≡ Some (kind_of item)
known_word (post done) = refl
known_word (row at) = refl
known_word (got x) = refl
known_word (claim task) = refl
known_word (sent x) = refl

pub word_parts : (g : Graph) (line text rest : List ℕ) (item : Item) (w : Option Word) → line ++ 10 ∷ [] ≡ item_line g item → text ≡ before 44 line → rest ≡ after 44 line → w ≡ word_is text → (w ≡ Some (kind_of item)) × (rest ≡ fields_of g item)
word_parts g line text rest item w e a b is =
    let parts = item_parts g line text rest item e a b in
    (is ∙ ap word_is parts.0 ∙ known_word item, parts.1)

-- an item with this word
pub post_only : (g : Graph) (rest : List ℕ) (item : Item) → word.Post ≡ kind_of item → IsLoggableItem g item → rest ≡ fields_of g item → (n : ℕ) × (n < 2 ^ 64) × (rest ≡ decimal n) × (entry_of item ≡ Post n)
post_only g rest (post done) kind logged e = (done.task.number, logged, e, refl)
post_only g rest _ kind logged e = absurd cc

pub row_only : (item : Item) → word.Row ≡ kind_of item → entry_of item ≡ Row
row_only (row at) kind = refl
row_only _ kind = absurd cc

pub take_only : (g : Graph) (rest : List ℕ) (item : Item) → word.Take ≡ kind_of item → IsLoggableItem g item → rest ≡ fields_of g item → (x : OnLink) × IsLoggableOn g x × (rest ≡ message_fields (receiver_name g (slice_get g.links x.link)) x.message) × (entry_of item ≡ Take x)
take_only g rest (got x) kind logged e = (x, logged, e, refl)
take_only g rest _ kind logged e = absurd cc

pub claim_only : (item : Item) → word.Claim ≡ kind_of item → entry_of item ≡ Claim
claim_only (claim task) kind = refl
claim_only _ kind = absurd cc

pub sent_only : (g : Graph) (rest : List ℕ) (item : Item) → word.Sent ≡ kind_of item → IsLoggableItem g item → rest ≡ fields_of g item → (x : OnLink) × IsLoggableOn g x × (rest ≡ message_fields (sender_name g (slice_get g.links x.link)) x.message) × (entry_of item ≡ Sent x)
sent_only g rest (sent x) kind logged e = (x, logged, e, refl)
sent_only g rest _ kind logged e = absurd cc
