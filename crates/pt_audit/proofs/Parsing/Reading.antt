-- How far the lines of a turn are read.
use Rattle.std.proofs.Common.{◌≡◌, ℕ, ◌+◌, ◌<◌, ◌≤◌, ◌^◌, ◌==◌, true, false, ⊎_elim, slice_get, List, [], ◌∷◌, ◌++◌, Some, flat_map, length, map, sym, ap, ◌∙◌, append_assoc, arith, length-append}
use Rattle.std.specs.Fmt.{decimal, signed_decimal}
use Rattle.std.proofs.lemmas.Bool.{cases_Bool, eqb-false, eqb-true}
use Rattle.std.proofs.lemmas.List.{nil_from_length}
use Rattle.std.proofs.lemmas.Option.{same_Some}
use Rattle.pt_tags.specs.declared.message.Message.{Message}
use Rattle.pt_tags.specs.declared.message.Message.TheVariants.{End, Event}
use Rattle.pt_types.specs.Lookups.{actor_name}
use Rattle.pt_tables.specs.Names.{receiver_name, sender_name}
use Rattle.pt_types.specs.declared.graph.Graph.{Graph}
use Rattle.pt_types.specs.Lawful.{IsLawful}
use Rattle.pt_semantics.specs.Lists.{Each}
use Rattle.pt_audit.specs.Parsing.Fields.{after, before}
use Rattle.pt_audit.specs.Parsing.Items.{IsLoggableItem, Item, Tally, entry_of, item_line, message_text, tally, with_entries, with_line}
use Rattle.pt_audit.specs.Parsing.Items.Item.{claim, got, post, row, sent}
use Rattle.pt_audit.specs.declared.parse.entries.Entry.{Entry}
use Rattle.pt_audit.specs.declared.parse.hints.Hints.{Hints}
use Rattle.pt_audit.proofs.Parsing.Cuts.{Lacks, after_at, before_at, lacks_append}
use Rattle.pt_audit.proofs.Parsing.ItemLines.{fields_of, item_line_is, word_of}
use Rattle.pt_audit.proofs.Parsing.Printed.{lacks_actor, lacks_decimal, lacks_receiver, lacks_sender, lacks_signed, line_feed, no_line_feed_in_names}

-- the items that are left, and what the hints will have with them
pub record AreLeft (g : Graph) (items : List Item) (begun : Hints) (rest : List ℕ) (hints : Hints) : Type 0 where
  pub left : List Item
  pub logged : Each (IsLoggableItem g) left
  pub text : rest ≡ flat_map (item_line g) left
  pub total : with_entries (tally hints) (map entry_of left) ≡ with_entries (tally begun) (map entry_of items)

pub record IsReading (g : Graph) (text : List ℕ) (begun : Hints) (rest : List ℕ) (hints : Hints) : Type 0 where
  pub room : hints.claims + length rest < 2 ^ 64
  pub reads : (items : List Item) → Each (IsLoggableItem g) items → text ≡ flat_map (item_line g) items → AreLeft g items begun rest hints

pub fields_lack : (xs ys : List ℕ) → Lacks 10 xs → Lacks 10 ys → Lacks 10 (xs ++ 44 ∷ ys)
fields_lack xs ys p q = lacks_append 10 xs (44 ∷ ys) p (omega arith, q)

text_lacks : (message : Message) → Lacks 10 (message_text message)
text_lacks (Event tag value) = fields_lack (decimal tag.time ++ 44 ∷ decimal tag.step) (signed_decimal value) (fields_lack (decimal tag.time) (decimal tag.step) (lacks_decimal 10 tag.time line_feed) (lacks_decimal 10 tag.step line_feed)) (lacks_signed 10 value line_feed (omega arith))
text_lacks End = (omega arith, (omega arith, (omega arith, tt)))

-- no field of a line has a line feed
fields_lack_feed : (g : Graph) (item : Item) → IsLawful g → Lacks 10 (fields_of g item)
fields_lack_feed g (post done) lawful = lacks_decimal 10 done.task.number line_feed
fields_lack_feed g (row at) lawful =
    fields_lack (actor_name g at.sensor ++ 44 ∷ decimal at.row.time ++ 44 ∷ decimal at.row.seen) (signed_decimal at.row.value)
    (fields_lack (actor_name g at.sensor ++ 44 ∷ decimal at.row.time) (decimal at.row.seen)
    (fields_lack (actor_name g at.sensor) (decimal at.row.time) (lacks_actor g 10 at.sensor lawful no_line_feed_in_names) (lacks_decimal 10 at.row.time line_feed)) (lacks_decimal 10 at.row.seen line_feed))
    (lacks_signed 10 at.row.value line_feed (omega arith))
fields_lack_feed g (got x) lawful = fields_lack (receiver_name g (slice_get g.links x.link)) (message_text x.message) (lacks_receiver g 10 (slice_get g.links x.link) lawful no_line_feed_in_names) (text_lacks x.message)
fields_lack_feed g (claim task) lawful =
    fields_lack (decimal task.number ++ 44 ∷ actor_name g task.actor ++ 44 ∷ decimal task.tag.time) (decimal task.tag.step)
    (fields_lack (decimal task.number ++ 44 ∷ actor_name g task.actor) (decimal task.tag.time)
    (fields_lack (decimal task.number) (actor_name g task.actor) (lacks_decimal 10 task.number line_feed) (lacks_actor g 10 task.actor lawful no_line_feed_in_names)) (lacks_decimal 10 task.tag.time line_feed))
    (lacks_decimal 10 task.tag.step line_feed)
fields_lack_feed g (sent x) lawful = fields_lack (sender_name g (slice_get g.links x.link)) (message_text x.message) (lacks_sender g 10 (slice_get g.links x.link) lawful no_line_feed_in_names) (text_lacks x.message)

word_lacks_feed : (item : Item) → Lacks 10 (word_of item)
word_lacks_feed (post done) = (omega arith, (omega arith, (omega arith, (omega arith, tt))))
word_lacks_feed (row at) = (omega arith, (omega arith, (omega arith, tt)))
word_lacks_feed (got x) = (omega arith, (omega arith, (omega arith, (omega arith, tt))))
word_lacks_feed (claim task) = (omega arith, (omega arith, (omega arith, (omega arith, (omega arith, tt)))))
word_lacks_feed (sent x) = (omega arith, (omega arith, (omega arith, (omega arith, tt))))

-- a line without its line feed
abbrev pub body_of : Graph → Item → List ℕ
body_of g item = word_of item ++ 44 ∷ fields_of g item

pub body_lacks : (g : Graph) (item : Item) → IsLawful g → Lacks 10 (body_of g item)
body_lacks g item lawful = fields_lack (word_of item) (fields_of g item) (word_lacks_feed item) (fields_lack_feed g item lawful)

-- a text that begins with a line, cut after it
pub line_cut : (g : Graph) (item : Item) (text later : List ℕ) → IsLawful g → text ≡ item_line g item ++ later → (before 10 text ++ 10 ∷ [] ≡ item_line g item) × (after 10 text ≡ later)
line_cut g item text later lawful e =
    let shape : text ≡ body_of g item ++ 10 ∷ later = e ∙ ap (λ (line : List ℕ). line ++ later) (item_line_is g item) ∙ append_assoc (body_of g item) (10 ∷ []) later in
    (ap (λ (xs : List ℕ). before 10 xs ++ 10 ∷ []) shape ∙ ap (λ (xs : List ℕ). xs ++ 10 ∷ []) (before_at 10 (body_of g item) later (body_lacks g item lawful)) ∙ sym (item_line_is g item), ap (after 10) shape ∙ after_at 10 (body_of g item) later (body_lacks g item lawful))

-- the next line, where some are left
pub record IsNext (g : Graph) (items : List Item) (begun : Hints) (rest : List ℕ) (hints : Hints) : Type 0 where
  pub item : Item
  pub more : List Item
  pub logged : IsLoggableItem g item
  pub all_logged : Each (IsLoggableItem g) more
  pub line : before 10 rest ++ 10 ∷ [] ≡ item_line g item
  pub text : after 10 rest ≡ flat_map (item_line g) more
  pub total : with_entries (with_line (tally hints) (entry_of item)) (map entry_of more) ≡ with_entries (tally begun) (map entry_of items)

next_of : (g : Graph) (items : List Item) (begun : Hints) (rest : List ℕ) (hints : Hints) (left : List Item) → IsLawful g → 0 < length rest → Each (IsLoggableItem g) left → rest ≡ flat_map (item_line g) left → with_entries (tally hints) (map entry_of left) ≡ with_entries (tally begun) (map entry_of items) → IsNext g items begun rest hints
next_of g items begun rest hints [] lawful some logged e total = absurd (omega (arith, ap length e))
next_of g items begun rest hints (item ∷ more) lawful some logged e total =
    let cut = line_cut g item rest (flat_map (item_line g) more) lawful e in
    record {
      item = item;
      more = more;
      logged = logged.0;
      all_logged = logged.1;
      line = cut.0;
      text = cut.1;
      total = total;
    }

pub next_item : (g : Graph) (items : List Item) (begun : Hints) (rest : List ℕ) (hints : Hints) → IsLawful g → 0 < length rest → AreLeft g items begun rest hints → IsNext g items begun rest hints
next_item g items begun rest hints lawful some are = next_of g items begun rest hints are.left lawful some are.logged are.text are.total

-- a line has at least its line feed
pub line_some : (g : Graph) (item : Item) (later : List ℕ) → [] ≡ item_line g item ++ later → ⊥
line_some g item later e =
    let shape : [] ≡ (body_of g item ++ 10 ∷ []) ++ later = e ∙ ap (λ (line : List ℕ). line ++ later) (item_line_is g item) in
    omega (arith, ap length shape, length-append (body_of g item ++ 10 ∷ []) later, length-append (body_of g item) (10 ∷ []))

all_read_of : (g : Graph) (items : List Item) (begun : Hints) (hints : Hints) (left : List Item) → [] ≡ flat_map (item_line g) left → with_entries (tally hints) (map entry_of left) ≡ with_entries (tally begun) (map entry_of items) → tally hints ≡ with_entries (tally begun) (map entry_of items)
all_read_of g items begun hints [] e total = total
all_read_of g items begun hints (item ∷ more) e total = absurd (line_some g item (flat_map (item_line g) more) e)

pub all_read : (g : Graph) (items : List Item) (begun : Hints) (rest : List ℕ) (hints : Hints) → rest ≡ [] → AreLeft g items begun rest hints → tally hints ≡ with_entries (tally begun) (map entry_of items)
all_read g items begun rest hints none are = all_read_of g items begun hints are.left (sym none ∙ are.text) are.total

after_up_to : (b : ℕ) (xs : List ℕ) → length (after b xs) ≤ length xs
after_up_to b [] = omega arith
after_up_to b (x ∷ xs) = ⊎_elim
    (λ (is : (x == b) ≡ true). rw is (omega arith))
    (λ (other : (x == b) ≡ false). rw other (omega (arith, after_up_to b xs)))
    (cases_Bool (x == b))

pub after_shorter : (b : ℕ) (xs : List ℕ) → 0 < length xs → length (after b xs) < length xs
after_shorter b [] some = absurd (omega arith)
after_shorter b (x ∷ xs) some = ⊎_elim
    (λ (is : (x == b) ≡ true). rw is (omega arith))
    (λ (other : (x == b) ≡ false). rw other (omega (arith, after_up_to b xs)))
    (cases_Bool (x == b))

pub some_rest : (xs : List ℕ) → false ≡ (length xs == 0) → 0 < length xs
some_rest xs h = omega (arith, eqb-false (length xs) 0 (sym h))

pub empty_rest : (xs : List ℕ) → true ≡ (length xs == 0) → xs ≡ []
empty_rest xs h = nil_from_length xs (eqb-true (length xs) 0 (sym h))

pub line_at : (rest line whole : List ℕ) → line ≡ before 10 rest → before 10 rest ++ 10 ∷ [] ≡ whole → line ++ 10 ∷ [] ≡ whole
line_at rest line whole is e = ap (λ (xs : List ℕ). xs ++ 10 ∷ []) is ∙ e

left_after : (g : Graph) (items : List Item) (begun : Hints) (rest : List ℕ) (hints : Hints) (line more : List ℕ) (entry : Entry) (new : Hints) → IsNext g items begun rest hints → line ≡ before 10 rest → more ≡ after 10 rest → ((item : Item) → IsLoggableItem g item → line ++ 10 ∷ [] ≡ item_line g item → Some entry ≡ Some (entry_of item)) → tally new ≡ with_line (tally hints) entry → AreLeft g items begun more new
left_after g items begun rest hints line more entry new next is later reads adds =
    let entry_is : entry ≡ entry_of next.item = same_Some entry (entry_of next.item) (reads next.item next.logged (line_at rest line (item_line g next.item) is next.line)) in
    record {
      left = next.more;
      logged = next.all_logged;
      text = later ∙ next.text;
      total = ap (λ (so_far : Tally). with_entries so_far (map entry_of next.more)) (adds ∙ ap (with_line (tally hints)) entry_is) ∙ next.total;
    }

pub reads_on : (g : Graph) (text : List ℕ) (begun : Hints) (rest : List ℕ) (hints : Hints) (line more : List ℕ) (entry : Entry) (new : Hints) → IsLawful g → 0 < length rest → IsReading g text begun rest hints → line ≡ before 10 rest → more ≡ after 10 rest → ((item : Item) → IsLoggableItem g item → line ++ 10 ∷ [] ≡ item_line g item → Some entry ≡ Some (entry_of item)) → tally new ≡ with_line (tally hints) entry → new.claims ≤ hints.claims + 1 → IsReading g text begun more new
reads_on g text begun rest hints line more entry new lawful some so_far is later reads adds few = record {
  room = omega (arith, so_far.room, few, after_shorter 10 rest some, ap length later);
  reads = λ items logged e. left_after g items begun rest hints line more entry new (next_item g items begun rest hints lawful some (so_far.reads items logged e)) is later reads adds;
}
