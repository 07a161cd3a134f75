-- Two turns of one text: the same hints are right of both.
use Rattle.std.proofs.Common.{◌≡◌, ℕ, ◌<◌, ℤ, List, [], ◌∷◌, flat_map, get_or, length, map, refl, slice_get, sym, ap, ap₂, ◌∙◌}
use Rattle.std.proofs.lemmas.Fmt.{decimal_injective, signed_decimal_injective}
use Rattle.std.proofs.lemmas.Option.{same_Some, slice_get-get_or}
use Rattle.pt_tags.specs.declared.message.Message.{Message}
use Rattle.pt_tags.specs.declared.message.Message.TheVariants.{End, Event}
use Rattle.pt_tags.specs.declared.tag.Tag.{Tag}
use Rattle.pt_types.specs.declared.firing.Done.{Done}
use Rattle.pt_types.specs.declared.firing.OnLink.{OnLink}
use Rattle.pt_types.specs.declared.graph.Graph.{Graph}
use Rattle.pt_types.specs.declared.graph.Link.{Link}
use Rattle.pt_types.specs.Lawful.{IsLawful}
use Rattle.pt_semantics.specs.Lists.{Each}
use Rattle.pt_semantics.specs.Turn.{Turn}
use Rattle.pt_tables.specs.Held.{FitsTag, IsHeld}
use Rattle.pt_tables.specs.Log.{turn_lines}
use Rattle.pt_tables.specs.Names.{receiver_name, sender_name}
use Rattle.pt_audit.specs.Parsing.Fields.{after, before}
use Rattle.pt_audit.specs.Parsing.Hints.{AreHints, IsLoggable, IsLoggableOn}
use Rattle.pt_audit.specs.Parsing.Items.{IsLoggableItem, Item, Tally, entry_of, item_line, message_fields, message_text, nothing_yet, with_entries, word_is}
use Rattle.pt_audit.specs.Parsing.Items.Item.{claim, got, post, row, sent}
use Rattle.pt_audit.specs.declared.parse.entries.Entry.{Entry}
use Rattle.pt_audit.specs.declared.parse.entries.Entry.TheVariants.{Post, Sent, Take}
use Rattle.pt_audit.specs.declared.parse.hints.Hints.{Hints}
use Rattle.pt_audit.proofs.Parsing.Heads.{head_fields}
use Rattle.pt_audit.proofs.Parsing.ItemLines.{claim_only, event_parts, fields_of, item_line_is, item_parts, kind_of, known_word, named_parts, no_end, post_only, row_only, sent_only, take_only}
use Rattle.pt_audit.proofs.Parsing.Namesakes.{platforms_once, receivers_once, senders_once}
use Rattle.pt_audit.proofs.Parsing.Printed.{lacks_receiver, lacks_sender, no_comma_in_names}
use Rattle.pt_audit.proofs.Parsing.Reading.{body_of, line_cut, line_some}
use Rattle.pt_audit.proofs.Parsing.TurnTexts.{items_add, items_of, items_logged, turn_cut}

-- two turns, of platforms p and q, of which the same hints are right
pub record HaveSameHints (p q : ℕ) (t u : Turn) : Type 0 where
  pub platform : p ≡ q
  pub first : t.first ≡ u.first
  pub last : t.last ≡ u.last
  pub count : t.count ≡ u.count
  pub posts : map (λ (done : Done). done.task.number) t.posted ≡ map (λ (done : Done). done.task.number) u.posted
  pub taken : t.taken ≡ u.taken
  pub claims : length t.claimed ≡ length u.claimed
  pub sent : t.sent ≡ u.sent

-- Messages.

same_event : (text : List ℕ) (tag other : Tag) (z y : ℤ) → FitsTag (Event tag z) → IsHeld (Event tag z) → FitsTag (Event other y) → IsHeld (Event other y) → text ≡ message_text (Event tag z) → text ≡ message_text (Event other y) → Event tag z ≡ Event other y
same_event text tag other z y fits held fits2 held2 e f =
    let a = event_parts text (before 44 text) (after 44 text) (before 44 (after 44 text)) (after 44 (after 44 text)) tag z e refl refl refl refl in
    let b = event_parts text (before 44 text) (after 44 text) (before 44 (after 44 text)) (after 44 (after 44 text)) other y f refl refl refl refl in
    let time : tag.time ≡ other.time = decimal_injective tag.time other.time fits.0 fits2.0 (sym a.0 ∙ b.0) in
    let step : tag.step ≡ other.step = decimal_injective tag.step other.step fits.1 fits2.1 (sym a.1 ∙ b.1) in
    let value : z ≡ y = signed_decimal_injective z y held.sfits held2.sfits (sym a.2 ∙ b.2) in
    λ i. Event (record { time = time i; step = step i }) (value i)

same_message : (text : List ℕ) (m n : Message) → FitsTag m → IsHeld m → FitsTag n → IsHeld n → text ≡ message_text m → text ≡ message_text n → m ≡ n
same_message text (Event tag z) (Event other y) fits held fits2 held2 e f = same_event text tag other z y fits held fits2 held2 e f
same_message text (Event tag z) End fits held fits2 held2 e f = absurd (no_end tag z (sym f ∙ e))
same_message text End (Event other y) fits held fits2 held2 e f = absurd (no_end other y (sym e ∙ f))
same_message text End End fits held fits2 held2 e f = refl

module _ (g : Graph) (lawful : IsLawful g) where
  abbrev no_link : Link
  no_link = record { from = 0; to = 0; delay = 0 }

  same_receiver : (i j : ℕ) → i < length g.links → j < length g.links → receiver_name g (slice_get g.links i) ≡ receiver_name g (slice_get g.links j) → i ≡ j
  same_receiver i j p q e =
      let here = slice_get-get_or g.links i no_link p in
      let there = slice_get-get_or g.links j no_link q in
      receivers_once g i j (get_or g.links i no_link) (get_or g.links j no_link) lawful here there (sym (ap (receiver_name g) here) ∙ e ∙ ap (receiver_name g) there)

  same_sender : (i j : ℕ) → i < length g.links → j < length g.links → sender_name g (slice_get g.links i) ≡ sender_name g (slice_get g.links j) → i ≡ j
  same_sender i j p q e =
      let here = slice_get-get_or g.links i no_link p in
      let there = slice_get-get_or g.links j no_link q in
      senders_once g i j (get_or g.links i no_link) (get_or g.links j no_link) lawful here there (sym (ap (sender_name g) here) ∙ e ∙ ap (sender_name g) there)

  same_on : (x y : OnLink) → x.link ≡ y.link → x.message ≡ y.message → x ≡ y
  same_on x y link message i = record { link = link i; message = message i }

  same_taken : (text : List ℕ) (x y : OnLink) → IsLoggableOn g x → IsLoggableOn g y → text ≡ message_fields (receiver_name g (slice_get g.links x.link)) x.message → text ≡ message_fields (receiver_name g (slice_get g.links y.link)) y.message → x ≡ y
  same_taken text x y logged theirs e f =
      let a = named_parts text (before 44 text) (after 44 text) (receiver_name g (slice_get g.links x.link)) x.message (lacks_receiver g 44 (slice_get g.links x.link) lawful no_comma_in_names) e refl refl in
      let b = named_parts text (before 44 text) (after 44 text) (receiver_name g (slice_get g.links y.link)) y.message (lacks_receiver g 44 (slice_get g.links y.link) lawful no_comma_in_names) f refl refl in
      same_on x y (same_receiver x.link y.link logged.link theirs.link (sym a.0 ∙ b.0)) (same_message (after 44 text) x.message y.message logged.tag logged.value theirs.tag theirs.value a.1 b.1)

  same_sent : (text : List ℕ) (x y : OnLink) → IsLoggableOn g x → IsLoggableOn g y → text ≡ message_fields (sender_name g (slice_get g.links x.link)) x.message → text ≡ message_fields (sender_name g (slice_get g.links y.link)) y.message → x ≡ y
  same_sent text x y logged theirs e f =
      let a = named_parts text (before 44 text) (after 44 text) (sender_name g (slice_get g.links x.link)) x.message (lacks_sender g 44 (slice_get g.links x.link) lawful no_comma_in_names) e refl refl in
      let b = named_parts text (before 44 text) (after 44 text) (sender_name g (slice_get g.links y.link)) y.message (lacks_sender g 44 (slice_get g.links y.link) lawful no_comma_in_names) f refl refl in
      same_on x y (same_sender x.link y.link logged.link theirs.link (sym a.0 ∙ b.0)) (same_message (after 44 text) x.message y.message logged.tag logged.value theirs.tag theirs.value a.1 b.1)

  -- Lines.

  same_entry : (item other : Item) → IsLoggableItem g item → IsLoggableItem g other → kind_of item ≡ kind_of other → fields_of g item ≡ fields_of g other → entry_of item ≡ entry_of other
  same_entry (post done) other logged theirs kind fields =
      let is = post_only g (fields_of g (post done)) other kind theirs fields in
      ap Post (decimal_injective done.task.number is.0 logged is.1 is.2) ∙ sym is.3
  same_entry (row at) other logged theirs kind fields = sym (row_only other kind)
  same_entry (got x) other logged theirs kind fields =
      let is = take_only g (fields_of g (got x)) other kind theirs fields in
      ap Take (same_taken (fields_of g (got x)) x is.0 logged is.1 refl is.2) ∙ sym is.3
  same_entry (claim task) other logged theirs kind fields = sym (claim_only other kind)
  same_entry (sent x) other logged theirs kind fields =
      let is = sent_only g (fields_of g (sent x)) other kind theirs fields in
      ap Sent (same_sent (fields_of g (sent x)) x is.0 logged is.1 refl is.2) ∙ sym is.3

  -- a line says one thing
  same_line : (item other : Item) → IsLoggableItem g item → IsLoggableItem g other → item_line g item ≡ item_line g other → entry_of item ≡ entry_of other
  same_line item other logged theirs e =
      let line = body_of g item in
      let a = item_parts g line (before 44 line) (after 44 line) item (sym (item_line_is g item)) refl refl in
      let b = item_parts g line (before 44 line) (after 44 line) other (sym (item_line_is g item) ∙ e) refl refl in
      let kind : kind_of item ≡ kind_of other = same_Some (kind_of item) (kind_of other) (sym (known_word item) ∙ ap word_is (sym a.0 ∙ b.0) ∙ known_word other) in
      same_entry item other logged theirs kind (sym a.1 ∙ b.1)

  same_entries : (items others : List Item) → Each (IsLoggableItem g) items → Each (IsLoggableItem g) others → flat_map (item_line g) items ≡ flat_map (item_line g) others → map entry_of items ≡ map entry_of others
  same_entries [] [] logged theirs e = refl
  same_entries [] (other ∷ others) logged theirs e = absurd (line_some g other (flat_map (item_line g) others) e)
  same_entries (item ∷ items) [] logged theirs e = absurd (line_some g item (flat_map (item_line g) items) (sym e))
  same_entries (item ∷ items) (other ∷ others) logged theirs e =
      let text = flat_map (item_line g) (item ∷ items) in
      let a = line_cut g item text (flat_map (item_line g) items) lawful refl in
      let b = line_cut g other text (flat_map (item_line g) others) lawful e in
      ap₂ (λ (x : Entry) xs. x ∷ xs) (same_line item other logged.0 theirs.0 (sym a.0 ∙ b.0)) (same_entries items others logged.1 theirs.1 (sym a.1 ∙ b.1))

  -- Turns.

  pub same_hints : (p q : ℕ) (t u : Turn) → IsLoggable g p t → IsLoggable g q u → turn_lines g p t ≡ turn_lines g q u → HaveSameHints p q t u
  same_hints p q t u logged theirs e =
      let text = turn_lines g p t in
      let line = before 10 text in
      let a = turn_cut g p t text line (after 10 text) lawful refl refl refl in
      let b = turn_cut g q u text line (after 10 text) lawful e refl refl in
      let here = head_fields g line p t.first t.last t.count lawful a.0 in
      let there = head_fields g line q u.first u.last u.count lawful b.0 in
      let entries = same_entries (items_of t) (items_of u) (items_logged g p t logged) (items_logged g q u theirs) (sym a.1 ∙ b.1) in
      let total = sym (items_add t) ∙ ap (with_entries nothing_yet) entries ∙ items_add u in
      record {
        platform = platforms_once g p q lawful logged.platform theirs.platform (sym here.platform_is ∙ there.platform_is);
        first = decimal_injective t.first u.first logged.first theirs.first (sym here.first_is ∙ there.first_is);
        last = decimal_injective t.last u.last logged.last theirs.last (sym here.last_is ∙ there.last_is);
        count = decimal_injective t.count u.count logged.count theirs.count (sym here.count_is ∙ there.count_is);
        posts = ap (λ (so_far : Tally). so_far.posts) total;
        taken = ap (λ (so_far : Tally). so_far.taken) total;
        claims = ap (λ (so_far : Tally). so_far.claims) total;
        sent = ap (λ (so_far : Tally). so_far.sent) total;
      }

-- two turns with the same hints
pub hints_same : (p q : ℕ) (t u : Turn) (hints : Hints) → AreHints p t hints → AreHints q u hints → HaveSameHints p q t u
hints_same p q t u hints a b = record {
  platform = sym a.platform ∙ b.platform;
  first = sym a.first ∙ b.first;
  last = sym a.last ∙ b.last;
  count = sym a.count ∙ b.count;
  posts = sym a.posts ∙ b.posts;
  taken = sym a.taken ∙ b.taken;
  claims = sym a.claims ∙ b.claims;
  sent = sym a.sent ∙ b.sent;
}
