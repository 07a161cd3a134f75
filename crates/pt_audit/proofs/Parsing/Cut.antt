-- A lawful log cut up: the tables, the line `log`, and then a block for each turn.
use Rattle.std.proofs.Common.{◌≡◌, ℕ, suc, ◌+◌, true, false, ◌==◌, not, List, [], ◌∷◌, ◌++◌, Some, bytes_eq, codes, flat_map, map, refl, sym, ap, ◌∙◌, subst, append_assoc, append-nil, arith, length, ◌⊎◌, inl, inr, ⊎_elim}
use Rattle.std.specs.Fmt.{decimal, signed_decimal}
use Rattle.std.specs.List.{list_all}
use Rattle.std.proofs.lemmas.Bool.{and_parts, both_ways, cases_Bool, eq-eqb, false_from_ne_true, ne_eqb, not-true}
use Rattle.std.proofs.lemmas.List.Concat.{flat_map-append}
use Rattle.std.proofs.lemmas.Slice.Eq.{bytes_eq-Decides}
use Rattle.pt_tags.specs.declared.tag.Tag.{Tag}
use Rattle.pt_types.specs.declared.graph.Actor.{Actor}
use Rattle.pt_types.specs.declared.graph.Graph.{Graph}
use Rattle.pt_types.specs.declared.kind.Kind.{Kind}
use Rattle.pt_types.specs.declared.kind.Kind.TheVariants.{Actuator}
use Rattle.pt_types.specs.Lawful.{IsLawful, actor_is_lawful}
use Rattle.pt_types.specs.Lookups.{platform_name}
use Rattle.pt_types.specs.Ports.{at_port}
use Rattle.pt_semantics.specs.Firing.{or_zero}
use Rattle.pt_semantics.specs.Meaning.{ActorFiring}
use Rattle.pt_semantics.specs.Tables.{head, line, line_of, lines_of as table_lines, table_of, tables_from, tables_text}
use Rattle.pt_semantics.specs.Turn.{Turn}
use Rattle.pt_tables.specs.Log.{lines_from, log_head, log_text, turn_line, turn_lines}
use Rattle.pt_audit.specs.Parsing.Items.{Item, item_line}
use Rattle.pt_audit.specs.Parsing.Items.Item.{claim, got, post, row, sent}
use Rattle.pt_audit.specs.Parsing.Lines.{Block, at_log, before_first, begins_turn, blocks_from, text_lines, with_line}
use Rattle.pt_audit.specs.Parsing.Numbered.{numbered}
use Rattle.pt_audit.proofs.Parsing.Blocks.{block_ends, block_more}
use Rattle.pt_audit.proofs.Parsing.Cuts.{Lacks}
use Rattle.pt_audit.proofs.Parsing.ItemLines.{item_line_is}
use Rattle.pt_audit.proofs.Parsing.Printed.{lacks_decimal, lacks_name, lacks_signed, lawful_name, line_feed, no_line_feed_in_names}
use Rattle.pt_audit.proofs.Parsing.Reading.{body_lacks, body_of, fields_lack}
use Rattle.pt_audit.proofs.Parsing.Splitting.{HaveNoLog, at_log_past}
use Rattle.pt_audit.proofs.Parsing.TurnTexts.{each_append, head_body, head_lacks, items_of, turn_text}

-- a line without a line feed before its last byte is the first one
pub line_first : (body rest : List ℕ) → Lacks 10 body → text_lines (body ++ 10 ∷ rest) ≡ (body ++ 10 ∷ []) ∷ text_lines rest
line_first [] rest lacks = refl
line_first (x ∷ body) rest lacks = rw (ne_eqb x 10 lacks.0) (ap (before_first x) (line_first body rest lacks.1))

-- whole lines, of which none is `log`
record IsLined (text : List ℕ) : Type 0 where
  lines : (rest : List ℕ) → text_lines (text ++ rest) ≡ text_lines text ++ text_lines rest
  none : HaveNoLog (text_lines text)

lined_nothing : IsLined []
lined_nothing = record { lines = λ rest. refl; none = tt }

lined_append : (a b : List ℕ) → IsLined a → IsLined b → IsLined (a ++ b)
lined_append a b one other =
    let both : text_lines (a ++ b) ≡ text_lines a ++ text_lines b = one.lines b in
    record {
      lines = λ rest. ap text_lines (append_assoc a b rest) ∙ one.lines (b ++ rest) ∙ ap (λ (ls : List (List ℕ)). text_lines a ++ ls) (other.lines rest) ∙ sym (append_assoc (text_lines a) (text_lines b) (text_lines rest)) ∙ ap (λ (ls : List (List ℕ)). ls ++ text_lines rest) (sym both);
      none = subst HaveNoLog (sym both) (each_append (λ (l : List ℕ). bytes_eq l log_head ≡ false) (text_lines a) (text_lines b) one.none other.none);
    }

has_b : (b : ℕ) (xs ys : List ℕ) → Lacks b (xs ++ b ∷ ys) → ⊥
has_b b [] ys lacks = lacks.0 refl
has_b b (x ∷ xs) ys lacks = has_b b xs ys lacks.1

log_lacks : Lacks 44 log_head
log_lacks = (omega arith, (omega arith, (omega arith, (omega arith, tt))))

-- a line with a comma is not `log`
comma_line : (xs ys : List ℕ) → bytes_eq (xs ++ 44 ∷ ys) log_head ≡ false
comma_line xs ys = false_from_ne_true (bytes_eq (xs ++ 44 ∷ ys) log_head)
    (λ (log : bytes_eq (xs ++ 44 ∷ ys) log_head ≡ true).
    let is : xs ++ 44 ∷ ys ≡ log_head = (bytes_eq-Decides (xs ++ 44 ∷ ys) log_head).0 log in
    has_b 44 xs ys (subst (λ (zs : List ℕ). Lacks 44 zs) (sym is) log_lacks))

lined_line : (xs ys : List ℕ) → Lacks 10 (xs ++ 44 ∷ ys) → IsLined ((xs ++ 44 ∷ ys) ++ 10 ∷ [])
lined_line xs ys lacks =
    let body = xs ++ 44 ∷ ys in
    let alone : text_lines (body ++ 10 ∷ []) ≡ (body ++ 10 ∷ []) ∷ [] = line_first body [] lacks in
    record {
      lines = λ rest. ap text_lines (append_assoc body (10 ∷ []) rest) ∙ line_first body rest lacks ∙ ap (λ (ls : List (List ℕ)). ls ++ text_lines rest) (sym alone);
      none = subst HaveNoLog (sym alone) (ap (λ (zs : List ℕ). bytes_eq zs log_head) (append_assoc xs (44 ∷ ys) (10 ∷ [])) ∙ comma_line xs (ys ++ 10 ∷ []), tt);
    }

-- a test for what a text lacks
lacks_test : (b : ℕ) (xs : List ℕ) → list_all (λ x. not (x == b)) xs ≡ true → Lacks b xs
lacks_test b [] all = tt
lacks_test b (x ∷ xs) all =
    let parts = and_parts (not (x == b)) (list_all (λ z. not (z == b)) xs) all in
    (λ (e : x ≡ b). both_ways (x == b) (not-true (x == b) parts.0) (eq-eqb x b e), lacks_test b xs parts.1)

lined_head : IsLined head
lined_head = lined_line (codes "actuator") (codes "time,step,value") (lacks_test 10 (codes "actuator,time,step,value") refl)

lined_firing : (name : List ℕ) (tag : Tag) (x : ActorFiring) → Lacks 10 name → IsLined (line name tag (or_zero (at_port x.inputs 0)))
lined_firing name tag x lacks =
    let value = or_zero (at_port x.inputs 0) in
    let time = fields_lack name (decimal tag.time) lacks (lacks_decimal 10 tag.time line_feed) in
    let step = fields_lack (name ++ 44 ∷ decimal tag.time) (decimal tag.step) time (lacks_decimal 10 tag.step line_feed) in
    lined_line (name ++ 44 ∷ decimal tag.time ++ 44 ∷ decimal tag.step) (signed_decimal value) (fields_lack (name ++ 44 ∷ decimal tag.time ++ 44 ∷ decimal tag.step) (signed_decimal value) step (lacks_signed 10 value line_feed (omega arith)))

lined_firing_of : (a : ℕ) (name : List ℕ) (x : ActorFiring) → Lacks 10 name → IsLined (line_of a name x)
lined_firing_of a name x lacks = ⊎_elim
    (λ (is : (x.actor == a) ≡ true). rw is (lined_firing name x.tag x lacks))
    (λ (other : (x.actor == a) ≡ false). rw other lined_nothing)
    (cases_Bool (x.actor == a))

lined_firings : (a : ℕ) (name : List ℕ) (xs : List ActorFiring) → Lacks 10 name → IsLined (table_lines a name xs)
lined_firings a name [] lacks = lined_nothing
lined_firings a name (x ∷ xs) lacks = lined_append (line_of a name x) (table_lines a name xs) (lined_firing_of a name x lacks) (lined_firings a name xs lacks)

lined_table : (a : ℕ) (name : List ℕ) (kind : Kind) (xs : List ActorFiring) → Lacks 10 name → IsLined (table_of a name kind xs)
lined_table a name (Actuator slack) xs lacks = lined_firings a name xs lacks
lined_table a name _ xs lacks = lined_nothing

lined_tables : (n a : ℕ) (actors : List Actor) (xs : List ActorFiring) → list_all (actor_is_lawful n) actors ≡ true → IsLined (tables_from a actors xs)
lined_tables n a [] xs lawful = lined_nothing
lined_tables n a (actor ∷ actors) xs lawful =
    let parts = and_parts (actor_is_lawful n actor) (list_all (actor_is_lawful n) actors) lawful in
    lined_append (table_of a actor.name actor.kind xs) (tables_from (suc a) actors xs) (lined_table a actor.name actor.kind xs (lacks_name 10 actor.name no_line_feed_in_names (lawful_name n actor parts.0))) (lined_tables n (suc a) actors xs parts.1)

-- the lines before the first line `log` of a lawful log are its tables, and those after it are the turns
pub log_cut : (g : Graph) (firings : List ActorFiring) (histories : List (List Turn)) → IsLawful g → at_log (text_lines (tables_text g firings ++ log_text g histories)) ≡ Some (text_lines (tables_text g firings), text_lines (lines_from g 0 histories))
log_cut g firings histories lawful =
    let tables = lined_append head (tables_from 0 g.actors firings) lined_head (lined_tables (length g.platforms) 0 g.actors firings lawful.actors) in
    ap at_log (tables.lines (log_text g histories)) ∙ at_log_past (text_lines (tables_text g firings)) (text_lines (lines_from g 0 histories)) tables.none

no_turn : (g : Graph) (item : Item) (rest : List ℕ) → begins_turn (item_line g item ++ rest) ≡ false
no_turn g (post done) rest = refl
no_turn g (row at) rest = refl
no_turn g (got x) rest = rw (item_line_is g (got x)) refl
no_turn g (claim task) rest = refl
no_turn g (sent x) rest = rw (item_line_is g (sent x)) refl

item_first : (g : Graph) (item : Item) (rest : List ℕ) → IsLawful g → text_lines (item_line g item ++ rest) ≡ item_line g item ∷ text_lines rest
item_first g item rest lawful =
    let is = item_line_is g item in
    ap (λ (l : List ℕ). text_lines (l ++ rest)) is ∙ ap text_lines (append_assoc (body_of g item) (10 ∷ []) rest) ∙ line_first (body_of g item) rest (body_lacks g item lawful) ∙ ap (λ (l : List ℕ). l ∷ text_lines rest) (sym is)

-- the lines of a turn after its first are of its block
items_join : (g : Graph) (items : List Item) (n m : ℕ) (text rest : List ℕ) → IsLawful g → (k : ℕ) × (with_line n text (blocks_from m (text_lines (flat_map (item_line g) items ++ rest))) ≡ with_line n (text ++ flat_map (item_line g) items) (blocks_from k (text_lines rest)))
items_join g [] n m text rest lawful = (m, ap (λ (t : List ℕ). with_line n t (blocks_from m (text_lines rest))) (sym (append-nil text)))
items_join g (item ∷ items) n m text rest lawful =
    let l = item_line g item in
    let more = flat_map (item_line g) items in
    let later = items_join g items n (suc m) (text ++ l) rest lawful in
    let here = block_more n m text l (l ++ (more ++ rest)) (more ++ rest) (item_first g item (more ++ rest) lawful) (no_turn g item (more ++ rest)) in
    (later.0, ap (λ (xs : List ℕ). with_line n text (blocks_from m (text_lines xs))) (append_assoc l more rest) ∙ here ∙ later.1 ∙ ap (λ (t : List ℕ). with_line n t (blocks_from later.0 (text_lines rest))) (append_assoc text l more))

-- nothing, or the next turn
abbrev EndsTurn : List ℕ → Type 0
EndsTurn rest = (rest ≡ []) ⊎ (begins_turn rest ≡ true)

turn_ends : (n m : ℕ) (text rest : List ℕ) → EndsTurn rest → with_line n text (blocks_from m (text_lines rest)) ≡ record { line = n; text = text } ∷ blocks_from m (text_lines rest)
turn_ends n m text rest ends = ⊎_elim
    (λ (nothing : rest ≡ []). subst (λ (xs : List ℕ). with_line n text (blocks_from m (text_lines xs)) ≡ record { line = n; text = text } ∷ blocks_from m (text_lines xs)) (sym nothing) refl)
    (λ (turn : begins_turn rest ≡ true). block_ends n m text rest turn)
    ends

turn_block : (g : Graph) (p n : ℕ) (t : Turn) (rest : List ℕ) → IsLawful g → EndsTurn rest → (k : ℕ) × (blocks_from n (text_lines (turn_lines g p t ++ rest)) ≡ record { line = n; text = turn_lines g p t } ∷ blocks_from k (text_lines rest))
turn_block g p n t rest lawful ends =
    let first = turn_line (platform_name g p) t.first t.last t.count in
    let items = flat_map (item_line g) (items_of t) in
    let body = head_body (platform_name g p) t.first t.last t.count in
    let is : turn_lines g p t ≡ first ++ items = turn_text g p t in
    let shape : turn_lines g p t ++ rest ≡ body ++ 10 ∷ (items ++ rest) = ap (λ (xs : List ℕ). xs ++ rest) is ∙ append_assoc first items rest ∙ append_assoc body (10 ∷ []) (items ++ rest) in
    let lines : text_lines (turn_lines g p t ++ rest) ≡ first ∷ text_lines (items ++ rest) = ap text_lines shape ∙ line_first body (items ++ rest) (head_lacks g p t.first t.last t.count lawful) in
    let joined = items_join g (items_of t) n (suc n) first rest lawful in
    (joined.0, ap (blocks_from n) lines ∙ joined.1 ∙ ap (λ (xs : List ℕ). with_line n xs (blocks_from joined.0 (text_lines rest))) (sym is) ∙ turn_ends n joined.0 (turn_lines g p t) rest ends)

-- the text of a turn of a platform
abbrev pub text_of : Graph → ℕ × Turn → List ℕ
text_of g x = turn_lines g x.0 x.1

ends_at : (g : Graph) (xs : List (ℕ × Turn)) → EndsTurn (flat_map (text_of g) xs)
ends_at g [] = inl refl
ends_at g (x ∷ xs) = inr refl

-- the blocks of the texts of turns are these texts
pub turn_blocks : (g : Graph) (n : ℕ) (xs : List (ℕ × Turn)) → IsLawful g → map (λ (block : Block). block.text) (blocks_from n (text_lines (flat_map (text_of g) xs))) ≡ map (text_of g) xs
turn_blocks g n [] lawful = refl
turn_blocks g n (x ∷ xs) lawful =
    let rest = flat_map (text_of g) xs in
    let here = turn_block g x.0 n x.1 rest lawful (ends_at g xs) in
    ap (λ (blocks : List Block). map (λ (block : Block). block.text) blocks) here.1 ∙ ap (λ (texts : List (List ℕ)). text_of g x ∷ texts) (turn_blocks g here.0 xs lawful)

turns_text : (g : Graph) (p : ℕ) (turns : List Turn) → flat_map (turn_lines g p) turns ≡ flat_map (text_of g) (map (λ (turn : Turn). (p, turn)) turns)
turns_text g p [] = refl
turns_text g p (turn ∷ turns) = ap (λ (xs : List ℕ). turn_lines g p turn ++ xs) (turns_text g p turns)

pub histories_text : (g : Graph) (p : ℕ) (histories : List (List Turn)) → lines_from g p histories ≡ flat_map (text_of g) (numbered p histories)
histories_text g p [] = refl
histories_text g p (turns ∷ histories) =
    let these = map (λ (turn : Turn). (p, turn)) turns in
    ap (λ (xs : List ℕ). xs ++ lines_from g (p + 1) histories) (turns_text g p turns) ∙ ap (λ (xs : List ℕ). flat_map (text_of g) these ++ xs) (histories_text g (p + 1) histories) ∙ sym (flat_map-append (text_of g) these (numbered (p + 1) histories))

-- the blocks after the line `log` of a lawful log are the texts of the turns, in order
pub log_blocks : (g : Graph) (n : ℕ) (histories : List (List Turn)) → IsLawful g → map (λ (block : Block). block.text) (blocks_from n (text_lines (lines_from g 0 histories))) ≡ map (text_of g) (numbered 0 histories)
log_blocks g n histories lawful = ap (λ (xs : List ℕ). map (λ (block : Block). block.text) (blocks_from n (text_lines xs))) (histories_text g 0 histories) ∙ turn_blocks g n (numbered 0 histories) lawful
