-- The text of a turn, and what its lines add up to.
use Rattle.std.proofs.Common.{◌≡◌, ℕ, suc, ◌+◌, ◌<◌, ◌^◌, List, [], ◌∷◌, ◌++◌, codes, flat_map, length, map, refl, sym, ap, ◌∙◌, append_assoc, append-nil, arith, zero-add}
use Rattle.std.specs.Fmt.{decimal}
use Rattle.std.proofs.lemmas.List.{map-append}
use Rattle.std.proofs.lemmas.List.Concat.{flat_map-append}
use Rattle.pt_types.specs.declared.firing.Done.{Done}
use Rattle.pt_types.specs.declared.firing.OnLink.{OnLink}
use Rattle.pt_types.specs.declared.firing.Task.{Task}
use Rattle.pt_types.specs.declared.graph.Graph.{Graph}
use Rattle.pt_types.specs.declared.rows.RowAt.{RowAt}
use Rattle.pt_types.specs.Lawful.{IsLawful}
use Rattle.pt_types.specs.Lookups.{platform_name}
use Rattle.pt_semantics.specs.Lists.{Each}
use Rattle.pt_semantics.specs.Turn.{Turn}
use Rattle.pt_tables.specs.Log.{claim_line, post_line, row_line, sent_line, take_line, turn_line, turn_lines}
use Rattle.pt_audit.specs.Parsing.Fields.{after, before}
use Rattle.pt_audit.specs.Parsing.Hints.{IsLoggable, IsLoggableOn}
use Rattle.pt_audit.specs.Parsing.Items.{IsLoggableItem, Item, Tally, entry_of, item_line, nothing_yet, with_entries, with_line}
use Rattle.pt_audit.specs.Parsing.Items.Item.{claim, got, post, row, sent}
use Rattle.pt_audit.specs.declared.parse.entries.Entry.{Entry}
use Rattle.pt_audit.proofs.Parsing.Cuts.{Lacks, after_at, before_at, lacks_append}
use Rattle.pt_audit.proofs.Parsing.Printed.{lacks_decimal, lacks_platform, line_feed, no_line_feed_in_names}
use Rattle.pt_audit.proofs.Parsing.Reading.{fields_lack}

-- the lines of a turn after its first
abbrev pub items_of : Turn → List Item
items_of t = map post t.posted ++ (map row t.rows ++ (map got t.taken ++ (map claim t.claimed ++ map sent t.sent)))

lines_of_map : {X : Type 0} (g : Graph) (f : X → Item) (h : X → List ℕ) (xs : List X) → ((x : X) → item_line g (f x) ≡ h x) → flat_map (item_line g) (map f xs) ≡ flat_map h xs
lines_of_map g f h [] same = refl
lines_of_map g f h (x ∷ xs) same = rw (same x, lines_of_map g f h xs same) refl

items_text : (g : Graph) (t : Turn) → flat_map (item_line g) (items_of t) ≡ flat_map post_line t.posted ++ (flat_map (row_line g) t.rows ++ (flat_map (take_line g) t.taken ++ (flat_map (claim_line g) t.claimed ++ flat_map (sent_line g) t.sent)))
items_text g t =
    rw (flat_map-append (item_line g) (map post t.posted) (map row t.rows ++ (map got t.taken ++ (map claim t.claimed ++ map sent t.sent))), flat_map-append (item_line g) (map row t.rows) (map got t.taken ++ (map claim t.claimed ++ map sent t.sent)), flat_map-append (item_line g) (map got t.taken) (map claim t.claimed ++ map sent t.sent), flat_map-append (item_line g) (map claim t.claimed) (map sent t.sent), lines_of_map g post post_line t.posted (λ x. refl), lines_of_map g row (row_line g) t.rows (λ x. refl), lines_of_map g got (take_line g) t.taken (λ x. refl), lines_of_map g claim (claim_line g) t.claimed (λ x. refl), lines_of_map g sent (sent_line g) t.sent (λ x. refl)) refl

to_the_right : (b c d e f : List ℕ) → (((b ++ c) ++ d) ++ e) ++ f ≡ b ++ (c ++ (d ++ (e ++ f)))
to_the_right b c d e f = simp append_assoc

pub turn_text : (g : Graph) (p : ℕ) (t : Turn) → turn_lines g p t ≡ turn_line (platform_name g p) t.first t.last t.count ++ flat_map (item_line g) (items_of t)
turn_text g p t =
    let head = turn_line (platform_name g p) t.first t.last t.count in
    ap (λ (xs : List ℕ). head ++ xs) (to_the_right (flat_map post_line t.posted) (flat_map (row_line g) t.rows) (flat_map (take_line g) t.taken) (flat_map (claim_line g) t.claimed) (flat_map (sent_line g) t.sent) ∙ sym (items_text g t))

-- a turn's first line without its line feed
abbrev pub head_body : List ℕ → ℕ → ℕ → ℕ → List ℕ
head_body platform first last count = codes "turn," ++ platform ++ 44 ∷ decimal first ++ 44 ∷ decimal last ++ 44 ∷ decimal count

turn_lacks_feed : Lacks 10 (codes "turn,")
turn_lacks_feed = (omega arith, (omega arith, (omega arith, (omega arith, (omega arith, tt)))))

pub head_lacks : (g : Graph) (p first last count : ℕ) → IsLawful g → Lacks 10 (head_body (platform_name g p) first last count)
head_lacks g p first last count lawful =
    let word = lacks_append 10 (codes "turn,") (platform_name g p) turn_lacks_feed (lacks_platform g 10 p lawful no_line_feed_in_names) in
    let one = fields_lack (codes "turn," ++ platform_name g p) (decimal first) word (lacks_decimal 10 first line_feed) in
    let two = fields_lack (codes "turn," ++ platform_name g p ++ 44 ∷ decimal first) (decimal last) one (lacks_decimal 10 last line_feed) in
    fields_lack (codes "turn," ++ platform_name g p ++ 44 ∷ decimal first ++ 44 ∷ decimal last) (decimal count) two (lacks_decimal 10 count line_feed)

-- the first line of a turn's text, and the rest
pub turn_cut : (g : Graph) (p : ℕ) (t : Turn) (text line rest : List ℕ) → IsLawful g → text ≡ turn_lines g p t → line ≡ before 10 text → rest ≡ after 10 text → (line ++ 10 ∷ [] ≡ turn_line (platform_name g p) t.first t.last t.count) × (rest ≡ flat_map (item_line g) (items_of t))
turn_cut g p t text line rest lawful e a b =
    let body = head_body (platform_name g p) t.first t.last t.count in
    let later = flat_map (item_line g) (items_of t) in
    let lacks = head_lacks g p t.first t.last t.count lawful in
    let shape : text ≡ body ++ 10 ∷ later = e ∙ turn_text g p t ∙ append_assoc body (10 ∷ []) later in
    (ap (λ (xs : List ℕ). xs ++ 10 ∷ []) (a ∙ ap (before 10) shape ∙ before_at 10 body later lacks), b ∙ ap (after 10) shape ∙ after_at 10 body later lacks)

pub each_append : {X : Type 0} (P : X → Type 0) (xs ys : List X) → Each P xs → Each P ys → Each P (xs ++ ys)
each_append P [] ys p q = q
each_append P (x ∷ xs) ys p q = (p.0, each_append P xs ys p.1 q)

each_map : {X Y : Type 0} (f : X → Y) (P : X → Type 0) (Q : Y → Type 0) (xs : List X) → ((x : X) → P x → Q (f x)) → Each P xs → Each Q (map f xs)
each_map f P Q [] along all = tt
each_map f P Q (x ∷ xs) along all = (along x all.0, each_map f P Q xs along all.1)

each_any : {X Y : Type 0} (f : X → Y) (Q : Y → Type 0) (xs : List X) → ((x : X) → Q (f x)) → Each Q (map f xs)
each_any f Q [] all = tt
each_any f Q (x ∷ xs) all = (all x, each_any f Q xs all)

pub items_logged : (g : Graph) (p : ℕ) (t : Turn) → IsLoggable g p t → Each (IsLoggableItem g) (items_of t)
items_logged g p t logged =
    each_append (IsLoggableItem g) (map post t.posted) (map row t.rows ++ (map got t.taken ++ (map claim t.claimed ++ map sent t.sent))) (each_map post (λ (done : Done). done.task.number < 2 ^ 64) (IsLoggableItem g) t.posted (λ x h. h) logged.posted)
    (each_append (IsLoggableItem g) (map row t.rows) (map got t.taken ++ (map claim t.claimed ++ map sent t.sent)) (each_any row (IsLoggableItem g) t.rows (λ x. tt))
    (each_append (IsLoggableItem g) (map got t.taken) (map claim t.claimed ++ map sent t.sent) (each_map got (IsLoggableOn g) (IsLoggableItem g) t.taken (λ x h. h) logged.taken)
    (each_append (IsLoggableItem g) (map claim t.claimed) (map sent t.sent) (each_any claim (IsLoggableItem g) t.claimed (λ x. tt)) (each_map sent (IsLoggableOn g) (IsLoggableItem g) t.sent (λ x h. h) logged.sent))))

with_append : (xs ys : List Entry) (so_far : Tally) → with_entries so_far (xs ++ ys) ≡ with_entries (with_entries so_far xs) ys
with_append [] ys so_far = refl
with_append (x ∷ xs) ys so_far = with_append xs ys (with_line so_far x)

with_posts : (a : List ℕ) (b : List OnLink) (c : ℕ) (d : List OnLink) (ds : List Done) → with_entries (record { posts = a; taken = b; claims = c; sent = d }) (map entry_of (map post ds)) ≡ record { posts = a ++ map (λ (done : Done). done.task.number) ds; taken = b; claims = c; sent = d }
with_posts a b c d [] = rw append-nil refl
with_posts a b c d (x ∷ ds) = with_posts (a ++ x.task.number ∷ []) b c d ds ∙ rw append_assoc refl

with_rows : (so_far : Tally) (rs : List RowAt) → with_entries so_far (map entry_of (map row rs)) ≡ so_far
with_rows so_far [] = refl
with_rows so_far (r ∷ rs) = with_rows so_far rs

with_taken : (a : List ℕ) (b : List OnLink) (c : ℕ) (d : List OnLink) (xs : List OnLink) → with_entries (record { posts = a; taken = b; claims = c; sent = d }) (map entry_of (map got xs)) ≡ record { posts = a; taken = b ++ xs; claims = c; sent = d }
with_taken a b c d [] = rw append-nil refl
with_taken a b c d (x ∷ xs) = with_taken a (b ++ x ∷ []) c d xs ∙ rw append_assoc refl

with_claims : (a : List ℕ) (b : List OnLink) (c : ℕ) (d : List OnLink) (ts : List Task) → with_entries (record { posts = a; taken = b; claims = c; sent = d }) (map entry_of (map claim ts)) ≡ record { posts = a; taken = b; claims = c + length ts; sent = d }
with_claims a b c d [] = let none : c ≡ c + 0 = omega arith in ap (λ (n : ℕ). record { posts = a; taken = b; claims = n; sent = d }) none
with_claims a b c d (x ∷ ts) = let one : (c + 1) + length ts ≡ c + suc (length ts) = omega arith in with_claims a b (c + 1) d ts ∙ ap (λ (n : ℕ). record { posts = a; taken = b; claims = n; sent = d }) one

with_sent : (a : List ℕ) (b : List OnLink) (c : ℕ) (d : List OnLink) (xs : List OnLink) → with_entries (record { posts = a; taken = b; claims = c; sent = d }) (map entry_of (map sent xs)) ≡ record { posts = a; taken = b; claims = c; sent = d ++ xs }
with_sent a b c d [] = rw append-nil refl
with_sent a b c d (x ∷ xs) = with_sent a b c (d ++ x ∷ []) xs ∙ rw append_assoc refl

pub items_add : (t : Turn) → with_entries nothing_yet (map entry_of (items_of t)) ≡ record { posts = map (λ (done : Done). done.task.number) t.posted; taken = t.taken; claims = length t.claimed; sent = t.sent }
items_add t =
    let posts = map (λ (done : Done). done.task.number) t.posted in
    let sents = map entry_of (map sent t.sent) in
    let claims = map entry_of (map claim t.claimed) in
    let takes = map entry_of (map got t.taken) in
    let rows = map entry_of (map row t.rows) in
    let split : map entry_of (items_of t) ≡ map entry_of (map post t.posted) ++ (rows ++ (takes ++ (claims ++ sents))) = rw (map-append entry_of (map post t.posted) (map row t.rows ++ (map got t.taken ++ (map claim t.claimed ++ map sent t.sent))), map-append entry_of (map row t.rows) (map got t.taken ++ (map claim t.claimed ++ map sent t.sent)), map-append entry_of (map got t.taken) (map claim t.claimed ++ map sent t.sent), map-append entry_of (map claim t.claimed) (map sent t.sent)) refl in
    let one : Tally = record { posts = posts; taken = []; claims = 0; sent = [] } in
    let two : Tally = record { posts = posts; taken = t.taken; claims = 0; sent = [] } in
    let three : Tally = record { posts = posts; taken = t.taken; claims = 0 + length t.claimed; sent = [] } in
    ap (with_entries nothing_yet) split
    ∙ with_append (map entry_of (map post t.posted)) (rows ++ (takes ++ (claims ++ sents))) nothing_yet
    ∙ ap (λ (s : Tally). with_entries s (rows ++ (takes ++ (claims ++ sents)))) (with_posts [] [] 0 [] t.posted)
    ∙ with_append rows (takes ++ (claims ++ sents)) one
    ∙ ap (λ (s : Tally). with_entries s (takes ++ (claims ++ sents))) (with_rows one t.rows)
    ∙ with_append takes (claims ++ sents) one
    ∙ ap (λ (s : Tally). with_entries s (claims ++ sents)) (with_taken posts [] 0 [] t.taken)
    ∙ with_append claims sents two
    ∙ ap (λ (s : Tally). with_entries s sents) (with_claims posts t.taken 0 [] t.claimed)
    ∙ with_sent posts t.taken (0 + length t.claimed) [] t.sent
    ∙ ap (λ (n : ℕ). record { posts = posts; taken = t.taken; claims = n; sent = t.sent }) (zero-add (length t.claimed))
