-- The lines of the lists of a turn.
use Rattle.std.proofs.Common.{◌≡◌, ℕ, ◌<◌, List, [], ◌∷◌, ◌++◌, Some, length, refl, map, slice_get, sym, ap, ◌∙◌, arith}
use Rattle.std.specs.Prelude.{flat_map, option_map}
use Rattle.std.proofs.lemmas.List.{append_assoc, length-map}
use Rattle.std.proofs.lemmas.Option.{slice_get-map}
use Rattle.pt_types.specs.declared.graph.Graph.{Graph}
use Rattle.pt_semantics.specs.Turn.{Turn}
use Rattle.pt_history.specs.Turns.{claimed_in, posted_in}
use Rattle.pt_history.proofs.InTurn.{claimed_is, posted_is}
use Rattle.pt_tables.specs.declared.turn_lists.TurnList.{TurnList}
use Rattle.pt_tables.specs.declared.turn_lists.TurnList.TheVariants.{Claimed, Posted, Rows, Sent, Taken}
use Rattle.pt_tables.specs.declared.turn_lists.TurnLists.{TurnLists}
use Rattle.pt_tables.specs.Log.{claim_line, list_lines, post_line, row_line, sent_line, take_line}
use Rattle.pt_tables.specs.TurnLists.{all_lines, AreListsOf, count_of, entry_lines}
use Rattle.pt_tables.proofs.Parts.{claimed_more, posted_more}
use Rattle.pt_tables.proofs.Written.{read_of, regroup}

-- one of the lines of a list
pub line_of : {X : Type 0} (f : X → List ℕ) (xs : List X) (i : ℕ) (x : X) → slice_get xs i ≡ Some x → slice_get (map f xs) i ≡ Some (f x)
line_of f xs i x at = slice_get-map f xs i ∙ ap (option_map f) at

-- a list has as many lines as are counted
pub counted : (g : Graph) (turns : List Turn) (lists : TurnLists) (turn : Turn) (list : TurnList) → lists.number < length turns → AreListsOf turns lists → slice_get turns lists.number ≡ Some turn → count_of lists list ≡ length (entry_lines g turn list)
counted g turns lists turn Posted lt are at =
    let own : posted_in turns lists.number ≡ turn.posted = read_of (λ (t : Turn). t.posted) (slice_get turns lists.number) turn (posted_in turns lists.number) at (posted_is turns lists.number lt) in
    omega (arith, are.results, are.through.results, posted_more turns lists.number lt, ap length own, length-map turn.posted post_line)
counted g turns lists turn Rows lt are at = ap length (read_of (λ (t : Turn). t.rows) (slice_get turns lists.number) turn lists.rows.now at are.rows) ∙ sym (length-map turn.rows (row_line g))
counted g turns lists turn Taken lt are at = ap length (read_of (λ (t : Turn). t.taken) (slice_get turns lists.number) turn lists.taken.now at are.taken) ∙ sym (length-map turn.taken (take_line g))
counted g turns lists turn Claimed lt are at =
    let made : claimed_in turns lists.number ≡ turn.claimed = read_of (λ (t : Turn). t.claimed) (slice_get turns lists.number) turn (claimed_in turns lists.number) at (claimed_is turns lists.number lt) in
    omega (arith, are.claims, are.through.claims, claimed_more turns lists.number lt, ap length made, length-map turn.claimed (claim_line g))
counted g turns lists turn Sent lt are at = ap length (read_of (λ (t : Turn). t.sent) (slice_get turns lists.number) turn lists.sent.now at are.sent) ∙ sym (length-map turn.sent (sent_line g))

all_lines_map : {X : Type 0} (f : X → List ℕ) (xs : List X) → all_lines (map f xs) ≡ flat_map f xs
all_lines_map f [] = refl
all_lines_map f (x ∷ xs) = ap (λ l. f x ++ l) (all_lines_map f xs)

in_a_row : (b c d e f : List ℕ) → b ++ (c ++ (d ++ (e ++ f))) ≡ b ++ c ++ d ++ e ++ f
in_a_row b c d e f = simp append_assoc

module _ (g : Graph) (turn : Turn) where
  -- the lines of one list
  abbrev pub lines_of : TurnList → List ℕ
  lines_of list = all_lines (entry_lines g turn list)

  -- the lines of a list and of those after it
  abbrev pub claimed_on : List ℕ
  claimed_on = lines_of Claimed ++ lines_of Sent

  abbrev pub taken_on : List ℕ
  taken_on = lines_of Taken ++ claimed_on

  abbrev pub rows_on : List ℕ
  rows_on = lines_of Rows ++ taken_on

  -- the lines of all lists
  pub all_lists : lines_of Posted ++ rows_on ≡ list_lines g turn
  all_lists =
      (λ i. all_lines_map post_line turn.posted i ++ (all_lines_map (row_line g) turn.rows i ++ (all_lines_map (take_line g) turn.taken i ++ (all_lines_map (claim_line g) turn.claimed i ++ all_lines_map (sent_line g) turn.sent i))))
      ∙ in_a_row (flat_map post_line turn.posted) (flat_map (row_line g) turn.rows) (flat_map (take_line g) turn.taken) (flat_map (claim_line g) turn.claimed) (flat_map (sent_line g) turn.sent)

  -- after some bytes
  pub all_entries : (text : List ℕ) → ((((text ++ lines_of Posted) ++ lines_of Rows) ++ lines_of Taken) ++ lines_of Claimed) ++ lines_of Sent ≡ text ++ list_lines g turn
  all_entries text =
      sym (regroup text (lines_of Posted) (lines_of Rows) (lines_of Taken) (lines_of Claimed) (lines_of Sent))
      ∙ ap (λ l. text ++ l) (sym (in_a_row (lines_of Posted) (lines_of Rows) (lines_of Taken) (lines_of Claimed) (lines_of Sent)) ∙ all_lists)
