-- How far the search for the line `log` has come, and how far a block.
use Rattle.std.proofs.Common.{◌≡◌, ℕ, suc, ◌+◌, ◌≤◌, true, false, nat_eq, List, [], ◌∷◌, ◌++◌, Some, None, bytes_eq, codes, length, take, drop, refl, sym, ap, ◌∙◌, append_assoc, append-nil, arith, length-append, length-drop}
use Rattle.std.specs.List.{concat, starts_with}
use Rattle.std.proofs.lemmas.Bool.{both_ways, false_from_ne_true}
use Rattle.std.proofs.lemmas.Bool.Decides.{Decides-eqb}
use Rattle.std.proofs.lemmas.List.{drop-drop, drop_all, take-append-drop}
use Rattle.std.proofs.lemmas.Slice.Eq.{bytes_eq-Decides, starts_is}
use Rattle.std.proofs.Math.Seq.{take-add}
use Rattle.pt_tables.specs.Log.{log_head}
use Rattle.pt_audit.specs.Parsing.Fields.{IsFirstLine}
use Rattle.pt_audit.specs.Parsing.Lines.{at_log, begins_turn, blocks_from, text_lines, with_line}
use Rattle.pt_audit.specs.Parsing.Places.{IsFirstBlock, IsLogAt}
use Rattle.pt_audit.proofs.Parsing.Blocks.{block_ends, block_more}
use Rattle.pt_audit.proofs.Parsing.Splitting.{HaveNoLog, at_log_none, at_log_past, concat_push, lines_front, no_log_push}

-- the lines before this place, of which none is `log`, and the number of the next one
pub record HavePassed (bytes : List ℕ) (place line : ℕ) : Type 0 where
  pub passed : List (List ℕ)
  pub within : place ≤ length bytes
  pub few : line ≤ place + 1
  pub text : take place bytes ≡ concat passed
  pub lines : text_lines bytes ≡ passed ++ text_lines (drop place bytes)
  pub number : line ≡ length passed + 1
  pub none : HaveNoLog passed

-- so many bytes are lines of the first block, and so many lines
pub record AreOfFirst (bytes : List ℕ) (len lines : ℕ) : Type 0 where
  pub some : 1 ≤ lines
  pub few : lines ≤ len
  pub within : len ≤ length bytes
  pub blocks : (n : ℕ) → blocks_from n (text_lines bytes) ≡ with_line n (take len bytes) (blocks_from (n + lines) (text_lines (drop len bytes)))

-- a text that begins so
starts_so : (s p : List ℕ) → starts_with nat_eq s p ≡ true → s ≡ p ++ drop (length p) s
starts_so s p h = (starts_is Decides-eqb s p (starts_with nat_eq s p) refl).0 h

starts_from : (s p rest : List ℕ) → s ≡ p ++ rest → starts_with nat_eq s p ≡ true
starts_from s p rest e = (starts_is Decides-eqb s p (starts_with nat_eq s p) refl).1 rest e

pub begins_from_starts : (s : List ℕ) → starts_with nat_eq s (codes "turn,") ≡ true → begins_turn s ≡ true
begins_from_starts s h = rw (starts_so s (codes "turn,") h) refl

pub begins_not : (s : List ℕ) → starts_with nat_eq s (codes "turn,") ≡ false → begins_turn s ≡ false
begins_not s h = false_from_ne_true (begins_turn s)
    (λ (turn : begins_turn s ≡ true).
    let word : take 5 s ≡ codes "turn," = (bytes_eq-Decides (take 5 s) (codes "turn,")).0 turn in
    both_ways (starts_with nat_eq s (codes "turn,")) h (starts_from s (codes "turn,") (drop 5 s) (sym (take-append-drop 5 s) ∙ ap (λ (front : List ℕ). front ++ drop 5 s) word)))

not_log : (s : List ℕ) (len : ℕ) → starts_with nat_eq s log_head ≡ false → bytes_eq (take len s) log_head ≡ false
not_log s len h = false_from_ne_true (bytes_eq (take len s) log_head)
    (λ (log : bytes_eq (take len s) log_head ≡ true).
    let word : take len s ≡ log_head = (bytes_eq-Decides (take len s) log_head).0 log in
    both_ways (starts_with nat_eq s log_head) h (starts_from s log_head (drop len s) (sym (take-append-drop len s) ∙ ap (λ (front : List ℕ). front ++ drop len s) word)))

pub more_of_first : (bytes : List ℕ) (len lines more : ℕ) → AreOfFirst bytes len lines → IsFirstLine (drop len bytes) more → begins_turn (drop len bytes) ≡ false → AreOfFirst bytes (len + more) (lines + 1)
more_of_first bytes len lines more so_far line other =
    let line_is : text_lines (drop len bytes) ≡ take more (drop len bytes) ∷ text_lines (drop (len + more) bytes) = line.lines ∙ ap (λ (xs : List ℕ). take more (drop len bytes) ∷ text_lines xs) (drop-drop more len bytes) in
    record {
      some = omega arith;
      few = omega (arith, so_far.few, line.some);
      within = omega (arith, line.within, so_far.within, length-drop len bytes);
      blocks = λ (n : ℕ).
          let number : suc (n + lines) ≡ n + (lines + 1) = omega arith in
          so_far.blocks n ∙ block_more n (n + lines) (take len bytes) (take more (drop len bytes)) (drop len bytes) (drop (len + more) bytes) line_is other ∙ rw (take-add len more bytes, number) refl;
    }

pub first_block_is : (bytes : List ℕ) (len lines : ℕ) → AreOfFirst bytes len lines → begins_turn (drop len bytes) ≡ true → IsFirstBlock bytes len lines
first_block_is bytes len lines so_far turn = record {
  some = so_far.some;
  few = so_far.few;
  within = so_far.within;
  blocks = λ (n : ℕ). so_far.blocks n ∙ block_ends n (n + lines) (take len bytes) (drop len bytes) turn;
}

pub passed_more : (bytes : List ℕ) (place line more : ℕ) → HavePassed bytes place line → IsFirstLine (drop place bytes) more → starts_with nat_eq (drop place bytes) log_head ≡ false → HavePassed bytes (place + more) (line + 1)
passed_more bytes place line more so_far first other =
    let rest = drop place bytes in
    let text = take more rest in
    record {
      passed = so_far.passed ++ text ∷ [];
      within = omega (arith, first.within, so_far.within, length-drop place bytes);
      few = omega (arith, so_far.few, first.some);
      text = take-add place more bytes ∙ ap (λ (xs : List ℕ). xs ++ text) so_far.text ∙ sym (concat_push so_far.passed text);
      lines = so_far.lines ∙ ap (λ (ls : List (List ℕ)). so_far.passed ++ ls) (first.lines ∙ ap (λ (xs : List ℕ). text ∷ text_lines xs) (drop-drop more place bytes)) ∙ sym (append_assoc so_far.passed (text ∷ []) (text_lines (drop (place + more) bytes)));
      number = omega (arith, so_far.number, length-append so_far.passed (text ∷ []));
      none = no_log_push so_far.passed text so_far.none (not_log rest more other);
    }

pub log_found : (bytes : List ℕ) (place line : ℕ) → HavePassed bytes place line → starts_with nat_eq (drop place bytes) log_head ≡ true → IsLogAt bytes place line
log_found bytes place line so_far log =
    let rest = drop place bytes in
    let is : rest ≡ log_head ++ drop 4 rest = starts_so rest log_head log in
    let later : drop 4 rest ≡ drop (place + 4) bytes = drop-drop 4 place bytes in
    let lines_is : text_lines bytes ≡ so_far.passed ++ log_head ∷ text_lines (drop (place + 4) bytes) = so_far.lines ∙ ap (λ (xs : List ℕ). so_far.passed ++ text_lines xs) is ∙ ap (λ (xs : List ℕ). so_far.passed ++ log_head ∷ text_lines xs) later in
    let before_is : text_lines (take place bytes) ≡ so_far.passed = ap text_lines so_far.text ∙ lines_front bytes so_far.passed (text_lines rest) so_far.lines in
    record {
      lines = ap at_log lines_is ∙ at_log_past so_far.passed (text_lines (drop (place + 4) bytes)) so_far.none ∙ ap (λ (ls : List (List ℕ)). Some (ls, text_lines (drop (place + 4) bytes))) (sym before_is);
      number = so_far.number ∙ ap (λ (ls : List (List ℕ)). length ls + 1) (sym before_is);
      parts = sym (take-append-drop place bytes) ∙ ap (λ (xs : List ℕ). take place bytes ++ xs) (is ∙ ap (λ (xs : List ℕ). log_head ++ xs) later) ∙ sym (append_assoc (take place bytes) log_head (drop (place + 4) bytes));
      few = so_far.few;
      within = omega (arith, so_far.within, length-drop place bytes, ap length is, length-append log_head (drop 4 rest));
    }

pub log_missed : (bytes : List ℕ) (place line : ℕ) → HavePassed bytes place line → length bytes ≤ place → at_log (text_lines bytes) ≡ None
log_missed bytes place line so_far end =
    let lines_is : text_lines bytes ≡ so_far.passed = so_far.lines ∙ ap (λ (xs : List ℕ). so_far.passed ++ text_lines xs) (drop_all place bytes end) ∙ append-nil so_far.passed in
    ap at_log lines_is ∙ at_log_none so_far.passed so_far.none
