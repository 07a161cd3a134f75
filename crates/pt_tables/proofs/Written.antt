-- A turn's lines, written one list after another.
use Rattle.std.proofs.Common.{◌≡◌, ℕ, List, [], ◌∷◌, ◌++◌, Option, Some, sym, ap, ◌∙◌}
use Rattle.std.specs.Fmt.{decimal}
use Rattle.std.specs.Prelude.{codes, option_map}
use Rattle.std.proofs.lemmas.List.{append_assoc}
use Rattle.pt_types.specs.declared.graph.Graph.{Graph}
use Rattle.pt_semantics.specs.Turn.{Turn}
use Rattle.pt_semantics.proofs.Lookups.{same_some}
use Rattle.pt_history.specs.Turns.{turn_head}
use Rattle.pt_history.specs.declared.head.Head.{Head}
use Rattle.pt_tables.specs.Log.{list_lines, turn_line}
use Rattle.pt_tables.specs.TurnLists.{named_lines}

-- a head with these numbers
abbrev pub head_with : ℕ → ℕ → ℕ → Head
head_with first last count = record { first = first; last = last; count = count }

pub head_is : (o : Option Turn) (head : Head) (first last count : ℕ) → option_map turn_head o ≡ Some head → first ≡ head.first → last ≡ head.last → count ≡ head.count → option_map turn_head o ≡ Some (head_with first last count)
head_is o head first last count is f l n = is ∙ (λ i. Some (head_with (sym f i) (sym l i) (sym n i)))

pub regroup : (text b c d e f : List ℕ) → text ++ (b ++ c ++ d ++ e ++ f) ≡ ((((text ++ b) ++ c) ++ d) ++ e) ++ f
regroup text b c d e f = simp append_assoc

-- the line of a turn, written from its end
pub turn_put : (platform : List ℕ) (first last count : ℕ) → (codes "turn," ++ platform ++ 44 ∷ []) ++ (decimal first ++ (44 ∷ (decimal last ++ (44 ∷ (decimal count ++ (10 ∷ [])))))) ≡ turn_line platform first last count
turn_put platform first last count = simp append_assoc

-- what is read of a turn that is there
pub read_of : {X Y : Type 0} (f : X → Y) (o : Option X) (x : X) (y : Y) → o ≡ Some x → option_map f o ≡ Some y → y ≡ f x
read_of f o x y at is = sym (same_some (f x) y (ap (option_map f) (sym at) ∙ is))

-- the stored line of a turn, and then those of its lists
pub named_of : (g : Graph) (name : List ℕ) (o : Option Turn) (first last count : ℕ) (line : List ℕ) (turn : Turn) → option_map turn_head o ≡ Some (head_with first last count) → line ≡ turn_line name first last count → o ≡ Some turn
    → line ++ list_lines g turn ≡ named_lines g name turn
named_of g name o first last count line turn head is at =
    ap (λ l. l ++ list_lines g turn) (is ∙ ap (λ (h : Head). turn_line name h.first h.last h.count) (read_of turn_head o turn (head_with first last count) at head))
