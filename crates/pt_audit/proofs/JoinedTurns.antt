-- One turn more, and whether it may stand after quiet turns.
use Rattle.std.proofs.Common.{◌≡◌, ℕ, ◌-◌, ◌^◌, Bool, true, false, List, [], ◌∷◌, ◌++◌, Some, None, refl}
use Rattle.std.specs.Prelude.{if◌then◌else◌}
use Rattle.std.proofs.lemmas.Bool.{eq-eqb, eqb-true, false≢true}
use Rattle.pt_semantics.specs.History.{AreJoined}
use Rattle.pt_semantics.specs.Turn.{Turn, is_quiet}
use Rattle.pt_audit.specs.Verifying.{fresh_order, is_joined, quiet_count, with_turn, with_turns}
use Rattle.pt_audit.specs.declared.order.Order.{Order}

pub with_turns_push : (turns : List Turn) (turn : Turn) (order : Order) → with_turns (turns ++ turn ∷ []) order ≡ with_turn (quiet_count turn) (with_turns turns order)
with_turns_push [] turn order = refl
with_turns_push (x ∷ turns) turn order = with_turns_push turns turn (with_turn (quiet_count x) order)

pub joined_front : (xs : List Turn) (z : Turn) → AreJoined (xs ++ z ∷ []) → AreJoined xs
joined_front [] z h = tt
joined_front (x ∷ []) z h = tt
joined_front (x ∷ y ∷ []) z h = tt
joined_front (x ∷ y ∷ w ∷ rest) z h = (h.0, joined_front (y ∷ w ∷ rest) z h.1)

-- two turns, with whether each is quiet and the counts
greatest : (b c : Bool) (n m : ℕ) → (b ≡ true → c ≡ true → n ≡ 2 ^ 64 - 1) → is_joined (if b then Some n else None) (if c then Some m else None) ≡ true
greatest false c n m h = refl
greatest true false n m h = refl
greatest true true n m h = eq-eqb n (2 ^ 64 - 1) (h refl refl)

greatest_back : (b c : Bool) (n m : ℕ) → is_joined (if b then Some n else None) (if c then Some m else None) ≡ true → b ≡ true → c ≡ true → n ≡ 2 ^ 64 - 1
greatest_back false c n m h eb ec = absurd (false≢true eb)
greatest_back true false n m h eb ec = absurd (false≢true ec)
greatest_back true true n m h eb ec = eqb-true n (2 ^ 64 - 1) h

-- a turn may stand after these, in the words of an order
abbrev pub MayJoin : Order → Type 0
MayJoin order = is_joined order.before order.last ≡ true

pub joined_more : (turns : List Turn) (z : Turn) (i : ℕ) → AreJoined turns → MayJoin (with_turns turns (fresh_order i)) → AreJoined (turns ++ z ∷ [])
joined_more [] z i h may = tt
joined_more (x ∷ []) z i h may = tt
joined_more (x ∷ y ∷ []) z i h may = (greatest_back (is_quiet x) (is_quiet y) x.count y.count may, tt)
joined_more (x ∷ y ∷ w ∷ rest) z i h may = (h.0, joined_more (y ∷ w ∷ rest) z i h.1 may)

pub may_join : (turns : List Turn) (z : Turn) (i : ℕ) → AreJoined (turns ++ z ∷ []) → MayJoin (with_turns turns (fresh_order i))
may_join [] z i h = refl
may_join (x ∷ []) z i h = refl
may_join (x ∷ y ∷ []) z i h = greatest (is_quiet x) (is_quiet y) x.count y.count h.0
may_join (x ∷ y ∷ w ∷ rest) z i h = may_join (y ∷ w ∷ rest) z i h.1
