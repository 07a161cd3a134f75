-- The keeper of a new board, and a new hand.
use Rattle.std.proofs.Common.{◌≡◌, ℕ, zero, suc, ◌<◌, get_or, Option, None, replicate, [], refl, sym, ap, subst, ◌∙◌}
use Rattle.atomic_table.specs.declared.shared.Seat.{Seat}
use Rattle.pt_types.specs.declared.graph.Graph.{Graph}
use Rattle.pt_board.specs.declared.rule.SlotView.{SlotView}
use Rattle.pt_board.specs.declared.rule.View.{View}
use Rattle.pt_board.specs.declared.table.Item.{Item}
use Rattle.pt_board.specs.Rule.{hand_first, keeper_first, no_part, part}
use Rattle.pt_board.specs.Keepers.{IsKeeper, IsNumberOf, out_at}
use Rattle.pt_board.specs.Seats.{IsHandView, IsKeeperView}
use Rattle.pt_board.specs.Hands.{IsHand, claimed_at}
use Rattle.std.specs.Prelude.{slice_index_or}
use Rattle.pt_board.proofs.Moves.{first_part, same_default}

pub opens : (g : Graph) (seat : Seat Item View) → seat.me.1 ≡ [] → seat.me.0 ≡ keeper_first g → IsKeeper seat (replicate 32 None)
opens g seat none is = record {
  none = none;
  keeping = subst IsKeeperView (sym is) (refl, refl);
  wide = refl;
  at_home = λ k low. ap (λ (v : View). (part k v).holds) is ∙ ap (λ (p : SlotView). p.holds) (first_part g k);
  numbers = λ k low. subst (λ (o : Option ℕ). IsNumberOf o (out_at k seat.me.0)) (sym (same_default g 32 k None)) (ap (λ (v : View). out_at k v) is ∙ ap (λ (p : SlotView). p.out) (first_part g k));
}

default_stays : {A : Type 0} (n k : ℕ) (a : A) → get_or (replicate n a) k a ≡ a
default_stays zero k a = refl
default_stays (suc n) zero a = refl
default_stays (suc n) (suc k) a = default_stays n k a

hand_part : (o : Option Graph) (k : ℕ) → part k (hand_first o) ≡ no_part
hand_part o k = default_stays 32 k no_part

pub hand_opens : (o : Option Graph) (seat : Seat Item View) → seat.me.1 ≡ [] → seat.me.0 ≡ hand_first o → IsHand seat
hand_opens o seat none is = record {
  none = none;
  hand = subst IsHandView (sym is) (refl, refl);
  at_home = λ k low. ap (λ (v : View). (part k v).holds) is ∙ ap (λ (p : SlotView). p.holds) (hand_part o k);
}

pub holds_none : (o : Option Graph) (v : View) → v ≡ hand_first o → (k : ℕ) → k < 32 → claimed_at k v ≡ None
holds_none o v is k low = ap (λ (w : View). claimed_at k w) is ∙ ap (λ (p : SlotView). p.mine) (hand_part o k)
