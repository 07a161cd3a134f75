-- Whether the last two turns are quiet, as lists grow and turns begin.
use Rattle.std.proofs.Common.{◌≡◌, ◌==◌, ℕ, ◌+◌, ◌<◌, ◌&&◌, Bool, true, false, List, [], ◌∷◌, ◌++◌, length, get_or, Some, refl, sym, ap, ap₂, ◌∙◌, arith}
use Rattle.std.specs.Prelude.{option_map, slice_get}
use Rattle.pt_types.specs.declared.firing.Done.{Done}
use Rattle.pt_types.specs.declared.firing.OnLink.{OnLink}
use Rattle.pt_types.specs.declared.firing.Task.{Task}
use Rattle.pt_types.specs.declared.rows.RowAt.{RowAt}
use Rattle.pt_history.specs.Lists.{on_last}
use Rattle.pt_history.proofs.LastMember.{at_last, before_last}
use Rattle.pt_semantics.specs.Turn.{is_empty, is_quiet}
use Rattle.pt_history.specs.declared.head.Head.{Head}
use Rattle.pt_history.specs.Keeping.{Lists, TellQuiet, are_empty, turns_from}
use Rattle.pt_history.proofs.Growing.{AreAll, IsBegun, get_more, past}
use Rattle.pt_history.proofs.Reading.{empty_by_length, get_turn, no_head}

-- the turn of a number
pub told_at : (p : Lists) (k : ℕ) (hs : List Head) (b : Bool) → k < length hs → b ≡ are_empty p k → option_map is_quiet (slice_get (turns_from p 0 hs) k) ≡ Some b
told_at p k hs b lt is = ap (option_map is_quiet) (get_turn p k hs no_head lt) ∙ ap Some (sym is)

all_five : (a b c d e v w x y z : Bool) → a ≡ v → b ≡ w → c ≡ x → d ≡ y → e ≡ z → (a && b && c && d && e) ≡ (v && w && x && y && z)
all_five a b c d e v w x y z ea eb ec ed ee = ap₂ (λ m n. m && n) (ap₂ (λ m n. m && n) (ap₂ (λ m n. m && n) (ap₂ (λ m n. m && n) ea eb) ec) ed) ee

-- the same lists
pub record AreSame (p q : Lists) : Type 0 where
  pub posted : q.posted ≡ p.posted
  pub rows : q.rows ≡ p.rows
  pub taken : q.taken ≡ p.taken
  pub claimed : q.claimed ≡ p.claimed
  pub sent : q.sent ≡ p.sent

same_empty : {X : Type 0} (old new : List (List X)) (k : ℕ) → new ≡ old → is_empty (get_or old k []) ≡ is_empty (get_or new k [])
same_empty {X} old new k is = ap (λ (ls : List (List X)). is_empty (get_or ls k [])) (sym is)

empty_still : (p q : Lists) (k : ℕ) → AreSame p q → are_empty p k ≡ are_empty q k
empty_still p q k is =
    all_five (is_empty (get_or p.posted k [])) (is_empty (get_or p.rows k [])) (is_empty (get_or p.taken k [])) (is_empty (get_or p.claimed k [])) (is_empty (get_or p.sent k []))
    (is_empty (get_or q.posted k [])) (is_empty (get_or q.rows k [])) (is_empty (get_or q.taken k [])) (is_empty (get_or q.claimed k [])) (is_empty (get_or q.sent k []))
    (same_empty p.posted q.posted k is.posted) (same_empty p.rows q.rows k is.rows) (same_empty p.taken q.taken k is.taken) (same_empty p.claimed q.claimed k is.claimed) (same_empty p.sent q.sent k is.sent)

pub told_still : (p q : Lists) (n : ℕ) (last before : Bool) → AreSame p q → TellQuiet p n last before → TellQuiet q n last before
told_still p q n last before is told = record {
  of_last = λ k at. told.of_last k at ∙ empty_still p q k is;
  of_before = λ k at. told.of_before k at ∙ empty_still p q k is;
}

-- one list that grew
and_swap : (a b c : Bool) → (a && b && c) ≡ (a && c && b)
and_swap false b c = refl
and_swap true false false = refl
and_swap true false true = refl
and_swap true true false = refl
and_swap true true true = refl

and_last : (a b c : Bool) → (a && b && c) ≡ (a && (b && c))
and_last false b c = refl
and_last true b c = refl

empty_append : {X : Type 0} (xs more : List X) → is_empty (xs ++ more) ≡ (is_empty xs && (length more == 0))
empty_append [] more = empty_by_length more
empty_append (x ∷ xs) more = refl

grown : {X : Type 0} (old new : List (List X)) (more : List X) (k : ℕ) (b : Bool) → k + 1 ≡ length old → new ≡ on_last (λ (l : List X). l ++ more) old → b ≡ (length more == 0) → (is_empty (get_or old k []) && b) ≡ is_empty (get_or new k [])
grown {X} old new more k b at is none =
    ap (λ z. is_empty (get_or old k []) && z) none
    ∙ sym (empty_append (get_or old k []) more)
    ∙ ap is_empty (sym (ap (λ (ls : List (List X)). get_or ls k []) is ∙ at_last (λ (l : List X). l ++ more) old k [] at))

kept : {X : Type 0} (old new : List (List X)) (more : List X) (k : ℕ) → k + 2 ≡ length old → new ≡ on_last (λ (l : List X). l ++ more) old → is_empty (get_or old k []) ≡ is_empty (get_or new k [])
kept {X} old new more k at is = ap is_empty (sym (ap (λ (ls : List (List X)). get_or ls k []) is ∙ before_last (λ (l : List X). l ++ more) old k [] (omega arith)))

pub posted_told : (p : Lists) (new : List (List Done)) (more : List Done) (n : ℕ) (last before b : Bool) → length p.posted ≡ n → new ≡ on_last (λ (l : List Done). l ++ more) p.posted → b ≡ (length more == 0) → TellQuiet p n last before → TellQuiet (record p { posted = new }) n (last && b) before
posted_told p new more n last before b all is none told = record {
  of_last = λ k at.
      let m = is_empty (get_or p.posted k []) in
      let r = is_empty (get_or p.rows k []) in
      let t = is_empty (get_or p.taken k []) in
      let c = is_empty (get_or p.claimed k []) in
      let s = is_empty (get_or p.sent k []) in
      ap (λ z. z && b) (told.of_last k at)
      ∙ and_swap (m && r && t && c) s b ∙ ap (λ z. z && s) (and_swap (m && r && t) c b ∙ ap (λ z. z && c) (and_swap (m && r) t b ∙ ap (λ z. z && t) (and_swap m r b)))
      ∙ ap (λ z. z && r && t && c && s) (grown p.posted new more k b (at ∙ sym all) is none);
  of_before = λ k at. told.of_before k at ∙ ap (λ z. z && is_empty (get_or p.rows k []) && is_empty (get_or p.taken k []) && is_empty (get_or p.claimed k []) && is_empty (get_or p.sent k [])) (kept p.posted new more k (at ∙ sym all) is);
}

pub rows_told : (p : Lists) (new : List (List RowAt)) (more : List RowAt) (n : ℕ) (last before b : Bool) → length p.rows ≡ n → new ≡ on_last (λ (l : List RowAt). l ++ more) p.rows → b ≡ (length more == 0) → TellQuiet p n last before → TellQuiet (record p { rows = new }) n (last && b) before
rows_told p new more n last before b all is none told = record {
  of_last = λ k at.
      let m = is_empty (get_or p.posted k []) in
      let r = is_empty (get_or p.rows k []) in
      let t = is_empty (get_or p.taken k []) in
      let c = is_empty (get_or p.claimed k []) in
      let s = is_empty (get_or p.sent k []) in
      ap (λ z. z && b) (told.of_last k at)
      ∙ and_swap (m && r && t && c) s b ∙ ap (λ z. z && s) (and_swap (m && r && t) c b ∙ ap (λ z. z && c) (and_swap (m && r) t b ∙ ap (λ z. z && t) (and_last m r b)))
      ∙ ap (λ z. m && z && t && c && s) (grown p.rows new more k b (at ∙ sym all) is none);
  of_before = λ k at. told.of_before k at ∙ ap (λ z. is_empty (get_or p.posted k []) && z && is_empty (get_or p.taken k []) && is_empty (get_or p.claimed k []) && is_empty (get_or p.sent k [])) (kept p.rows new more k (at ∙ sym all) is);
}

pub taken_told : (p : Lists) (new : List (List OnLink)) (more : List OnLink) (n : ℕ) (last before b : Bool) → length p.taken ≡ n → new ≡ on_last (λ (l : List OnLink). l ++ more) p.taken → b ≡ (length more == 0) → TellQuiet p n last before → TellQuiet (record p { taken = new }) n (last && b) before
taken_told p new more n last before b all is none told = record {
  of_last = λ k at.
      let m = is_empty (get_or p.posted k []) in
      let r = is_empty (get_or p.rows k []) in
      let t = is_empty (get_or p.taken k []) in
      let c = is_empty (get_or p.claimed k []) in
      let s = is_empty (get_or p.sent k []) in
      ap (λ z. z && b) (told.of_last k at)
      ∙ and_swap (m && r && t && c) s b ∙ ap (λ z. z && s) (and_swap (m && r && t) c b ∙ ap (λ z. z && c) (and_last (m && r) t b))
      ∙ ap (λ z. m && r && z && c && s) (grown p.taken new more k b (at ∙ sym all) is none);
  of_before = λ k at. told.of_before k at ∙ ap (λ z. is_empty (get_or p.posted k []) && is_empty (get_or p.rows k []) && z && is_empty (get_or p.claimed k []) && is_empty (get_or p.sent k [])) (kept p.taken new more k (at ∙ sym all) is);
}

pub claimed_told : (p : Lists) (new : List (List Task)) (more : List Task) (n : ℕ) (last before b : Bool) → length p.claimed ≡ n → new ≡ on_last (λ (l : List Task). l ++ more) p.claimed → b ≡ (length more == 0) → TellQuiet p n last before → TellQuiet (record p { claimed = new }) n (last && b) before
claimed_told p new more n last before b all is none told = record {
  of_last = λ k at.
      let m = is_empty (get_or p.posted k []) in
      let r = is_empty (get_or p.rows k []) in
      let t = is_empty (get_or p.taken k []) in
      let c = is_empty (get_or p.claimed k []) in
      let s = is_empty (get_or p.sent k []) in
      ap (λ z. z && b) (told.of_last k at)
      ∙ and_swap (m && r && t && c) s b ∙ ap (λ z. z && s) (and_last (m && r && t) c b)
      ∙ ap (λ z. m && r && t && z && s) (grown p.claimed new more k b (at ∙ sym all) is none);
  of_before = λ k at. told.of_before k at ∙ ap (λ z. is_empty (get_or p.posted k []) && is_empty (get_or p.rows k []) && is_empty (get_or p.taken k []) && z && is_empty (get_or p.sent k [])) (kept p.claimed new more k (at ∙ sym all) is);
}

pub sent_told : (p : Lists) (new : List (List OnLink)) (more : List OnLink) (n : ℕ) (last before b : Bool) → length p.sent ≡ n → new ≡ on_last (λ (l : List OnLink). l ++ more) p.sent → b ≡ (length more == 0) → TellQuiet p n last before → TellQuiet (record p { sent = new }) n (last && b) before
sent_told p new more n last before b all is none told = record {
  of_last = λ k at.
      let m = is_empty (get_or p.posted k []) in
      let r = is_empty (get_or p.rows k []) in
      let t = is_empty (get_or p.taken k []) in
      let c = is_empty (get_or p.claimed k []) in
      let s = is_empty (get_or p.sent k []) in
      ap (λ z. z && b) (told.of_last k at)
      ∙ and_last (m && r && t && c) s b
      ∙ ap (λ z. m && r && t && c && z) (grown p.sent new more k b (at ∙ sym all) is none);
  of_before = λ k at. told.of_before k at ∙ ap (λ z. is_empty (get_or p.posted k []) && is_empty (get_or p.rows k []) && is_empty (get_or p.taken k []) && is_empty (get_or p.claimed k []) && z) (kept p.sent new more k (at ∙ sym all) is);
}

-- one turn more
new_empty : {X : Type 0} (old new : List (List X)) (k n : ℕ) → length old ≡ n → k ≡ n → new ≡ old ++ [] ∷ [] → true ≡ is_empty (get_or new k [])
new_empty {X} old new k n all at is = sym (ap is_empty (ap (λ (ls : List (List X)). get_or ls k []) is ∙ get_more old k ∙ past old k (all ∙ sym at)))

old_empty : {X : Type 0} (old new : List (List X)) (k : ℕ) → new ≡ old ++ [] ∷ [] → is_empty (get_or old k []) ≡ is_empty (get_or new k [])
old_empty {X} old new k is = ap is_empty (sym (ap (λ (ls : List (List X)). get_or ls k []) is ∙ get_more old k))

pub begun_told : (p q : Lists) (n m : ℕ) (last before : Bool) → AreAll p n → IsBegun p q → m ≡ n + 1 → TellQuiet p n last before → TellQuiet q m true last
begun_told p q n m last before all is one told = record {
  of_last = λ k at.
      let same : k ≡ n = omega (arith, at, one) in
      all_five true true true true true
      (is_empty (get_or q.posted k [])) (is_empty (get_or q.rows k [])) (is_empty (get_or q.taken k [])) (is_empty (get_or q.claimed k [])) (is_empty (get_or q.sent k []))
      (new_empty p.posted q.posted k n all.posted same is.posted) (new_empty p.rows q.rows k n all.rows same is.rows) (new_empty p.taken q.taken k n all.taken same is.taken)
      (new_empty p.claimed q.claimed k n all.claimed same is.claimed) (new_empty p.sent q.sent k n all.sent same is.sent);
  of_before = λ k at.
      told.of_last k (omega (arith, at, one))
      ∙ all_five (is_empty (get_or p.posted k [])) (is_empty (get_or p.rows k [])) (is_empty (get_or p.taken k [])) (is_empty (get_or p.claimed k [])) (is_empty (get_or p.sent k []))
      (is_empty (get_or q.posted k [])) (is_empty (get_or q.rows k [])) (is_empty (get_or q.taken k [])) (is_empty (get_or q.claimed k [])) (is_empty (get_or q.sent k []))
      (old_empty p.posted q.posted k is.posted) (old_empty p.rows q.rows k is.rows) (old_empty p.taken q.taken k is.taken) (old_empty p.claimed q.claimed k is.claimed) (old_empty p.sent q.sent k is.sent);
}
