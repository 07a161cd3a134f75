-- The flags of the links whose End was taken.
use Rattle.std.proofs.Common.{◌≡◌, ◌||◌, ◌<◌, ◌++◌, ℕ, suc, Bool, false, List, [], ◌∷◌, Some, length, get_or, replicate, refl, sym, ap, subst, ◌∙◌, append-nil, slice_get}
use Rattle.std.specs.List.{list_any}
use Rattle.std.proofs.lemmas.List.{get_or-replicate, length-replicate}
use Rattle.std.proofs.lemmas.List.Folds.{list_any-append}
use Rattle.std.proofs.lemmas.Option.{slice_get_within}
use Rattle.pt_types.specs.declared.graph.Graph.{Graph}
use Rattle.pt_types.specs.declared.firing.OnLink.{OnLink}
use Rattle.pt_semantics.specs.Kept.{kept_with}
use Rattle.pt_semantics.specs.Lists.{Each}
use Rattle.pt_semantics.specs.Turn.{Turn}
use Rattle.pt_history.specs.Turns.{fresh}
use Rattle.pt_turn.specs.Platforms.{messages_of}
use Rattle.pt_turn.specs.Steps.{IsFront}
use Rattle.pt_turn.specs.TakenEnds.{MarksEnds, is_end_on}
use Rattle.pt_turn.specs.Takes.Taken.{Arrive, Basis}
use Rattle.pt_turn.proofs.Coming.{each_front}
use Rattle.pt_turn.proofs.Turns.{messages_more}

pub none_marked : (n : ℕ) → MarksEnds n (replicate n false) []
none_marked n = record { len = length-replicate n false; flags = λ l lt. get_or-replicate n l false false lt }

all_are : {X : Type 0} (P : X → Type 0) (xs : List X) → ((k : ℕ) (x : X) → slice_get xs k ≡ Some x → P x) → Each P xs
all_are P [] h = tt
all_are P (x ∷ xs) h = (h 0 x refl, all_are P xs (λ k y at. h (suc k) y at))

-- there are flags for the links of the messages that a turn takes
pub are_flagged : (g : Graph) (w : Basis) (ends : List Bool) (before messages taken marked : List OnLink) (late : Bool) → Arrive g w messages → IsFront messages taken late → MarksEnds (length g.links) ends before → marked ≡ taken → Each (λ (m : OnLink). m.link < length ends) marked
are_flagged g w ends before messages taken marked late arrive front is same =
    let OnLinks : OnLink → Type 0 = λ m. m.link < length g.links in
    let all : Each OnLinks messages = all_are OnLinks messages (λ k m at. slice_get_within g.links m.link (arrive k m at).link (arrive k m at).at) in
    let own : Each OnLinks taken = each_front OnLinks taken front.rest (subst (Each OnLinks) front.front all) in
    subst (Each (λ (m : OnLink). m.link < length ends)) (sym same) (subst (λ n. Each (λ (m : OnLink). m.link < n) taken) (sym is.len) own)

-- more messages, whose ends were added
marks_more : (n : ℕ) (old new : List Bool) (before more : List OnLink) → MarksEnds n old before → length new ≡ length old → ((l : ℕ) → l < length old → get_or new l false ≡ (get_or old l false || list_any (is_end_on l) more)) → MarksEnds n new (before ++ more)
marks_more n old new before more is len flags = record {
  len = len ∙ is.len;
  flags = λ l lt.
      flags l (subst (λ k. l < k) (sym is.len) lt)
      ∙ ap (λ b. b || list_any (is_end_on l) more) (is.flags l lt)
      ∙ sym (list_any-append (is_end_on l) before more);
}

-- one turn more
pub marks_turn : (n : ℕ) (old new : List Bool) (before after : List Turn) (turn : Turn) (marked : List OnLink) → MarksEnds n old (messages_of before) → length new ≡ length old → ((l : ℕ) → l < length old → get_or new l false ≡ (get_or old l false || list_any (is_end_on l) marked)) → marked ≡ turn.taken → after ≡ kept_with before turn → MarksEnds n new (messages_of after)
marks_turn n old new before after turn marked is len flags same kept =
    subst (MarksEnds n new) (ap (λ ms. messages_of before ++ ms) same ∙ sym (messages_more before turn) ∙ sym (ap messages_of kept))
    (marks_more n old new (messages_of before) marked is len flags)

-- one turn more, which takes nothing
pub marks_rest : (n r : ℕ) (ends : List Bool) (before after : List Turn) → MarksEnds n ends (messages_of before) → after ≡ kept_with before (fresh r) → MarksEnds n ends (messages_of after)
marks_rest n r ends before after is kept = subst (MarksEnds n ends) (sym (ap messages_of kept ∙ messages_more before (fresh r) ∙ append-nil (messages_of before))) is
