-- The ends that were taken.
use Rattle.std.proofs.Common.{◌≡◌, ℕ, ◌+◌, ◌<◌, ◌≤◌, Bool, true, false, List, [], ◌∷◌, Some, length, suc, get_or, refl, sym, ap, subst, ◌∙◌, arith, inl, inr, ⊎_elim, ◌⊎◌, eqb-true, eq-eqb}
use Rattle.std.specs.List.{cons_option, list_any}
use Rattle.std.specs.Prelude.{◌==◌, ◌&&◌, ◌||◌, ◌↔◌, slice_get}
use Rattle.std.proofs.lemmas.Bool.{cases_Bool, false≢true, eqb-false}
use Rattle.std.proofs.lemmas.Option.{get_or_from_slice_get, slice_get-get_or, slice_get_within}
use Rattle.pt_tags.specs.declared.message.Message.{Message}
use Rattle.pt_tags.specs.declared.message.Message.TheVariants.{Event, End}
use Rattle.pt_types.specs.declared.graph.Graph.{Graph}
use Rattle.pt_types.specs.declared.graph.Link.{Link}
use Rattle.pt_types.specs.declared.firing.OnLink.{OnLink}
use Rattle.pt_types.specs.Ports.{when}
use Rattle.pt_semantics.specs.Closing.{on_link}
use Rattle.pt_types.specs.Lookups.{platform_of}
use Rattle.pt_semantics.specs.Lists.{IsIn}
use Rattle.pt_turn.specs.Finished.{HaveEnded}
use Rattle.pt_turn.specs.TakenEnds.{MarksEnds, is_end, is_end_on}
use Rattle.pt_turn.proofs.Leaving.{on_own}

-- one message more
in_one : (b : Bool) (message : Message) (rest : List Message) (more : Bool) → (more ≡ true → IsIn End rest) → (is_end message && b || more) ≡ true → IsIn End (cons_option (when b (Some message)) rest)
in_one true End rest more ih h = inl refl
in_one true (Event t v) rest more ih h = inr (ih h)
in_one false End rest more ih h = ih h
in_one false (Event t v) rest more ih h = ih h

found_one : (b : Bool) (message : Message) (rest : List Message) (more : Bool) → (IsIn End rest → more ≡ true) → IsIn End (cons_option (when b (Some message)) rest) → (is_end message && b || more) ≡ true
found_one true End rest more ih h = refl
found_one true (Event t v) rest more ih h = ⊎_elim (λ (e : End ≡ Event t v). absurd (false≢true (sym (ap is_end e)))) ih h
found_one false End rest more ih h = ih h
found_one false (Event t v) rest more ih h = ih h

end_is_in : (l : ℕ) (xs : List OnLink) → list_any (is_end_on l) xs ≡ true → IsIn End (on_link l xs)
end_is_in l [] h = absurd (false≢true h)
end_is_in l (m ∷ xs) h = in_one (m.link == l) m.message (on_link l xs) (list_any (is_end_on l) xs) (end_is_in l xs) h

end_is_found : (l : ℕ) (xs : List OnLink) → IsIn End (on_link l xs) → list_any (is_end_on l) xs ≡ true
end_is_found l [] h = absurd h
end_is_found l (m ∷ xs) h = found_one (m.link == l) m.message (on_link l xs) (list_any (is_end_on l) xs) (end_is_found l xs) h

-- by these flags, End was taken on those of the first links that lead to platform i
abbrev pub HaveEndedBelow : ℕ → Graph → ℕ → List Bool → Type 0
HaveEndedBelow n g i ends = (k : ℕ) (link : Link) → k < n → slice_get g.links k ≡ Some link → platform_of g link.to ≡ i → get_or ends k false ≡ true

pub one_link_more : (n : ℕ) (g : Graph) (i : ℕ) (ends : List Bool) (d : Link) → HaveEndedBelow n g i ends → (platform_of g (get_or g.links n d).to ≡ i → get_or ends n false ≡ true) → HaveEndedBelow (n + 1) g i ends
one_link_more n g i ends d below one k link lt at home =
    ⊎_elim
    (λ (e : (k == n) ≡ true).
    let same : k ≡ n = eqb-true k n e in
    let here : get_or g.links n d ≡ link = sym (ap (λ j. get_or g.links j d) same) ∙ get_or_from_slice_get g.links k link d at in
    subst (λ j. get_or ends j false ≡ true) (sym same) (one (ap (λ (x : Link). platform_of g x.to) here ∙ home)))
    (λ (e : (k == n) ≡ false). below k link (lower k n lt (eqb-false k n e)) at home)
    (cases_Bool (k == n))
  where
    either : (k n : ℕ) → k < n + 1 → (k ≡ n) ⊎ (k < n)
    either k n lt = grind arith

    lower : (k n : ℕ) → k < n + 1 → (k ≡ n → ⊥) → k < n
    lower k n lt other = ⊎_elim (λ (e : k ≡ n). absurd (other e)) (λ (l : k < n). l) (either k n lt)

pub all_links : (n : ℕ) (g : Graph) (i : ℕ) (ends : List Bool) → length g.links ≤ n → HaveEndedBelow n g i ends → HaveEnded g i ends
all_links n g i ends le below l link at home = let within : l < length g.links = slice_get_within g.links l link at in below l link (omega (arith, within, le)) at home

pub not_ended : (n : ℕ) (g : Graph) (i : ℕ) (ends : List Bool) (d : Link) → n < length g.links → platform_of g (get_or g.links n d).to ≡ i → get_or ends n false ≡ false → HaveEnded g i ends → ⊥
not_ended n g i ends d lt home none all = false≢true (sym none ∙ all n (get_or g.links n d) (slice_get-get_or g.links n d lt) home)

-- the flags tell what was taken
pub flags_tell : (g : Graph) (i : ℕ) (ends : List Bool) (taken : List OnLink) → MarksEnds (length g.links) ends taken → HaveEnded g i ends ↔ ((l : ℕ) (link : Link) → slice_get g.links l ≡ Some link → platform_of g link.to ≡ i → IsIn End (on_link l taken))
flags_tell g i ends taken is = (
  λ all l link at home. end_is_in l taken (sym (is.flags l (slice_get_within g.links l link at)) ∙ all l link at home),
  λ all l link at home. is.flags l (slice_get_within g.links l link at) ∙ end_is_found l taken (all l link at home),
)

-- an outbox without messages on any link is empty
pub no_messages : (xs : List OnLink) → ((l : ℕ) → on_link l xs ≡ []) → xs ≡ []
no_messages [] h = refl
no_messages (m ∷ xs) h =
    let n : length (on_link m.link (m ∷ xs)) ≡ length (on_link m.link xs) + 1 = ap length (on_own m.link m xs (eq-eqb m.link m.link refl)) ∙ one_more (length (on_link m.link xs)) in
    let none : length (on_link m.link (m ∷ xs)) ≡ 0 = ap length (h m.link) in
    absurd (omega (arith, n, none))
  where
    one_more : (k : ℕ) → suc k ≡ k + 1
    one_more k = omega arith

pub no_members : (xs : List OnLink) → length xs ≡ 0 → xs ≡ []
no_members [] e = refl
no_members (m ∷ xs) e = absurd (omega (arith, e))
