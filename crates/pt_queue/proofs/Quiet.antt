-- Where no event waits.
use Rattle.std.proofs.Common.{◌≡◌, ℕ, ◌+◌, ◌*◌, ◌==◌, ◌&&◌, ◌||◌, ◌++◌, Bool, true, false, Some, List, [], ◌∷◌, None, ℤ, length, refl, sym, ap, ◌∙◌, eqb-true, arith}
use Rattle.std.specs.List.{list_any}
use Rattle.std.proofs.lemmas.Bool.{false≢true}
use Rattle.pt_tags.specs.declared.tag.Tag.{Tag}
use Rattle.pt_tags.specs.Tags.{same_tag}
use Rattle.pt_types.specs.declared.firing.Event.{Event}
use Rattle.pt_types.specs.declared.graph.Unit.{Unit}
use Rattle.pt_types.specs.Ports.{when}
use Rattle.pt_semantics.specs.Lists.{Each, or_else}
use Rattle.pt_semantics.proofs.Lookups.{when_none}
use Rattle.pt_queue.specs.declared.groups.Groups.{Groups}
use Rattle.pt_queue.specs.Groups.{group_in}
use Rattle.pt_queue.specs.Events.{waiting_in}
use Rattle.pt_queue.specs.Lines.{AreInLines, all_of, line_at}
use Rattle.pt_queue.specs.Scans.{is_for, is_of}
use Rattle.pt_queue.proofs.Flat.{lines_wait, waiting_append}

pub no_events : (xs : List Event) → (length xs == 0) ≡ true → xs ≡ []
no_events [] h = refl
no_events (x ∷ xs) h = let none : length (x ∷ xs) ≡ 0 = eqb-true (length (x ∷ xs)) 0 h in absurd (omega (arith, none))

neither : (a b : Bool) → (a || b) ≡ false → (a ≡ false) × (b ≡ false)
neither true b h = absurd (false≢true (sym h))
neither false b h = (refl, h)

-- where no event waits at an actor, none waits at its inputs
pub none_waits : (a p : ℕ) (t : Tag) (xs : List Event) → list_any (is_for a) xs ≡ false → waiting_in xs a p t ≡ None
none_waits a p t [] h = refl
none_waits a p t (x ∷ xs) h =
    let parts = neither (is_for a x) (list_any (is_for a) xs) h in
    ap (λ b. or_else (when (b && x.port == p && same_tag x.tag t) (Some x.value)) (waiting_in xs a p t)) parts.0 ∙ none_waits a p t xs parts.1

-- nor for its units
pub none_for : (table : List Groups) (u : Unit) (xs : List Event) → list_any (is_for u.actor) xs ≡ false → Each (λ (e : Event). is_of table u e ≡ false) xs
none_for table u [] h = tt
none_for table u (x ∷ xs) h =
    let parts = neither (is_for u.actor x) (list_any (is_for u.actor) xs) h in
    (ap (λ b. b && group_in table x.actor x.port == u.group) parts.0, none_for table u xs parts.1)

-- an input has no value where its line has no events and no loose one waits there
pub no_value : (table : List Groups) (lines : List (List Event)) (loose : List Event) (a p : ℕ) (t : Tag) (b : Bool) → AreInLines table lines → line_at lines (8 * a + p) ≡ [] → waiting_in loose a p t ≡ None → None ≡ when b (waiting_in (all_of lines ++ loose) a p t)
no_value table lines loose a p t b h line none = sym (
    ap (when b) (
    waiting_append (all_of lines) loose a p t
    ∙ ap (or_else (waiting_in (all_of lines) a p t)) none
    ∙ ap (λ o. or_else o None) (lines_wait table lines a p t h ∙ ap (λ xs. waiting_in xs a p t) line))
    ∙ when_none ℤ b)
