-- One firing more, and the firing of a number.
use Rattle.std.proofs.Common.{◌≡◌, ℕ, zero, suc, ◌+◌, ◌-◌, ◌<◌, ◌≤◌, Some, None, Option, ℤ, List, [], ◌∷◌, ◌++◌, refl, sym, ap, ap₂, ◌∙◌, arith, length, take, drop, slice_index_or, slice_get, option_map, ◌⊎◌, inl, inr}
use Rattle.std.proofs.lemmas.List.{take-append-le, drop-append-le, drop_at, length-append, length-drop, get_or_append_left, get_or_default, take_all}
use Rattle.std.proofs.lemmas.Bool.{cases_lt}
use Rattle.pt_tags.specs.declared.tag.Tag.{Tag}
use Rattle.pt_types.specs.declared.firing.ActorFiring.{ActorFiring}
use Rattle.pt_meaning.specs.declared.firings.FiringEntry.{FiringEntry}
use Rattle.pt_meaning.specs.Flat.{cells_of_firing, with_cells, firing_from, empty_cells, no_tag, cell_numbers_from, cell_values, StandsAt}
use Rattle.pt_meaning.specs.Marks.{firing_of_mark, firings_from, values_start_at, end_from, MarksAreWithin, MarksFit}
use Rattle.pt_meaning.proofs.Filling.{same_firing, same_many}

-- what lies between two places stays as it is when more is appended
between : {X : Type 0} (start last : ℕ) (xs more : List X) → last ≤ length xs → take (last - start) (drop start (xs ++ more)) ≡ take (last - start) (drop start xs)
between start last xs more h = by (cases_lt start (length xs))
  where
    by : (start < length xs) ⊎ (length xs ≤ start) → take (last - start) (drop start (xs ++ more)) ≡ take (last - start) (drop start xs)
    by (inl low) = ap (take (last - start)) (drop-append-le start xs more (omega (arith, low))) ∙ take-append-le (last - start) (drop start xs) more (simp length-drop (omega (arith, h)))
    by (inr high) = let none : last - start ≡ 0 = omega (arith, h, high) in rw none refl

one_stays : (tags more_tags : List Tag) (places more_places : List ℕ) (values more_values : List ℤ) (start : ℕ) (m : FiringEntry) → m.moment < length tags → m.end ≤ length places → m.end ≤ length values
    → firing_of_mark (tags ++ more_tags) (places ++ more_places) (values ++ more_values) start m ≡ firing_of_mark tags places values start m
one_stays tags more_tags places more_places values more_values start m moment p v = λ i.
    firing_from m.actor (get_or_append_left tags more_tags no_tag m.moment moment i) (with_cells empty_cells (between start m.end places more_places p i) (between start m.end values more_values v i))

pub all_stay : (tags more_tags : List Tag) (places more_places : List ℕ) (values more_values : List ℤ) (start : ℕ) (marks : List FiringEntry) → MarksAreWithin (length tags) (length places) marks → length places ≡ length values
    → firings_from (tags ++ more_tags) (places ++ more_places) (values ++ more_values) start marks ≡ firings_from tags places values start marks
all_stay tags more_tags places more_places values more_values start [] within same = refl
all_stay tags more_tags places more_places values more_values start (m ∷ marks) within same =
    ap₂ (λ x xs. x ∷ xs) (one_stays tags more_tags places more_places values more_values start m within.0 within.1 (omega (arith, within.1, same)))
    (all_stay tags more_tags places more_places values more_values m.end marks within.2 same)

pub one_more : (tags : List Tag) (places : List ℕ) (values : List ℤ) (start : ℕ) (marks : List FiringEntry) (m : FiringEntry)
    → firings_from tags places values start (marks ++ m ∷ []) ≡ firings_from tags places values start marks ++ firing_of_mark tags places values (end_from start marks) m ∷ []
one_more tags places values start [] m = refl
one_more tags places values start (k ∷ marks) m = ap (λ xs. firing_of_mark tags places values start k ∷ xs) (one_more tags places values k.end marks m)

end_more : (start : ℕ) (marks : List FiringEntry) (m : FiringEntry) → end_from start (marks ++ m ∷ []) ≡ m.end
end_more start [] m = refl
end_more start (k ∷ marks) m = end_more k.end marks m

within_more : (tags n more_tags k : ℕ) (marks : List FiringEntry) (m : FiringEntry) → tags ≤ more_tags → n ≤ k → m.moment < more_tags → m.end ≤ k → MarksAreWithin tags n marks → MarksAreWithin more_tags k (marks ++ m ∷ [])
within_more tags n more_tags k [] m t p a b within = (a, b, tt)
within_more tags n more_tags k (x ∷ marks) m t p a b within = (omega (arith, within.0, t), omega (arith, within.1, p), within_more tags n more_tags k marks m t p a b within.2)

-- what was appended, and nothing before it
appended : {X : Type 0} (xs more : List X) (start last : ℕ) → start ≡ length xs → last ≡ length (xs ++ more) → take (last - start) (drop start (xs ++ more)) ≡ more
appended xs more start last s l =
    ap (take (last - start)) (drop_at xs more start (sym s)) ∙ take_all (last - start) more (omega (arith, s, l, length-append xs more))

-- a firing joins the list
pub joins : (tags new_tags : List Tag) (places : List ℕ) (values : List ℤ) (marks : List FiringEntry) (m : FiringEntry) (x : ActorFiring) → MarksFit tags places values marks
    → length x.inputs ≡ 8 → length x.outputs ≡ 8 → m.actor ≡ x.actor → StandsAt m.moment x.tag tags new_tags
    → m.end ≡ length (places ++ cell_numbers_from 0 (cells_of_firing x))
    → firings_from new_tags (places ++ cell_numbers_from 0 (cells_of_firing x)) (values ++ cell_values (cells_of_firing x)) 0 (marks ++ m ∷ []) ≡ firings_from tags places values 0 marks ++ x ∷ []
joins tags new_tags places values marks m x whole inputs outputs actor stands last =
    one_more new_tags (places ++ cell_numbers_from 0 (cells_of_firing x)) (values ++ cell_values (cells_of_firing x)) 0 marks m
    ∙ ap₂ (λ xs y. xs ++ y ∷ [])
    (ap (λ ts. firings_from ts (places ++ cell_numbers_from 0 (cells_of_firing x)) (values ++ cell_values (cells_of_firing x)) 0 marks) stands.grows
    ∙ all_stay tags stands.more places (cell_numbers_from 0 (cells_of_firing x)) values (cell_values (cells_of_firing x)) 0 marks whole.within whole.same)
    ((λ i. firing_from (actor i) (stands.is i) (with_cells empty_cells (new_places i) (new_values i))) ∙ same_firing x inputs outputs)
  where
    new_places : take (m.end - end_from 0 marks) (drop (end_from 0 marks) (places ++ cell_numbers_from 0 (cells_of_firing x))) ≡ cell_numbers_from 0 (cells_of_firing x)
    new_places = appended places (cell_numbers_from 0 (cells_of_firing x)) (end_from 0 marks) m.end whole.last last

    new_values : take (m.end - end_from 0 marks) (drop (end_from 0 marks) (values ++ cell_values (cells_of_firing x))) ≡ cell_values (cells_of_firing x)
    new_values = appended values (cell_values (cells_of_firing x)) (end_from 0 marks) m.end (whole.last ∙ whole.same)
        (last ∙ length-append places (cell_numbers_from 0 (cells_of_firing x)) ∙ ap₂ (λ a b. a + b) whole.same (same_many 0 (cells_of_firing x)) ∙ sym (length-append values (cell_values (cells_of_firing x))))

pub stays_whole : (tags new_tags : List Tag) (places : List ℕ) (values : List ℤ) (marks : List FiringEntry) (m : FiringEntry) (x : ActorFiring) → MarksFit tags places values marks
    → StandsAt m.moment x.tag tags new_tags → m.end ≡ length (places ++ cell_numbers_from 0 (cells_of_firing x))
    → MarksFit new_tags (places ++ cell_numbers_from 0 (cells_of_firing x)) (values ++ cell_values (cells_of_firing x)) (marks ++ m ∷ [])
stays_whole tags new_tags places values marks m x whole stands last = record {
  within = within_more (length tags) (length places) (length new_tags) (length (places ++ cell_numbers_from 0 (cells_of_firing x))) marks m
      (omega (arith, ap length stands.grows, length-append tags stands.more)) (omega (arith, length-append places (cell_numbers_from 0 (cells_of_firing x)))) stands.within (omega (arith, last)) whole.within;
  same = length-append places (cell_numbers_from 0 (cells_of_firing x)) ∙ ap₂ (λ a b. a + b) whole.same (same_many 0 (cells_of_firing x)) ∙ sym (length-append values (cell_values (cells_of_firing x)));
  last = end_more 0 marks m ∙ last;
}

pub length_firings : (tags : List Tag) (places : List ℕ) (values : List ℤ) (start : ℕ) (marks : List FiringEntry) → length (firings_from tags places values start marks) ≡ length marks
length_firings tags places values start [] = refl
length_firings tags places values start (m ∷ marks) = ap suc (length_firings tags places values m.end marks)

-- the firing of a number is that of its mark
pub get_at : (tags : List Tag) (places : List ℕ) (values : List ℤ) (start : ℕ) (marks : List FiringEntry) (i : ℕ) (d : FiringEntry) → i < length marks
    → slice_get (firings_from tags places values start marks) i ≡ Some (firing_of_mark tags places values (values_start_at start marks i) (slice_index_or marks i d))
get_at tags places values start [] i d h = absurd (omega arith)
get_at tags places values start (m ∷ marks) zero d h = refl
get_at tags places values start (m ∷ marks) (suc i) d h = get_at tags places values m.end marks i d (omega arith)

pub get_past : (tags : List Tag) (places : List ℕ) (values : List ℤ) (start : ℕ) (marks : List FiringEntry) (i : ℕ) → length marks ≤ i → slice_get (firings_from tags places values start marks) i ≡ None
get_past tags places values start [] i h = refl
get_past tags places values start (m ∷ marks) zero h = absurd (omega arith)
get_past tags places values start (m ∷ marks) (suc i) h = get_past tags places values m.end marks i (omega arith)

pub within_at : (tags n : ℕ) (marks : List FiringEntry) (i : ℕ) (d : FiringEntry) → i < length marks → MarksAreWithin tags n marks → (slice_index_or marks i d).end ≤ n
within_at tags n [] i d h within = absurd (omega arith)
within_at tags n (m ∷ marks) zero d h within = within.1
within_at tags n (m ∷ marks) (suc i) d h within = within_at tags n marks i d (omega arith) within.2

pub start_is : (start : ℕ) (marks : List FiringEntry) (k : ℕ) (d : FiringEntry) → k < length marks → values_start_at start marks (suc k) ≡ (slice_index_or marks k d).end
start_is start [] k d h = absurd (omega arith)
start_is start (m ∷ marks) zero d h = refl
start_is start (m ∷ marks) (suc k) d h = start_is m.end marks k d (omega arith)

pub start_past : (start : ℕ) (marks : List FiringEntry) (k : ℕ) → length marks ≤ k → values_start_at start marks (suc k) ≡ 0
start_past start [] k h = refl
start_past start (m ∷ marks) zero h = absurd (omega arith)
start_past start (m ∷ marks) (suc k) h = start_past m.end marks k (omega arith)

abbrev pub no_mark : FiringEntry
no_mark = record { actor = 0; moment = 0; end = 0 }

-- what is read at a mark is the firing of its number
pub read_at : (tags : List Tag) (places : List ℕ) (values : List ℤ) (marks : List FiringEntry) (i : ℕ) (mark : FiringEntry) (start : ℕ) (tag : Tag) (cells : List (Option ℤ)) (x : ActorFiring) → i < length marks
    → mark ≡ slice_index_or marks i mark → start ≡ values_start_at 0 marks i → tag ≡ slice_index_or tags mark.moment no_tag
    → cells ≡ with_cells empty_cells (take (mark.end - start) (drop start places)) (take (mark.end - start) (drop start values)) → x ≡ firing_from mark.actor tag cells
    → Some x ≡ slice_get (firings_from tags places values 0 marks) i
read_at tags places values marks i mark start tag cells x h mark_is start_is tag_is cells_are is =
    ap Some (is
    ∙ ap₂ (firing_from mark.actor) tag_is (cells_are ∙ ap (λ s. with_cells empty_cells (take (mark.end - s) (drop s places)) (take (mark.end - s) (drop s values))) start_is)
    ∙ ap (firing_of_mark tags places values (values_start_at 0 marks i)) (mark_is ∙ get_or_default marks i mark no_mark h))
    ∙ sym (get_at tags places values 0 marks i no_mark h)

pub actor_at : (tags : List Tag) (places : List ℕ) (values : List ℤ) (marks : List FiringEntry) (i : ℕ) (mark : FiringEntry) → i < length marks → mark ≡ slice_index_or marks i mark
    → Some mark.actor ≡ option_map (λ (x : ActorFiring). x.actor) (slice_get (firings_from tags places values 0 marks) i)
actor_at tags places values marks i mark h mark_is =
    ap (λ (m : FiringEntry). Some m.actor) (mark_is ∙ get_or_default marks i mark no_mark h)
    ∙ sym (ap (option_map (λ (x : ActorFiring). x.actor)) (get_at tags places values 0 marks i no_mark h))
