-- The events of the tag that runs: the first of them, and what one more or an actor's fewer do.
use Rattle.std.proofs.Common.{◌≡◌, ◌≢◌, ℕ, zero, suc, ◌<◌, ◌≤◌, ◌==◌, ◌&&◌, ◌⊎◌, Bool, true, false, cond, nat_lt, not, List, [], ◌∷◌, Option, Some, None, IsSome, IfSome, IfNone, MatchOption, ℤ, length, slice_index_or, slice_set, refl, sym, ap, subst, ◌∙◌, ⊎_elim, arith}
use Rattle.std.proofs.lemmas.Bool.Decides.{nat_tests}
use Rattle.std.proofs.lemmas.Grind.{common_steps}
use Rattle.std.proofs.lemmas.List.{get_or_past, get_or-set_same, get_or-set_other, length-set}
use Rattle.std.specs.Option.{is_some}
use Rattle.std.specs.Ordering.{is_eq}
use Rattle.pt_tags.specs.declared.tag.Tag.{Tag}
use Rattle.pt_tags.specs.Tags.{same_tag}
use Rattle.pt_types.specs.Ports.{when, at_port, eight, nothing}
use Rattle.pt_semantics.specs.Firing.{any_present}
use Rattle.pt_semantics.specs.Meaning.{IsFirst, waiting, without}
use Rattle.pt_meaning.specs.declared.place.EventPlace.{EventPlace}
use Rattle.pt_meaning.specs.declared.order.Standing.{Standing}
use Rattle.pt_meaning.specs.Both.{IsUpTo}
use Rattle.pt_meaning.specs.Ready.{ports_at, IsFirstReady}
use Rattle.pt_meaning.specs.Current.{current_value, standing_at, position_at, is_standing_of, slate_value, IsCurrent, IsPositionOf, Slate, StandsUpTo}
use Rattle.pt_meaning.specs.ComesFirst.{with_port, ComesFirst}
use Rattle.pt_meaning.specs.Front.{Enters, is_place_of}
use Rattle.pt_meaning.specs.Waiting.{place_cmp, place_of, waits_in, IsPlaceIn, EventsArePlaced}
use Rattle.pt_meaning.proofs.Places.{one_place, same_self, enters_new}
use Rattle.pt_meaning.proofs.Taking.{its_place, at_eight, all_eight, waits_without}
use Rattle.pt_meaning.proofs.Parts.{any_at}

either : (n m : ℕ) → (n ≡ m) ⊎ (n ≢ m)
either n m = grind arith

below_or : (n m : ℕ) → (n < m) ⊎ (m ≤ n)
below_or n m = grind arith

-- tests
pub and_both : (b c : Bool) → (b && c) ≡ true → (b ≡ true) × (c ≡ true)
and_both true true h = (refl, refl)
and_both true false h = absurd cc
and_both false c h = absurd cc

pub not_false : (b : Bool) → not b ≡ false → b ≡ true
not_false true h = refl
not_false false h = absurd cc

pub not_true : (b : Bool) → not b ≡ true → b ≡ false
not_true true h = absurd cc
not_true false h = refl

pub less_then : (m n : ℕ) → nat_lt m n ≡ true → m < n
less_then m n h = grind (arith, nat_tests)

pub equal_then : (m n : ℕ) → (m == n) ≡ true → m ≡ n
equal_then m n h = grind (arith, nat_tests)

pub other_tag : (t u : Tag) → same_tag t u ≡ false → same_tag u t ≡ false
other_tag t u h = grind (arith, nat_tests, common_steps)

pub none_if : {X : Type 0} (x : Option X) → is_some x ≡ false → x ≡ None
none_if None h = refl
none_if (Some v) h = absurd cc

pub none_first : (P : Type 0) (Q : ℕ → Type 0) (r : Option ℕ) → is_some r ≡ false → MatchOption r P Q → P
none_first P Q None h all = all
none_first P Q (Some x) h all = absurd cc

pub none_placed : (held : EventPlace → Option ℤ) → ((q : EventPlace) → held q ≡ None) → (rank : ℕ → ℕ) (actors steps : ℕ) → EventsArePlaced rank actors steps held
none_placed held none rank actors steps q some = absurd (never (held q) (none q) some)
  where
    never : (x : Option ℤ) → x ≡ None → IsSome x → ⊥
    never None e h = cc
    never (Some v) e h = cc

pub nothing_waits : (rank : ℕ → ℕ) (held : EventPlace → Option ℤ) (a : ℕ) (t : Tag) → ((p : ℕ) → held (place_of rank a p t) ≡ None) → eight nothing ≡ waiting (waits_in rank held) a t
nothing_waits rank held a t none = sym (λ i. none 0 i ∷ none 1 i ∷ none 2 i ∷ none 3 i ∷ none 4 i ∷ none 5 i ∷ none 6 i ∷ none 7 i ∷ [])

none_at : (xs : List (Option ℤ)) (p : ℕ) → any_present xs ≡ false → slice_index_or xs p None ≡ None
none_at [] p h = refl
none_at (Some v ∷ xs) p h = absurd cc
none_at (None ∷ xs) zero h = refl
none_at (None ∷ xs) (suc p) h = none_at xs p h

some_at : (xs : List (Option ℤ)) → any_present xs ≡ true → (p : ℕ) × IsSome (slice_index_or xs p None)
some_at [] h = absurd cc
some_at (Some v ∷ xs) h = (zero, refl)
some_at (None ∷ xs) h = let rest = some_at xs h in (suc rest.0, rest.1)

when_none : (b : Bool) (x : Option ℤ) → x ≡ None → when b x ≡ None
when_none true x h = h
when_none false x h = refl

both_of : (b c : Bool) (x : Option ℤ) → IsSome (when (b && c) x) → (b ≡ true) × (c ≡ true) × IsSome x
both_of true true x h = (refl, refl, h)
both_of true false x h = absurd cc
both_of false c x h = absurd cc

same_tag_self : (t : Tag) → same_tag t t ≡ true
same_tag_self t = grind (arith, nat_tests, common_steps)

stands_self : (x : Standing) (t : Tag) (p : ℕ) → is_standing_of (record { tag = t; rank = x.rank; actor = x.actor; port = p }) x ≡ true
stands_self x t p = grind (arith, nat_tests, common_steps)

standing_is : (q : EventPlace) (x : Standing) → is_standing_of q x ≡ true → (x.rank ≡ q.rank) × (x.actor ≡ q.actor)
standing_is q x h = (grind (arith, nat_tests, common_steps), grind (arith, nat_tests, common_steps))

stands_then : (q : EventPlace) (x : Standing) → x.rank ≡ q.rank → x.actor ≡ q.actor → is_standing_of q x ≡ true
stands_then q x r a = grind (arith, nat_tests, common_steps)

pub tag_is : (t u : Tag) → same_tag t u ≡ true → t ≡ u
tag_is t u h =
    let time : t.time ≡ u.time = grind (arith, nat_tests, common_steps) in
    let step : t.step ≡ u.step = grind (arith, nat_tests, common_steps) in
    λ i. record { time = time i; step = step i }

up_to_by : (q : EventPlace) (t : Tag) (x y : Standing) → t ≡ q.tag → y.rank ≡ q.rank → y.actor ≡ q.actor → StandsUpTo x y → IsUpTo (record { tag = t; rank = x.rank; actor = x.actor; port = 0 }) q
up_to_by q t x y tag rank actor up =
    let time : t.time ≡ q.tag.time = ap (λ (u : Tag). u.time) tag in
    let step : t.step ≡ q.tag.step = ap (λ (u : Tag). u.step) tag in
    (omega (arith, time), λ h. (omega (arith, step), λ k. (omega (arith, rank, up.0), λ r. let low = up.1 (omega (arith, rank, r)) in omega (arith, actor, low))))

module _ (tag : Tag) (order : List Standing) (positions : List ℕ) (inputs : List (List (Option ℤ))) where
  at_position : (q : EventPlace) (k : ℕ) → position_at order positions q.actor ≡ k → same_tag tag q.tag ≡ true → is_standing_of q (standing_at order k) ≡ true → slate_value tag order positions inputs q ≡ at_port (ports_at inputs k) q.port
  at_position q k is t s =
      ap (λ i. when (same_tag tag q.tag && is_standing_of q (standing_at order i)) (at_port (ports_at inputs i) q.port)) is
      ∙ ap (λ b. when (b && is_standing_of q (standing_at order k)) (at_port (ports_at inputs k) q.port)) t
      ∙ ap (λ b. when b (at_port (ports_at inputs k) q.port)) s

  pub no_values : ((n : ℕ) → any_present (ports_at inputs n) ≡ false) → (q : EventPlace) → slate_value tag order positions inputs q ≡ None
  no_values none q =
      let i = position_at order positions q.actor in
      when_none (same_tag tag q.tag && is_standing_of q (standing_at order i)) (at_port (ports_at inputs i) q.port) (none_at (ports_at inputs i) q.port (none i))

  pub within : IsCurrent order positions inputs → (n : ℕ) → any_present (ports_at inputs n) ≡ true → n < length order
  within current n some = ⊎_elim
      (λ (l : n < length order). l)
      (λ (m : length order ≤ n). let same = current.same in let past = ap any_present (get_or_past inputs n [] (omega (arith, m, same))) in absurd (cc (past, some)))
      (below_or n (length order))

  pub leads : IsCurrent order positions inputs → (k : ℕ) → IsFirstReady inputs k → (x : Standing) → x ≡ standing_at order k → ComesFirst (slate_value tag order positions inputs) (record { tag = tag; rank = x.rank; actor = x.actor; port = 0 })
  leads current k ready x is =
      subst (λ (y : Standing). ComesFirst (slate_value tag order positions inputs) (record { tag = tag; rank = y.rank; actor = y.actor; port = 0 })) (sym is) (record {
        port = at.0;
        there = subst IsSome (sym (at_position (with_port here at.0) k (current.placed k ready.there) (same_tag_self tag) (stands_self (standing_at order k) tag at.0))) at.1;
        low = omega arith;
        first = first;
      })
    where
      at : (p : ℕ) × IsSome (slice_index_or (ports_at inputs k) p None)
      at = some_at (ports_at inputs k) ready.there

      here : EventPlace
      here = record { tag = tag; rank = (standing_at order k).rank; actor = (standing_at order k).actor; port = 0 }

      first : (q : EventPlace) → IsSome (slate_value tag order positions inputs q) → IsUpTo here q
      first q some =
          let i = position_at order positions q.actor in
          let parts = both_of (same_tag tag q.tag) (is_standing_of q (standing_at order i)) (at_port (ports_at inputs i) q.port) some in
          let present = any_at (ports_at inputs i) q.port parts.2 in
          let after : k ≤ i = ⊎_elim (λ (l : i < k). let none = ready.first i l in absurd (cc (none, present))) (λ (m : k ≤ i). m) (below_or i k) in
          let stands = standing_is q (standing_at order i) parts.1 in
          up_to_by q tag (standing_at order k) (standing_at order i) (tag_is tag q.tag parts.0) stands.0 stands.1 (current.rising k i after (within current i present))

  -- an event was put where none was
  module _ (place : EventPlace) (value : ℤ) (k : ℕ) (at : position_at order positions place.actor ≡ k) (stands : is_standing_of place (standing_at order k) ≡ true) (tagged : place.tag ≡ tag) (there : k < length inputs) where
    put_in : List (List (Option ℤ))
    put_in = slice_set inputs k (slice_set (ports_at inputs k) place.port (Some value))

    pub enters_at : place.port < length (ports_at inputs k) → at_port (ports_at inputs k) place.port ≡ None
        → Enters place value (slate_value tag order positions inputs) (slate_value tag order positions (slice_set inputs k (slice_set (ports_at inputs k) place.port (Some value))))
    enters_at port none = enters_new place value (slate_value tag order positions inputs) (slate_value tag order positions new)
        (at_position place k at same stands ∙ none) (λ q. by q (is_eq (place_cmp place q)) refl)
      where
        new : List (List (Option ℤ))
        new = slice_set inputs k (slice_set (ports_at inputs k) place.port (Some value))

        same : same_tag tag place.tag ≡ true
        same = subst (λ t. same_tag t place.tag ≡ true) tagged (same_tag_self place.tag)

        own : slate_value tag order positions new place ≡ Some value
        own =
            ap (λ i. when (same_tag tag place.tag && is_standing_of place (standing_at order i)) (at_port (ports_at new i) place.port)) at
            ∙ ap (λ b. when (b && is_standing_of place (standing_at order k)) (at_port (ports_at new k) place.port)) same
            ∙ ap (λ b. when b (at_port (ports_at new k) place.port)) stands
            ∙ ap (λ xs. at_port xs place.port) (get_or-set_same inputs k (slice_set (ports_at inputs k) place.port (Some value)) [] there)
            ∙ get_or-set_same (ports_at inputs k) place.port (Some value) None port

        elsewhere : (q : EventPlace) → is_eq (place_cmp place q) ≡ false → (t s : Bool) → same_tag tag q.tag ≡ t → is_standing_of q (standing_at order k) ≡ s
            → when (t && s) (at_port (ports_at new k) q.port) ≡ when (t && s) (at_port (ports_at inputs k) q.port)
        elsewhere q other true true t s =
            ap (λ xs. at_port xs q.port) (get_or-set_same inputs k (slice_set (ports_at inputs k) place.port (Some value)) [] there)
            ∙ get_or-set_other (ports_at inputs k) place.port q.port (Some value) None (λ e.
            let is = standing_is q (standing_at order k) s in
            let was = standing_is place (standing_at order k) stands in
            let u : tag ≡ q.tag = tag_is tag q.tag t in
            let one : place ≡ q = λ i. record { tag = (tagged ∙ u) i; rank = (sym was.0 ∙ is.0) i; actor = (sym was.1 ∙ is.1) i; port = sym e i } in
            let hit : is_eq (place_cmp place q) ≡ true = subst (λ z. is_eq (place_cmp place z) ≡ true) one (same_self place) in
            absurd (cc (hit, other)))
        elsewhere q other true false t s = refl
        elsewhere q other false s t u = refl

        by : (q : EventPlace) (b : Bool) → is_eq (place_cmp place q) ≡ b → slate_value tag order positions new q ≡ cond b (Some value) (slate_value tag order positions inputs q)
        by q true e = subst (λ z. slate_value tag order positions new z ≡ Some value) (one_place place q e) own
        by q false e = ⊎_elim
            (λ (hit : position_at order positions q.actor ≡ k).
            ap (λ i. when (same_tag tag q.tag && is_standing_of q (standing_at order i)) (at_port (ports_at new i) q.port)) hit
            ∙ elsewhere q e (same_tag tag q.tag) (is_standing_of q (standing_at order k)) refl refl
            ∙ sym (ap (λ i. when (same_tag tag q.tag && is_standing_of q (standing_at order i)) (at_port (ports_at inputs i) q.port)) hit))
            (λ (miss : position_at order positions q.actor ≢ k).
            ap (λ xs. when (same_tag tag q.tag && is_standing_of q (standing_at order (position_at order positions q.actor))) (at_port xs q.port))
            (get_or-set_other inputs k (position_at order positions q.actor) (slice_set (ports_at inputs k) place.port (Some value)) [] miss))
            (either (position_at order positions q.actor) k)

    pub stays_current : (ports : List (Option ℤ)) → IsCurrent order positions inputs → IsCurrent order positions (slice_set inputs k ports)
    stays_current ports current = record {
      rising = current.rising;
      same = length-set inputs k ports ∙ current.same;
      placed = λ n some. ⊎_elim
          (λ (e : n ≡ k). ap (λ m. position_at order positions (standing_at order m).actor) e ∙ ap (position_at order positions) (standing_is place (standing_at order k) stands).1 ∙ at ∙ sym e)
          (λ (ne : n ≢ k). current.placed n (sym (ap any_present (get_or-set_other inputs k n ports [] ne)) ∙ some))
          (either n k);
    }

  -- an actor without events of a tag
  pub nothing_tagged : (rank : ℕ → ℕ) (a : ℕ) (t : Tag) → same_tag tag t ≡ false → (p : ℕ) → slate_value tag order positions inputs (place_of rank a p t) ≡ None
  nothing_tagged rank a t other p =
      ap (λ b. when (b && is_standing_of (place_of rank a p t) (standing_at order (position_at order positions a))) (at_port (ports_at inputs (position_at order positions a)) p)) other

  pub nothing_placed : (rank : ℕ → ℕ) (a : ℕ) (t : Tag) → length inputs ≡ length order → (nat_lt (position_at order positions a) (length order) && (standing_at order (position_at order positions a)).actor == a) ≡ false
      → (p : ℕ) → slate_value tag order positions inputs (place_of rank a p t) ≡ None
  nothing_placed rank a t same other p = ⊎_elim
      (λ (l : position_at order positions a < length order).
      let not : is_standing_of (place_of rank a p t) (standing_at order (position_at order positions a)) ≡ false = grind (arith, nat_tests, common_steps) in
      ap (λ b. when (same_tag tag t && b) (at_port (ports_at inputs (position_at order positions a)) p)) not ∙ none_and (same_tag tag t) (at_port (ports_at inputs (position_at order positions a)) p))
      (λ (m : length order ≤ position_at order positions a).
      when_none (same_tag tag t && is_standing_of (place_of rank a p t) (standing_at order (position_at order positions a))) (at_port (ports_at inputs (position_at order positions a)) p)
      (ap (λ xs. at_port xs p) (get_or_past inputs (position_at order positions a) [] (omega (arith, m, same)))))
      (below_or (position_at order positions a) (length order))
    where
      none_and : (b : Bool) (x : Option ℤ) → when (b && false) x ≡ None
      none_and true x = refl
      none_and false x = refl

  -- an actor's events of the tag were taken
  module _ (k a : ℕ) (at : position_at order positions a ≡ k) (is : (standing_at order k).actor ≡ a) (there : k < length inputs) where
    pub value_here : (rank : ℕ → ℕ) (actors steps : ℕ) → EventsArePlaced rank actors steps (slate_value tag order positions inputs) → length (ports_at inputs k) ≡ 8
        → ports_at inputs k ≡ waiting (waits_in rank (slate_value tag order positions inputs)) a tag
    value_here rank actors steps sound len = all_eight (λ p. slate_value tag order positions inputs (place_of rank a p tag)) (ports_at inputs k) len (λ p low. at_one p (at_port (ports_at inputs k) p) refl)
      where
        at_one : (p : ℕ) (x : Option ℤ) → at_port (ports_at inputs k) p ≡ x → at_port (ports_at inputs k) p ≡ slate_value tag order positions inputs (place_of rank a p tag)
        at_one p None e = e ∙ sym (ap (λ i. when (same_tag tag tag && is_standing_of (place_of rank a p tag) (standing_at order i)) (at_port (ports_at inputs i) p)) at
            ∙ when_none (same_tag tag tag && is_standing_of (place_of rank a p tag) (standing_at order k)) (at_port (ports_at inputs k) p) e)
        at_one p (Some v) e =
            let q : EventPlace = record { tag = tag; rank = (standing_at order k).rank; actor = a; port = p } in
            let held = at_position q k at (same_tag_self tag) (stands_then q (standing_at order k) refl is) in
            let placed = sound q (subst IsSome (sym (held ∙ e)) refl) in
            sym (at_position (place_of rank a p tag) k at (same_tag_self tag) (stands_then (place_of rank a p tag) (standing_at order k) placed.rank_is is))

    gone : (q : EventPlace) → is_place_of tag a q ≡ false → slate_value tag order positions (slice_set inputs k (eight nothing)) q ≡ slate_value tag order positions inputs q
    gone q other = ⊎_elim
        (λ (hit : position_at order positions q.actor ≡ k).
        ap (λ i. when (same_tag tag q.tag && is_standing_of q (standing_at order i)) (at_port (ports_at (slice_set inputs k (eight nothing)) i) q.port)) hit
        ∙ by (same_tag tag q.tag) (is_standing_of q (standing_at order k)) refl refl
        ∙ sym (ap (λ i. when (same_tag tag q.tag && is_standing_of q (standing_at order i)) (at_port (ports_at inputs i) q.port)) hit))
        (λ (miss : position_at order positions q.actor ≢ k).
        ap (λ xs. when (same_tag tag q.tag && is_standing_of q (standing_at order (position_at order positions q.actor))) (at_port xs q.port))
        (get_or-set_other inputs k (position_at order positions q.actor) (eight nothing) [] miss))
        (either (position_at order positions q.actor) k)
      where
        by : (t s : Bool) → same_tag tag q.tag ≡ t → is_standing_of q (standing_at order k) ≡ s
            → when (t && s) (at_port (ports_at (slice_set inputs k (eight nothing)) k) q.port) ≡ when (t && s) (at_port (ports_at inputs k) q.port)
        by true true t s =
            let stands = standing_is q (standing_at order k) s in
            let own : q.actor ≡ a = sym stands.1 ∙ is in
            let hit : is_place_of tag a q ≡ true = grind (arith, nat_tests, common_steps) in
            absurd (cc (hit, other))
        by true false t s = refl
        by false s t u = refl

    none_more : (q : EventPlace) → position_at order positions q.actor ≡ k → slate_value tag order positions (slice_set inputs k (eight nothing)) q ≡ None
    none_more q hit =
        ap (λ i. when (same_tag tag q.tag && is_standing_of q (standing_at order i)) (at_port (ports_at (slice_set inputs k (eight nothing)) i) q.port)) hit
        ∙ when_none (same_tag tag q.tag && is_standing_of q (standing_at order k)) (at_port (ports_at (slice_set inputs k (eight nothing)) k) q.port)
        (ap (λ xs. at_port xs q.port) (get_or-set_same inputs k (eight nothing) [] there) ∙ none_at (eight nothing) q.port refl)

    pub waits_no_more : (rank : ℕ → ℕ) → waits_in rank (slate_value tag order positions (slice_set inputs k (eight nothing))) ≡ without (waits_in rank (slate_value tag order positions inputs)) a tag
    waits_no_more rank = waits_without rank tag a (slate_value tag order positions inputs) (slate_value tag order positions (slice_set inputs k (eight nothing))) gone (λ p. none_more (place_of rank a p tag) at)

    pub sound_still : (rank : ℕ → ℕ) (actors steps : ℕ) → EventsArePlaced rank actors steps (slate_value tag order positions inputs) → EventsArePlaced rank actors steps (slate_value tag order positions (slice_set inputs k (eight nothing)))
    sound_still rank actors steps sound q some = ⊎_elim
        (λ (hit : position_at order positions q.actor ≡ k). absurd (not_both (slate_value tag order positions (slice_set inputs k (eight nothing)) q) (none_more q hit) some))
        (λ (miss : position_at order positions q.actor ≢ k). sound q (subst IsSome
        (ap (λ xs. when (same_tag tag q.tag && is_standing_of q (standing_at order (position_at order positions q.actor))) (at_port xs q.port))
        (get_or-set_other inputs k (position_at order positions q.actor) (eight nothing) [] miss)) some))
        (either (position_at order positions q.actor) k)
      where
        not_both : (x : Option ℤ) → x ≡ None → IsSome x → ⊥
        not_both None e h = cc
        not_both (Some v) e h = cc

    pub taken_current : IsCurrent order positions inputs → IsCurrent order positions (slice_set inputs k (eight nothing))
    taken_current current = record {
      rising = current.rising;
      same = length-set inputs k (eight nothing) ∙ current.same;
      placed = λ n some. ⊎_elim
          (λ (e : n ≡ k). let none : any_present (ports_at (slice_set inputs k (eight nothing)) n) ≡ false = ap (λ m. any_present (ports_at (slice_set inputs k (eight nothing)) m)) e ∙ ap any_present (get_or-set_same inputs k (eight nothing) [] there) in absurd (cc (none, some)))
          (λ (ne : n ≢ k). current.placed n (sym (ap any_present (get_or-set_other inputs k n (eight nothing) [] ne)) ∙ some))
          (either n k);
    }

-- an actor's events were taken from its position: `s` are the events from inside, and `now` as contracts see them
module _ (s now : Slate) (same : s ≡ now) (t : Tag) (a k : ℕ) (is : IsPositionOf now t a k) (rank : ℕ → ℕ) (actors steps : ℕ) (sound : EventsArePlaced rank actors steps (current_value now)) where
  here : IsPositionOf s t a k
  here = subst (λ (x : Slate). IsPositionOf x t a k) (sym same) is

  placed : EventsArePlaced rank actors steps (current_value s)
  placed = subst (λ (x : Slate). EventsArePlaced rank actors steps (current_value x)) (sym same) sound

  pub taken_values : length (ports_at s.inputs k) ≡ 8 → ports_at s.inputs k ≡ waiting (waits_in rank (current_value now)) a t
  taken_values len =
      subst (λ (x : Slate). ports_at s.inputs k ≡ waiting (waits_in rank (current_value x)) a t) same
      (subst (λ u. ports_at s.inputs k ≡ waiting (waits_in rank (current_value s)) a u) here.tag_is
      (value_here s.tag s.order s.positions s.inputs k a here.at here.actor_is here.there rank actors steps placed len))

  pub taken_waits : (new : List (List (Option ℤ))) → new ≡ slice_set s.inputs k (eight nothing) → waits_in rank (slate_value s.tag s.order s.positions new) ≡ without (waits_in rank (current_value now)) a t
  taken_waits new cleared =
      ap (λ xs. waits_in rank (slate_value s.tag s.order s.positions xs)) cleared
      ∙ subst (λ (x : Slate). waits_in rank (slate_value s.tag s.order s.positions (slice_set s.inputs k (eight nothing))) ≡ without (waits_in rank (current_value x)) a t) same
      (subst (λ u. waits_in rank (slate_value s.tag s.order s.positions (slice_set s.inputs k (eight nothing))) ≡ without (waits_in rank (current_value s)) a u) here.tag_is
      (waits_no_more s.tag s.order s.positions s.inputs k a here.at here.actor_is here.there rank))

  pub taken_sound : (new : List (List (Option ℤ))) → new ≡ slice_set s.inputs k (eight nothing) → EventsArePlaced rank actors steps (slate_value s.tag s.order s.positions new)
  taken_sound new cleared = subst (λ xs. EventsArePlaced rank actors steps (slate_value s.tag s.order s.positions xs)) (sym cleared)
      (sound_still s.tag s.order s.positions s.inputs k a here.at here.actor_is here.there rank actors steps placed)

-- the actor that leads
module _ (held : EventPlace → Option ℤ) where
  pub leads_some : {Q : EventPlace → Type 0} (r : Option EventPlace) → MatchOption r ((q : EventPlace) → held q ≡ None) (ComesFirst held) → ((x : EventPlace) → ComesFirst held x → Q x) → IfSome r Q
  leads_some None h to = tt
  leads_some (Some x) h to = to x h

  pub leads_none : {Q : Type 0} (r : Option EventPlace) → MatchOption r ((q : EventPlace) → held q ≡ None) (ComesFirst held) → (((q : EventPlace) → held q ≡ None) → Q) → IfNone r Q
  leads_none None h to = to h
  leads_none (Some x) h to = tt

  module _ (rank : ℕ → ℕ) (actors steps : ℕ) (x : EventPlace) (lead : ComesFirst held x) (sound : EventsArePlaced rank actors steps held) where
    pub leads_first : IsFirst rank (waits_in rank held) x.actor x.tag
    leads_first b p u v is =
        let up = lead.first (place_of rank b p u) (subst IsSome (sym is) refl) in
        let here = sound (with_port x lead.port) lead.there in
        (up.0, λ t. let after = up.1 t in (after.0, λ s. let later = after.1 s in rw (← here.rank_is) later))

    pub leads_present : any_present (waiting (waits_in rank held) x.actor x.tag) ≡ true
    leads_present =
        let here = sound (with_port x lead.port) lead.there in
        let stands : with_port x lead.port ≡ place_of rank x.actor lead.port x.tag = its_place rank (with_port x lead.port) x.actor lead.port x.tag here.rank_is refl refl refl in
        let there : IsSome (waits_in rank held x.actor lead.port x.tag) = subst (λ z. IsSome (held z)) stands lead.there in
        any_at (waiting (waits_in rank held) x.actor x.tag) lead.port
        (subst IsSome (sym (at_eight (λ p. waits_in rank held x.actor p x.tag) lead.port here.port)) there)

    pub leads_within : IsPlaceIn rank actors steps x
    leads_within =
        let here = sound (with_port x lead.port) lead.there in
        let low = lead.low in
        let port : lead.port < 8 = here.port in
        record { rank_is = here.rank_is; actor = here.actor; port = omega (arith, low, port); step = here.step }
