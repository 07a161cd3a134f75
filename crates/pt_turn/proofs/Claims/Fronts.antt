-- The safe units that come first, one unit after another, and after a claim.
use Rattle.std.proofs.Common.{◌≡◌, ℕ, ◌+◌, ◌<◌, ◌≤◌, ◌==◌, ◌⊎◌, Bool, true, false, List, [], ◌∷◌, Option, Some, None, length, take, drop, refl, sym, ap, subst, ◌∙◌, inl, inr, ⊎_elim, eq-eqb, arith}
use Rattle.std.specs.List.{insert}
use Rattle.std.proofs.lemmas.Bool.{false≢true}
use Rattle.std.proofs.lemmas.List.{length-take}
use Rattle.std.proofs.lemmas.List.Edits.{length-insert}
use Rattle.pt_tags.specs.declared.tag.Tag.{Tag}
use Rattle.pt_types.specs.declared.firing.Task.{Task}
use Rattle.pt_types.specs.declared.graph.Graph.{Graph}
use Rattle.pt_types.specs.declared.graph.Unit.{Unit}
use Rattle.pt_semantics.specs.Lists.{Each, IsIn}
use Rattle.pt_semantics.specs.Meaning.{Values}
use Rattle.pt_semantics.specs.Platform.{State}
use Rattle.pt_semantics.specs.Safe.{IsSafe, NothingSafe}
use Rattle.pt_semantics.specs.Claiming.{NoLater, after_claim}
use Rattle.pt_semantics.specs.Units.{HasEvent}
use Rattle.pt_laws.proofs.Candidates.{claims_apart}
use Rattle.pt_semantics.proofs.Claiming.{event_found}
use Rattle.pt_semantics.proofs.Lookups.{Each-in, none_some}
use Rattle.pt_causality.specs.Delays.{IsUnit}
use Rattle.pt_turn.specs.declared.state.fields.Fields.{Fields}
use Rattle.pt_turn.specs.Fields.State.{IsSound, busy_in}
use Rattle.pt_queue.specs.Events.{waiting_in}
use Rattle.pt_queue.specs.declared.waiting.Waiting.{Waiting}
use Rattle.pt_turn.specs.Claims.Fronts.{AreAllAhead, AreFirst, AreFront, IsAhead, IsAmong, IsCutOff, IsInOrder, IsInserted, IsSafeUnit, IsTaken, IsNextSafe, StandsBefore, one_of}
use Rattle.pt_turn.proofs.Claims.Ordering.{ahead_or, ahead_past, ahead_trans, cut_off, each_drop, each_insert, each_map, each_take, in_drop, in_insert, itself_in, order_insert, order_take, some_behind, take_insert}
use Rattle.pt_turn.proofs.Claims.SafeTags.{same_tags}

-- a unit before the next group stands before this one, or is this one
this_or : (u : Unit) (a k : ℕ) → StandsBefore u a (k + 1) → StandsBefore u a k ⊎ (u ≡ record { actor = a; group = k })
this_or u a k h = ⊎_elim (λ (l : u.actor < a). inl (inl l))
    (λ (s : (u.actor ≡ a) × (u.group < k + 1)). ⊎_elim (λ (l : u.group < k). inl (inr (s.0, l))) (λ (e : u.group ≡ k). inr (same u a k s.0 e)) (last u.group k s.1)) h
  where
    last : (n m : ℕ) → n < m + 1 → (n < m) ⊎ (n ≡ m)
    last n m l = grind arith

    same : (u : Unit) (a k : ℕ) → u.actor ≡ a → u.group ≡ k → u ≡ record { actor = a; group = k }
    same u a k x y = λ i. record { actor = x i; group = y i }

stands_next : (u : Unit) (a k : ℕ) → StandsBefore u a k → StandsBefore u a (k + 1)
stands_next u a k h = ⊎_elim (λ (l : u.actor < a). inl l) (λ (s : (u.actor ≡ a) × (u.group < k)). inr (s.0, omega (arith, s.1))) h

-- one that stands before a group isn't the unit of that group
other_than : (u : Unit) (a k : ℕ) → StandsBefore u a k → u ≡ record { actor = a; group = k } → ⊥
other_than u a k h e =
    let x : u.actor ≡ a = ap (λ (z : Unit). z.actor) e in
    let y : u.group ≡ k = ap (λ (z : Unit). z.group) e in
    ⊎_elim (λ (l : u.actor < a). omega (arith, l, x)) (λ (s : (u.actor ≡ a) × (u.group < k)). omega (arith, s.1, y)) h

-- a unit is safe at one tag alone
pub one_tag : (g : Graph) (waits : Values) (busy : Unit → Option Task) (r : ℕ) (u v : Unit) (t w : Tag) → IsSafe g waits busy r u t → v ≡ u → IsSafe g waits busy r v w → w ≡ t
one_tag g waits busy r u v t w safe e other =
    let moved : IsSafe g waits busy r u w = subst (λ z. IsSafe g waits busy r z w) e other in
    same_tags w t (moved.least t safe.event) (safe.least w moved.event)

-- all that isn't ahead of a unit comes behind it
behind_it : (c : Waiting) (a k : ℕ) (cs : List Waiting) → c.unit ≡ record { actor = a; group = k } → Each (λ (d : Waiting). StandsBefore d.unit a k) cs → Each (λ (d : Waiting). IsAhead d c → ⊥) cs → Each (IsAhead c) cs
behind_it c a k [] is h n = tt
behind_it c a k (d ∷ cs) is h n = (
  ⊎_elim (λ (x : IsAhead c d). x) (λ (y : IsAhead d c). absurd (n.0 y)) (ahead_or c d (λ e. other_than d.unit a k h.0 (sym e ∙ is))),
  behind_it c a k cs is h.1 n.1,
)

either_place : (p : ℕ) → (p < 64) ⊎ (64 ≤ p)
either_place p = grind arith

kept_in : (cut : Option Waiting) (u : Unit) (t : Tag) (cs : List Waiting) → IsIn (record { unit = u; tag = t }) cs ⊎ AreAllAhead (record { unit = u; tag = t }) cs → IsAmong cut u t cs
kept_in cut u t cs h = ⊎_elim (λ (m : IsIn (record { unit = u; tag = t }) cs). inl m) (λ (full : AreAllAhead (record { unit = u; tag = t }) cs). inr (inl full)) h

-- a safe unit was put among those that come first
pub first_put : (cut : Option Waiting) (g : Graph) (waits : Values) (busy : Unit → Option Task) (r a k : ℕ) (tag : Tag) (old new : List Waiting) → AreFirst cut g waits busy r a k old → IsUnit g (record { actor = a; group = k }) → IsSafe g waits busy r (record { actor = a; group = k }) tag → (IsCutOff cut (record { unit = record { actor = a; group = k }; tag = tag }) → ⊥) →
    IsInserted (record { unit = record { actor = a; group = k }; tag = tag }) old new → AreFirst cut g waits busy r a (k + 1) new
first_put cut g waits busy r a k tag old new first unit safe on put = subst (AreFirst cut g waits busy r a (k + 1)) (sym put.is) (record {
  in_order = order_take 64 (insert old put.place c) order;
  safe = each_take (IsSafeUnit g waits busy r) 64 (insert old put.place c) (each_insert (IsSafeUnit g waits busy r) old put.place c first.safe (record { is_unit = unit; safe = safe }));
  stand = each_take (λ (d : Waiting). StandsBefore d.unit a (k + 1)) 64 (insert old put.place c) (each_insert (λ (d : Waiting). StandsBefore d.unit a (k + 1)) old put.place c (each_map (λ (d : Waiting). StandsBefore d.unit a k) (λ (d : Waiting). StandsBefore d.unit a (k + 1)) old (λ d h. stands_next d.unit a k h) first.stand) (inr (refl, omega arith)));
  within = each_take (λ (d : Waiting). IsCutOff cut d → ⊥) 64 (insert old put.place c) (each_insert (λ (d : Waiting). IsCutOff cut d → ⊥) old put.place c first.within on);
  among = λ u t own stands other. ⊎_elim
      (λ (b : StandsBefore u a k). ⊎_elim
      (λ (m : IsIn (record { unit = u; tag = t }) old). kept_in cut u t (take 64 (insert old put.place c)) (cut_off (record { unit = u; tag = t }) 64 (insert old put.place c) order (in_insert (record { unit = u; tag = t }) old put.place c m)))
      (λ (rest : AreAllAhead (record { unit = u; tag = t }) old ⊎ IsCutOff cut (record { unit = u; tag = t })). ⊎_elim
      (λ (full : AreAllAhead (record { unit = u; tag = t }) old). inr (inl (still_full full.0, still_ahead (record { unit = u; tag = t }) full.0 full.1)))
      (λ (off : IsCutOff cut (record { unit = u; tag = t })). inr (inr off))
      rest)
      (first.among u t own b other))
      (λ (e : u ≡ record { actor = a; group = k }).
      let at : t ≡ tag = one_tag g waits busy r (record { actor = a; group = k }) u tag t safe e other in
      subst (λ z. IsAmong cut z t (take 64 (insert old put.place c))) (sym e) (subst (λ z. IsAmong cut (record { actor = a; group = k }) z (take 64 (insert old put.place c))) (sym at)
      (kept_in cut (record { actor = a; group = k }) tag (take 64 (insert old put.place c)) (cut_off c 64 (insert old put.place c) order (itself_in old put.place c)))))
      (this_or u a k stands);
})
  where
    c : Waiting
    c = record { unit = record { actor = a; group = k }; tag = tag }

    behind : Each (IsAhead c) (drop put.place old)
    behind = behind_it c a k (drop put.place old) refl (each_drop (λ (d : Waiting). StandsBefore d.unit a k) put.place old first.stand) put.is_place.behind

    order : IsInOrder (insert old put.place c)
    order = order_insert old put.place c first.in_order put.is_place.before behind

    still_full : 64 ≤ length old → 64 ≤ length (take 64 (insert old put.place c))
    still_full l = let n = length-insert old put.place c put.is_place.within in omega (arith, l, n, length-take 64 (insert old put.place c))

    still_ahead : (x : Waiting) → 64 ≤ length old → Each (λ (d : Waiting). IsAhead d x) old → Each (λ (d : Waiting). IsAhead d x) (take 64 (insert old put.place c))
    still_ahead x l h = ⊎_elim
        (λ (p : put.place < 64).
        let next = some_behind put.place old (omega (arith, p, l)) in
        each_take (λ (d : Waiting). IsAhead d x) 64 (insert old put.place c) (each_insert (λ (d : Waiting). IsAhead d x) old put.place c h
        (ahead_trans c next.0 x (Each-in (IsAhead c) (drop put.place old) behind next.0 next.1) (Each-in (λ (d : Waiting). IsAhead d x) old h next.0 (in_drop next.0 put.place old next.1)))))
        (λ (p : 64 ≤ put.place). subst (Each (λ (d : Waiting). IsAhead d x)) (sym (take_insert old 64 put.place c p put.is_place.within)) (each_take (λ (d : Waiting). IsAhead d x) 64 old h))
        (either_place put.place)

-- a unit that isn't safe changes nothing
pub first_skip : (cut : Option Waiting) (g : Graph) (waits : Values) (busy : Unit → Option Task) (r a k : ℕ) (cs : List Waiting) → AreFirst cut g waits busy r a k cs → ((t : Tag) → IsSafe g waits busy r (record { actor = a; group = k }) t → ⊥) → AreFirst cut g waits busy r a (k + 1) cs
first_skip cut g waits busy r a k cs first none = record {
  in_order = first.in_order;
  safe = first.safe;
  stand = each_map (λ (d : Waiting). StandsBefore d.unit a k) (λ (d : Waiting). StandsBefore d.unit a (k + 1)) cs (λ d h. stands_next d.unit a k h) first.stand;
  within = first.within;
  among = λ u t own stands safe. ⊎_elim
      (λ (b : StandsBefore u a k). first.among u t own b safe)
      (λ (e : u ≡ record { actor = a; group = k }). absurd (none t (subst (λ z. IsSafe g waits busy r z t) e safe)))
      (this_or u a k stands);
}

-- a unit behind the first 64 changes nothing, safe or not
pub first_past : (cut : Option Waiting) (g : Graph) (waits : Values) (busy : Unit → Option Task) (r a k : ℕ) (tag : Tag) (cs : List Waiting) → AreFirst cut g waits busy r a k cs → AreAllAhead (record { unit = record { actor = a; group = k }; tag = tag }) cs
    → ((t : Tag) → IsSafe g waits busy r (record { actor = a; group = k }) t → t ≡ tag) → AreFirst cut g waits busy r a (k + 1) cs
first_past cut g waits busy r a k tag cs first ahead same = record {
  in_order = first.in_order;
  safe = first.safe;
  stand = each_map (λ (d : Waiting). StandsBefore d.unit a k) (λ (d : Waiting). StandsBefore d.unit a (k + 1)) cs (λ d h. stands_next d.unit a k h) first.stand;
  within = first.within;
  among = λ u t own stands safe. ⊎_elim
      (λ (b : StandsBefore u a k). first.among u t own b safe)
      (λ (e : u ≡ record { actor = a; group = k }).
      let at : t ≡ tag = same t (subst (λ z. IsSafe g waits busy r z t) e safe) in
      inr (inl (subst (λ (d : Waiting). AreAllAhead d cs) (λ i. record { unit = sym e i; tag = sym at i }) ahead)))
      (this_or u a k stands);
}

-- a unit that is cut off changes nothing, safe or not
pub first_cut : (cut : Option Waiting) (g : Graph) (waits : Values) (busy : Unit → Option Task) (r a k : ℕ) (tag : Tag) (cs : List Waiting) → AreFirst cut g waits busy r a k cs → IsCutOff cut (record { unit = record { actor = a; group = k }; tag = tag })
    → ((t : Tag) → IsSafe g waits busy r (record { actor = a; group = k }) t → t ≡ tag) → AreFirst cut g waits busy r a (k + 1) cs
first_cut cut g waits busy r a k tag cs first off same = record {
  in_order = first.in_order;
  safe = first.safe;
  stand = each_map (λ (d : Waiting). StandsBefore d.unit a k) (λ (d : Waiting). StandsBefore d.unit a (k + 1)) cs (λ d h. stands_next d.unit a k h) first.stand;
  within = first.within;
  among = λ u t own stands safe. ⊎_elim
      (λ (b : StandsBefore u a k). first.among u t own b safe)
      (λ (e : u ≡ record { actor = a; group = k }).
      let at : t ≡ tag = same t (subst (λ z. IsSafe g waits busy r z t) e safe) in
      inr (inr (subst (λ (d : Waiting). IsCutOff cut d) (λ i. record { unit = sym e i; tag = sym at i }) off)))
      (this_or u a k stands);
}

stands_or : (u : Unit) (a k : ℕ) → StandsBefore u a k ⊎ (StandsBefore u a k → ⊥)
stands_or u a k = ⊎_elim
    (λ (l : u.actor < a). inl (inl l))
    (λ (m : a ≤ u.actor). ⊎_elim
    (λ (e : u.actor ≡ a). ⊎_elim
    (λ (l : u.group < k). inl (inr (e, l)))
    (λ (n : k ≤ u.group). inr (λ h. ⊎_elim (λ (l : u.actor < a). omega (arith, l, m)) (λ (s : (u.actor ≡ a) × (u.group < k)). omega (arith, s.1, n)) h))
    (either u.group k))
    (λ (l : a < u.actor). inr (λ h. ⊎_elim (λ (x : u.actor < a). omega (arith, x, m)) (λ (s : (u.actor ≡ a) × (u.group < k)). omega (arith, s.0, l)) h))
    (same_or u.actor a m))
    (either u.actor a)
  where
    either : (m n : ℕ) → (m < n) ⊎ (n ≤ m)
    either m n = grind arith

    same_or : (m n : ℕ) → n ≤ m → (m ≡ n) ⊎ (n < m)
    same_or m n l = grind arith

-- units between two places, none of which is safe, are passed over
pub first_pass : (cut : Option Waiting) (g : Graph) (waits : Values) (busy : Unit → Option Task) (r a k b l : ℕ) (cs : List Waiting) → ((x : Unit) → StandsBefore x a k → StandsBefore x b l)
    → ((x : Unit) (t : Tag) → IsUnit g x → (StandsBefore x a k → ⊥) → StandsBefore x b l → IsSafe g waits busy r x t → ⊥) → AreFirst cut g waits busy r a k cs → AreFirst cut g waits busy r b l cs
first_pass cut g waits busy r a k b l cs on none first = record {
  in_order = first.in_order;
  safe = first.safe;
  stand = each_map (λ (d : Waiting). StandsBefore d.unit a k) (λ (d : Waiting). StandsBefore d.unit b l) cs (λ d h. on d.unit h) first.stand;
  within = first.within;
  among = λ u t own stands safe. ⊎_elim
      (λ (before : StandsBefore u a k). first.among u t own before safe)
      (λ (not : StandsBefore u a k → ⊥). absurd (none u t own not stands safe))
      (stands_or u a k);
}

-- at the end all units of the graph stand before
pub first_end : (cut : Option Waiting) (g : Graph) (waits : Values) (busy : Unit → Option Task) (r a k : ℕ) (cs : List Waiting) → ((x : Unit) (t : Tag) → IsUnit g x → (StandsBefore x a k → ⊥) → HasEvent g waits x t → ⊥) → AreFirst cut g waits busy r a k cs → AreFirst cut g waits busy r (length g.actors) 0 cs
first_end cut g waits busy r a k cs none first = record {
  in_order = first.in_order;
  safe = first.safe;
  stand = each_map (IsSafeUnit g waits busy r) (λ (d : Waiting). StandsBefore d.unit (length g.actors) 0) cs (λ d h. inl h.is_unit.0) first.safe;
  within = first.within;
  among = λ u t own stands safe. ⊎_elim
      (λ (before : StandsBefore u a k). first.among u t own before safe)
      (λ (not : StandsBefore u a k → ⊥). absurd (none u t own not safe.event))
      (stands_or u a k);
}

-- before the first actor there is none
pub first_none : (cut : Option Waiting) (g : Graph) (waits : Values) (busy : Unit → Option Task) (r : ℕ) (cs : List Waiting) → cs ≡ [] → AreFirst cut g waits busy r 0 0 cs
first_none cut g waits busy r cs is = subst (AreFirst cut g waits busy r 0 0) (sym is) (record {
  in_order = tt;
  safe = tt;
  stand = tt;
  within = tt;
  among = λ u t own stands safe. absurd (⊎_elim (λ (l : u.actor < 0). never u.actor l) (λ (s : (u.actor ≡ 0) × (u.group < 0)). never u.group s.1) stands);
})
  where
    never : (n : ℕ) → n < 0 → ⊥
    never n l = omega arith

-- what has an event is a unit of the graph
pub event_is_unit : (g : Graph) (f : Fields) (u : Unit) (t : Tag) → IsSound g f → HasEvent g (waiting_in f.queue.events) u t → IsUnit g u
event_is_unit g f u t sound event =
    let found = event_found g (waiting_in f.queue.events) u t event in
    subst (IsUnit g) found.unit (sound.at_units u.actor found.port t found.value found.waits_there)

-- all actors are done
pub front_found : (g : Graph) (f : Fields) (r : ℕ) (more : Bool) (cs : List Waiting) → IsSound g f → length cs ≤ 64 → more ≡ (length cs == 64) → AreFirst None g (waiting_in f.queue.events) (busy_in f.open_claims.items) r (length g.actors) 0 cs → AreFront g (waiting_in f.queue.events) (busy_in f.open_claims.items) r more cs
front_found g f r more cs sound few is first = record {
  in_order = first.in_order;
  safe = first.safe;
  others = λ u t safe.
      let unit = event_is_unit g f u t sound safe.event in
      ⊎_elim (λ (m : IsIn (record { unit = u; tag = t }) cs). inl m)
      (λ (rest : AreAllAhead (record { unit = u; tag = t }) cs ⊎ ⊥). ⊎_elim
      (λ (full : AreAllAhead (record { unit = u; tag = t }) cs). inr (is ∙ eq-eqb (length cs) 64 (omega (arith, full.0, few)), full.1))
      (λ (none : ⊥). absurd none)
      rest)
      (first.among u t unit (inl unit.0) safe);
}

-- what isn't cut off comes before what is
ahead_of_cut : (cut : Option Waiting) (x : Waiting) (cs : List Waiting) → IsCutOff cut x → Each (λ (c : Waiting). IsCutOff cut c → ⊥) cs → Each (λ (c : Waiting). IsAhead c x) cs
ahead_of_cut None x cs off h = absurd off
ahead_of_cut (Some cut) x [] off h = tt
ahead_of_cut (Some cut) x (c ∷ cs) off h = (ahead_past cut c x h.0 off, ahead_of_cut (Some cut) x cs off h.1)

-- all that isn't cut off was searched, so there may be more
pub front_cut : (cut : Option Waiting) (g : Graph) (f : Fields) (r : ℕ) (cs : List Waiting) → IsSound g f → AreFirst cut g (waiting_in f.queue.events) (busy_in f.open_claims.items) r (length g.actors) 0 cs → AreFront g (waiting_in f.queue.events) (busy_in f.open_claims.items) r true cs
front_cut cut g f r cs sound first = record {
  in_order = first.in_order;
  safe = first.safe;
  others = λ u t safe.
      let unit = event_is_unit g f u t sound safe.event in
      ⊎_elim (λ (m : IsIn (record { unit = u; tag = t }) cs). inl m)
      (λ (rest : AreAllAhead (record { unit = u; tag = t }) cs ⊎ IsCutOff cut (record { unit = u; tag = t })). ⊎_elim
      (λ (full : AreAllAhead (record { unit = u; tag = t }) cs). inr (refl, full.1))
      (λ (off : IsCutOff cut (record { unit = u; tag = t })). inr (refl, ahead_of_cut cut (record { unit = u; tag = t }) cs off first.within))
      rest)
      (first.among u t unit (inl unit.0) safe);
}

-- at most one unit was found
pub front_alone : (g : Graph) (f : Fields) (r : ℕ) (alone : Option Waiting) → IsSound g f → AreFirst None g (waiting_in f.queue.events) (busy_in f.open_claims.items) r (length g.actors) 0 (one_of alone) → AreFront g (waiting_in f.queue.events) (busy_in f.open_claims.items) r false (one_of alone)
front_alone g f r None sound first = front_found g f r false [] sound (omega arith) refl first
front_alone g f r (Some c) sound first = front_found g f r false (c ∷ []) sound (omega arith) refl first

-- the first safe unit is put before none
pub put_first : (alone : Option Waiting) (c : Waiting) → alone ≡ None → IsInserted c (one_of alone) (c ∷ [])
put_first None c h = record { place = 0; is_place = record { within = omega arith; before = tt; behind = tt }; is = refl }
put_first (Some d) c h = absurd (none_some d (sym h))

-- nothing was found yet
pub front_unknown : (g : Graph) (waits : Values) (busy : Unit → Option Task) (r : ℕ) (more : Bool) (cs : List Waiting) → cs ≡ [] → more ≡ true → AreFront g waits busy r more cs
front_unknown g waits busy r more cs empty is = subst (AreFront g waits busy r more) (sym empty) (record { in_order = tt; safe = tt; others = λ u t safe. inr (is, tt) })

-- all that is safe was taken
pub nothing_left : (g : Graph) (waits : Values) (busy : Unit → Option Task) (r : ℕ) (more : Bool) (cs : List Waiting) → AreFront g waits busy r more cs → cs ≡ [] → more ≡ false → NothingSafe g waits busy r
nothing_left g waits busy r more cs front empty none = λ u t safe. ⊎_elim
    (λ (m : IsIn (record { unit = u; tag = t }) cs). absurd (subst (IsIn (record { unit = u; tag = t })) empty m))
    (λ (k : (more ≡ true) × Each (λ (c : Waiting). IsAhead c (record { unit = u; tag = t })) cs). false≢true (sym none ∙ k.0))
    (front.others u t safe)

no_later : (c d : Waiting) → IsAhead c d → NoLater c.tag c.unit d.tag d.unit
no_later c d h = grind arith

later_refl : (t : Tag) (u : Unit) → NoLater t u t u
later_refl t u = (omega arith, λ x. (omega arith, λ y. (omega arith, λ z. omega arith)))

-- the first of a front comes before all other safe units
pub front_first : (g : Graph) (waits : Values) (busy : Unit → Option Task) (r : ℕ) (more : Bool) (c : Waiting) (left : List Waiting) → AreFront g waits busy r more (c ∷ left) → (u : Unit) (t : Tag) → IsSafe g waits busy r u t → NoLater c.tag c.unit t u
front_first g waits busy r more c left h u t safe = ⊎_elim
    (λ (m : IsIn (record { unit = u; tag = t }) (c ∷ left)). ⊎_elim
    (λ (e : record { unit = u; tag = t } ≡ c). subst (λ (d : Waiting). NoLater c.tag c.unit d.tag d.unit) (sym e) (later_refl c.tag c.unit))
    (λ (k : IsIn (record { unit = u; tag = t }) left). no_later c (record { unit = u; tag = t }) (Each-in (IsAhead c) left h.in_order.0 (record { unit = u; tag = t }) k)) m)
    (λ (k : (more ≡ true) × Each (λ (d : Waiting). IsAhead d (record { unit = u; tag = t })) (c ∷ left)). no_later c (record { unit = u; tag = t }) k.1.0)
    (h.others u t safe)

-- it is the next one to be claimed
pub taken_next : (g : Graph) (waits : Values) (busy : Unit → Option Task) (r : ℕ) (more : Bool) (left : List Waiting) (o : Option Waiting) → IsTaken g waits busy r more left o → IsNextSafe g waits busy r o
taken_next g waits busy r more left None h = h
taken_next g waits busy r more left (Some c) h = (h.safe.0.is_unit, h.safe.0.safe, λ u t safe. front_first g waits busy r more c left h u t safe)

not_same : (c d : Waiting) → IsAhead c d → d.tag ≡ c.tag → d.unit ≡ c.unit → ⊥
not_same c d h t u =
    let a : d.unit.actor ≡ c.unit.actor = ap (λ (x : Unit). x.actor) u in
    let b : d.unit.group ≡ c.unit.group = ap (λ (x : Unit). x.group) u in
    let e : d.tag.time ≡ c.tag.time = ap (λ (x : Tag). x.time) t in
    let f : d.tag.step ≡ c.tag.step = ap (λ (x : Tag). x.step) t in
    grind arith

-- a claim of the first leaves the others as they are
pub front_claimed : (g : Graph) (s : State) (r : ℕ) (more : Bool) (c : Waiting) (cs : List Waiting) (task : Task) → task.tag ≡ c.tag → AreFront g s.waits s.busy r more (c ∷ cs) → AreFront g (after_claim g s c.unit task).waits (after_claim g s c.unit task).busy r more cs
front_claimed g s r more c cs task at front = record {
  in_order = front.in_order.1;
  safe = keep cs front.in_order.0 front.safe.1;
  others = λ u t safe.
      let was = (claims_apart g s r c.unit u task t claimed).1 safe in
      ⊎_elim
      (λ (m : IsIn (record { unit = u; tag = t }) (c ∷ cs)). ⊎_elim
      (λ (e : record { unit = u; tag = t } ≡ c). absurd (was.1 (ap (λ (d : Waiting). d.unit) e)))
      (λ (k : IsIn (record { unit = u; tag = t }) cs). inl k) m)
      (λ (k : (more ≡ true) × Each (λ (d : Waiting). IsAhead d (record { unit = u; tag = t })) (c ∷ cs)). inr (k.0, k.1.1))
      (front.others u t was.0);
}
  where
    claimed : IsSafe g s.waits s.busy r c.unit task.tag
    claimed = subst (IsSafe g s.waits s.busy r c.unit) (sym at) front.safe.0.safe

    keep_one : (d : Waiting) → IsAhead c d → IsSafeUnit g s.waits s.busy r d → IsSafeUnit g (after_claim g s c.unit task).waits (after_claim g s c.unit task).busy r d
    keep_one d ahead own = record {
      is_unit = own.is_unit;
      safe = (claims_apart g s r c.unit d.unit task d.tag claimed).0 own.safe (λ e. not_same c d ahead (one_tag g s.waits s.busy r c.unit d.unit c.tag d.tag front.safe.0.safe e own.safe) e);
    }

    keep : (ds : List Waiting) → Each (IsAhead c) ds → Each (IsSafeUnit g s.waits s.busy r) ds → Each (IsSafeUnit g (after_claim g s c.unit task).waits (after_claim g s c.unit task).busy r) ds
    keep [] a h = tt
    keep (d ∷ ds) a h = (keep_one d a.0 h.0, keep ds a.1 h.1)
