-- What is put on a link within the stated bounds arrives in time, and clocks within their errors are near one another.
use Rattle.std.proofs.Common.{◌≡◌, ℕ, zero, suc, ◌<◌, ◌≤◌, ◌+◌, ◌-◌, List, [], ◌∷◌, ◌++◌, ℤ, drop, length, max, slice_index_or, refl, sym, ap, subst, ◌∙◌, inl, inr, ⊎_elim, append-nil, append_assoc, arith}
use Rattle.std.specs.Int.{abs_diff}
use Rattle.std.specs.List.{All}
use Rattle.std.proofs.lemmas.Bool.{cases_lt}
use Rattle.std.proofs.lemmas.List.{get_or_past}
use Rattle.pt_tags.specs.declared.message.Message.{Message}
use Rattle.pt_tags.specs.declared.message.Message.TheVariants.{End, Event}
use Rattle.pt_tags.specs.declared.tag.Tag.{Tag}
use Rattle.pt_types.specs.declared.graph.Graph.{Graph}
use Rattle.pt_types.specs.declared.graph.Link.{Link}
use Rattle.pt_types.specs.Lookups.{platform_of}
use Rattle.pt_semantics.specs.Bounds.{error_of, link_bound}
use Rattle.pt_semantics.specs.Lists.{Each, IsIn}
use Rattle.pt_semantics.specs.Orderly.{ComesAfter, InOrder}
use Rattle.pt_semantics.proofs.Lookups.{Each-in, IsIn-append, IsIn-append_right}
use Rattle.pt_laws.specs.NearClocks.{AreNear}
use Rattle.pt_types.specs.declared.air.Air.{Air}
use Rattle.pt_semantics.specs.RecordedTimes.{KeepsBounds}
use Rattle.pt_types.specs.declared.air.InAir.{InAir}
use Rattle.pt_semantics.specs.Arrivals.{AirwayView, arrival_of, empty_airway, airway_with}
use Rattle.pt_semantics.specs.TrueTime.{lag_of, put_all, reading_at}
use Rattle.pt_replay_laws.specs.ReplayState.{taken_off}

-- clocks within their errors are near one another at each true time
pub clocks_are_near : (g : Graph) (air : Air) → KeepsBounds g air → (now : ℕ) → AreNear g (λ i. reading_at air i now)
clocks_are_near g air keeps now l link at =
    near (lag_of air (platform_of g link.from)) (lag_of air (platform_of g link.to)) (error_of g (platform_of g link.from) (platform_of g link.to)) (keeps.lags l link at)
  where
    near : (a b error : ℕ) → abs_diff a b ≤ error → now - b ≤ (now - a) + error
    near a b error h = omega (arith, h)

-- the true time by which an event with this tag is in time on a link
abbrev pub due_on : Graph → Air → Link → Tag → ℕ
due_on g air link t = lag_of air (platform_of g link.to) + (t.time + link_bound g link)

-- on a link on which these messages were sent each event on its way arrives in time, and the last arrival is in time for any
-- event that may come after them
pub record IsInTime (g : Graph) (air : Air) (link : Link) (sent : List Message) (a : AirwayView) : Type 0 where
  pub arrives : (m : InAir) (t : Tag) (v : ℤ) → IsIn m a.on_way → m.message ≡ Event t v → m.arrives ≤ due_on g air link t
  pub latest : (t : Tag) (v : ℤ) → Each (λ z. ComesAfter z (Event t v)) sent → a.latest ≤ due_on g air link t

pub nothing_in_time : (g : Graph) (air : Air) (link : Link) → IsInTime g air link [] empty_airway
nothing_in_time g air link = record {
  arrives = λ m t v mem e. absurd mem;
  latest = λ t v h. omega arith;
}

in_rest : {X : Type 0} (n : ℕ) (xs : List X) (x : X) → IsIn x (drop n xs) → IsIn x xs
in_rest zero xs x mem = mem
in_rest (suc n) [] x mem = mem
in_rest (suc n) (y ∷ xs) x mem = inr (in_rest n xs x mem)

pub taken_in_time : (g : Graph) (air : Air) (link : Link) (sent taken : List Message) (a : AirwayView) → IsInTime g air link sent a → IsInTime g air link sent (taken_off taken a)
taken_in_time g air link sent taken a h = record {
  arrives = λ m t v mem e. h.arrives m t v (in_rest (length taken) a.on_way m mem) e;
  latest = h.latest;
}

-- a message comes after all before it
all_before : (xs : List Message) (m : Message) (ys : List Message) → InOrder (xs ++ m ∷ ys) → Each (λ z. ComesAfter z m) xs
all_before [] m ys h = tt
all_before (x ∷ xs) m ys h = (Each-in (ComesAfter x) (xs ++ m ∷ ys) h.0 m (IsIn-append_right m xs (m ∷ ys) (inl refl)), all_before xs m ys h.1)

pub order_front : (xs ys : List Message) → InOrder (xs ++ ys) → InOrder xs
order_front [] ys h = tt
order_front (x ∷ xs) ys h = (front xs h.0, order_front xs ys h.1)
  where
    front : (zs : List Message) → Each (ComesAfter x) (zs ++ ys) → Each (ComesAfter x) zs
    front [] h = tt
    front (z ∷ zs) h = (h.0, front zs h.1)

transit_within : (transits : List ℕ) (delay i : ℕ) → All (λ t. t ≤ delay) transits → slice_index_or transits i delay ≤ delay
transit_within transits delay i h = ⊎_elim
    (λ (lt : i < length transits). h i delay lt)
    (λ (past : length transits ≤ i). subst (λ n. n ≤ delay) (sym (get_or_past transits i delay past)) (omega arith))
    (cases_lt i (length transits))

module _ (g : Graph) (air : Air) (link : Link) (now : ℕ) (transits : List ℕ) (within : All (λ t. t ≤ link.delay) transits) where
  -- an event that is sent at this time, and takes the link's delay, arrives in time
  abbrev pub CanArrive : Message → Type 0
  CanArrive m = (t : Tag) (v : ℤ) → m ≡ Event t v → now + link.delay ≤ due_on g air link t

  put_event : (sent : List Message) (t : Tag) (v : ℤ) (a : AirwayView) → Each (λ z. ComesAfter z (Event t v)) sent → now + link.delay ≤ due_on g air link t → IsInTime g air link sent a → IsInTime g air link (sent ++ Event t v ∷ []) (airway_with now transits link.delay (Event t v) a)
  put_event sent t v a after can h = record {
    arrives = λ m u w mem e.
        ⊎_elim
        (λ (old : IsIn m a.on_way). h.arrives m u w old e)
        (λ (new : IsIn m (record { arrives = arrives; message = Event t v } ∷ [])). one m u w new e)
        (IsIn-append m a.on_way (record { arrives = arrives; message = Event t v } ∷ []) mem);
    latest = λ u w before.
        let last : Each (λ z. ComesAfter z (Event u w)) (Event t v ∷ []) = tail sent (Event t v ∷ []) u w before in
        let rises : t.time ≤ u.time = last.0.0 in
        omega (arith, in_time, rises);
  }
    where
      arrives : ℕ
      arrives = arrival_of now transits link.delay (Event t v) a

      in_time : arrives ≤ due_on g air link t
      in_time =
          let transit : slice_index_or transits a.events link.delay ≤ link.delay = transit_within transits link.delay a.events within in
          most (now + slice_index_or transits a.events link.delay) a.latest (due_on g air link t) (omega (arith, transit, can)) (h.latest t v after)
        where
          most : (x y z : ℕ) → x ≤ z → y ≤ z → max x y ≤ z
          most x y z p q = omega (arith, p, q)

      same_tag : (u : Tag) (w : ℤ) → Event t v ≡ Event u w → t ≡ u
      same_tag u w e = cc

      one : (m : InAir) (u : Tag) (w : ℤ) → IsIn m (record { arrives = arrives; message = Event t v } ∷ []) → m.message ≡ Event u w → m.arrives ≤ due_on g air link u
      one m u w (inl is) e =
          subst (λ (z : InAir). z.arrives ≤ due_on g air link u) (sym is)
          (subst (λ z. arrives ≤ due_on g air link z) (same_tag u w (sym (ap (λ (z : InAir). z.message) is) ∙ e)) in_time)
      one m u w (inr never) e = absurd never

      tail : (xs ys : List Message) (u : Tag) (w : ℤ) → Each (λ z. ComesAfter z (Event u w)) (xs ++ ys) → Each (λ z. ComesAfter z (Event u w)) ys
      tail [] ys u w h = h
      tail (x ∷ xs) ys u w h = tail xs ys u w h.1

  put_end : (sent : List Message) (a : AirwayView) → IsInTime g air link sent a → IsInTime g air link (sent ++ End ∷ []) (airway_with now transits link.delay End a)
  put_end sent a h = record {
    arrives = λ m u w mem e.
        ⊎_elim
        (λ (old : IsIn m a.on_way). h.arrives m u w old e)
        (λ (new : IsIn m (record { arrives = arrives; message = End } ∷ [])). absurd (not_event m u w new e))
        (IsIn-append m a.on_way (record { arrives = arrives; message = End } ∷ []) mem);
    latest = λ u w before. absurd (Each-in (λ z. ComesAfter z (Event u w)) (sent ++ End ∷ []) before End (IsIn-append_right End sent (End ∷ []) (inl refl)));
  }
    where
      arrives : ℕ
      arrives = arrival_of now transits link.delay End a

      not_end : (u : Tag) (w : ℤ) → End ≡ Event u w → ⊥
      not_end u w e = cc

      not_event : (m : InAir) (u : Tag) (w : ℤ) → IsIn m (record { arrives = arrives; message = End } ∷ []) → m.message ≡ Event u w → ⊥
      not_event m u w (inl is) e = not_end u w (sym (ap (λ (z : InAir). z.message) is) ∙ e)
      not_event m u w (inr never) e = never

  pub put_in_time : (sent ms : List Message) (a : AirwayView) → InOrder (sent ++ ms) → ((m : Message) → IsIn m ms → CanArrive m) → IsInTime g air link sent a → IsInTime g air link (sent ++ ms) (put_all now transits link.delay ms a)
  put_in_time sent [] a order can h = subst (λ z. IsInTime g air link z a) (sym (append-nil sent)) h
  put_in_time sent (Event t v ∷ ms) a order can h =
      subst (λ z. IsInTime g air link z (put_all now transits link.delay (Event t v ∷ ms) a)) (append_assoc sent (Event t v ∷ []) ms)
      (put_in_time (sent ++ Event t v ∷ []) ms (airway_with now transits link.delay (Event t v) a) (subst InOrder (sym (append_assoc sent (Event t v ∷ []) ms)) order) (λ m mem. can m (inr mem))
      (put_event sent t v a (all_before sent (Event t v) ms order) (can (Event t v) (inl refl) t v refl) h))
  put_in_time sent (End ∷ ms) a order can h =
      subst (λ z. IsInTime g air link z (put_all now transits link.delay (End ∷ ms) a)) (append_assoc sent (End ∷ []) ms)
      (put_in_time (sent ++ End ∷ []) ms (airway_with now transits link.delay End a) (subst InOrder (sym (append_assoc sent (End ∷ []) ms)) order) (λ m mem. can m (inr mem))
      (put_end sent a h))
