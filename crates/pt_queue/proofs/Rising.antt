-- Events whose tags rise.
use Rattle.std.proofs.Common.{◌≡◌, ℕ, zero, suc, not, cond, Bool, true, false, List, [], ◌∷◌, ◌++◌, Some, None, filter, drop, length, get_or, refl, sym, ap, subst, ◌∙◌, arith}
use Rattle.pt_tags.specs.declared.tag.Tag.{Tag}
use Rattle.pt_tags.specs.Tags.{same_tag, tag_lt, Before}
use Rattle.pt_types.specs.declared.firing.Event.{Event}
use Rattle.pt_types.specs.Ports.{when}
use Rattle.pt_semantics.specs.Lists.{Each, or_else}
use Rattle.pt_semantics.proofs.Lookups.{none_some, same_some}
use Rattle.pt_queue.specs.Lines.{TagsRise, first, value_on}

cond_each : (P : Event → Type 0) (b : Bool) (e : Event) (ys : List Event) → P e → Each P ys → Each P (cond b (e ∷ ys) ys)
cond_each P true e ys h k = (h, k)
cond_each P false e ys h k = k

pub each_filter : (P : Event → Type 0) (test : Event → Bool) (xs : List Event) → Each P xs → Each P (filter test xs)
each_filter P test [] h = tt
each_filter P test (e ∷ xs) h = cond_each P (test e) e (filter test xs) h.0 (each_filter P test xs h.1)

cond_order : (b : Bool) (e : Event) (ys : List Event) → Each (λ (x : Event). Before e.tag x.tag) ys → TagsRise ys → TagsRise (cond b (e ∷ ys) ys)
cond_order true e ys h k = (h, k)
cond_order false e ys h k = k

pub in_order_filter : (test : Event → Bool) (xs : List Event) → TagsRise xs → TagsRise (filter test xs)
in_order_filter test [] h = tt
in_order_filter test (e ∷ xs) h = cond_order (test e) e (filter test xs) (each_filter (λ (x : Event). Before e.tag x.tag) test xs h.0) (in_order_filter test xs h.1)

pub each_push : (P : Event → Type 0) (xs : List Event) (e : Event) → Each P xs → P e → Each P (xs ++ e ∷ [])
each_push P [] e h k = (k, tt)
each_push P (x ∷ xs) e h k = (h.0, each_push P xs e h.1 k)

pub in_order_push : (xs : List Event) (e : Event) → TagsRise xs → Each (λ (x : Event). Before x.tag e.tag) xs → TagsRise (xs ++ e ∷ [])
in_order_push [] e h k = (tt, tt)
in_order_push (x ∷ xs) e h k = (each_push (λ (y : Event). Before x.tag y.tag) xs e h.0 k.0, in_order_push xs e h.1 k.1)

-- an event with a greater tag is kept
kept : (t u : Tag) → Before t u → same_tag t u ≡ false
kept t u h = grind arith

later : (t u v : Tag) → Before t u → Before u v → Before t v
later t u v h k = grind arith

-- all events behind one with a greater tag are kept
all_kept : (t : Tag) (xs : List Event) → Each (λ (x : Event). Before t x.tag) xs → filter (λ (e : Event). not (same_tag t e.tag)) xs ≡ xs
all_kept t [] h = refl
all_kept t (x ∷ xs) h = ap (λ b. cond (not b) (x ∷ filter (λ (e : Event). not (same_tag t e.tag)) xs) (filter (λ (e : Event). not (same_tag t e.tag)) xs)) (kept t x.tag h.0) ∙ ap (λ ys. x ∷ ys) (all_kept t xs h.1)

each_later : (t u : Tag) (xs : List Event) → Before t u → Each (λ (x : Event). Before u x.tag) xs → Each (λ (x : Event). Before t x.tag) xs
each_later t u [] b h = tt
each_later t u (x ∷ xs) b h = (later t u x.tag b h.0, each_later t u xs b h.1)

same : (t u : Tag) → same_tag t u ≡ true → t ≡ u
same t u h = let time : t.time ≡ u.time = grind arith in let step : t.step ≡ u.step = grind arith in λ i. record { time = time i; step = step i }

-- the first event has the tag: the others are left
pub first_taken : (t : Tag) (xs : List Event) (e : Event) → TagsRise xs → Some e ≡ first xs → same_tag e.tag t ≡ true → filter (λ (x : Event). not (same_tag t x.tag)) xs ≡ drop 1 xs
first_taken t [] e h is k = absurd (none_some e (sym is))
first_taken t (x ∷ xs) e h is k =
    let here : x ≡ e = sym (same_some e x is) in
    let tag : x.tag ≡ t = ap (λ (y : Event). y.tag) here ∙ same e.tag t k in
    let own : same_tag t x.tag ≡ true = subst (λ z. same_tag t z ≡ true) (sym tag) (itself t) in
    ap (λ b. cond (not b) (x ∷ filter (λ (y : Event). not (same_tag t y.tag)) xs) (filter (λ (y : Event). not (same_tag t y.tag)) xs)) own
    ∙ all_kept t xs (subst (λ z. Each (λ (y : Event). Before z y.tag) xs) tag h.0)
  where
    itself : (t : Tag) → same_tag t t ≡ true
    itself t = grind arith

pub ahead : (t u : Tag) → tag_lt t u ≡ true → Before t u
ahead t u h = grind arith

-- the first event has a greater tag: all are left
pub none_taken : (t : Tag) (xs : List Event) (e : Event) → TagsRise xs → Some e ≡ first xs → Before t e.tag → filter (λ (x : Event). not (same_tag t x.tag)) xs ≡ xs
none_taken t [] e h is b = absurd (none_some e (sym is))
none_taken t (x ∷ xs) e h is b =
    let before : Before t x.tag = subst (λ (y : Event). Before t y.tag) (same_some e x is) b in
    all_kept t (x ∷ xs) (before, each_later t x.tag xs before h.0)

not_there : (t u : Tag) → Before t u → same_tag u t ≡ false
not_there t u h = grind arith

no_value_in : (t : Tag) (xs : List Event) → Each (λ (x : Event). Before t x.tag) xs → None ≡ value_on xs t
no_value_in t [] h = refl
no_value_in t (x ∷ xs) h = no_value_in t xs h.1 ∙ sym (ap (λ b. or_else (when b (Some x.value)) (value_on xs t)) (not_there t x.tag h.0))

pub no_value : (t : Tag) (xs : List Event) (e : Event) → TagsRise xs → Some e ≡ first xs → tag_lt t e.tag ≡ true → None ≡ value_on xs t
no_value t [] e h is b = refl
no_value t (x ∷ xs) e h is b =
    let before : Before t x.tag = subst (λ (y : Event). Before t y.tag) (same_some e x is) (ahead t e.tag b) in
    no_value_in t (x ∷ xs) (before, each_later t x.tag xs before h.0)

-- the last event comes before a tag, and so do all
pub all_before : (t : Tag) (xs : List Event) (n : ℕ) (last : Event) → TagsRise xs → length xs ≡ suc n → last ≡ get_or xs n last → Before last.tag t → Each (λ (x : Event). Before x.tag t) xs
all_before t [] n last h len is b = tt
all_before t (x ∷ []) zero last h len is b = (subst (λ (y : Event). Before y.tag t) is b, tt)
all_before t (x ∷ []) (suc n) last h len is b = absurd (omega arith)
all_before t (x ∷ y ∷ ys) zero last h len is b = absurd (omega arith)
all_before t (x ∷ y ∷ ys) (suc n) last h len is b =
    let rest : Each (λ (z : Event). Before z.tag t) (y ∷ ys) = all_before t (y ∷ ys) n last h.1 (omega arith) is b in
    (later x.tag y.tag t h.0.0 rest.0, rest)
