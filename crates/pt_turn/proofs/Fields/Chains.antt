-- Chains of slots: what stays the same, one slot more, and one less.
use Rattle.std.proofs.Common.{◌≡◌, ℕ, zero, suc, ◌-◌, ◌<◌, List, [], ◌∷◌, ◌++◌, Option, None, length, set, refl, sym, ap, ap₂, subst, ◌∙◌, inl, inr, ⊎_elim, arith}
use Rattle.std.proofs.lemmas.List.{length-set, get_or-set_other, get_or_append_left}
use Rattle.std.proofs.lemmas.Grind.{get_or-set_at}
use Rattle.std.proofs.Math.Seq.{get_or-append_seam}
use Rattle.pt_tags.specs.declared.message.Message.{Message}
use Rattle.pt_semantics.specs.Lists.{IsIn}
use Rattle.pt_semantics.proofs.Lookups.{IsIn-append}
use Rattle.pt_turn.specs.declared.state.slots.Slot.{Slot}
use Rattle.pt_turn.specs.Fields.Slots.{HasLastPlace, IsChain, Stays, slots_joined, read, slot_at, walk}

abbrev pub no_slot : Slot
no_slot = record { message = Message.End; link = None; next = 0 }

-- a chain whose slots stay
pub stays : (old new : List Slot) (o : Option ℕ) (k n : ℕ) → IsChain old o k n → ((j : ℕ) → IsIn j (walk old k n) → (j < length new) × (slot_at new j ≡ slot_at old j)) → Stays old new o k n
stays old new o k zero h same = record { chain = tt; places = refl; messages = refl }
stays old new o k (suc n) h same =
    let here : (k < length new) × (slot_at new k ≡ slot_at old k) = same k (inl refl) in
    let next : (slot_at new k).next ≡ (slot_at old k).next = ap (λ (s : Slot). s.next) here.1 in
    let rest : Stays old new o (slot_at old k).next n = stays old new o (slot_at old k).next n h.3 (λ j m. same j (inr m)) in
    let places : walk new (slot_at new k).next n ≡ walk old (slot_at old k).next n = ap (λ m. walk new m n) next ∙ rest.places in
    record {
      chain = (here.0, ap (λ (s : Slot). s.link) here.1 ∙ h.1, (λ m. h.2 (subst (IsIn k) places m)), subst (λ m. IsChain new o m n) (sym next) rest.chain);
      places = ap (λ ks. k ∷ ks) places;
      messages = ap₂ (λ (m : Message) ms. m ∷ ms) (ap (λ (s : Slot). s.message) here.1) (ap (λ m. read new m n) next ∙ rest.messages);
    }

-- the places of a chain are within, and its slots have its owner
pub within : (ns : List Slot) (o : Option ℕ) (k n : ℕ) → IsChain ns o k n → (j : ℕ) → IsIn j (walk ns k n) → (j < length ns) × ((slot_at ns j).link ≡ o)
within ns o k zero h j m = absurd m
within ns o k (suc n) h j m =
    ⊎_elim (λ (e : j ≡ k). (subst (λ x. x < length ns) (sym e) h.0, ap (λ x. (slot_at ns x).link) e ∙ h.1))
    (λ (r : IsIn j (walk ns (slot_at ns k).next n)). within ns o (slot_at ns k).next n h.3 j r)
    m

-- a place with another owner is not in a chain
pub not_in : (ns : List Slot) (o other : Option ℕ) (k n p : ℕ) → IsChain ns o k n → (slot_at ns p).link ≡ other → (o ≡ other → ⊥) → IsIn p (walk ns k n) → ⊥
not_in ns o other k n p h label apart m = apart (sym (within ns o k n h p m).1 ∙ label)

-- a chain stays where a slot that is not in it is set
pub stays_set : (ns : List Slot) (o : Option ℕ) (k n p : ℕ) (s : Slot) → IsChain ns o k n → (IsIn p (walk ns k n) → ⊥) → Stays ns (set ns p s) o k n
stays_set ns o k n p s h away = stays ns (set ns p s) o k n h (λ j m.
    let below : j < length ns = (within ns o k n h j m).0 in
    (subst (λ x. j < x) (sym (length-set ns p s)) below, get_or-set_other ns p j s no_slot (λ e. away (subst (λ x. IsIn x (walk ns k n)) e m))))

-- and where a slot is added
pub stays_push : (ns : List Slot) (o : Option ℕ) (k n : ℕ) (s : Slot) → IsChain ns o k n → Stays ns (ns ++ s ∷ []) o k n
stays_push ns o k n s h = stays ns (ns ++ s ∷ []) o k n h (λ j m.
    let below : j < length ns = (within ns o k n h j m).0 in
    (longer ns j below, get_or_append_left ns (s ∷ []) no_slot j below))
  where
    longer : (xs : List Slot) (j : ℕ) → j < length xs → j < length (xs ++ s ∷ [])
    longer [] j l = absurd (omega (arith, l))
    longer (x ∷ xs) zero l = omega arith
    longer (x ∷ xs) (suc j) l = let r = longer xs j (omega (arith, l)) in omega (arith, r)

pub push_at : (ns : List Slot) (s : Slot) (p : ℕ) → p ≡ length ns → (p < length (ns ++ s ∷ [])) × (slot_at (ns ++ s ∷ []) p ≡ s)
push_at ns s p e = (subst (λ x. x < length (ns ++ s ∷ [])) (sym e) (more ns), ap (λ x. slot_at (ns ++ s ∷ []) x) e ∙ get_or-append_seam ns s [] no_slot)
  where
    more : (xs : List Slot) → length xs < length (xs ++ s ∷ [])
    more [] = omega arith
    more (x ∷ xs) = let r = more xs in omega (arith, r)

-- the end of a chain
pub end_in : (k : ℕ) (ks : List ℕ) (q : ℕ) → HasLastPlace (k ∷ ks) q → IsIn q (k ∷ ks)
end_in k [] q e = inl (sym e)
end_in k (j ∷ ks) q e = inr (end_in j ks q e)

pub ends_push : (ks : List ℕ) (p : ℕ) → HasLastPlace (ks ++ p ∷ []) p
ends_push [] p = refl
ends_push (k ∷ []) p = refl
ends_push (k ∷ j ∷ ks) p = ends_push (j ∷ ks) p

pub ends_rest : (k : ℕ) (ks : List ℕ) (q : ℕ) → HasLastPlace (k ∷ ks) q → HasLastPlace ks q
ends_rest k [] q e = tt
ends_rest k (j ∷ ks) q e = e

-- a chain with one slot more
pub record Extends (old new : List Slot) (o : Option ℕ) (k n p : ℕ) : Type 0 where
  pub chain : IsChain new o k (suc n)
  pub places : walk new k (suc n) ≡ walk old k n ++ p ∷ []
  pub messages : read new k (suc n) ≡ read old k n ++ (slot_at old p).message ∷ []

pub extends : (ns : List Slot) (o : Option ℕ) (k n q p : ℕ) → IsChain ns o k (suc n) → HasLastPlace (walk ns k (suc n)) q → p < length ns → (slot_at ns p).link ≡ o → (IsIn p (walk ns k (suc n)) → ⊥) → Extends ns (slots_joined ns q p) o k (suc n) p
extends ns o k zero q p h end below label away =
    let new : List Slot = slots_joined ns q p in
    let size : length new ≡ length ns = length-set ns q (record (slot_at ns q) { next = p }) in
    let here : slot_at new k ≡ record (slot_at ns q) { next = p } = get_or-set_at ns q k (record (slot_at ns q) { next = p }) no_slot end (subst (λ x. x < length ns) end h.0) in
    let next : (slot_at new k).next ≡ p = ap (λ (s : Slot). s.next) here in
    let there : slot_at new p ≡ slot_at ns p = get_or-set_other ns q p (record (slot_at ns q) { next = p }) no_slot (λ e. away (inl (e ∙ sym end))) in
    record {
      chain = (
        subst (λ x. k < x) (sym size) h.0,
        ap (λ (s : Slot). s.link) here ∙ ap (λ x. (slot_at ns x).link) (sym end) ∙ h.1,
        (λ m. ⊎_elim (λ (e : k ≡ (slot_at new k).next). away (inl (sym (e ∙ next)))) (λ (none : ⊥). none) m),
        subst (λ m. IsChain new o m 1) (sym next) (subst (λ x. p < x) (sym size) below, ap (λ (s : Slot). s.link) there ∙ label, (λ m. m), tt),
      );
      places = ap (λ m. k ∷ m ∷ []) next;
      messages = ap₂ (λ (a b : Message). a ∷ b ∷ []) (ap (λ (s : Slot). s.message) here ∙ ap (λ x. (slot_at ns x).message) (sym end)) (ap (λ m. (slot_at new m).message) next ∙ ap (λ (s : Slot). s.message) there);
    }
extends ns o k (suc n) q p h end below label away =
    let new : List Slot = slots_joined ns q p in
    let size : length new ≡ length ns = length-set ns q (record (slot_at ns q) { next = p }) in
    let last : IsIn q (walk ns (slot_at ns k).next (suc n)) = end_in (slot_at ns k).next (walk ns (slot_at ns (slot_at ns k).next).next n) q end in
    let here : slot_at new k ≡ slot_at ns k = get_or-set_other ns q k (record (slot_at ns q) { next = p }) no_slot (λ e. h.2 (subst (λ x. IsIn x (walk ns (slot_at ns k).next (suc n))) (sym e) last)) in
    let next : (slot_at new k).next ≡ (slot_at ns k).next = ap (λ (s : Slot). s.next) here in
    let rest : Extends ns new o (slot_at ns k).next (suc n) p = extends ns o (slot_at ns k).next n q p h.3 end below label (λ m. away (inr m)) in
    let places : walk new (slot_at new k).next (suc (suc n)) ≡ walk ns (slot_at ns k).next (suc n) ++ p ∷ [] = ap (λ m. walk new m (suc (suc n))) next ∙ rest.places in
    record {
      chain = (
        subst (λ x. k < x) (sym size) h.0,
        ap (λ (s : Slot). s.link) here ∙ h.1,
        (λ m. ⊎_elim h.2 (λ (e : IsIn k (p ∷ [])). ⊎_elim (λ (f : k ≡ p). away (inl (sym f))) (λ (none : ⊥). none) e) (IsIn-append k (walk ns (slot_at ns k).next (suc n)) (p ∷ []) (subst (IsIn k) places m))),
        subst (λ m. IsChain new o m (suc (suc n))) (sym next) rest.chain,
      );
      places = ap (λ ks. k ∷ ks) places;
      messages = ap₂ (λ (m : Message) ms. m ∷ ms) (ap (λ (s : Slot). s.message) here) (ap (λ m. read new m (suc (suc n))) next ∙ rest.messages);
    }

-- the first slot of a chain that has one, and the rest
pub record Starts (ns : List Slot) (o : Option ℕ) (k n : ℕ) : Type 0 where
  pub within : k < length ns
  pub label : (slot_at ns k).link ≡ o
  pub apart : IsIn k (walk ns (slot_at ns k).next (n - 1)) → ⊥
  pub rest : IsChain ns o (slot_at ns k).next (n - 1)

pub starts : (ns : List Slot) (o : Option ℕ) (k n : ℕ) → (n ≡ 0 → ⊥) → IsChain ns o k n → Starts ns o k n
starts ns o k zero some h = absurd (some refl)
starts ns o k (suc n) some h =
    let less : suc n - 1 ≡ n = omega arith in
    record {
      within = h.0;
      label = h.1;
      apart = subst (λ x. IsIn k (walk ns (slot_at ns k).next x) → ⊥) (sym less) h.2;
      rest = subst (IsChain ns o (slot_at ns k).next) (sym less) h.3;
    }

pub last_in : (ns : List Slot) (o : Option ℕ) (first last n : ℕ) → IsChain ns o first n → HasLastPlace (walk ns first n) last → 0 < n → last < length ns
last_in ns o first last zero h ends some = absurd (omega (arith, some))
last_in ns o first last (suc n) h ends some = (within ns o first (suc n) h last (end_in first (walk ns (slot_at ns first).next n) last ends)).0
