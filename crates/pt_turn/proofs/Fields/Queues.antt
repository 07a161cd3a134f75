-- The queues of an outbox: their messages, and what a push and a pop leave.
use Rattle.std.proofs.Common.{◌≡◌, ℕ, zero, suc, ◌+◌, ◌-◌, ◌<◌, ◌≤◌, ◌==◌, true, false, nat_lt, List, [], ◌∷◌, ◌++◌, Option, Some, None, length, map, set, replicate, get_or, slice_get, refl, sym, ap, ap₂, subst, ◌∙◌, ⊎_elim, arith, eq-eqb, ne_eqb, append-nil, length-append, if◌then◌else◌}
use Rattle.std.specs.List.{cons_option}
use Rattle.std.proofs.lemmas.List.{length-map, length-set, get_or-set_other, get_or_default, get_or_past}
use Rattle.std.proofs.lemmas.List.Elements.{filter_map-append}
use Rattle.std.proofs.lemmas.Grind.{get_or-set_at}
use Rattle.std.proofs.lemmas.Bool.{cases_eq, ltb-true}
use Rattle.pt_tags.specs.declared.message.Message.{Message}
use Rattle.pt_types.specs.declared.firing.OnLink.{OnLink}
use Rattle.pt_types.specs.Ports.{when}
use Rattle.pt_semantics.specs.Lists.{IsIn}
use Rattle.pt_semantics.specs.Closing.{on_link}
use Rattle.pt_semantics.proofs.Lookups.{none_some, same_some}
use Rattle.pt_turn.specs.declared.state.slots.Slot.{Slot}
use Rattle.pt_turn.specs.declared.state.slots.Chain.{Chain}
use Rattle.pt_turn.specs.Fields.Slots.{AreQueues, HasLastPlace, IsChain, IsQueue, Stays, slots_joined, no_chain, read, slot_at, walk}
use Rattle.pt_turn.specs.Fields.Outbox.{items_from, items_of}
use Rattle.pt_turn.proofs.Fields.Chains.{Extends, end_in, ends_push, ends_rest, extends, last_in, no_slot, not_in, stays_set, within}

abbrev tagged : ℕ → Message → OnLink
tagged l m = record { link = l; message = m }

abbrev pub read_of : List Slot → Chain → List Message
read_of ns c = read ns c.first c.count

own : (l : ℕ) (ms : List Message) → on_link l (map (tagged l) ms) ≡ ms
own l [] = refl
own l (m ∷ ms) = ap (λ b. cons_option (when b (Some m)) (on_link l (map (tagged l) ms))) (eq-eqb l l refl) ∙ ap (λ r. m ∷ r) (own l ms)

other : (i l : ℕ) (ms : List Message) → (i ≡ l → ⊥) → on_link l (map (tagged i) ms) ≡ []
other i l [] ne = refl
other i l (m ∷ ms) ne = ap (λ b. cons_option (when b (Some m)) (on_link l (map (tagged i) ms))) (ne_eqb i l ne) ∙ other i l ms ne

on_both : (l : ℕ) (xs ys : List OnLink) → on_link l (xs ++ ys) ≡ on_link l xs ++ on_link l ys
on_both l xs ys = filter_map-append (λ (x : OnLink). when (x.link == l) (Some x.message)) xs ys

below : (ns : List Slot) (qs : List Chain) (i l : ℕ) → l < i → on_link l (items_from i (map (read_of ns) qs)) ≡ []
below ns [] i l lt = refl
below ns (q ∷ qs) i l lt =
    on_both l (map (tagged i) (read_of ns q)) (items_from (suc i) (map (read_of ns) qs))
    ∙ ap₂ (λ a b. a ++ b) (other i l (read_of ns q) (λ e. absurd (omega (arith, e, lt)))) (below ns qs (suc i) l (omega (arith, lt)))

from : (ns : List Slot) (qs : List Chain) (i l j : ℕ) → j ≡ i + l → on_link j (items_from i (map (read_of ns) qs)) ≡ read_of ns (get_or qs l no_chain)
from ns [] i l j e = refl
from ns (q ∷ qs) i zero j e =
    let same : j ≡ i = omega (arith, e) in
    on_both j (map (tagged i) (read_of ns q)) (items_from (suc i) (map (read_of ns) qs))
    ∙ ap₂ (λ a b. a ++ b) (ap (λ x. on_link x (map (tagged i) (read_of ns q))) same ∙ own i (read_of ns q)) (below ns qs (suc i) j (omega (arith, e)))
    ∙ append-nil (read_of ns q)
from ns (q ∷ qs) i (suc l) j e =
    on_both j (map (tagged i) (read_of ns q)) (items_from (suc i) (map (read_of ns) qs))
    ∙ ap₂ (λ a b. a ++ b) (other i j (read_of ns q) (λ f. absurd (omega (arith, e, f)))) (from ns qs (suc i) l j (omega (arith, e)))

-- the messages of a link are those in its queue
pub in_queue : (ns : List Slot) (qs : List Chain) (l : ℕ) → on_link l (items_of ns qs) ≡ read_of ns (get_or qs l no_chain)
in_queue ns qs l = from ns qs 0 l l (omega arith)

pub past_all : (ns : List Slot) (qs : List Chain) (l : ℕ) → length qs ≤ l → on_link l (items_of ns qs) ≡ []
past_all ns qs l past = in_queue ns qs l ∙ ap (read_of ns) (get_or_past qs l no_chain past)

length_read : (ns : List Slot) (k n : ℕ) → length (read ns k n) ≡ n
length_read ns k zero = refl
length_read ns k (suc n) = ap suc (length_read ns (slot_at ns k).next n)

abbrev total : List Chain → ℕ
total [] = 0
total (c ∷ cs) = c.count + total cs

total_set : (qs : List Chain) (l : ℕ) (c : Chain) → l < length qs → total (set qs l c) + (get_or qs l no_chain).count ≡ total qs + c.count
total_set [] l c lt = absurd (omega (arith, lt))
total_set (q ∷ qs) zero c lt = omega arith
total_set (q ∷ qs) (suc l) c lt = let rest = total_set qs l c (omega (arith, lt)) in omega (arith, rest)

total_at : (qs : List Chain) (l : ℕ) → (get_or qs l no_chain).count ≤ total qs
total_at [] l = omega arith
total_at (q ∷ qs) zero = omega arith
total_at (q ∷ qs) (suc l) = let rest = total_at qs l in omega (arith, rest)

counted : (ns : List Slot) (qs : List Chain) (i : ℕ) → length (items_from i (map (read_of ns) qs)) ≡ total qs
counted ns [] i = refl
counted ns (q ∷ qs) i =
    length-append (map (tagged i) (read_of ns q)) (items_from (suc i) (map (read_of ns) qs))
    ∙ ap₂ (λ a b. a + b) (length-map (read_of ns q) (tagged i) ∙ length_read ns q.first q.count) (counted ns qs (suc i))

pub count_set : (ns new : List Slot) (qs : List Chain) (l : ℕ) (c : Chain) → l < length qs → length (items_of new (set qs l c)) + (get_or qs l no_chain).count ≡ length (items_of ns qs) + c.count
count_set ns new qs l c lt = omega (arith, counted new (set qs l c) 0, total_set qs l c lt, counted ns qs 0)

pub count_within : (ns : List Slot) (qs : List Chain) (l : ℕ) → (get_or qs l no_chain).count ≤ length (items_of ns qs)
count_within ns qs l = omega (arith, counted ns qs 0, total_at qs l)

-- empty queues
empties : (ns : List Slot) (n i : ℕ) → items_from i (map (read_of ns) (replicate n no_chain)) ≡ []
empties ns zero i = refl
empties ns (suc n) i = empties ns n (suc i)

pub none_in : (ns : List Slot) (n : ℕ) → items_of ns (replicate n no_chain) ≡ []
none_in ns n = empties ns n 0

at_none : (n l : ℕ) → get_or (replicate n no_chain) l no_chain ≡ no_chain
at_none zero l = refl
at_none (suc n) zero = refl
at_none (suc n) (suc l) = at_none n l

pub none_queued : (ns : List Slot) (n : ℕ) → AreQueues ns (replicate n no_chain)
none_queued ns n l = subst (IsQueue ns l) (sym (at_none n l)) (tt, tt)

-- other chains stay where one slot of link l changes
pub elsewhere : (ns : List Slot) (l k n p : ℕ) (o : Option ℕ) (s : Slot) → IsChain ns o k n → (slot_at ns p).link ≡ Some l → (o ≡ Some l → ⊥) → Stays ns (set ns p s) o k n
elsewhere ns l k n p o s h label apart = stays_set ns o k n p s h (not_in ns o (Some l) k n p h label apart)

stay_there : (ns : List Slot) (o : Option ℕ) (k n : ℕ) → IsChain ns o k n → Stays ns ns o k n
stay_there ns o k n h = record { chain = h; places = refl; messages = refl }

-- a queue with one message more
pub record Pushed (old mid new : List Slot) (l : ℕ) (m : Message) (c d : Chain) : Type 0 where
  pub queue : IsQueue new l d
  pub messages : read_of new d ≡ read_of old c ++ m ∷ []
  pub others : (o : Option ℕ) (k n : ℕ) → IsChain mid o k n → (o ≡ Some l → ⊥) → Stays mid new o k n

abbrev joined_to : Chain → ℕ → Chain
joined_to c p = record { first = if c.count == 0 then p else c.first; last = p; count = c.count + 1 }

by_count : (old mid : List Slot) (l p : ℕ) (m : Message) (first last count : ℕ) → IsQueue old l (record { first = first; last = last; count = count })
    → p < length mid → slot_at mid p ≡ record { message = m; link = Some l; next = 0 }
    → ((k n : ℕ) → IsChain old (Some l) k n → Stays old mid (Some l) k n) → ((k n : ℕ) → IsChain old (Some l) k n → IsIn p (walk old k n) → ⊥)
    → Pushed old mid (if count == 0 then mid else slots_joined mid last p) l m (record { first = first; last = last; count = count }) (record { first = if count == 0 then p else first; last = p; count = count + 1 })
by_count old mid l p m first last zero h lt placed others apart = record {
  queue = ((lt, ap (λ (s : Slot). s.link) placed, (λ (none : ⊥). none), tt), refl);
  messages = ap (λ (s : Slot). s.message ∷ []) placed;
  others = λ o k n chain far. stay_there mid o k n chain;
}
by_count old mid l p m first last (suc n) h lt placed others apart =
    let there : Stays old mid (Some l) first (suc n) = others first (suc n) h.0 in
    let ends : HasLastPlace (walk mid first (suc n)) last = subst (λ ks. HasLastPlace ks last) (sym there.places) h.1 in
    let label : (slot_at mid p).link ≡ Some l = ap (λ (s : Slot). s.link) placed in
    let more : Extends mid (slots_joined mid last p) (Some l) first (suc n) p = extends mid (Some l) first n last p there.chain ends lt label (λ i. apart first (suc n) h.0 (subst (IsIn p) there.places i)) in
    let at_last : (slot_at mid last).link ≡ Some l = (within mid (Some l) first (suc n) there.chain last (end_in first (walk mid (slot_at mid first).next n) last ends)).1 in
    let some : (suc n == 0) ≡ false = ne_eqb (suc n) 0 (λ e. absurd (omega (arith, e))) in
    let size : suc n + 1 ≡ suc (suc n) = omega arith in
    let given : Pushed old mid (slots_joined mid last p) l m (record { first = first; last = last; count = suc n }) (record { first = first; last = p; count = suc (suc n) }) = record {
      queue = (more.chain, subst (λ ks. HasLastPlace ks p) (sym more.places) (ends_push (walk mid first (suc n)) p));
      messages = more.messages ∙ ap₂ (λ (a : List Message) (s : Slot). a ++ s.message ∷ []) there.messages placed;
      others = λ o k j chain far. elsewhere mid l k j last o (record (slot_at mid last) { next = p }) chain at_last far;
    } in
    subst (λ b. Pushed old mid (if b then mid else slots_joined mid last p) l m (record { first = first; last = last; count = suc n }) (record { first = if b then p else first; last = p; count = suc n + 1 })) (sym some)
    (subst (λ x. Pushed old mid (slots_joined mid last p) l m (record { first = first; last = last; count = suc n }) (record { first = first; last = p; count = x })) (sym size) given)

pub pushed : (old mid new : List Slot) (l p : ℕ) (m : Message) (c d : Chain) → IsQueue old l c
    → p < length mid → slot_at mid p ≡ record { message = m; link = Some l; next = 0 }
    → ((k n : ℕ) → IsChain old (Some l) k n → Stays old mid (Some l) k n) → ((k n : ℕ) → IsChain old (Some l) k n → IsIn p (walk old k n) → ⊥)
    → new ≡ (if c.count == 0 then mid else slots_joined mid c.last p) → d ≡ joined_to c p → Pushed old mid new l m c d
pushed old mid new l p m c d h lt placed others apart is queue =
    subst (λ (ns : List Slot). Pushed old mid ns l m c d) (sym is) (subst (λ (x : Chain). Pushed old mid (if c.count == 0 then mid else slots_joined mid c.last p) l m c x) (sym queue) (by_count old mid l p m c.first c.last c.count h lt placed others apart))

-- all queues after a push on link l
pub queues_pushed : (old mid new : List Slot) (qs : List Chain) (l : ℕ) (m : Message) (d : Chain) → l < length qs → AreQueues old qs
    → ((k j n : ℕ) → IsChain old (Some k) j n → Stays old mid (Some k) j n) → Pushed old mid new l m (get_or qs l no_chain) d → AreQueues new (set qs l d)
queues_pushed old mid new qs l m d lt are others push k = ⊎_elim
    (λ (e : k ≡ l). subst (IsQueue new k) (sym (get_or-set_at qs l k d no_chain e lt)) (subst (λ x. IsQueue new x d) (sym e) push.queue))
    (λ (ne : k ≡ l → ⊥).
    let c : Chain = get_or qs k no_chain in
    let first : Stays old mid (Some k) c.first c.count = others k c.first c.count (are k).0 in
    let moved : Stays mid new (Some k) c.first c.count = push.others (Some k) c.first c.count first.chain (λ e. ne (same_some k l e)) in
    subst (IsQueue new k) (sym (get_or-set_other qs l k d no_chain ne)) (moved.chain, subst (λ ks. HasLastPlace ks c.last) (sym (moved.places ∙ first.places)) (are k).1))
    (cases_eq k l)

pub messages_pushed : (old mid new : List Slot) (qs : List Chain) (l : ℕ) (m : Message) (d : Chain) → l < length qs → AreQueues old qs
    → ((k j n : ℕ) → IsChain old (Some k) j n → Stays old mid (Some k) j n) → Pushed old mid new l m (get_or qs l no_chain) d
    → (k : ℕ) → on_link k (items_of new (set qs l d)) ≡ on_link k (items_of old qs) ++ (if k == l then m ∷ [] else [])
messages_pushed old mid new qs l m d lt are others push k =
    in_queue new (set qs l d) k
    ∙ ⊎_elim
    (λ (e : k ≡ l).
    ap (read_of new) (get_or-set_at qs l k d no_chain e lt) ∙ push.messages
    ∙ ap₂ (λ (ms : List Message) b. ms ++ (if b then m ∷ [] else [])) (ap (λ x. read_of old (get_or qs x no_chain)) (sym e)) (sym (eq-eqb k l e)))
    (λ (ne : k ≡ l → ⊥).
    let c : Chain = get_or qs k no_chain in
    let first : Stays old mid (Some k) c.first c.count = others k c.first c.count (are k).0 in
    let moved : Stays mid new (Some k) c.first c.count = push.others (Some k) c.first c.count first.chain (λ e. ne (same_some k l e)) in
    ap (read_of new) (get_or-set_other qs l k d no_chain ne) ∙ moved.messages ∙ first.messages ∙ sym (append-nil (read_of old c))
    ∙ ap (λ b. read_of old c ++ (if b then m ∷ [] else [])) (sym (ne_eqb k l ne)))
    (cases_eq k l)
    ∙ ap (λ ms. ms ++ (if k == l then m ∷ [] else [])) (sym (in_queue old qs k))

pub free_pushed : (mid new old : List Slot) (l : ℕ) (m : Message) (c d : Chain) (k n : ℕ) → Pushed old mid new l m c d → IsChain mid None k n → IsChain new None k n
free_pushed mid new old l m c d k n push h = (push.others None k n h (none_some l)).chain

-- the slots and the queue after a pop
abbrev pub freed : List Slot → ℕ → ℕ → List Slot
freed ns p f = set ns p (record { message = (slot_at ns p).message; link = None; next = f })

abbrev pub popped : List Slot → Chain → Chain
popped ns c = record { first = (slot_at ns c.first).next; last = c.last; count = c.count - 1 }

pub record Popped (ns : List Slot) (l f : ℕ) (c : Chain) : Type 0 where
  pub within : c.first < length ns
  pub queue : IsQueue (freed ns c.first f) l (popped ns c)
  pub messages : read_of ns c ≡ (slot_at ns c.first).message ∷ read_of (freed ns c.first f) (popped ns c)
  pub others : (o : Option ℕ) (k n : ℕ) → IsChain ns o k n → (o ≡ Some l → ⊥) → Stays ns (freed ns c.first f) o k n
  pub frees : (n : ℕ) → IsChain ns None f n → IsChain (freed ns c.first f) None c.first (n + 1)

pop_count : (ns : List Slot) (l f first last count : ℕ) → 0 < count → IsQueue ns l (record { first = first; last = last; count = count }) → Popped ns l f (record { first = first; last = last; count = count })
pop_count ns l f first last zero lt h = absurd (omega (arith, lt))
pop_count ns l f first last (suc n) lt h =
    let new : List Slot = freed ns first f in
    let empty : Slot = record { message = (slot_at ns first).message; link = None; next = f } in
    let next : ℕ = (slot_at ns first).next in
    let less : suc n - 1 ≡ n = omega arith in
    let rest : Stays ns new (Some l) next n = stays_set ns (Some l) next n first empty h.0.3 h.0.2 in
    let here : slot_at new first ≡ empty = get_or-set_at ns first first empty no_slot refl h.0.0 in
    record {
      within = h.0.0;
      queue = subst (λ x. IsQueue new l (record { first = next; last = last; count = x })) (sym less) (rest.chain, subst (λ ks. HasLastPlace ks last) (sym rest.places) (ends_rest first (walk ns next n) last h.1));
      messages = ap (λ ms. (slot_at ns first).message ∷ ms) (sym rest.messages ∙ ap (read new next) (sym less));
      others = λ o k j chain far. elsewhere ns l k j first o empty chain h.0.1 far;
      frees = λ j chain.
          let kept : Stays ns new None f j = elsewhere ns l f j first None empty chain h.0.1 (none_some l) in
          let away : IsIn first (walk ns f j) → ⊥ = not_in ns None (Some l) f j first chain h.0.1 (none_some l) in
          let at : (slot_at new first).next ≡ f = ap (λ (s : Slot). s.next) here in
          let more : IsChain new None first (suc j) = (
            subst (λ x. first < x) (sym (length-set ns first empty)) h.0.0,
            ap (λ (s : Slot). s.link) here,
            (λ i. away (subst (IsIn first) (ap (λ x. walk new x j) at ∙ kept.places) i)),
            subst (λ x. IsChain new None x j) (sym at) kept.chain,
          ) in
          let size : suc j ≡ j + 1 = omega arith in
          subst (λ x. IsChain new None first x) size more;
    }

pub pop_is : (ns : List Slot) (qs : List Chain) (l f : ℕ) → AreQueues ns qs → 0 < (get_or qs l no_chain).count → Popped ns l f (get_or qs l no_chain)
pop_is ns qs l f are lt = let c : Chain = get_or qs l no_chain in pop_count ns l f c.first c.last c.count lt (are l)

pub queues_popped : (ns : List Slot) (qs : List Chain) (l f : ℕ) → l < length qs → AreQueues ns qs → Popped ns l f (get_or qs l no_chain) → AreQueues (freed ns (get_or qs l no_chain).first f) (set qs l (popped ns (get_or qs l no_chain)))
queues_popped ns qs l f lt are pop k =
    let d : Chain = popped ns (get_or qs l no_chain) in
    let new : List Slot = freed ns (get_or qs l no_chain).first f in
    ⊎_elim
    (λ (e : k ≡ l). subst (IsQueue new k) (sym (get_or-set_at qs l k d no_chain e lt)) (subst (λ x. IsQueue new x d) (sym e) pop.queue))
    (λ (ne : k ≡ l → ⊥).
    let c : Chain = get_or qs k no_chain in
    let moved : Stays ns new (Some k) c.first c.count = pop.others (Some k) c.first c.count (are k).0 (λ e. ne (same_some k l e)) in
    subst (IsQueue new k) (sym (get_or-set_other qs l k d no_chain ne)) (moved.chain, subst (λ ks. HasLastPlace ks c.last) (sym moved.places) (are k).1))
    (cases_eq k l)

pub first_popped : (ns : List Slot) (qs : List Chain) (l f : ℕ) → l < length qs → Popped ns l f (get_or qs l no_chain)
    → on_link l (items_of ns qs) ≡ (slot_at ns (get_or qs l no_chain).first).message ∷ on_link l (items_of (freed ns (get_or qs l no_chain).first f) (set qs l (popped ns (get_or qs l no_chain))))
first_popped ns qs l f lt pop =
    let d : Chain = popped ns (get_or qs l no_chain) in
    let new : List Slot = freed ns (get_or qs l no_chain).first f in
    in_queue ns qs l ∙ pop.messages ∙ ap (λ ms. (slot_at ns (get_or qs l no_chain).first).message ∷ ms) (sym (in_queue new (set qs l d) l ∙ ap (read_of new) (get_or-set_at qs l l d no_chain refl lt)))

pub others_popped : (ns : List Slot) (qs : List Chain) (l f : ℕ) → AreQueues ns qs → Popped ns l f (get_or qs l no_chain) → (k : ℕ) → (k ≡ l → ⊥)
    → on_link k (items_of (freed ns (get_or qs l no_chain).first f) (set qs l (popped ns (get_or qs l no_chain)))) ≡ on_link k (items_of ns qs)
others_popped ns qs l f are pop k ne =
    let d : Chain = popped ns (get_or qs l no_chain) in
    let new : List Slot = freed ns (get_or qs l no_chain).first f in
    let c : Chain = get_or qs k no_chain in
    in_queue new (set qs l d) k ∙ ap (read_of new) (get_or-set_other qs l k d no_chain ne) ∙ (pop.others (Some k) c.first c.count (are k).0 (λ e. ne (same_some k l e))).messages ∙ sym (in_queue ns qs k)

-- what a read of the queues gives
pub there : (qs read : List Chain) (l : ℕ) (a : Chain) → read ≡ qs → true ≡ nat_lt l (length read) → a ≡ get_or read l a → (l < length qs) × (a ≡ get_or qs l no_chain)
there qs read l a same lt is =
    let below : l < length read = ltb-true l (length read) (sym lt) in
    (subst (λ xs. l < length xs) same below, is ∙ get_or_default read l a no_chain below ∙ ap (λ xs. get_or xs l no_chain) same)

pub past_read : (ns : List Slot) (qs read : List Chain) (l : ℕ) → read ≡ qs → false ≡ nat_lt l (length read) → on_link l (items_of ns qs) ≡ []
past_read ns qs read l same lt = past_all ns qs l (subst (λ xs. length xs ≤ l) same (past l (length read) lt))
  where
    past : (n m : ℕ) → false ≡ nat_lt n m → m ≤ n
    past n m h = grind arith

no_messages : (ns : List Slot) (k n : ℕ) → n ≡ 0 → read ns k n ≡ []
no_messages ns k n e = ap (read ns k) e

pub none_queued_on : (ns : List Slot) (qs : List Chain) (l : ℕ) (a : Chain) → a ≡ get_or qs l no_chain → a.count ≡ 0 → on_link l (items_of ns qs) ≡ []
none_queued_on ns qs l a is none = in_queue ns qs l ∙ ap (read_of ns) (sym is) ∙ no_messages ns a.first a.count none

first_one : (ns : List Slot) (k n : ℕ) (s : Slot) → (n ≡ 0 → ⊥) → k < length ns → s ≡ get_or ns k s → Some s.message ≡ slice_get (read ns k n) 0
first_one ns k zero s some lt is = absurd (some refl)
first_one ns k (suc n) s some lt is = ap (λ (x : Slot). Some x.message) (is ∙ get_or_default ns k s no_slot lt)

chain_within : (ns : List Slot) (o : Option ℕ) (k n : ℕ) → (n ≡ 0 → ⊥) → IsChain ns o k n → k < length ns
chain_within ns o k zero some h = absurd (some refl)
chain_within ns o k (suc n) some h = h.0

pub first_within : (ns : List Slot) (qs : List Chain) (l : ℕ) (a : Chain) → AreQueues ns qs → a ≡ get_or qs l no_chain → (a.count ≡ 0 → ⊥) → a.first < length ns
first_within ns qs l a are is some = chain_within ns (Some l) a.first a.count some (subst (λ (x : Chain). IsChain ns (Some l) x.first x.count) (sym is) (are l).0)

pub first_is : (ns : List Slot) (qs : List Chain) (l : ℕ) (a : Chain) (s : Slot) → AreQueues ns qs → a ≡ get_or qs l no_chain → (a.count ≡ 0 → ⊥) → s ≡ get_or ns a.first s → Some s.message ≡ slice_get (on_link l (items_of ns qs)) 0
first_is ns qs l a s are is some at =
    first_one ns a.first a.count s some (first_within ns qs l a are is some) at
    ∙ ap (λ ms. slice_get ms 0) (ap (read_of ns) is ∙ sym (in_queue ns qs l))

-- a push on link l, by what its steps read
pub record PushIs (old mid new : List Slot) (qs : List Chain) (l : ℕ) (m : Message) (d : Chain) : Type 0 where
  pub queues : AreQueues new (set qs l d)
  pub frees : (k n : ℕ) → IsChain mid None k n → IsChain new None k n
  pub messages : (k : ℕ) → on_link k (items_of new (set qs l d)) ≡ on_link k (items_of old qs) ++ (if k == l then m ∷ [] else [])
  pub len : length (items_of new (set qs l d)) ≡ length (items_of old qs) + 1

pub push_is : (old mid new : List Slot) (qs : List Chain) (l p : ℕ) (m : Message) (a d : Chain) → l < length qs → AreQueues old qs → a ≡ get_or qs l no_chain
    → (p < length mid) × (slot_at mid p ≡ record { message = m; link = Some l; next = 0 })
    → ((k j n : ℕ) → IsChain old (Some k) j n → Stays old mid (Some k) j n) → ((k j n : ℕ) → IsChain old (Some k) j n → IsIn p (walk old j n) → ⊥)
    → new ≡ (if a.count == 0 then mid else slots_joined mid a.last p) → d ≡ joined_to a p → PushIs old mid new qs l m d
push_is old mid new qs l p m a d lt are at placed others apart slots queue =
    let c : Chain = get_or qs l no_chain in
    let push : Pushed old mid new l m c d = subst (λ (x : Chain). Pushed old mid new l m x d) at
    (pushed old mid new l p m a d (subst (IsQueue old l) (sym at) (are l)) placed.0 placed.1 (λ j n. others l j n) (λ j n. apart l j n) slots queue) in
    let more : d.count ≡ c.count + 1 = ap (λ (x : Chain). x.count) queue ∙ ap (λ (x : Chain). x.count + 1) at in
    record {
      queues = queues_pushed old mid new qs l m d lt are others push;
      frees = λ k n h. free_pushed mid new old l m c d k n push h;
      messages = messages_pushed old mid new qs l m d lt are others push;
      len = omega (arith, count_set old new qs l d lt, more);
    }

pub last_there : (old mid : List Slot) (qs : List Chain) (l : ℕ) (a : Chain) → AreQueues old qs → a ≡ get_or qs l no_chain
    → ((k j n : ℕ) → IsChain old (Some k) j n → Stays old mid (Some k) j n) → 0 < a.count → a.last < length mid
last_there old mid qs l a are at others some =
    let queue : IsQueue old l a = subst (IsQueue old l) (sym at) (are l) in
    let moved : Stays old mid (Some l) a.first a.count = others l a.first a.count queue.0 in
    last_in mid (Some l) a.first a.last a.count moved.chain (subst (λ ks. HasLastPlace ks a.last) (sym moved.places) queue.1) some

-- a pop from link l, by what its steps read
abbrev emptied : Slot → ℕ → Slot
emptied s f = record { message = s.message; link = None; next = f }

abbrev shorter : Chain → Slot → Chain
shorter a s = record { first = s.next; last = a.last; count = a.count - 1 }

pub record PopIs (ns : List Slot) (qs : List Chain) (l f : ℕ) (a : Chain) (s : Slot) : Type 0 where
  pub queues : AreQueues (set ns a.first (emptied s f)) (set qs l (shorter a s))
  pub frees : (n : ℕ) → IsChain ns None f n → IsChain (set ns a.first (emptied s f)) None a.first (n + 1)
  pub first : on_link l (items_of ns qs) ≡ s.message ∷ on_link l (items_of (set ns a.first (emptied s f)) (set qs l (shorter a s)))
  pub others : (k : ℕ) → (k ≡ l → ⊥) → on_link k (items_of (set ns a.first (emptied s f)) (set qs l (shorter a s))) ≡ on_link k (items_of ns qs)
  pub len : length (items_of (set ns a.first (emptied s f)) (set qs l (shorter a s))) + 1 ≡ length (items_of ns qs)

pub popped_is : (ns : List Slot) (qs : List Chain) (l f : ℕ) (a : Chain) (s : Slot) → l < length qs → AreQueues ns qs → a ≡ get_or qs l no_chain → (a.count ≡ 0 → ⊥) → s ≡ get_or ns a.first s → PopIs ns qs l f a s
popped_is ns qs l f a s lt are at some is =
    let c : Chain = get_or qs l no_chain in
    let n : ℕ = c.count in
    let full : c.count ≡ 0 → ⊥ = λ e. some (ap (λ (x : Chain). x.count) at ∙ e) in
    let pop : Popped ns l f c = pop_is ns qs l f are (positive c.count full) in
    let here : s ≡ slot_at ns c.first = is ∙ get_or_default ns a.first s no_slot (first_within ns qs l a are at some) ∙ ap (λ (x : Chain). slot_at ns x.first) at in
    let less : c.count - 1 + 1 ≡ c.count = whole c.count full in
    let given : PopIs ns qs l f c (slot_at ns c.first) = record {
      queues = queues_popped ns qs l f lt are pop;
      frees = pop.frees;
      first = first_popped ns qs l f lt pop;
      others = others_popped ns qs l f are pop;
      len = let counts : length (items_of (freed ns c.first f) (set qs l (popped ns c))) + c.count ≡ length (items_of ns qs) + (c.count - 1) = count_set ns (freed ns c.first f) qs l (popped ns c) lt in fewer (length (items_of (freed ns c.first f) (set qs l (popped ns c)))) (length (items_of ns qs)) c.count (c.count - 1) counts less;
    } in
    subst (λ (x : Chain). PopIs ns qs l f x s) (sym at) (subst (PopIs ns qs l f c) (sym here) given)
  where
    positive : (n : ℕ) → (n ≡ 0 → ⊥) → 0 < n
    positive zero some = absurd (some refl)
    positive (suc n) some = omega arith

    whole : (n : ℕ) → (n ≡ 0 → ⊥) → n - 1 + 1 ≡ n
    whole zero some = absurd (some refl)
    whole (suc n) some = omega arith

    fewer : (x y n k : ℕ) → x + n ≡ y + k → k + 1 ≡ n → x + 1 ≡ y
    fewer x y n k h e = omega (arith, h, e)
