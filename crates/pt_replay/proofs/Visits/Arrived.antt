-- Messages that have arrived are taken one after the other.
use Rattle.std.proofs.Common.{◌≡◌, ℕ, ◌+◌, ◌<◌, ◌≤◌, true, false, List, [], ◌∷◌, ◌++◌, Some, None, ⊎_elim, length, map, take, drop, nat_le, refl, sym, ap, ap₂, ◌∙◌, append_assoc, append-nil, length-append, arith}
use Rattle.std.specs.Prelude.{filter}
use Rattle.std.proofs.lemmas.Bool.{cases_Bool, cond-false, cond-true, lt-leb}
use Rattle.std.proofs.lemmas.List.{length-map}
use Rattle.std.proofs.lemmas.List.Elements.{filter-append}
use Rattle.std.proofs.Math.Seq.{drop-append_seam, take-append_seam}
use Rattle.pt_tags.specs.declared.message.Message.{Message}
use Rattle.pt_semantics.specs.Lists.{Each}
use Rattle.pt_semantics.proofs.Lookups.{none_some, same_some}
use Rattle.pt_types.specs.declared.air.InAir.{InAir}
use Rattle.pt_semantics.specs.Arrivals.{AirwayView, first_arrived, left_after, rest_after}
use Rattle.pt_semantics.specs.TrueTime.{came}

-- k messages that have arrived are in the pipe
pub record Delivers (now k : ℕ) (a b : AirwayView) (delivered : List Message) : Type 0 where
  pub front : List InAir
  pub count : length front ≡ k
  pub here : Each (λ (m : InAir). nat_le m.arrives now ≡ true) front
  pub rest : a.on_way ≡ front ++ b.on_way
  pub same : b ≡ record a { on_way = b.on_way }
  pub messages : delivered ≡ map (λ (m : InAir). m.message) front

pub none_delivered : (now : ℕ) (a : AirwayView) → Delivers now 0 a a []
none_delivered now a = record { front = []; count = refl; here = tt; rest = refl; same = refl; messages = refl }

all_pass : (now : ℕ) (ms : List InAir) → Each (λ (m : InAir). nat_le m.arrives now ≡ true) ms → filter (λ (m : InAir). nat_le m.arrives now) ms ≡ ms
all_pass now [] h = refl
all_pass now (m ∷ ms) h = rw h.0 (ap (λ (z : List InAir). m ∷ z) (all_pass now ms h.1))

pub none_passes : (now : ℕ) (ms : List InAir) → Each (λ (m : InAir). now < m.arrives) ms → filter (λ (m : InAir). nat_le m.arrives now) ms ≡ []
none_passes now [] h = refl
none_passes now (m ∷ ms) h =
    let later : nat_le m.arrives now ≡ false = lt-leb m.arrives now h.0 in
    rw later (none_passes now ms h.1)

each_more : (P : InAir → Type 0) (ms : List InAir) (m : InAir) → Each P ms → P m → Each P (ms ++ m ∷ [])
each_more P [] m h p = (p, tt)
each_more P (x ∷ ms) m h p = (h.0, each_more P ms m h.1 p)

map_more : (ms : List InAir) (m : InAir) → map (λ (x : InAir). x.message) (ms ++ m ∷ []) ≡ map (λ (x : InAir). x.message) ms ++ m.message ∷ []
map_more [] m = refl
map_more (x ∷ ms) m = ap (λ z. x.message ∷ z) (map_more ms m)

module _ (now k : ℕ) (a b : AirwayView) (pipe : List Message) (h : Delivers now k a b pipe) where
  passed : filter (λ (m : InAir). nat_le m.arrives now) a.on_way ≡ h.front ++ filter (λ (m : InAir). nat_le m.arrives now) b.on_way
  passed =
      ap (filter (λ (m : InAir). nat_le m.arrives now)) h.rest
      ∙ filter-append (λ (m : InAir). nat_le m.arrives now) h.front b.on_way
      ∙ ap (λ (z : List InAir). z ++ filter (λ (m : InAir). nat_le m.arrives now) b.on_way) (all_pass now h.front h.here)

  -- these are all that a visit takes
  ends_so : came now a.on_way ≡ k → (pipe ≡ map (λ (m : InAir). m.message) (take (came now a.on_way) a.on_way)) × (b ≡ record a { on_way = drop (came now a.on_way) a.on_way })
  ends_so all =
      let many : came now a.on_way ≡ length h.front = all ∙ sym h.count in
      let taken : take (came now a.on_way) a.on_way ≡ h.front = ap₂ take many h.rest ∙ take-append_seam h.front b.on_way in
      let left : drop (came now a.on_way) a.on_way ≡ b.on_way = ap₂ drop many h.rest ∙ drop-append_seam h.front b.on_way in
      (h.messages ∙ ap (map (λ (m : InAir). m.message)) (sym taken), h.same ∙ ap (λ (z : List InAir). record a { on_way = z }) (sym left))

  -- the pipe is full
  pub all_places : k ≡ 64 → (pipe ≡ map (λ (m : InAir). m.message) (take (came now a.on_way) a.on_way)) × (b ≡ record a { on_way = drop (came now a.on_way) a.on_way })
  all_places full =
      ends_so
      (let more : length (filter (λ (m : InAir). nat_le m.arrives now) a.on_way) ≡ k + length (filter (λ (m : InAir). nat_le m.arrives now) b.on_way) = ap length passed ∙ length-append h.front (filter (λ (m : InAir). nat_le m.arrives now) b.on_way) ∙ ap (λ (n : ℕ). n + length (filter (λ (m : InAir). nat_le m.arrives now) b.on_way)) h.count in
      omega (arith, more, full))

  -- no other message has arrived
  pub all_came : k ≤ 64 → Each (λ (m : InAir). now < m.arrives) b.on_way → (pipe ≡ map (λ (m : InAir). m.message) (take (came now a.on_way) a.on_way)) × (b ≡ record a { on_way = drop (came now a.on_way) a.on_way })
  all_came few later =
      ends_so
      (let more : length (filter (λ (m : InAir). nat_le m.arrives now) a.on_way) ≡ k = ap length (passed ∙ ap (λ (z : List InAir). h.front ++ z) (none_passes now b.on_way later) ∙ append-nil h.front) ∙ h.count in
      omega (arith, more, few))

  -- one more message
  pub one_more : (message : Message) (c : AirwayView) → Some message ≡ first_arrived now b.on_way → c ≡ left_after now b → Delivers now (k + 1) a c (pipe ++ message ∷ [])
  one_more message c first left = with_first b.on_way refl first
    where
      with_first : (ms : List InAir) → b.on_way ≡ ms → Some message ≡ first_arrived now ms → Delivers now (k + 1) a c (pipe ++ message ∷ [])
      with_first [] is first = absurd (none_some message (sym first))
      with_first (m ∷ ms) is first =
          ⊎_elim
          (λ (e : nat_le m.arrives now ≡ true).
          let same_message : Some message ≡ Some m.message = first ∙ cond-true (nat_le m.arrives now) (Some m.message) None e in
          let to : message ≡ m.message = same_some message m.message same_message in
          let rest_of : rest_after now b.on_way ≡ ms = ap (rest_after now) is ∙ cond-true (nat_le m.arrives now) ms (m ∷ ms) e in
          let on_c : c.on_way ≡ ms = ap (λ (z : AirwayView). z.on_way) left ∙ rest_of in
          record {
            front = h.front ++ m ∷ [];
            count = length-append h.front (m ∷ []) ∙ ap (λ (n : ℕ). n + 1) h.count;
            here = each_more (λ (x : InAir). nat_le x.arrives now ≡ true) h.front m h.here e;
            rest = h.rest ∙ ap (λ (z : List InAir). h.front ++ z) (is ∙ ap (λ (z : List InAir). m ∷ z) (sym on_c)) ∙ sym (append_assoc h.front (m ∷ []) c.on_way);
            same = left ∙ ap (λ (z : AirwayView). record z { on_way = rest_after now b.on_way }) h.same ∙ ap (λ (z : List InAir). record a { on_way = z }) (sym (ap (λ (z : AirwayView). z.on_way) left));
            messages = ap₂ (λ (p : List Message) (x : Message). p ++ x ∷ []) h.messages to ∙ sym (map_more h.front m);
          })
          (λ (e : nat_le m.arrives now ≡ false). absurd (none_some message (sym (first ∙ cond-false (nat_le m.arrives now) (Some m.message) None e))))
          (cases_Bool (nat_le m.arrives now))

-- where no message has arrived, none goes
pub still_all : (now : ℕ) (b c : AirwayView) → Each (λ (m : InAir). now < m.arrives) b.on_way → c ≡ left_after now b → c ≡ b
still_all now b c later left = left ∙ ap (λ (z : List InAir). record b { on_way = z }) (none_goes b.on_way later)
  where
    none_goes : (ms : List InAir) → Each (λ (m : InAir). now < m.arrives) ms → rest_after now ms ≡ ms
    none_goes [] h = refl
    none_goes (m ∷ ms) h = cond-false (nat_le m.arrives now) ms (m ∷ ms) (lt-leb m.arrives now h.0)

-- the pipe has a place for the next message
pub has_place : (now k : ℕ) (a b : AirwayView) (delivered : List Message) → Delivers now k a b delivered → k < 64 → length delivered ≡ 64 → ⊥
has_place now k a b delivered h below full =
    let many : length delivered ≡ k = ap length h.messages ∙ length-map h.front (λ (m : InAir). m.message) ∙ h.count in
    omega (arith, many)
