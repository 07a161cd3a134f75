-- The messages of an airway, when some are taken from it and some are put on it.
use Rattle.std.proofs.Common.{◌≡◌, ℕ, ◌≤◌, ◌+◌, zero, suc, Bool, true, false, if◌then◌else◌, List, [], ◌∷◌, ◌++◌, max, map, take, drop, length, slice_get, refl, sym, ap, ◌∙◌, append_assoc, append-nil, arith}
use Rattle.std.proofs.lemmas.List.{map-append, take-append-drop, drop-map}
use Rattle.std.proofs.Math.Seq.{drop-append_seam}
use Rattle.pt_tags.specs.declared.message.Message.{Message}
use Rattle.pt_types.specs.declared.graph.Graph.{Graph}
use Rattle.pt_types.specs.declared.air.InAir.{InAir}
use Rattle.pt_semantics.specs.Arrivals.{AirwayView, NeverFall, arrival_of, airway_with, transit_of}
use Rattle.pt_replay_laws.proofs.Arriving.{NeverFall-push, NeverFall-rest}
use Rattle.pt_semantics.specs.Visits.{leads_to}
use Rattle.pt_semantics.specs.TrueTime.{came, come_on, put_all}
use Rattle.pt_replay_laws.specs.ReplayState.{taken_off}

-- the messages on an airway
abbrev pub carried : AirwayView → List Message
carried a = map (λ (m : InAir). m.message) a.on_way

-- what is put on comes after what is on its way
pub put_carried : (now : ℕ) (transits : List ℕ) (delay : ℕ) (ms : List Message) (a : AirwayView) → carried (put_all now transits delay ms a) ≡ carried a ++ ms
put_carried now transits delay [] a = sym (append-nil (carried a))
put_carried now transits delay (m ∷ ms) a =
    put_carried now transits delay ms (airway_with now transits delay m a)
    ∙ ap (λ z. z ++ ms) (map-append (λ (o : InAir). o.message) a.on_way (record { arrives = arrival_of now transits delay m a; message = m } ∷ []))
    ∙ append_assoc (carried a) (m ∷ []) ms

-- what has come is a front of what is on its way
pub come_front : (g : Graph) (i now l : ℕ) (a : AirwayView) → (rest : List Message) × (carried a ≡ come_on g i now l a ++ rest)
come_front g i now l a = by_link (leads_to g i (slice_get g.links l))
  where
    by_link : (b : Bool) → (rest : List Message) × (carried a ≡ (if b then map (λ (m : InAir). m.message) (take (came now a.on_way) a.on_way) else []) ++ rest)
    by_link false = (carried a, refl)
    by_link true = (
      map (λ (m : InAir). m.message) (drop (came now a.on_way) a.on_way),
      ap (map (λ (m : InAir). m.message)) (sym (take-append-drop (came now a.on_way) a.on_way))
          ∙ map-append (λ (m : InAir). m.message) (take (came now a.on_way) a.on_way) (drop (came now a.on_way) a.on_way),
    )

-- what is taken off is a front of it
pub left_carried : (taken rest : List Message) (a : AirwayView) → carried a ≡ taken ++ rest → carried (taken_off taken a) ≡ rest
left_carried taken rest a split =
    sym (drop-map (λ (m : InAir). m.message) (length taken) a.on_way) ∙ ap (drop (length taken)) split ∙ drop-append_seam taken rest

-- arrivals still never fall
pub put_falls : (now : ℕ) (transits : List ℕ) (delay : ℕ) (ms : List Message) (a : AirwayView) → NeverFall 0 a.on_way a.latest → NeverFall 0 (put_all now transits delay ms a).on_way (put_all now transits delay ms a).latest
put_falls now transits delay [] a h = h
put_falls now transits delay (m ∷ ms) a h =
    put_falls now transits delay ms (airway_with now transits delay m a)
    (NeverFall-push 0 a.on_way a.latest (arrival_of now transits delay m a) m h (later (now + transit_of transits delay a.events m) a.latest))
  where
    later : (a b : ℕ) → b ≤ max a b
    later a b = omega arith

pub drop_falls : (n : ℕ) (ms : List InAir) (latest : ℕ) → NeverFall 0 ms latest → NeverFall 0 (drop n ms) latest
drop_falls zero ms latest h = h
drop_falls (suc n) [] latest h = h
drop_falls (suc n) (m ∷ ms) latest h = drop_falls n ms latest (NeverFall-rest (m ∷ ms) latest h)
