-- Offsets from a table of greatest lags: what a sensor or receiver brings, less the delay of each wire.
use Rattle.std.proofs.Common.{◌≡◌, ℕ, ℤ, zero, suc, ◌==◌, Bool, false, if◌then◌else◌, List, [], ◌∷◌, Option, Some, None, pos, negsuc, ◌-ℤ◌, ◌+◌, ◌≤ℤ◌, arith, refl, sym, ap, subst, ◌∙◌, inl, inr}
use Rattle.std.proofs.lemmas.Int.{ints}
use Rattle.std.proofs.lemmas.Bool.Decides.{nat_tests}
use Rattle.pt_types.specs.Ports.{when}
use Rattle.pt_types.specs.declared.graph.Graph.{Graph}
use Rattle.pt_types.specs.declared.graph.Unit.{Unit}
use Rattle.pt_semantics.specs.Lists.{IsIn, or_else}
use Rattle.pt_semantics.specs.Edges.{Edge, wires}
use Rattle.pt_semantics.specs.Units.{source, target, at_output}
use Rattle.pt_semantics.specs.Ranks.{sum_along}
use Rattle.pt_semantics.specs.Paths.{Goes}
use Rattle.pt_semantics.specs.Bounds.{bound_of, Feeds}
use Rattle.pt_semantics.specs.Offsets.{HasOffset}
use Rattle.pt_examples.specs.Programs.{lanes, linked, paired}
use Rattle.pt_examples.specs.Readings.{unit, LanesStandApart, LinkedReadings, PairedReading}

-- the table has at least z less d for this unit
record AtLeast (lag : Unit → Option ℤ) (u : Unit) (z : ℤ) (d : ℕ) : Type 0 where
  pub value : ℤ
  pub is : lag u ≡ Some value
  pub enough : (z -ℤ pos d) ≤ℤ value

abbrev FromSources : Graph → (Unit → Option ℤ) → Type 0
FromSources g lag = (a b : ℕ) → bound_of g a ≡ Some b → AtLeast lag (at_output g a 0) (pos b) 0

abbrev AlongWires : Graph → (Unit → Option ℤ) → Type 0
AlongWires g lag = (e : Edge) → IsIn e (wires g) → (z : ℤ) → lag (source g e) ≡ Some z → AtLeast lag (target g e) z e.weight.time

along : (g : Graph) (lag : Unit → Option ℤ) → AlongWires g lag → (path : List Edge) (x u : Unit) (z : ℤ) → Goes g x path u → lag x ≡ Some z → AtLeast lag u z (sum_along path).time
along g lag wires_fit [] x u z go is = record { value = z; is = subst (λ w. lag w ≡ Some z) go is; enough = self z }
  where
    self : (z : ℤ) → (z -ℤ pos 0) ≤ℤ z
    self z = omega (arith, ints)
along g lag wires_fit (e ∷ path) x u z (mem, src, rest) is =
    let one = wires_fit e mem z (subst (λ w. lag w ≡ Some z) (sym src) is) in
    let on = along g lag wires_fit path (target g e) u one.value rest one.is in
    record { value = on.value; is = on.is; enough = both z one.value on.value e.weight.time (sum_along path).time one.enough on.enough }
  where
    both : (z v w : ℤ) (d c : ℕ) → (z -ℤ pos d) ≤ℤ v → (v -ℤ pos c) ≤ℤ w → (z -ℤ pos (d + c)) ≤ℤ w
    both z v w d c h k = omega (arith, ints)

some_same : (x y : ℤ) → Some x ≡ Some y → x ≡ y
some_same x y h = cc

greatest : (g : Graph) (lag : Unit → Option ℤ) (u : Unit) (o : ℤ) → FromSources g lag → AlongWires g lag → lag u ≡ Some o → (s b : ℕ) (path : List Edge) → Feeds g s b path u → (pos b -ℤ pos (sum_along path).time) ≤ℤ o
greatest g lag u o sources_fit wires_fit is s b path feeds =
    let first = sources_fit s b feeds.bound in
    let on = along g lag wires_fit path (at_output g s 0) u first.value feeds.goes first.is in
    join (pos b) first.value on.value o (sum_along path).time first.enough on.enough (some_same on.value o (sym on.is ∙ is))
  where
    join : (b v w o : ℤ) (d : ℕ) → (b -ℤ pos 0) ≤ℤ v → (v -ℤ pos d) ≤ℤ w → w ≡ o → (b -ℤ pos d) ≤ℤ o
    join b v w o d h k e = omega (arith, ints)

no_bound : (b : ℕ) → None ≡ Some b → ⊥
no_bound b h = cc

bound_is : (m n : ℕ) → Some m ≡ Some n → m ≡ n
bound_is m n h = cc

here : (b c : ℕ) → b ≡ c → (pos c -ℤ pos 0) ≤ℤ pos b
here b c e = omega (arith, ints)

-- along one wire
fits_at : (g : Graph) (lag : Unit → Option ℤ) (w : Edge) (v out : ℤ) → lag (source g w) ≡ Some v → lag (target g w) ≡ Some out → (v -ℤ pos w.weight.time) ≡ out → (e : Edge) → e ≡ w → (z : ℤ) → lag (source g e) ≡ Some z → AtLeast lag (target g e) z e.weight.time
fits_at g lag w v out from to less e same z is =
    subst (λ (x : Edge). AtLeast lag (target g x) z x.weight.time) (sym same)
    (record { value = out; is = to; enough = enough z v out w.weight.time (some_same z v (sym is ∙ ap (λ (x : Edge). lag (source g x)) same ∙ from)) less })
  where
    enough : (z v out : ℤ) (d : ℕ) → z ≡ v → (v -ℤ pos d) ≡ out → (z -ℤ pos d) ≤ℤ out
    enough z v out d e f = omega (arith, ints)

-- the lanes
abbrev lanes_lag : ℕ → ℕ → Option ℤ
lanes_lag zero k = Some (pos 10)
lanes_lag (suc zero) k = Some (pos 200)
lanes_lag (suc (suc zero)) k = if k == 0 then Some (pos 10) else Some (pos 200)
lanes_lag (suc (suc (suc zero))) k = Some (pos 10)
lanes_lag (suc (suc (suc (suc zero)))) k = Some (pos 200)
lanes_lag (suc (suc (suc (suc (suc a))))) k = None

abbrev lag_lanes : Unit → Option ℤ
lag_lanes u = lanes_lag u.actor u.group

lanes_sources : FromSources lanes lag_lanes
lanes_sources zero b e = record { value = pos 10; is = refl; enough = here 10 b (bound_is 10 b e) }
lanes_sources (suc zero) b e = record { value = pos 200; is = refl; enough = here 200 b (bound_is 200 b e) }
lanes_sources (suc (suc zero)) b e = absurd (no_bound b e)
lanes_sources (suc (suc (suc zero))) b e = absurd (no_bound b e)
lanes_sources (suc (suc (suc (suc zero)))) b e = absurd (no_bound b e)
lanes_sources (suc (suc (suc (suc (suc a))))) b e = absurd (no_bound b e)

lanes_wires : AlongWires lanes lag_lanes
lanes_wires e (inl h) z is = fits_at lanes lag_lanes _ (pos 10) (pos 10) refl refl refl e h z is
lanes_wires e (inr (inl h)) z is = fits_at lanes lag_lanes _ (pos 200) (pos 200) refl refl refl e h z is
lanes_wires e (inr (inr (inl h))) z is = fits_at lanes lag_lanes _ (pos 10) (pos 10) refl refl refl e h z is
lanes_wires e (inr (inr (inr (inl h)))) z is = fits_at lanes lag_lanes _ (pos 200) (pos 200) refl refl refl e h z is
lanes_wires e (inr (inr (inr (inr h)))) z is = absurd h

first_offset : HasOffset lanes (unit 3 0) (Some (pos 10))
first_offset = record {
  some = (0, 10, (_ ∷ _ ∷ []), record { bound = refl; goes = (inl refl, refl, (inr (inr (inl refl)), refl, refl)) }, refl);
  greatest = greatest lanes lag_lanes (unit 3 0) (pos 10) lanes_sources lanes_wires refl;
}

second_offset : HasOffset lanes (unit 4 0) (Some (pos 200))
second_offset = record {
  some = (1, 200, (_ ∷ _ ∷ []), record { bound = refl; goes = (inr (inl refl), refl, (inr (inr (inr (inl refl))), refl, refl)) }, refl);
  greatest = greatest lanes lag_lanes (unit 4 0) (pos 200) lanes_sources lanes_wires refl;
}

pub lanes_stand_apart : LanesStandApart
lanes_stand_apart = record {
  first = (Some (pos 10), first_offset, refl);
  second = (Some (pos 200), second_offset, refl);
}

-- the two platforms
abbrev linked_lag : ℕ → Option ℤ
linked_lag zero = Some (pos 10)
linked_lag (suc zero) = Some (pos 10)
linked_lag (suc (suc zero)) = Some (negsuc 19)
linked_lag (suc (suc (suc zero))) = Some (pos 45)
linked_lag (suc (suc (suc (suc zero)))) = Some (pos 45)
linked_lag (suc (suc (suc (suc (suc zero))))) = Some (negsuc 14)
linked_lag (suc (suc (suc (suc (suc (suc a)))))) = None

abbrev lag_linked : Unit → Option ℤ
lag_linked u = linked_lag u.actor

not_there : (a : ℕ) → (3 == suc (suc (suc (suc (suc (suc a)))))) ≡ false
not_there a = grind (arith, nat_tests)

linked_sources : FromSources linked lag_linked
linked_sources zero b e = record { value = pos 10; is = refl; enough = here 10 b (bound_is 10 b e) }
linked_sources (suc zero) b e = absurd (no_bound b e)
linked_sources (suc (suc zero)) b e = absurd (no_bound b e)
linked_sources (suc (suc (suc zero))) b e = record { value = pos 45; is = refl; enough = here 45 b (bound_is 45 b e) }
linked_sources (suc (suc (suc (suc zero)))) b e = absurd (no_bound b e)
linked_sources (suc (suc (suc (suc (suc zero))))) b e = absurd (no_bound b e)
linked_sources (suc (suc (suc (suc (suc (suc a)))))) b e = absurd (no_bound b (sym (ap (λ (z : Bool). or_else (when z (Some 45)) None) (not_there a)) ∙ e))

linked_wires : AlongWires linked lag_linked
linked_wires e (inl h) z is = fits_at linked lag_linked _ (pos 10) (pos 10) refl refl refl e h z is
linked_wires e (inr (inl h)) z is = fits_at linked lag_linked _ (pos 10) (negsuc 19) refl refl refl e h z is
linked_wires e (inr (inr (inl h))) z is = fits_at linked lag_linked _ (pos 45) (pos 45) refl refl refl e h z is
linked_wires e (inr (inr (inr (inl h)))) z is = fits_at linked lag_linked _ (pos 45) (negsuc 14) refl refl refl e h z is
linked_wires e (inr (inr (inr (inr h)))) z is = absurd h

pub linked_readings : LinkedReadings
linked_readings = record {
  sender = (
    Some (negsuc 19),
    record {
      some = (0, 10, (_ ∷ _ ∷ []), record { bound = refl; goes = (inl refl, refl, (inr (inl refl), refl, refl)) }, refl);
      greatest = greatest linked lag_linked (unit 2 0) (negsuc 19) linked_sources linked_wires refl;
    },
    refl,
  );
  receiver = (
    Some (pos 45),
    record {
      some = (3, 45, [], record { bound = refl; goes = refl }, refl);
      greatest = greatest linked lag_linked (unit 3 0) (pos 45) linked_sources linked_wires refl;
    },
    refl,
  );
  actuator = (
    Some (negsuc 14),
    record {
      some = (3, 45, (_ ∷ _ ∷ []), record { bound = refl; goes = (inr (inr (inl refl)), refl, (inr (inr (inr (inl refl))), refl, refl)) }, refl);
      greatest = greatest linked lag_linked (unit 5 0) (negsuc 14) linked_sources linked_wires refl;
    },
    refl,
  );
}

-- the pair
abbrev paired_lag : ℕ → Option ℤ
paired_lag zero = Some (pos 10)
paired_lag (suc zero) = Some (pos 10)
paired_lag (suc (suc zero)) = Some (negsuc 19)
paired_lag (suc (suc (suc zero))) = Some (pos 65)
paired_lag (suc (suc (suc (suc zero)))) = Some (pos 65)
paired_lag (suc (suc (suc (suc (suc zero))))) = Some (pos 5)
paired_lag (suc (suc (suc (suc (suc (suc a)))))) = None

abbrev lag_paired : Unit → Option ℤ
lag_paired u = paired_lag u.actor

paired_sources : FromSources paired lag_paired
paired_sources zero b e = record { value = pos 10; is = refl; enough = here 10 b (bound_is 10 b e) }
paired_sources (suc zero) b e = absurd (no_bound b e)
paired_sources (suc (suc zero)) b e = absurd (no_bound b e)
paired_sources (suc (suc (suc zero))) b e = record { value = pos 65; is = refl; enough = here 65 b (bound_is 65 b e) }
paired_sources (suc (suc (suc (suc zero)))) b e = absurd (no_bound b e)
paired_sources (suc (suc (suc (suc (suc zero))))) b e = absurd (no_bound b e)
paired_sources (suc (suc (suc (suc (suc (suc a)))))) b e = absurd (no_bound b (sym (ap (λ (z : Bool). or_else (when z (Some 65)) None) (not_there a)) ∙ e))

paired_wires : AlongWires paired lag_paired
paired_wires e (inl h) z is = fits_at paired lag_paired _ (pos 10) (pos 10) refl refl refl e h z is
paired_wires e (inr (inl h)) z is = fits_at paired lag_paired _ (pos 10) (negsuc 19) refl refl refl e h z is
paired_wires e (inr (inr (inl h))) z is = fits_at paired lag_paired _ (pos 65) (pos 65) refl refl refl e h z is
paired_wires e (inr (inr (inr (inl h)))) z is = fits_at paired lag_paired _ (pos 65) (pos 5) refl refl refl e h z is
paired_wires e (inr (inr (inr (inr h)))) z is = absurd h

pub paired_reading : PairedReading
paired_reading = record {
  receiver = (
    Some (pos 65),
    record {
      some = (3, 65, [], record { bound = refl; goes = refl }, refl);
      greatest = greatest paired lag_paired (unit 3 0) (pos 65) paired_sources paired_wires refl;
    },
    refl,
  );
}
