-- What a run is named by: its links, its rows and its clocks, from the arguments of the call that begins it.
use Rattle.std.proofs.Common.{◌≡◌, ℕ, ◌<◌, List, [], None, Some, Option, length, get_or, sym, ap, subst, ◌∙◌}
use Rattle.std.proofs.lemmas.Option.{slice_get-get_or}
use Rattle.std.specs.Prelude.{slice_get}
use Rattle.pt_io.specs.Clocks.{ClockView}
use Rattle.pt_types.specs.declared.rows.Row.{Row}
use Rattle.pt_types.specs.Lookups.{platform_of}
use Rattle.pt_offsets.specs.Plans.{Parts}
use Rattle.pt_turn.specs.All.{AreAll, AreReady}
use Rattle.pt_turn.specs.Platforms.{PlatformView, rows_at}
use Rattle.pt_links.specs.Ends.{LinkId, SentBy, no_link}
use Rattle.pt_workers.specs.Opened.{AreBegun, AreNamedBy}

-- the link of the end in a place
abbrev pub link_in : Option (Option SentBy) → LinkId
link_in None = no_link
link_in (Some None) = no_link
link_in (Some (Some o)) = o.link

pub links_named : (outs : List (Option SentBy)) → AreNamedBy (λ l. link_in (slice_get outs l)) outs
links_named outs l o at = sym (ap link_in at)

abbrev pub readings_of_clock : Option ClockView → Option (List ℕ)
readings_of_clock None = None
readings_of_clock (Some c) = c.readings

abbrev pub ahead_in : Option ClockView → Option (ℕ → ℕ)
ahead_in None = None
ahead_in (Some c) = c.ahead

pub clocks_named : (clocks : List ClockView) → AreBegun (λ i. readings_of_clock (slice_get clocks i)) (λ i. ahead_in (slice_get clocks i)) clocks
clocks_named clocks i c at = (ap readings_of_clock at, ap ahead_in at)

abbrev pub rows_in : Option PlatformView → ℕ → List Row
rows_in None a = []
rows_in (Some v) a = rows_at v a

-- each actor's rows, from its own platform
abbrev pub rows_of_all : Parts → List PlatformView → ℕ → List Row
rows_of_all plan platforms a = rows_in (slice_get platforms (platform_of plan.graph a)) a

all_named : (plan : Parts) (rows : ℕ → List Row) (platforms : List PlatformView) → AreAll plan rows platforms → AreAll plan (rows_of_all plan platforms) platforms
all_named plan rows platforms all = record {
  count = all.count;
  plans = all.plans;
  numbers = all.numbers;
  opened = λ i a v at home. sym (ap (λ (z : Option PlatformView). rows_in z a) (ap (slice_get platforms) home ∙ at));
}

-- the plan is that of the first platform
pub ready_named : (p plan : Parts) (rows : ℕ → List Row) (platforms : List PlatformView) (d : PlatformView) → p ≡ (get_or platforms 0 d).plan → 0 < length platforms → AreReady plan rows platforms → AreAll p (rows_of_all p platforms) platforms
ready_named p plan rows platforms d is some ready =
    let same : plan ≡ p = sym (ready.all.plans 0 (get_or platforms 0 d) (slice_get-get_or platforms 0 d some)) ∙ sym is in
    subst (λ (q : Parts). AreAll q (rows_of_all q platforms) platforms) same (all_named plan rows platforms ready.all)
