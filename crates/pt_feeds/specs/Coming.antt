-- What a list gives.
use Rattle.std.specs.Prelude.{ℕ, Bool, true, ◌&&◌, ◌==◌, nat_le, List, [], ◌∷◌, Option, Some, None, find, if◌then◌else◌}
use Rattle.pt_feeds.specs.declared.feeds.Fed.{Fed}
use Rattle.pt_feeds.specs.declared.feeds.Fed.TheVariants as fed
use Rattle.pt_feeds.specs.declared.list_feeds.Coming.{Coming}

-- a row is not given before its time
abbrev pub is_time : ℕ → Fed → Bool
is_time reading (fed.Row time value) = nat_le time reading
is_time reading _ = true

-- it can be given at this reading
abbrev pub is_there : ℕ → Coming → Bool
is_there reading coming = nat_le coming.from reading && is_time reading coming.what

-- what is given at this reading, if this comes next
abbrev pub next_gives : ℕ → Option Coming → Fed
next_gives reading None = fed.End
next_gives reading (Some coming) = if is_there reading coming then coming.what else fed.Nothing

-- what a sensor gives at this reading, if this is to come
abbrev pub list_gives : List Coming → ℕ → ℕ → Fed
list_gives coming sensor reading = next_gives reading (find (λ c. c.sensor == sensor) coming)

-- what is left to come then: all but the first of this sensor, if that was given
abbrev pub left_after : List Coming → ℕ → ℕ → List Coming
left_after [] sensor reading = []
left_after (c ∷ coming) sensor reading =
    if c.sensor == sensor then (if is_there reading c then coming else c ∷ coming) else c ∷ left_after coming sensor reading
