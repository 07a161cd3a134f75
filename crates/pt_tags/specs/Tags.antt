-- The order of tags, and sums of tags and delays.
use Rattle.std.specs.Prelude.{◌+◌, ◌<◌, ◌≤◌, ◌==◌, ◌^◌, nat_lt, Bool, ◌&&◌, ◌||◌}
use Rattle.pt_tags.specs.declared.tag.Tag.{Tag}
use Rattle.pt_tags.specs.declared.tag.Delay.{Delay}

-- t comes before u: by time, and by step at the same time
abbrev pub Before : Tag → Tag → Type 0
Before t u = (t.time ≤ u.time) × (u.time ≤ t.time → t.step < u.step)

-- t comes before u, or is u
abbrev pub UpTo : Tag → Tag → Type 0
UpTo t u = (t.time ≤ u.time) × (u.time ≤ t.time → t.step ≤ u.step)

-- the same comparisons as tests
abbrev pub same_tag : Tag → Tag → Bool
same_tag t u = (t.time == u.time) && (t.step == u.step)

abbrev pub tag_lt : Tag → Tag → Bool
tag_lt t u = nat_lt t.time u.time || (t.time == u.time) && nat_lt t.step u.step

-- a delay is added to a tag part by part; the sums have no limit
abbrev pub plus : Tag → Delay → Tag
plus t d = record { time = t.time + d.time; step = t.step + d.step }

-- the sum of two delays
abbrev pub then : Delay → Delay → Delay
then d e = record { time = d.time + e.time; step = d.step + e.step }

-- d is at most e: by time, and by step at the same time
abbrev pub AtMost : Delay → Delay → Type 0
AtMost d e = (d.time ≤ e.time) × (e.time ≤ d.time → d.step ≤ e.step)

abbrev pub zero_delay : Delay
zero_delay = record { time = 0; step = 0 }

-- time and step fit in 64 bits
abbrev pub Fits : Tag → Type 0
Fits t = (t.time < 2 ^ 64) × (t.step < 2 ^ 64)

abbrev pub FitsDelay : Delay → Type 0
FitsDelay d = (d.time < 2 ^ 64) × (d.step < 2 ^ 64)
