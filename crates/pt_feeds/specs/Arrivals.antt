-- What comes of a text, byte by byte.
use Rattle.std.specs.Prelude.{◌≡◌, ◌≢◌, ℕ, List, [], ◌∷◌, ◌++◌, length, Option, None, Some}
use Rattle.pt_feeds.specs.declared.arrivals.Arrival.{Arrival}
use Rattle.pt_feeds.specs.declared.arrivals.Arrival.TheVariants as arrival

-- what comes by a byte after the bytes since the last line feed, and the bytes since the last line feed then: a line feed ends
-- the line, and any other byte is one more of the line, or one too many after 64
abbrev pub Arrives : List ℕ → ℕ → Option Arrival → List ℕ → Type 0
Arrives before byte None after = (byte ≢ 10) × (after ≡ before ++ byte ∷ [])
Arrives before byte (Some (arrival.Line line)) after = (byte ≡ 10) × (line.items ≡ before) × (after ≡ [])
Arrives before byte (Some arrival.TooLong) after = (byte ≢ 10) × (length before ≡ 64)
Arrives before byte (Some _) after = ⊥

-- what comes at the end of a text: its last line has to end in a line feed
abbrev pub end_of : List ℕ → Arrival
end_of [] = arrival.End
end_of (byte ∷ bytes) = arrival.NoLineFeed
