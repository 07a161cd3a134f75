-- What a call on a source or a sink did: their counts and what they report, before and after it.
use Rattle.std.specs.Prelude.{ℕ, List, Option}
use Rattle.pt_io.specs.declared.source.Source as source
use Rattle.pt_io.specs.declared.sink.Sink as sink

-- the contents that a source reports, by name
abbrev pub Contents : Type 0
Contents = List ℕ → Option (List ℕ)

-- a source before and after a call: the names that it was asked for, if it reports them, and its count of faults
pub record SourceCall : Type 0 where
  pub asked_before : Option (List (List ℕ))
  pub asked_now : Option (List (List ℕ))
  pub before : ℕ
  pub now : ℕ

-- a sink before and after a call: its count of faults, and the bytes that it took, if it reports them
pub record SinkCall : Type 0 where
  pub before : ℕ
  pub now : ℕ
  pub written_before : Option (List ℕ)
  pub written_now : Option (List ℕ)

-- what a call did with a source
abbrev pub reading : {S : Type 0} → source.Ghosts S → S → S → SourceCall
reading s old new = record { asked_before = s.asked old; asked_now = s.asked new; before = s.faults old; now = s.faults new }

-- what a call did with a sink
abbrev pub writing : {K : Type 0} → sink.Ghosts K → K → K → SinkCall
writing k old new = record { before = k.faults old; now = k.faults new; written_before = k.written old; written_now = k.written new }
