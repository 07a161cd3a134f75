-- What puts did with a sink, one after another.
use Rattle.std.specs.Prelude.{◌≡◌, ◌≤◌, ℕ, List}
use Rattle.pt_io.specs.Calls.{SinkCall}
use Rattle.pt_io.specs.Causes.{Appends, AppendsPart, Rose}

-- all of these bytes are out, and no fault was counted
pub record IsPut (call : SinkCall) (bytes : List ℕ) : Type 0 where
  pub all : Appends call.written_before call.written_now bytes
  pub uncounted : call.now ≡ call.before

-- a put failed: a prefix of these bytes is out, and the count of faults rose
pub record IsPartPut (call : SinkCall) (bytes : List ℕ) : Type 0 where
  pub part : AppendsPart call.written_before call.written_now bytes
  pub failed : Rose call.before call.now
  pub grows : call.before ≤ call.now
