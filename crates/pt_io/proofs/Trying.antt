-- A read or write after one that was interrupted.
use Rattle.std.proofs.Common.{ℕ, List, Option, None, Some, Result, Ok, Err, ◌++◌, ◌≡◌, subst, take}
use Rattle.std.specs.Io.KnownBytes.{Keeps, Appends, Consumes, WriteAppends, ReadConsumes}
use Rattle.std.proofs.KnownBytes.{Keeps-trans}

appends_after : (a b c : Option (List ℕ)) (bs : List ℕ) → Keeps a b → Appends b c bs → Appends a c bs
appends_after None b c bs k h = tt
appends_after (Some x) None c bs k h = absurd k
appends_after (Some x) (Some y) None bs k h = absurd h
appends_after (Some x) (Some y) (Some z) bs k h = subst (λ u. z ≡ u ++ bs) k h

consumes_after : (a b c : Option (List ℕ)) (bs : List ℕ) → Keeps a b → Consumes b c bs → Consumes a c bs
consumes_after None b c bs k h = tt
consumes_after (Some x) None c bs k h = absurd k
consumes_after (Some x) (Some y) None bs k h = absurd h
consumes_after (Some x) (Some y) (Some z) bs k h = subst (λ u. u ≡ bs ++ z) k h

pub written_after : {E : Type 0} (a b c : Option (List ℕ)) (r : Result ℕ E) (buf : List ℕ) → Keeps a b → WriteAppends b c r buf → WriteAppends a c r buf
written_after a b c (Ok n) buf k h = appends_after a b c (take n buf) k h
written_after a b c (Err e) buf k h = Keeps-trans a b c k h

pub read_after : {E : Type 0} (a b c : Option (List ℕ)) (r : Result ℕ E) (buf : List ℕ) → Keeps a b → ReadConsumes b c r buf → ReadConsumes a c r buf
read_after a b c (Ok n) buf k h = (consumes_after a b c (take n buf) k h.0, h.1)
read_after a b c (Err e) buf k h = Keeps-trans a b c k h
