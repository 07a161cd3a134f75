-- What the first bytes of a content say of the whole of it, and what was asked for.
use Rattle.std.proofs.Common.{◌≡◌, ℕ, List, [], ◌∷◌, ◌++◌, ◌+◌, ◌<◌, ◌≤◌, Option, Some, None, IfSome, take, sym, subst, ◌∙◌, ap, append_assoc, refl, length, get_or, ⊎_elim, arith, inr}
use Rattle.std.proofs.lemmas.List.{take_all, take_more}
use Rattle.std.proofs.lemmas.Grind.{common_steps}
use Rattle.pt_io.specs.Causes.{Rose}
use Rattle.pt_types.specs.declared.graph.Graph.{Graph}
use Rattle.pt_types.specs.declared.graph.Actor.{Actor}
use Rattle.pt_types.specs.Groups.{no_actor}
use Rattle.pt_types.specs.Lookups.{kind_of}
use Rattle.pt_sensors.specs.declared.fault.RowFault.{RowFault}
use Rattle.pt_sensors.specs.declared.fault.RowFault.TheVariants as row
use Rattle.pt_sensor_files.specs.declared.recorded_fault.LateRows.{LateRows}
use Rattle.pt_sensor_files.specs.declared.recorded_fault.RecordedFault.{RecordedFault}
use Rattle.pt_sensor_files.specs.declared.recorded_fault.RecordedFault.TheVariants as fault
use Rattle.pt_sensor_files.specs.Asked.{Asks, AsksBy, AsksOrNot, AsksFiles, AsksUpTo, ReadFails, file_of, files_before, sensor_files}
use Rattle.pt_io.specs.Calls.{Contents, SourceCall}
use Rattle.pt_sensor_files.specs.Bytes.{OfBytes}
use Rattle.pt_sensor_files.specs.Faults.{fault_of_sensor}
use Rattle.pt_sensor_files.specs.Files.{CauseOfActor}

-- what a function of the fetched bytes gives is what it gives of the content
pub of_content : {R : Type 0} (f : List ℕ → R) (most : ℕ) → ((bytes : List ℕ) → f (take most bytes) ≡ f bytes) → (o : Option (List ℕ)) (fetched : List ℕ) (r : R)
    → IfSome o (λ bytes. fetched ≡ take most bytes) → f fetched ≡ r → OfBytes o (λ bytes. f bytes ≡ r)
of_content f most same None fetched r h read = (fetched, read)
of_content f most same (Some bytes) fetched r h read = sym (same bytes) ∙ (rw h at read)

-- names asked for one after another
pub asks_more : (a b c : Option (List (List ℕ))) (xs ys : List (List ℕ)) → Asks a b xs → Asks b c ys → Asks a c (xs ++ ys)
asks_more None b c xs ys p q = tt
asks_more (Some w) b c xs ys p q = rw (← append_assoc) (rw p at q)

pub append_none : (xs : List (List ℕ)) → xs ++ [] ≡ xs
append_none [] = refl
append_none (x ∷ xs) = ap (λ ys. x ∷ ys) (append_none xs)

pub asks_none : (a b : Option (List (List ℕ))) → b ≡ a → Asks a b []
asks_none None b e = tt
asks_none (Some w) b e = e ∙ ap Some (sym (append_none w))

-- a count that rose later rose
pub rose_later : (first before now : ℕ) → first ≤ before → Rose before now → Rose first now
rose_later first before now grew rose = grind (arith, common_steps)

-- a read that failed, after others were asked for
pub read_after : (others more : List (List ℕ)) (name : List ℕ) (first asked now : Option (List (List ℕ))) (start before last : ℕ) → Asks first asked others → start ≤ before
    → ReadFails more name (record { asked_before = asked; asked_now = now; before = before; now = last }) → ReadFails (others ++ more) name (record { asked_before = first; asked_now = now; before = start; now = last })
read_after others more name first asked now start before last asks grew failed = record {
  asked = subst (Asks first now) (sym (append_assoc others more (name ∷ []))) (asks_more first asked now others (more ++ name ∷ []) asks failed.asked);
  rose = rose_later start before last grew failed.rose;
}

-- the files of one actor more
files_append : (xs ys : List Actor) → sensor_files (xs ++ ys) ≡ sensor_files xs ++ sensor_files ys
files_append [] ys = refl
files_append (x ∷ xs) ys = ap (λ zs. file_of x.kind ++ zs) (files_append xs ys) ∙ sym (append_assoc (file_of x.kind) (sensor_files xs) (sensor_files ys))

files_more : (g : Graph) (n : ℕ) → n < length g.actors → files_before g (n + 1) ≡ files_before g n ++ file_of (kind_of g n)
files_more g n lt =
    ap sensor_files (take_more g.actors n no_actor lt)
    ∙ files_append (take n g.actors) (get_or g.actors n no_actor ∷ [])
    ∙ ap (λ zs. files_before g n ++ zs) (append_none (file_of (kind_of g n)))

-- after one actor more, or after none
pub asks_files : (g : Graph) (n : ℕ) (first asked now : Option (List (List ℕ))) → n < length g.actors → Asks first asked (files_before g n) → Asks asked now (file_of (kind_of g n)) → Asks first now (files_before g (n + 1))
asks_files g n first asked now lt was asks = subst (Asks first now) (sym (files_more g n lt)) (asks_more first asked now (files_before g n) (file_of (kind_of g n)) was asks)

asks_at_most : (g : Graph) (n : ℕ) (first asked now : Option (List (List ℕ))) → n < length g.actors → Asks first asked (files_before g n) → AsksOrNot asked now (file_of (kind_of g n)) → AsksFiles g first now
asks_at_most g n first asked now lt was asks =
    ⊎_elim
    (λ (none : Asks asked now []). (n, subst (Asks first now) (append_none (files_before g n)) (asks_more first asked now (files_before g n) [] was none)))
    (λ (file : Asks asked now (file_of (kind_of g n))). (n + 1, asks_files g n first asked now lt was file))
    asks

-- the fault comes after the name was asked for
pub asks_before_fault : (actor : ℕ) (f : RowFault) (before now : Option (List (List ℕ))) (names : List (List ℕ)) → Asks before now names → AsksBy (fault_of_sensor actor f) before now names
asks_before_fault actor row.Memory before now names h = inr h
asks_before_fault actor row.TooLong before now names h = h
asks_before_fault actor row.Header before now names h = h
asks_before_fault actor (row.Fields n) before now names h = h
asks_before_fault actor (row.Number n) before now names h = h
asks_before_fault actor (row.TimeOrder n) before now names h = h
asks_before_fault actor (row.SeenOrder n) before now names h = h
asks_before_fault actor (row.SeenEarly n) before now names h = h
asks_before_fault actor row.TooManyRows before now names h = h

asks_by_or_not : (f : RecordedFault) (before now : Option (List (List ℕ))) (names : List (List ℕ)) → AsksBy f before now names → AsksOrNot before now names
asks_by_or_not fault.Memory before now names h = h
asks_by_or_not (fault.Read actor) before now names h = inr h
asks_by_or_not (fault.Sensor actor f) before now names h = inr h
asks_by_or_not (fault.Late actor row seen limit) before now names h = inr h

pub asks_by_files : (g : Graph) (n : ℕ) (f : RecordedFault) (first asked now : Option (List (List ℕ))) → n < length g.actors → Asks first asked (files_before g n) → AsksBy f asked now (file_of (kind_of g n)) → AsksFiles g first now
asks_by_files g n f first asked now lt was by = asks_at_most g n first asked now lt was (asks_by_or_not f asked now (file_of (kind_of g n)) by)

-- where an actor gave no rows, after the actors before it gave theirs
pub asks_up_to : (l : LateRows) (contents : Contents) (g : Graph) (n : ℕ) (f : RecordedFault) (r : SourceCall) (first asked now : Option (List (List ℕ))) → n < length g.actors → Asks first asked (files_before g n)
    → CauseOfActor l f contents g n r → AsksBy f asked now (file_of (kind_of g n)) → AsksUpTo f g first now
asks_up_to l contents g n fault.Memory r first asked now lt was cause by = asks_at_most g n first asked now lt was by
asks_up_to l contents g n (fault.Read named) r first asked now lt was cause by = subst (λ a. Asks first now (files_before g (a + 1))) (sym cause.0) (asks_files g n first asked now lt was by)
asks_up_to l contents g n (fault.Sensor named f) r first asked now lt was cause by = subst (λ a. Asks first now (files_before g (a + 1))) (sym cause.0) (asks_files g n first asked now lt was by)
asks_up_to l contents g n (fault.Late named row seen limit) r first asked now lt was cause by = subst (λ a. Asks first now (files_before g (a + 1))) (sym cause.0) (asks_files g n first asked now lt was by)

-- after the files of all actors
pub asks_all : (g : Graph) (n : ℕ) (first now : Option (List (List ℕ))) → length g.actors ≤ n → Asks first now (files_before g n) → Asks first now (sensor_files g.actors)
asks_all g n first now whole was = subst (Asks first now) (ap sensor_files (take_all n g.actors whole)) was
