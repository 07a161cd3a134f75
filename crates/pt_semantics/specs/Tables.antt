-- The text of the actuators' tables.
use Rattle.std.specs.Prelude.{ℕ, suc, ℤ, List, [], ◌∷◌, ◌++◌, codes, ◌==◌, if◌then◌else◌}
use Rattle.std.specs.Fmt.{decimal, signed_decimal}
use Rattle.pt_tags.specs.declared.tag.Tag.{Tag}
use Rattle.pt_types.specs.declared.graph.Graph.{Graph}
use Rattle.pt_types.specs.declared.graph.Actor.{Actor}
use Rattle.pt_types.specs.declared.kind.Kind.{Kind}
use Rattle.pt_types.specs.declared.kind.Kind.TheVariants.{Actuator}
use Rattle.pt_types.specs.Ports.{at_port}
use Rattle.pt_semantics.specs.Firing.{or_zero}
use Rattle.pt_semantics.specs.Meaning.{ActorFiring}

-- the head line: actuator,time,step,value
abbrev pub head : List ℕ
head = codes "actuator,time,step,value" ++ 10 ∷ []

-- a line: NAME,TIME,STEP,VALUE
abbrev pub line : List ℕ → Tag → ℤ → List ℕ
line name tag value = name ++ 44 ∷ decimal tag.time ++ 44 ∷ decimal tag.step ++ 44 ∷ signed_decimal value ++ 10 ∷ []

-- the line of a firing of actor a, with the value of input 0; nothing for a firing of another actor
abbrev pub line_of : ℕ → List ℕ → ActorFiring → List ℕ
line_of a name x = if x.actor == a then line name x.tag (or_zero (at_port x.inputs 0)) else []

-- the lines of an actor's firings, in order
abbrev pub lines_of : ℕ → List ℕ → List ActorFiring → List ℕ
lines_of a name [] = []
lines_of a name (x ∷ xs) = line_of a name x ++ lines_of a name xs

-- the table of an actuator; nothing for other kinds
abbrev pub table_of : ℕ → List ℕ → Kind → List ActorFiring → List ℕ
table_of a name (Actuator slack) xs = lines_of a name xs
table_of a name _ xs = []

abbrev pub tables_from : ℕ → List Actor → List ActorFiring → List ℕ
tables_from a [] xs = []
tables_from a (actor ∷ more) xs = table_of a actor.name actor.kind xs ++ tables_from (suc a) more xs

-- the head line, and then the tables of all actuators in graph order
abbrev pub tables_text : Graph → List ActorFiring → List ℕ
tables_text g xs = head ++ tables_from 0 g.actors xs
