-- The invariant of stored marks.
use Rattle.std.specs.Prelude.{◌≡◌, ◌+◌, ◌≤◌, length, vec_capacity, vec_len}
use Rattle.pt_history.specs.declared.marks.Marks.TheInside.{Inside}

-- each tag has an actor, there are no more numbers than tags, and the promised room is allocated
pub record AreFlatMarks (m : Inside) : Type 0 where
  pub actors : length m.actors.items ≡ length m.tags.items
  pub numbers : length m.numbers.items ≤ length m.tags.items
  pub tags_room : m.spare ≤ m.tags.spare
  pub actors_room : vec_len m.actors + m.spare ≤ vec_capacity m.actors
  pub numbers_room : vec_len m.numbers + m.spare ≤ vec_capacity m.numbers
