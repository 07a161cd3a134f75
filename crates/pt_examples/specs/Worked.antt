-- The meanings of the programs, worked by hand.
use Rattle.std.specs.Prelude.{◌≡◌, ◌^◌, ◌-◌, ℕ, List, [], ◌∷◌, codes, pos}
use Rattle.pt_types.specs.declared.graph.Graph.{Graph}
use Rattle.pt_types.specs.declared.rows.Row.{Row}
use Rattle.pt_semantics.specs.Meaning.{ActorFiring, IsMeaning}
use Rattle.pt_semantics.specs.Tables.{tables_text}
use Rattle.pt_examples.specs.Programs.{Acts, acts, text, row, listed_rows, ranks_of, basic, merged, diamond, loop, ticks, linked, guarded, lanes}

-- a program with these ranks and rows has a meaning, and its actuators' tables have these lines
pub record HasMeaningLines (g : Graph) (ranks : List ℕ) (rows : List (List Row)) (lines : List Acts) : Type 0 where
  pub firings : List ActorFiring
  pub meaning : IsMeaning g (ranks_of ranks) (listed_rows rows) firings
  pub table : tables_text g firings ≡ text lines

pub record AreWorked : Type 0 where
  -- the value is doubled and delayed
  pub delayed : HasMeaningLines (basic 100 0) (0 ∷ 1 ∷ 2 ∷ 0 ∷ []) ((row 50 55 (pos 7) ∷ []) ∷ []) (acts (codes "out") 150 0 (pos 14) ∷ [])
  -- without rows the tables have no lines
  pub silent : HasMeaningLines (basic 100 0) (0 ∷ 1 ∷ 2 ∷ 0 ∷ []) [] []
  -- a delay of 0 is one step
  pub stepped : HasMeaningLines (basic 0 0) (0 ∷ 1 ∷ 2 ∷ 0 ∷ []) ((row 50 55 (pos 7) ∷ []) ∷ []) (acts (codes "out") 50 1 (pos 14) ∷ [])
  -- an event after the horizon is dropped
  pub dropped : HasMeaningLines (basic 100 0) (0 ∷ 1 ∷ 2 ∷ 0 ∷ []) ((row 900 905 (pos 7) ∷ row 901 906 (pos 7) ∷ []) ∷ []) (acts (codes "out") 1000 0 (pos 14) ∷ [])
  -- of two values at one tag a merge gives that of its lowest input
  pub lowest : HasMeaningLines merged (0 ∷ 0 ∷ 1 ∷ 2 ∷ []) ((row 50 55 (pos 3) ∷ []) ∷ (row 50 55 (pos 4) ∷ []) ∷ []) (acts (codes "out") 50 0 (pos 3) ∷ [])
  -- an addition fires once, with both of its inputs
  pub both : HasMeaningLines diamond (0 ∷ 1 ∷ 1 ∷ 2 ∷ 3 ∷ []) ((row 50 55 (pos 7) ∷ []) ∷ []) (acts (codes "out") 50 0 (pos 22) ∷ [])
  -- a cycle with a delay goes on up to the horizon
  pub cycle : HasMeaningLines loop (0 ∷ 1 ∷ 2 ∷ 2 ∷ []) ((row 50 55 (pos 7) ∷ []) ∷ [])
      (acts (codes "out") 50 0 (pos 7) ∷ acts (codes "out") 150 0 (pos 7) ∷ acts (codes "out") 250 0 (pos 7) ∷ acts (codes "out") 350 0 (pos 7) ∷ acts (codes "out") 450 0 (pos 7) ∷ acts (codes "out") 550 0 (pos 7) ∷ acts (codes "out") 650 0 (pos 7) ∷ acts (codes "out") 750 0 (pos 7) ∷ acts (codes "out") 850 0 (pos 7) ∷ acts (codes "out") 950 0 (pos 7) ∷ [])
  -- an `every` counts from 0
  pub counted : HasMeaningLines ticks (0 ∷ 1 ∷ []) [] (acts (codes "out") 0 0 (pos 0) ∷ acts (codes "out") 250 0 (pos 1) ∷ acts (codes "out") 500 0 (pos 2) ∷ acts (codes "out") 750 0 (pos 3) ∷ acts (codes "out") 1000 0 (pos 4) ∷ [])
  -- a link delivers an event at the sender's tag
  pub sent_on : HasMeaningLines linked (0 ∷ 1 ∷ 0 ∷ 1 ∷ 2 ∷ 0 ∷ []) ((row 50 55 (pos 7) ∷ []) ∷ []) (acts (codes "out") 140 0 (pos 7) ∷ [])
  -- sums stop at the greatest i64
  pub saturated : HasMeaningLines diamond (0 ∷ 1 ∷ 1 ∷ 2 ∷ 3 ∷ []) ((row 50 55 (pos (2 ^ 63 - 1)) ∷ []) ∷ []) (acts (codes "out") 50 0 (pos (2 ^ 63 - 1)) ∷ [])
  -- the guard holds for 9, and not for 4
  pub by_guard : HasMeaningLines guarded (0 ∷ 1 ∷ 2 ∷ []) ((row 50 55 (pos 9) ∷ row 60 65 (pos 4) ∷ []) ∷ []) (acts (codes "out") 50 0 (pos 1) ∷ acts (codes "out") 60 0 (pos 0) ∷ [])
  -- the lanes of an actor have no effect on each other
  pub side_by_side : HasMeaningLines lanes (0 ∷ 0 ∷ 1 ∷ 2 ∷ 2 ∷ []) ((row 50 55 (pos 3) ∷ []) ∷ (row 50 60 (pos 4) ∷ []) ∷ []) (acts (codes "out") 50 0 (pos 3) ∷ acts (codes "out2") 50 0 (pos 4) ∷ [])
