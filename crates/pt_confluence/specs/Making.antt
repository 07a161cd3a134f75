-- Firings in the making.
use Rattle.std.specs.Prelude.{◌++◌, List, None, Option, Some, map}
use Rattle.pt_types.specs.declared.firing.ActorFiring.{ActorFiring}
use Rattle.pt_types.specs.declared.firing.Task.{Task}
use Rattle.pt_types.specs.declared.graph.Graph.{Graph}
use Rattle.pt_confluence.specs.Joined.{joined_in_front, neighbours_joined, whole_firing}
use Rattle.pt_confluence.specs.declared.joining.Joining.{Joining}

-- the joined tasks, if these tasks follow the last one
abbrev pub after_last : Option Task → List Task → List Task
after_last None rest = neighbours_joined rest
after_last (Some last) rest = joined_in_front last (neighbours_joined rest)

-- all firings, if these tasks follow
abbrev pub made : Graph → Joining → List Task → List ActorFiring
made g joining rest = joining.firings ++ map (whole_firing g) (after_last joining.last rest)
