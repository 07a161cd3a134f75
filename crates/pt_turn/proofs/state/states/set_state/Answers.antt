use Rattle.std.proofs.Common.{rules}
use Rattle.pt_turn.proofs.Fields.ClaimLists.{states_set_as}
use Rattle.pt_turn.proofs.state.states.set_state.Goals as goal

pub returns-clause-states : goal.returns-clause-states
returns-clause-states c = states_set_as c.args.states.now.items c.args.actor c.args.value _ c.requires.actor (search rules)
