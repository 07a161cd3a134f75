use Rattle.pt_meaning.specs.Current.{current_value}
use Rattle.pt_meaning.specs.Waiting.{place_of}
use Rattle.pt_meaning.proofs.Currents.{leads_some, leads_none, leads_first, leads_present, leads_within}
use Rattle.pt_meaning.proofs.current.Current.first.Goals as goal

pub returns-clause-first : goal.returns-clause-first
returns-clause-first c = leads_some (current_value c.args.self.now) c.leader.result c.leader.ensures (λ x lead rank actors steps sound. leads_first (current_value c.args.self.now) rank actors steps x lead sound)

pub returns-clause-present : goal.returns-clause-present
returns-clause-present c = leads_some (current_value c.args.self.now) c.leader.result c.leader.ensures (λ x lead rank actors steps sound. leads_present (current_value c.args.self.now) rank actors steps x lead sound)

pub returns-clause-within : goal.returns-clause-within
returns-clause-within c = leads_some (current_value c.args.self.now) c.leader.result c.leader.ensures (λ x lead rank actors steps sound. leads_within (current_value c.args.self.now) rank actors steps x lead sound)

pub returns-clause-empty : goal.returns-clause-empty
returns-clause-empty c = leads_none (current_value c.args.self.now) c.leader.result c.leader.ensures (λ none rank a p t. none (place_of rank a p t))
