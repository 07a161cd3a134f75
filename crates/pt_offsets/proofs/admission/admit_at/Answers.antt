use Rattle.std.proofs.Common.{◌≡◌, ◌≤◌, Ok, Err, Result, MatchResult, ap, length, sym, subst, true, arith}
use Rattle.pt_types.specs.Kinds.{kind_is_lawful}
use Rattle.pt_types.proofs.LawfulActors.{any_kind}
use Rattle.pt_offsets.specs.declared.fault.OffsetFault.{OffsetFault}
use Rattle.pt_offsets.specs.Margins.{HasActorOffset}
use Rattle.pt_offsets.proofs.Admitted.{names, none_sends, sends_in_time}
use Rattle.pt_offsets.proofs.Small.{kind_read}
use Rattle.pt_offsets.proofs.admission.admit_at.Goals as goal

-- each outcome is told of the graph where it is told of the kind and the offset
either_way : {P Q : Type 0} {R S : OffsetFault → Type 0} (r : Result (Unit {0}) OffsetFault) → (P → Q) → ((f : OffsetFault) → R f → S f) → MatchResult r (λ _. P) R → MatchResult r (λ _. Q) S
either_way (Ok x) ok err h = ok h
either_way (Err f) ok err h = err f h

pub admit-requires : goal.admit-requires
admit-requires c =
    let kind = kind_read c.args.graph.now c.as_slice.result.now c.args.number c.in-Some.actor.now c.as_slice.ensures c.in-Some.ensures.lookup.3.0 c.in-Some.ensures.lookup.1 in
    subst (λ k. kind_is_lawful k ≡ true) (sym kind) (any_kind c.args.graph.now c.args.number c.requires.lawful)

pub returns-in-Some : goal.returns-in-Some
returns-in-Some c =
    let kind = kind_read c.args.graph.now c.as_slice.result.now c.args.number c.in-Some.actor.now c.as_slice.ensures c.in-Some.ensures.lookup.3.0 c.in-Some.ensures.lookup.1 in
    let has = subst (HasActorOffset c.args.graph.now c.args.number) (sym c.offset_at.ensures) (c.requires.timings c.args.number).offset in
    either_way c.admit.result
    (sends_in_time c.args.graph.now c.args.number c.in-Some.actor.now.kind c.offset_at.result kind has)
    (λ f. names c.args.graph.now c.args.number c.in-Some.actor.now.kind c.offset_at.result f c.requires.lawful kind has)
    c.admit.ensures

pub returns-in-None : goal.returns-in-None
returns-in-None c =
    let past : length c.as_slice.result.now ≤ c.args.number = c.in-None.ensures.lookup.3 in
    let same : length c.as_slice.result.now ≡ length c.args.graph.now.actors = ap length c.as_slice.ensures in
    none_sends c.args.graph.now c.args.number (omega (arith, past, same))
