use Rattle.std.proofs.Common.{[], refl, sym, inl, arith}
use Rattle.std.proofs.lemmas.List.{append-nil}
use Rattle.pt_turn.proofs.claim.claiming.claims.Goals as goal

pub returns-then-reading-fields-clause-claimed : goal.returns-then-reading-fields-clause-claimed
returns-then-reading-fields-clause-claimed c = record {
  claimed = [];
  appended = sym (append-nil c.args.tasks.now.items);
  claims = λ taken. refl;
  at_most = omega arith;
  count = omega arith;
  open_claims = omega arith;
  in_all = c.requires.claims;
  all_or = inl (c.requires.sound.none_safe c.args.reading c.if-reading-fields.true);
}

pub returns-clause-claimed : goal.returns-clause-claimed
returns-clause-claimed c =
    let is = c.claim_safe.ensures.claimed in
    record { claimed = is.claimed; appended = is.appended; claims = is.claims; at_most = is.at_most; count = is.count; open_claims = is.open_claims; in_all = is.in_all; all_or = is.all_or }

pub returns-clause-sound : goal.returns-clause-sound
returns-clause-sound c =
    let is = c.claim_safe.ensures.sound in
    record { groups = is.groups; states = is.states; open_claims = is.open_claims; links = is.links; at_units = is.at_units; none_safe = c.none_safe_before-fields.ensures }
