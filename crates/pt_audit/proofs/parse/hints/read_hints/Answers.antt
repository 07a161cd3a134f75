use Rattle.std.proofs.Common.{ap, refl, ◌∙◌, map}
use Rattle.std.proofs.lemmas.Bool.{both_ways}
use Rattle.pt_audit.specs.Parsing.Items.{Tally, entry_of, with_entries}
use Rattle.pt_audit.proofs.Parsing.TurnTexts.{items_add, items_of, items_logged, turn_cut}
use Rattle.pt_audit.proofs.parse.hints.read_hints.Goals as goal

pub returns-in_default : goal.returns-in_default
returns-in_default c = record {
  back = λ p t logged e.
      let cut = turn_cut c.args.graph.now p t c.args.text.now _ _ c.requires.lawful e c.cut.ensures.before c.cut.ensures.after in
      absurd (c.in_default.ensures p t.first t.last t.count logged.platform logged.first logged.last logged.count cut.0);
}

pub returns-then-not-branch : goal.returns-then-not-branch
returns-then-not-branch c = record {
  back = λ p t logged e.
      let cut = turn_cut c.args.graph.now p t c.args.text.now _ _ c.requires.lawful e c.cut.ensures.before c.cut.ensures.after in
      let read = c.in_ok-read_entries.ensures (items_of t) (items_logged c.args.graph.now p t logged) cut.1 in
      absurd (both_ways _ c.if-not-branch.true read.0);
}

pub returns : goal.returns
returns c = record {
  back = λ p t logged e.
      let cut = turn_cut c.args.graph.now p t c.args.text.now _ _ c.requires.lawful e c.cut.ensures.before c.cut.ensures.after in
      let read = c.in_ok-read_entries.ensures (items_of t) (items_logged c.args.graph.now p t logged) cut.1 in
      let head = c.in-Some.ensures p t.first t.last t.count logged.platform logged.first logged.last logged.count cut.0 in
      let total = read.1 ∙ ap (λ (so_far : Tally). with_entries so_far (map entry_of (items_of t))) c.clear.ensures ∙ items_add t in (
        refl,
        record {
          platform = head.platform;
          first = head.first;
          last = head.last;
          count = head.count;
          posts = ap (λ (so_far : Tally). so_far.posts) total;
          taken = ap (λ (so_far : Tally). so_far.taken) total;
          claims = ap (λ (so_far : Tally). so_far.claims) total;
          sent = ap (λ (so_far : Tally). so_far.sent) total;
        },
      );
}
