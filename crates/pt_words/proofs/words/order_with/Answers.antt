use Rattle.std.proofs.Common.{◌≡◌, List, ℕ, [], map, string_bytes, ap, sym, ◌∙◌, inl, inr, codes, option_and_then}
use Rattle.std.specs.Prelude.{unwrap_or}
use Rattle.clap.specs.Words.{app_of, found_of, is_simple, is_simple_and_free, rows_of}
use Rattle.clap.proofs.WalkLemmas.{raw_values-rows}
use Rattle.pt_words.specs.Grammar.{order_by}
use Rattle.pt_words.specs.Views.{viewed}
use Rattle.pt_words.proofs.Agreeing.{said_in}
use Rattle.pt_words.proofs.Parsing.{at_err, at_ok, short_refused}
use Rattle.pt_words.proofs.words.order_with.Goals as goal

pub returns-then-has_short : goal.returns-then-has_short
returns-then-has_short c =
    let ws : List (List ℕ) = map string_bytes c.args.words.now in
    sym (ap (option_and_then (order_by c.args.verb)) (short_refused ws (sym c.has_short.ensures ∙ c.if-has_short.true)))

pub returns-in-Ok : goal.returns-in-Ok
returns-in-Ok c =
    let is = c.in_ok-reader.ensures.app in
    let ws : List (List ℕ) = map string_bytes c.args.words.now in
    let found = found_of c.in-Ok.matches in
    let read : viewed c.values_in.result ≡ said_in (rows_of found) = λ i. record {
      graphs = (c.values_in.ensures.graphs ∙ ap (λ o. unwrap_or o []) (raw_values-rows found (codes "graph"))) i;
      workers = (c.values_in.ensures.workers ∙ ap (λ o. unwrap_or o []) (raw_values-rows found (codes "workers"))) i;
      clocks = (c.values_in.ensures.clocks ∙ ap (λ o. unwrap_or o []) (raw_values-rows found (codes "clock"))) i;
      claims = (c.values_in.ensures.claims ∙ ap (λ o. unwrap_or o []) (raw_values-rows found (codes "claims"))) i;
      logs = (c.values_in.ensures.logs ∙ ap (λ o. unwrap_or o []) (raw_values-rows found (codes "log"))) i;
    } in
    c.order_by.ensures
    ∙ sym (ap (option_and_then (order_by c.args.verb))
    (at_ok (app_of c.in_ok-reader.reader) ws (rows_of found) (viewed c.values_in.result) is (sym c.has_short.ensures ∙ c.if-has_short.false)
    (c.in-Ok.ensures.kinds (ap is_simple_and_free is))
    (c.in-Ok.ensures.matches (ap is_simple is)).0 read))

pub returns : goal.returns
returns c =
    let is = c.in_ok-reader.ensures.app in
    let ws : List (List ℕ) = map string_bytes c.args.words.now in
    let kinds = c.in-Err.ensures.kinds (ap is_simple_and_free is) in
    let other = c.in_default.not-OutOfMemory in
    sym (ap (option_and_then (order_by c.args.verb)) (at_err (app_of c.in_ok-reader.reader) ws is (sym c.has_short.ensures ∙ c.if-has_short.false)
    (λ none. elim (rw none at kinds) [ inl m ↦ other (c.kind.ensures ∙ m) | inr h ↦ absurd h ])))
