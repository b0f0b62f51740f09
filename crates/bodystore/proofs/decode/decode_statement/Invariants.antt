-- What the loop of `decode_statement` keeps.
use Rattle.std.proofs.Common.{◌≡◌, ◌≤◌, ◌++◌, length, take, drop, vec_len, vec_capacity}
use Rattle.bodystore.specs.declared.statement.Statement.{Statement}
use Rattle.bodystore.specs.Bodies.{expression_words, expressions_words, statement_body, IsSmallStatement}
use Rattle.bodystore.proofs.decode.decode_statement.Given as goal

abbrev pub invariant-loop : goal.invariant-loop
invariant-loop l =
    ((s : Statement) → IsSmallStatement s → statement_body s ≡ l.words
    → record {
      kind : l.kind ≡ s.kind;
      hyp_count : l.hyp_count ≡ length s.hyps;
      pairs : l.pairs.items ≡ s.pairs;
      hyps : l.hyps.items ≡ take l.counter s.hyps;
      cursor : l.cursor ≡ expressions_words (drop l.counter s.hyps) ++ expression_words s.statement;
    })
    × (vec_len l.hyps ≡ l.counter)
    × (l.hyp_count ≤ vec_capacity l.hyps)
