-- What is left to show of `read_statement`.
use Rattle.std.proofs.Common.{◌∙◌, ◌∷◌, cond, refl, sym, ap, subst, length, ◌+◌}
use Rattle.std.specs.Prelude.{[]}
use Rattle.mmtext.specs.Views.{seen}
use Rattle.items.specs.Reading.{piece_at, IsStatementTo, IsOfKind}
use Rattle.items.proofs.Kinded.{is_statement, has_label, begins_no_proof}
use Rattle.items.proofs.reading.read_statement.Goals as goal
use Rattle.items.proofs.reading.read_statement.Goals.{then-statement, else-statement}

pub returns-clause-read : goal.returns-clause-read
returns-clause-read c = λ from first behind not_comment not_opening not_closing not_end not_proof.
    let text = c.args.text.now in
    let t = seen c.args.first in
    let end = c.in_ok-statement.statement.end in
    let b = c.in_ok-statement.statement.asserts in
    let s : IsStatementTo text (t.place + length t.text) end b =
    subst (λ k. IsStatementTo text k end b) behind c.in_ok-statement.ensures.statement in
    let item = piece_at text from t ∷ s.left in
    let is = is_statement text from end t b s not_comment not_opening not_closing not_end in
    let label = has_label text from end t b s not_comment in
    record {
      item = item;
      stands = (t, first, refl, s.stands);
      kind = elim c.if-statement.branch [
        | then-statement w ↦
            subst (λ k. IsOfKind k item) (sym w.kind-is) (
              is,
              label ∙ ap (λ b. cond b (t.text ∷ []) []) w.if-statement.true,
              begins_no_proof t.text not_proof,
            )
        | else-statement w ↦ subst (λ k. IsOfKind k item) (sym w.kind-is) (
          is,
          label ∙ ap (λ b. cond b (t.text ∷ []) [])
              w.if-statement.false,
        )
      ];
    }
