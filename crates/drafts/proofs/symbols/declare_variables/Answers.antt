-- What is left to show of `declare_variables`.
use Rattle.std.proofs.Common.{[], ◌∙◌, sym, subst, ap, arith}
use Rattle.std.proofs.lemmas.Result.{err_from_is_err_and}
use Rattle.mmsyntax.specs.Tables.{Tables}
use Rattle.mmsyntax.specs.Preludes.{AreSound}
use Rattle.mmsyntax.proofs.Copies.{item_at}
use Rattle.drafts.specs.Drafts.{tables_of}
use Rattle.drafts.proofs.Growing.{variables_so_far, room_at, with_one_variable, variable_is_next}
use Rattle.drafts.proofs.symbols.declare_variables.Goals as goal

pub loop-name-preserved : goal.loop-name-preserved
loop-name-preserved c =
    let t = tables_of c.args.draft.now in
    let s : Tables = c.loop-name.symbols in
    let i = c.loop-name.name-index in
    let item = item_at t.variables c.as_slice-name-items.result.now i c.name-item.result [] c.as_slice-name-items.ensures c.name-item.is
    (omega arith) in
    let room = room_at t.variables s.variables i (ap (λ (x : Tables). x.variables) c.loop-name.invariant.so_far) item.1 c.requires.few in
    record {
      so_far = variables_so_far t s c.declare_variable.new.symbols c.as_slice.result.now i c.loop-name.invariant.so_far
          (c.as_slice.ensures ∙ item.0) item.1 c.in_ok-declare_variable.ensures.made;
      sound = subst (λ (x : Tables). AreSound x) (sym c.in_ok-declare_variable.ensures.made)
          (with_one_variable s c.as_slice.result.now c.loop-name.invariant.sound room c.in_ok-declare_variable.ensures.lawful);
    }

pub returns-in_err-declare_variable-clause-refused : goal.returns-in_err-declare_variable-clause-refused
returns-in_err-declare_variable-clause-refused c =
    let t = tables_of c.args.draft.now in
    let s : Tables = c.loop-name.symbols in
    let i = c.loop-name.name-index in
    let item = item_at t.variables c.as_slice-name-items.result.now i c.name-item.result [] c.as_slice-name-items.ensures c.name-item.is
    (omega arith) in
    let p = err_from_is_err_and c.from_residual.result c.from_residual.ensures.1 in
    rw (p.1, p.2)
    (λ other sound. c.in_err-declare_variable.ensures.refused other
    (variable_is_next t sound s c.as_slice.result.now i c.loop-name.invariant.so_far (c.as_slice.ensures ∙ item.0) item.1))
