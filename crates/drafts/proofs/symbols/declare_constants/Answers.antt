-- What is left to show of `declare_constants`.
use Rattle.std.proofs.Common.{[], ◌∙◌, sym, subst, ap, arith}
use Rattle.std.proofs.lemmas.Result.{err_from_is_err_and}
use Rattle.mmsyntax.specs.Tables.{Tables}
use Rattle.mmsyntax.specs.Preludes.{AreSound}
use Rattle.mmsyntax.proofs.Copies.{item_at}
use Rattle.drafts.specs.Drafts.{tables_of}
use Rattle.drafts.proofs.Growing.{constants_so_far, room_at, with_one_constant, constant_is_next}
use Rattle.drafts.proofs.symbols.declare_constants.Goals as goal

pub loop-name-preserved : goal.loop-name-preserved
loop-name-preserved c =
    let t = tables_of c.args.draft.now in
    let s : Tables = c.loop-name.symbols in
    let i = c.loop-name.name-index in
    let item = item_at t.constants c.as_slice-name-items.result.now i c.name-item.result [] c.as_slice-name-items.ensures c.name-item.is
    (omega arith) in
    let room = room_at t.constants s.constants i (ap (λ (x : Tables). x.constants) c.loop-name.invariant.so_far) item.1 c.requires.few in
    record {
      so_far = constants_so_far t s c.declare_constant.new.symbols c.as_slice.result.now i c.loop-name.invariant.so_far
          (c.as_slice.ensures ∙ item.0) item.1 c.in_ok-declare_constant.ensures.made;
      sound = subst (λ (x : Tables). AreSound x) (sym c.in_ok-declare_constant.ensures.made)
          (with_one_constant s c.as_slice.result.now c.loop-name.invariant.sound room c.in_ok-declare_constant.ensures.lawful);
    }

pub returns-in_err-declare_constant-clause-refused : goal.returns-in_err-declare_constant-clause-refused
returns-in_err-declare_constant-clause-refused c =
    let t = tables_of c.args.draft.now in
    let s : Tables = c.loop-name.symbols in
    let i = c.loop-name.name-index in
    let item = item_at t.constants c.as_slice-name-items.result.now i c.name-item.result [] c.as_slice-name-items.ensures c.name-item.is
    (omega arith) in
    let p = err_from_is_err_and c.from_residual.result c.from_residual.ensures.1 in
    rw (p.1, p.2)
    (λ other sound. c.in_err-declare_constant.ensures.refused other
    (constant_is_next t sound s c.as_slice.result.now i c.loop-name.invariant.so_far (c.as_slice.ensures ∙ item.0) item.1))
