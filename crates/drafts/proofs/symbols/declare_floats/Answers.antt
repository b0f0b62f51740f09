-- What is left to show of `declare_floats`.
use Rattle.std.proofs.Common.{sym, subst, ap, arith}
use Rattle.std.proofs.lemmas.Result.{err_from_is_err_and}
use Rattle.mmsyntax.specs.Tables.{Tables}
use Rattle.mmsyntax.specs.Layout.{no_float}
use Rattle.mmsyntax.specs.Preludes.{AreSound}
use Rattle.mmsyntax.proofs.Copies.{item_at}
use Rattle.drafts.specs.Drafts.{tables_of}
use Rattle.drafts.proofs.Growing.{floats_so_far, float_room_at, with_one_float, float_is_next}
use Rattle.drafts.proofs.symbols.declare_floats.Goals as goal

pub loop-float-preserved : goal.loop-float-preserved
loop-float-preserved c =
    let t = tables_of c.args.draft.now in
    let s : Tables = c.loop-float.symbols in
    let i = c.loop-float.float-index in
    let item = item_at t.floats c.as_slice-float-items.result.now i c.float-item.result no_float
    c.as_slice-float-items.ensures c.float-item.is (omega arith) in
    let room = float_room_at t.floats s.floats i (ap (λ (x : Tables). x.floats) c.loop-float.invariant.so_far) item.1 c.requires.few in
    record {
      so_far = floats_so_far t s c.declare_float.new.symbols c.float-item.result i c.loop-float.invariant.so_far item.0 item.1
          c.in_ok-declare_float.ensures.made;
      sound = subst (λ (x : Tables). AreSound x) (sym c.in_ok-declare_float.ensures.made)
          (with_one_float s c.float-item.result c.loop-float.invariant.sound room c.in_ok-declare_float.ensures.lawful);
    }

pub returns-in_err-declare_float-clause-refused : goal.returns-in_err-declare_float-clause-refused
returns-in_err-declare_float-clause-refused c =
    let t = tables_of c.args.draft.now in
    let s : Tables = c.loop-float.symbols in
    let i = c.loop-float.float-index in
    let item = item_at t.floats c.as_slice-float-items.result.now i c.float-item.result no_float
    c.as_slice-float-items.ensures c.float-item.is (omega arith) in
    let p = err_from_is_err_and c.from_residual.result c.from_residual.ensures.1 in
    rw (p.1, p.2)
    (λ other sound. c.in_err-declare_float.ensures.refused other
    (float_is_next t sound s c.float-item.result i c.loop-float.invariant.so_far (item.0) item.1))
