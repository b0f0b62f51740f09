use Rattle.std.proofs.Common.{◌∷◌, ◌++◌, [], None, Some, ap, refl, subst, sym}
use Rattle.std.specs.IoError.{error_kind}
use Rattle.std.specs.Prelude.{string_bytes}
use Rattle.std.specs.Option.{option_map}
use Rattle.outside.specs.Deeds.{OneFails, removes}
use Rattle.outside.proofs.Trying.{does_more}
use Rattle.outside.proofs.beside.finish.Goals as goal

pub returns-in-Ok : goal.returns-in-Ok
returns-in-Ok g c =
    let (begun, did, is_stopped) = rw c.as_str.ensures.value at c.in-Err.ensures in
    let removed = rw c.as_str-2.ensures.value at c.in-Ok.ensures in (
      begun ++ removes (string_bytes c.args.beside) None ∷ [],
      does_more did removed,
      record {
        begun = begun;
        is_stopped = (is_stopped.0, subst (λ why. OneFails why begun) (sym c.not_written.ensures.why) is_stopped.1);
        gone = None;
        each = refl;
        told = ap (option_map string_bytes) c.not_written.ensures.none;
      },
    )

pub returns : goal.returns
returns g c =
    let (begun, did, is_stopped) = rw c.as_str.ensures.value at c.in-Err.ensures in
    let removed = rw c.as_str-2.ensures.value at c.in-Err-remove.ensures in
    let gone = Some (error_kind c.in-Err-remove.field-0) in (
      begun ++ removes (string_bytes c.args.beside) gone ∷ [],
      does_more did removed,
      record { begun = begun; is_stopped = is_stopped; gone = gone; each = refl; told = refl },
    )
