-- What is left to show of `names_of`.
use Rattle.std.proofs.Common.{◌∙◌, Some, slice_get, ap, refl, sym}
use Rattle.source.proofs.Lent.{got_lent}
use Rattle.secondlook.proofs.edited.names_of.Goals as goal

pub returns : goal.returns
returns c =
    let float = c.args.float.now in
    let constant = c.in-Some.constant in
    let variable = c.in-Some-get.variable in
    record {
      labelled = refl;
      typed = ap (λ ws. slice_get ws float.type_code) (sym c.constants.ensures)
          ∙ sym (got_lent c.constants.result.now float.type_code (Some constant) c.in-Some.ensures.lookup)
          ∙ ap (λ w. Some w) (sym c.as_slice.ensures);
      of = ap (λ ws. slice_get ws float.variable) (sym c.variables.ensures)
          ∙ sym (got_lent c.variables.result.now float.variable (Some variable) c.in-Some-get.ensures.lookup)
          ∙ ap (λ w. Some w) (sym c.as_slice-2.ensures);
    }
