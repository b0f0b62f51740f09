-- What is left to show of `is_float_of`.
use Rattle.std.proofs.Common.{subst, sym, rules}
use Rattle.mmtext.specs.Words.{Word}
use Rattle.secondlook.specs.Again.{IsFloatLabelled}
use Rattle.secondlook.proofs.Floats.{float_of}
use Rattle.secondlook.proofs.edited.is_float_of.Goals as goal

pub returns-in_default : goal.returns-in_default
returns-in_default c = (
  λ yes. absurd cc,
  λ h.
      absurd (c.in_default.ensures h.found (subst (λ (w : Word). IsFloatLabelled c.args.other.now w h.found)
      (sym c.as_slice.ensures) h.there)),
)

pub returns : goal.returns
returns c =
    let there : IsFloatLabelled c.args.other.now c.args.float.now.label c.in-Some.found.now = search rules in
    float_of c.args.prelude.now c.args.other.now c.args.float.now c.in-Some.found.now there c.in-Some-names_of.constant.now
    c.in-Some-names_of.variable.now c.in-Some-names_of-2.type_there.now c.in-Some-names_of-2.variable_there.now
    c.in-Some-names_of.ensures c.in-Some-names_of-2.ensures c.are_names.result c.are_names.ensures
