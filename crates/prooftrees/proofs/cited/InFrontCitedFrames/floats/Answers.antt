-- What is left to show of `floats`.
use Rattle.std.proofs.Common.{◌∙◌, map, refl, sym, ap, arith}
use Rattle.std.specs.Option.{option_map}
use Rattle.std.specs.Str.{bytes_eq}
use Rattle.mmsyntax.proofs.FirstPlace.{none_in_front}
use Rattle.source.specs.Scopes.{Assertion}
use Rattle.taking.specs.Settings.{is_float}
use Rattle.prooftrees.proofs.Found.{first_is}
use Rattle.prooftrees.proofs.cited.InFrontCitedFrames.floats.Goals as goal

pub returns-in_default-clause-value : goal.returns-in_default-clause-value
returns-in_default-clause-value g c =
    let xs = (g.D.Declared.scope c.args.self.now.declared.now).assertions in
    sym (ap (option_map (λ (a : Assertion). map is_float a.hypotheses))
    (none_in_front (λ (a : Assertion). bytes_eq c.args.label.now a.label) xs c.args.self.now.place
    (sym c.place_of.ensures ∙ c.in_default.is)))

pub returns-then-cited-self-clause-value : goal.returns-then-cited-self-clause-value
returns-then-cited-self-clause-value g c =
    let xs = (g.D.Declared.scope c.args.self.now.declared.now).assertions in
    let first = first_is (λ (a : Assertion). bytes_eq c.args.label.now a.label) xs c.args.self.now.place c.in-Some.cited
    (sym c.place_of.ensures ∙ c.in-Some.is) in
    sym (ap (option_map (λ (a : Assertion). map is_float a.hypotheses)) (first.behind c.if-cited-self.true))

pub flags-requires : goal.flags-requires
flags-requires g c =
    let xs = (g.D.Declared.scope c.args.self.now.declared.now).assertions in
    let first = first_is (λ (a : Assertion). bytes_eq c.args.label.now a.label) xs c.args.self.now.place c.in-Some.cited
    (sym c.place_of.ensures ∙ c.in-Some.is) in
    λ _. ((refl, tt), (first.within, c.requires))

pub returns-clause-value : goal.returns-clause-value
returns-clause-value g c =
    let xs = (g.D.Declared.scope c.args.self.now.declared.now).assertions in
    let first = first_is (λ (a : Assertion). bytes_eq c.args.label.now a.label) xs c.args.self.now.place c.in-Some.cited
    (sym c.place_of.ensures ∙ c.in-Some.is) in
    let h = c.if-cited-self.false in
    sym (ap (option_map (λ (a : Assertion). map is_float a.hypotheses)) (first.there (omega arith)) ∙ c.in_ok-flags.ensures.flags)
