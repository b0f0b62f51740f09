-- What is left to show of `floats`.
use Rattle.std.proofs.Common.{◌∙◌, Some, refl, sym, ap}
use Rattle.std.specs.Option.{option_map, option_or}
use Rattle.std.specs.Str.{bytes_eq}
use Rattle.source.specs.Scopes.{Assertion}
use Rattle.source.specs.Views.{seen_hypotheses}
use Rattle.prooftrees.proofs.Found.{first_is}
use Rattle.pasting.specs.Views.{at_label, flags_of}
use Rattle.pasting.proofs.Unnamed.{found_at, none_placed, flags_at}
use Rattle.pasting.proofs.additions.CitingCitedFrames.floats.Goals as goal

pub mandatory-requires : goal.mandatory-requires
mandatory-requires g c =
    let xs = (g.D.Declared.scope c.args.self.now.declared.now).assertions in
    let first = first_is (λ (a : Assertion). bytes_eq c.args.label.now a.label) xs 0 c.in-Some.place
    (sym c.place_of.ensures ∙ c.in-Some.is) in
    λ _. ((refl, tt), first.within)

pub returns-in-Some-clause-value : goal.returns-in-Some-clause-value
returns-in-Some-clause-value g c =
    let xs = (g.D.Declared.scope c.args.self.now.declared.now).assertions in
    let a = c.args.self.now.additions.now in
    let w = c.args.label.now in
    let here = found_at (λ (a : Assertion). bytes_eq w a.label) xs c.in-Some.place (sym c.place_of.ensures ∙ c.in-Some.is) in
    ap Some c.in_ok-flags_of.ensures
    ∙ sym (ap (λ o. option_or (option_map flags_of o) (at_label a.labels a.flags.items w)) here
    ∙ ap (λ o. option_or o (at_label a.labels a.flags.items w))
    (flags_at _ (seen_hypotheses c.in_ok-mandatory.mandatory.items) c.in_ok-mandatory.ensures))

pub returns-in_ok-copy-in-Some-flags-clause-value : goal.returns-in_ok-copy-in-Some-flags-clause-value
returns-in_ok-copy-in-Some-flags-clause-value g c =
    let xs = (g.D.Declared.scope c.args.self.now.declared.now).assertions in
    let a = c.args.self.now.additions.now in
    let w = c.args.label.now in
    let none = none_placed (λ (a : Assertion). bytes_eq w a.label) xs (sym c.place_of.ensures ∙ c.in_default.is) in
    ap Some c.in_ok-copy-in-Some-flags.ensures
    ∙ ap (option_map (λ f. f.now)) (sym c.in-Some-flags.is) ∙ c.flags.ensures
    ∙ sym (ap (λ o. option_or (option_map flags_of o) (at_label a.labels a.flags.items w)) none)

pub returns-in-None-clause-value : goal.returns-in-None-clause-value
returns-in-None-clause-value g c =
    let xs = (g.D.Declared.scope c.args.self.now.declared.now).assertions in
    let a = c.args.self.now.additions.now in
    let w = c.args.label.now in
    let none = none_placed (λ (a : Assertion). bytes_eq w a.label) xs (sym c.place_of.ensures ∙ c.in_default.is) in
    ap (option_map (λ f. f.now)) (sym c.in-None.is) ∙ c.flags.ensures
    ∙ sym (ap (λ o. option_or (option_map flags_of o) (at_label a.labels a.flags.items w)) none)
