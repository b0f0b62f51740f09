-- What is left to show of `stated`.
use Rattle.std.proofs.Common.{rules, ◌≡◌, List, sym, ap, ◌∙◌}
use Rattle.std.specs.Prelude.{Option, Some, slice_get}
use Rattle.std.specs.Option.{option_map}
use Rattle.mmtext.specs.Words.{Word}
use Rattle.source.specs.Scopes.{Hypothesis, Pair, Assertion}
use Rattle.source.specs.Views.{seen_words, seen_pairs}
use Rattle.taking.specs.Names.{label_in}
use Rattle.sites.specs.Given.{given_hypotheses}
use Rattle.gathering.specs.Placed.{map_of, tables_of}
use Rattle.gathering.proofs.Stated.{made_of, hyps_there, statement_there, stated_same}
use Rattle.gathering.proofs.assembling.stated.Goals as goal

pub stated_by-requires-clause-hyps : goal.stated_by-requires-clause-hyps
stated_by-requires-clause-hyps g c =
    let t = c.args.placed.now.sites.now in
    let names = c.args.placed.now.names.now in
    let hs : List Hypothesis = given_hypotheses c.as_slice-hypotheses.result.now in
    let p = c.in_ok-places.places in
    let o : Option Assertion = slice_get (g.D.Declared.scope c.args.declared.now).assertions c.args.place in
    let made : p ≡ made_of t hs = c.in_ok-places.ensures in
    let active : option_map (λ (x : Assertion). x.active) o ≡ Some hs =
    c.in_ok-hypotheses.ensures ∙ ap (λ x. Some (given_hypotheses x)) (sym c.as_slice-hypotheses.ensures.value) in
    λ none. hyps_there t names (tables_of t names) p hs made o c.requires.known active none

pub stated_by-requires-clause-statement : goal.stated_by-requires-clause-statement
stated_by-requires-clause-statement g c =
    let t = c.args.placed.now.sites.now in
    let names = c.args.placed.now.names.now in
    let hs : List Hypothesis = given_hypotheses c.as_slice-hypotheses.result.now in
    let p = c.in_ok-places.places in
    let o : Option Assertion = slice_get (g.D.Declared.scope c.args.declared.now).assertions c.args.place in
    let words : List Word = seen_words c.in-Some.words.now in
    let made : p ≡ made_of t hs = c.in_ok-places.ensures in
    let active : option_map (λ (x : Assertion). x.active) o ≡ Some hs =
    c.in_ok-hypotheses.ensures ∙ ap (λ x. Some (given_hypotheses x)) (sym c.as_slice-hypotheses.ensures.value) in
    let said : option_map (λ (x : Assertion). x.statement) o ≡ Some words = search rules in
    λ none. statement_there t names (tables_of t names) p hs made o words c.requires.known active said none

pub returns : goal.returns
returns g c =
    let t = c.args.placed.now.sites.now in
    let names = c.args.placed.now.names.now in
    let hs : List Hypothesis = given_hypotheses c.as_slice-hypotheses.result.now in
    let p = c.in_ok-places.places in
    let o : Option Assertion = slice_get (g.D.Declared.scope c.args.declared.now).assertions c.args.place in
    let words : List Word = seen_words c.in-Some.words.now in
    let own : Word = c.in-Some-label.own.now in
    let name : Word = c.in-Some-label-2.label.now in
    let ps : List Pair = seen_pairs c.as_slice-pairs.result.now in
    let made : p ≡ made_of t hs = c.in_ok-places.ensures in
    let active : option_map (λ (x : Assertion). x.active) o ≡ Some hs =
    c.in_ok-hypotheses.ensures ∙ ap (λ x. Some (given_hypotheses x)) (sym c.as_slice-hypotheses.ensures.value) in
    let said : option_map (λ (x : Assertion). x.statement) o ≡ Some words = search rules in
    let named : option_map (λ (x : Assertion). x.label) o ≡ Some own = search rules in
    let apart : option_map (λ (x : Assertion). x.pairs) o ≡ Some ps =
    c.in_ok-pairs.ensures ∙ ap (λ x. Some (seen_pairs x)) (sym c.as_slice-pairs.ensures.value) in
    let label : label_in (map_of t names) own ≡ Some name = search rules in
    stated_same t names (tables_of t names) p hs made o words own name ps c.stated_by.result c.requires.known active said named apart label
    c.stated_by.ensures
