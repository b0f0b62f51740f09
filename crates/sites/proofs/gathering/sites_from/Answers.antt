-- What is left to show of `sites_from`.
use Rattle.std.proofs.Common.{◌≡◌, ◌∙◌, ◌<◌, inl, inr, List, length, refl, sym, subst, rules, false}
use Rattle.std.specs.Prelude.{filter, filter_map}
use Rattle.std.specs.List.{list_any}
use Rattle.mmtext.specs.Words.{Word}
use Rattle.source.specs.Scopes.{Assertion, Scope}
use Rattle.source.specs.Views.{has, seen_words}
use Rattle.taking.specs.Names.{is_symbol_of, has_float_labelled}
use Rattle.source.specs.Flags.{kept}
use Rattle.sites.specs.Sites.{Sited, AreSites}
use Rattle.sites.specs.Used.{is_noted, noted, type_at, variable_at}
use Rattle.sites.proofs.Siting.{floats_noted, used_words, AreGathered, are_sites}
use Rattle.sites.proofs.gathering.sites_from.Goals as goal

pub returns-then-not-have_room : goal.returns-then-not-have_room
returns-then-not-have_room g c =
    let s : Scope = g.D.Declared.scope c.args.declared.now in
    let taken : List Assertion = kept c.args.chosen.now s.assertions in
    let used = c.args.used.now in
    let so = c.requires.used in
    let constants : c.in_ok-constants.constants ≡ filter (λ w. list_any (is_symbol_of w) taken) s.constants =
    c.in_ok-constants.ensures
    ∙ used_words (has used.symbols) (λ w. list_any (is_symbol_of w) taken) so.used_symbols (seen_words c.in_ok-symbols.symbols.items)
    (seen_words c.constants.result.now) s.constants c.in_ok-symbols.ensures c.constants.ensures in
    let floats : c.in_ok-floats.floats ≡ filter (λ w. list_any (has_float_labelled w) taken) s.labels =
    c.in_ok-floats.ensures
    ∙ used_words (is_noted used) (λ w. list_any (has_float_labelled w) taken) (floats_noted used taken so.used_floats)
    (seen_words c.in_ok-labels.labels.items) (seen_words c.labels.result.now) s.labels c.in_ok-labels.ensures c.labels.ensures in
    let none : c.have_room.result ≡ false = search rules in
    elim (c.have_room.ensures.full none) [
      | inl many ↦ inl (subst (λ (ws : List Word). 65535 < length ws) constants many)
      | inr many ↦ inr (subst (λ (ws : List Word). 65535 < length ws) floats many)
    ]

pub returns : goal.returns
returns g c =
    let s : Scope = g.D.Declared.scope c.args.declared.now in
    let fs = c.args.chosen.now in
    let taken : List Assertion = kept fs s.assertions in
    let used = c.args.used.now in
    let so = c.requires.used in
    let constants : c.in_ok-constants.constants ≡ filter (λ w. list_any (is_symbol_of w) taken) s.constants =
    c.in_ok-constants.ensures
    ∙ used_words (has used.symbols) (λ w. list_any (is_symbol_of w) taken) so.used_symbols (seen_words c.in_ok-symbols.symbols.items)
    (seen_words c.constants.result.now) s.constants c.in_ok-symbols.ensures c.constants.ensures in
    let floats : c.in_ok-floats.floats ≡ filter (λ w. list_any (has_float_labelled w) taken) s.labels =
    c.in_ok-floats.ensures
    ∙ used_words (is_noted used) (λ w. list_any (has_float_labelled w) taken) (floats_noted used taken so.used_floats)
    (seen_words c.in_ok-labels.labels.items) (seen_words c.labels.result.now) s.labels c.in_ok-labels.ensures c.labels.ensures in
    let t : Sited = record {
      constants = c.in_ok-constants.constants;
      floats = c.in_ok-floats.floats;
      types = filter_map (type_at (noted used) c.in_ok-constants.constants) c.in_ok-floats.floats;
      variables = filter_map (variable_at (noted used)) c.in_ok-floats.floats;
      labels = c.in_ok-chosen.chosen;
    } in
    let gathered : AreGathered s taken (noted used) t = record {
      look_is = so.used_floats;
      constants_are = constants;
      floats_are = floats;
      labels_are = c.in_ok-chosen.ensures ∙ c.in_ok-words.ensures;
      types_are = refl;
      variables_are = refl;
    } in
    subst (λ (z : Sited). AreSites s taken z) (sym c.in_ok-sites.ensures) (are_sites s c.requires.whole fs (noted used) t gathered)
