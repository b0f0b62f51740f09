-- What is left to show of `named_by`.
use Rattle.std.proofs.Common.{◌≡◌, ◌∙◌, List, ℕ, Bool, true, false, length, refl, ap}
use Rattle.std.proofs.lemmas.Result.{err_from_is_err_and}
use Rattle.std.specs.Borrow.{Bor}
use Rattle.std.proofs.lemmas.List.{length-map}
use Rattle.mmtext.specs.Words.{Word, has_dot, has_hypothesis_form}
use Rattle.mmsyntax.specs.Dotted.{is_dotted}
use Rattle.source.specs.Scopes.{Scope}
use Rattle.source.specs.Views.{has, seen_words}
use Rattle.taking.specs.Names.{is_fresh}
use Rattle.taking.proofs.Given.{left_free}
use Rattle.sites.specs.Changes.{has_given}
use Rattle.sites.proofs.Flags.{free_parts, given_named, given_variables, has_trunk, length-variables_changing}
use Rattle.sites.proofs.Apart.{changing, given_apart}
use Rattle.sites.proofs.Refusing.{is_free_by, first_free, first, second, third, fourth}
use Rattle.sites.proofs.names.named_by.Goals as goal

no_trunk : (t d : Bool) → t ≡ false → (d ≡ true → t ≡ true) → d ≡ false
no_trunk t false none there = refl
no_trunk t true none there = let yes : t ≡ true = there refl in absurd cc

pub library_names-requires-2 : goal.library_names-requires-2
library_names-requires-2 g c =
    ap length (c.as_slice-2.ensures.value ∙ c.in_ok-changes-2.ensures)
    ∙ length-variables_changing (seen_words c.args.words.variables.now)
    ∙ length-map c.args.words.variables.now (λ (w : Bor (List ℕ)). w.now)

pub returns-clause-names : goal.returns-clause-names
returns-clause-names g c =
    let f = c.args.names.now in
    let s : Scope = g.D.Declared.scope f.declared.now in
    let free_0 : Word → Bool = is_free_by (g.D.Declared.scope f.declared.now) f.trunks f.given in
    let n1 = c.library_names.new.names in
    let free_1 : Word → Bool = is_free_by (g.D.Declared.scope n1.declared.now) n1.trunks n1.given in
    let n2 = c.library_names-2.new.names in
    let free_2 : Word → Bool = is_free_by (g.D.Declared.scope n2.declared.now) n2.trunks n2.given in
    let n3 = c.library_names-3.new.names in
    let free_3 : Word → Bool = is_free_by (g.D.Declared.scope n3.declared.now) n3.trunks n3.given in
    let fresh : (w : Word) → free_0 w ≡ true → is_fresh s w ≡ true =
    λ w h.
    (free_parts (is_fresh (g.D.Declared.scope f.declared.now) w) (has f.trunks w) (has_given f.given w) (has_dot w) h).0 in
    let before_1 : (w : Word) → free_1 w ≡ true → free_0 w ≡ true =
    λ w h. left_free free_0 free_1 _ c.in_ok-constants.ensures.left w h in
    let before_2 : (w : Word) → free_2 w ≡ true → free_0 w ≡ true =
    λ w h. before_1 w (left_free free_1 free_2 _ c.in_ok-variables.ensures.left w h) in
    let before_3 : (w : Word) → free_3 w ≡ true → free_0 w ≡ true =
    λ w h. before_2 w (left_free free_2 free_3 _ c.in_ok-floats.ensures.left w h) in
    let ls = seen_words c.args.words.labels.now in
    record {
      as_many_constants = c.in_ok-constants.ensures.given.as_many;
      as_many_variables = c.in_ok-variables.ensures.given.as_many;
      as_many_floats = c.in_ok-floats.ensures.given.as_many;
      as_many_labels = c.in_ok-labels.ensures.given.as_many;
      constants =
          given_named s c.in_ok-constants.ensures.given has_hypothesis_form (c.as_slice.ensures.value ∙ c.in_ok-changes.ensures) fresh;
      variables =
          given_variables s c.in_ok-variables.ensures.given (c.as_slice-2.ensures.value ∙ c.in_ok-changes-2.ensures)
          (λ w h. fresh w (before_1 w h));
      floats =
          given_named s c.in_ok-floats.ensures.given has_dot (c.as_slice-3.ensures.value ∙ c.in_ok-changes-3.ensures)
          (λ w h. fresh w (before_2 w h));
      labels =
          given_named s c.in_ok-labels.ensures.given (changing ls) (c.as_slice-4.ensures.value ∙ c.in_ok-changes-4.ensures)
          (λ w h. fresh w (before_3 w h));
    }

pub returns-clause-apart : goal.returns-clause-apart
returns-clause-apart g c =
    let f = c.args.names.now in
    let free_0 : Word → Bool = is_free_by (g.D.Declared.scope f.declared.now) f.trunks f.given in
    let n1 = c.library_names.new.names in
    let free_1 : Word → Bool = is_free_by (g.D.Declared.scope n1.declared.now) n1.trunks n1.given in
    let n2 = c.library_names-2.new.names in
    let free_2 : Word → Bool = is_free_by (g.D.Declared.scope n2.declared.now) n2.trunks n2.given in
    let n3 = c.library_names-3.new.names in
    let free_3 : Word → Bool = is_free_by (g.D.Declared.scope n3.declared.now) n3.trunks n3.given in
    let before_3 : (w : Word) → free_3 w ≡ true → free_0 w ≡ true =
    λ w h.
    left_free free_0 free_1 _ c.in_ok-constants.ensures.left w
    (left_free free_1 free_2 _ c.in_ok-variables.ensures.left w (left_free free_2 free_3 _ c.in_ok-floats.ensures.left w h)) in
    let parts : (w : Word) → free_0 w ≡ true
    → (is_fresh (g.D.Declared.scope f.declared.now) w ≡ true) × (has f.trunks w ≡ false) × (has_dot w ≡ false) =
    λ w h. free_parts (is_fresh (g.D.Declared.scope f.declared.now) w) (has f.trunks w) (has_given f.given w) (has_dot w) h in
    given_apart c.in_ok-labels.ensures.given (c.as_slice-4.ensures.value ∙ c.in_ok-changes-4.ensures)
    (λ w h. (parts w (before_3 w h)).2)
    (λ l w h in'.
    no_trunk (has f.trunks l) (is_dotted l w) (parts l (before_3 l h)).1
    (has_trunk f.trunks (seen_words c.args.words.labels.now) c.requires.trunks l w in'))

pub returns-in_err-changes-clause-refused : goal.returns-in_err-changes-clause-refused
returns-in_err-changes-clause-refused g c =
    let p = err_from_is_err_and c.from_residual.result c.from_residual.ensures.1 in
    rw (p.1, p.2) tt

pub returns-in_err-changes-2-clause-refused : goal.returns-in_err-changes-2-clause-refused
returns-in_err-changes-2-clause-refused g c =
    let p = err_from_is_err_and c.from_residual-in_err-changes-2.result c.from_residual-in_err-changes-2.ensures.1 in
    rw (p.1, p.2) tt

pub returns-in_err-changes-3-clause-refused : goal.returns-in_err-changes-3-clause-refused
returns-in_err-changes-3-clause-refused g c =
    let p = err_from_is_err_and c.from_residual-in_err-changes-3.result c.from_residual-in_err-changes-3.ensures.1 in
    rw (p.1, p.2) tt

pub returns-in_err-changes-4-clause-refused : goal.returns-in_err-changes-4-clause-refused
returns-in_err-changes-4-clause-refused g c =
    let p = err_from_is_err_and c.from_residual-in_err-changes-4.result c.from_residual-in_err-changes-4.ensures.1 in
    rw (p.1, p.2) tt

pub returns-in_err-constants-clause-refused : goal.returns-in_err-constants-clause-refused
returns-in_err-constants-clause-refused g c =
    let p = err_from_is_err_and c.from_residual-in_err-constants.result c.from_residual-in_err-constants.ensures.1 in
    let f = c.args.names.now in
    let s : Scope = g.D.Declared.scope f.declared.now in
    let cs = seen_words c.args.words.constants.now in
    let vs = seen_words c.args.words.variables.now in
    let fs = seen_words c.args.words.floats.now in
    let ls = seen_words c.args.words.labels.now in
    rw (p.1, p.2)
    (first s cs vs fs ls (is_free_by s f.trunks f.given) (first_free s f.trunks f.given ls c.requires.trunks c.requires.given)
    _ (c.as_slice.ensures.value ∙ c.in_ok-changes.ensures) c.in_err-constants.field-0.0 c.in_err-constants.ensures.refused)

pub returns-in_err-variables-clause-refused : goal.returns-in_err-variables-clause-refused
returns-in_err-variables-clause-refused g c =
    let p = err_from_is_err_and c.from_residual-in_err-variables.result c.from_residual-in_err-variables.ensures.1 in
    let f = c.args.names.now in
    let s : Scope = g.D.Declared.scope f.declared.now in
    let cs = seen_words c.args.words.constants.now in
    let vs = seen_words c.args.words.variables.now in
    let fs = seen_words c.args.words.floats.now in
    let ls = seen_words c.args.words.labels.now in
    let n1 = c.library_names.new.names in
    let free_1 : Word → Bool = is_free_by (g.D.Declared.scope n1.declared.now) n1.trunks n1.given in
    rw (p.1, p.2)
    (second s cs vs fs ls (is_free_by s f.trunks f.given) (first_free s f.trunks f.given ls c.requires.trunks c.requires.given)
    _ (c.as_slice.ensures.value ∙ c.in_ok-changes.ensures) _ c.in_ok-constants.ensures.given free_1 c.in_ok-constants.ensures.left
    _ (c.as_slice-2.ensures.value ∙ c.in_ok-changes-2.ensures) c.in_err-variables.field-0.0 c.in_err-variables.ensures.refused)

pub returns-in_err-floats-clause-refused : goal.returns-in_err-floats-clause-refused
returns-in_err-floats-clause-refused g c =
    let p = err_from_is_err_and c.from_residual-in_err-floats.result c.from_residual-in_err-floats.ensures.1 in
    let f = c.args.names.now in
    let s : Scope = g.D.Declared.scope f.declared.now in
    let cs = seen_words c.args.words.constants.now in
    let vs = seen_words c.args.words.variables.now in
    let fs = seen_words c.args.words.floats.now in
    let ls = seen_words c.args.words.labels.now in
    let n1 = c.library_names.new.names in
    let free_1 : Word → Bool = is_free_by (g.D.Declared.scope n1.declared.now) n1.trunks n1.given in
    let n2 = c.library_names-2.new.names in
    let free_2 : Word → Bool = is_free_by (g.D.Declared.scope n2.declared.now) n2.trunks n2.given in
    rw (p.1, p.2)
    (third s cs vs fs ls (is_free_by s f.trunks f.given) (first_free s f.trunks f.given ls c.requires.trunks c.requires.given)
    _ (c.as_slice.ensures.value ∙ c.in_ok-changes.ensures) _ c.in_ok-constants.ensures.given free_1 c.in_ok-constants.ensures.left
    _ (c.as_slice-2.ensures.value ∙ c.in_ok-changes-2.ensures) _ c.in_ok-variables.ensures.given free_2 c.in_ok-variables.ensures.left
    _ (c.as_slice-3.ensures.value ∙ c.in_ok-changes-3.ensures) c.in_err-floats.field-0.0 c.in_err-floats.ensures.refused)

pub returns-in_err-labels-clause-refused : goal.returns-in_err-labels-clause-refused
returns-in_err-labels-clause-refused g c =
    let p = err_from_is_err_and c.from_residual-in_err-labels.result c.from_residual-in_err-labels.ensures.1 in
    let f = c.args.names.now in
    let s : Scope = g.D.Declared.scope f.declared.now in
    let cs = seen_words c.args.words.constants.now in
    let vs = seen_words c.args.words.variables.now in
    let fs = seen_words c.args.words.floats.now in
    let ls = seen_words c.args.words.labels.now in
    let n1 = c.library_names.new.names in
    let free_1 : Word → Bool = is_free_by (g.D.Declared.scope n1.declared.now) n1.trunks n1.given in
    let n2 = c.library_names-2.new.names in
    let free_2 : Word → Bool = is_free_by (g.D.Declared.scope n2.declared.now) n2.trunks n2.given in
    let n3 = c.library_names-3.new.names in
    let free_3 : Word → Bool = is_free_by (g.D.Declared.scope n3.declared.now) n3.trunks n3.given in
    rw (p.1, p.2)
    (fourth s cs vs fs ls (is_free_by s f.trunks f.given) (first_free s f.trunks f.given ls c.requires.trunks c.requires.given)
    _ (c.as_slice.ensures.value ∙ c.in_ok-changes.ensures) _ c.in_ok-constants.ensures.given free_1 c.in_ok-constants.ensures.left
    _ (c.as_slice-2.ensures.value ∙ c.in_ok-changes-2.ensures) _ c.in_ok-variables.ensures.given free_2 c.in_ok-variables.ensures.left
    _ (c.as_slice-3.ensures.value ∙ c.in_ok-changes-3.ensures) _ c.in_ok-floats.ensures.given free_3 c.in_ok-floats.ensures.left
    _ (c.as_slice-4.ensures.value ∙ c.in_ok-changes-4.ensures) c.in_err-labels.field-0.0 c.in_err-labels.ensures.refused)
