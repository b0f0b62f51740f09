-- What is left to show of `quoted`.
use Rattle.std.proofs.Common.{◌≡◌, ◌∙◌, [], ◌∷◌, ℕ, List, Vec, Global, map, refl, sym, ap, ap₂, subst}
use Rattle.std.specs.Prelude.{◌↔◌, IsTrue, slice_get}
use mathlib.Core.Bool.{not}
use Rattle.std.specs.List.{list_any}
use Rattle.std.specs.Option.{option_map}
use Rattle.source.specs.Scopes.{Assertion}
use Rattle.source.specs.Views.{seen_hypotheses}
use Rattle.source.proofs.Asked.{hypotheses_are}
use Rattle.taking.specs.Settings.{is_float}
use Rattle.giving.specs.Staying.{Change}
use Rattle.items.specs.Rewriting.{text_for}
use Rattle.pasting.specs.Views.{seen_given_proof}
use Rattle.sourcewriting.specs.Indentations.{indentation_like}
use Rattle.dressing.specs.Parts.{SaysTheSame}
use Rattle.dressing.specs.Quoted.{CanBeWritten, IsQuotable, IsQuotedAs, IsTextOf, indentation_for}
use Rattle.dressing.proofs.Standing.{within, there, quoted_as, texts_are}
use Rattle.dressing.proofs.Lists.{if_at}
use Rattle.dressing.proofs.texts.quoted.Goals as goal

pub says_the_same-requires : goal.says_the_same-requires
says_the_same-requires g c =
    let s = g.D.Declared.scope c.args.declared.now in
    let q = seen_given_proof c.args.given in
    λ _. ((refl, tt), (c.requires.names, (c.requires.whole, within s q c.in-Some.place (sym c.place_of.ensures ∙ c.in-Some.is))))

pub mandatory-requires : goal.mandatory-requires
mandatory-requires g c =
    let s = g.D.Declared.scope c.args.declared.now in
    let q = seen_given_proof c.args.given in
    λ _. ((refl, tt), within s q c.in-Some.place (sym c.place_of.ensures ∙ c.in-Some.is))

pub returns : goal.returns
returns g c = λ items are.
    let s = g.D.Declared.scope c.args.declared.now in
    let xs = s.assertions in
    let q = seen_given_proof c.args.given in
    let place = c.in-Some.place in
    let stands = sym c.place_of.ensures ∙ c.in-Some.is in
    let x = (there s q place stands).0 in
    let at = (there s q place stands).1 in
    let says : SaysTheSame s place x q.proof =
    (if_at (λ (x : Assertion). IsTrue c.in_ok-says_the_same.field-0 ↔ SaysTheSame s place x q.proof) (slice_get xs place) x at
    c.in_ok-says_the_same.ensures).0 c.if-not-branch.false in
    let hs = seen_hypotheses c.in_ok-mandatory.field-0.items in
    let same : x.hypotheses ≡ hs = hypotheses_are xs place x at hs c.in_ok-mandatory.ensures in
    let block : c.have_premise-in_block.result ≡ list_any not (map is_float x.hypotheses) =
    c.have_premise-in_block.ensures
    ∙ ap (list_any not) (c.as_slice.ensures ∙ c.in_ok-are_floats.ensures ∙ ap (map is_float) (sym same)) in
    let old = c.text_for.ensures ∙ ap (λ (cs : List Change). option_map (λ (k : Change). k.1) (text_for cs (q.label ∷ []))) are in
    let indented : c.indentation_like-indentation.result.now ≡ indentation_for items q.label x =
    c.indentation_like-indentation.ensures.is ∙ ap₂ indentation_like old block in
    texts_are (IsQuotable s q) (CanBeWritten q.proof)
    (λ (t : Vec ℕ Global). IsTextOf c.indentation_like-indentation.result.now q.proof t.items)
    (λ (t : Vec ℕ Global). IsQuotedAs s items q t.items) c.text_of.result c.text_of.ensures.can c.text_of.ensures.text
    (λ t is. quoted_as s q place stands items x at says t.items (subst (λ i. IsTextOf i q.proof t.items) indented is))
