-- What is left to show of `descriptions_of`.
use Rattle.std.proofs.Common.{◌≡◌, ◌∙◌, List, length, map, refl, ap, subst, arith, Vec, Global}
use Rattle.std.proofs.lemmas.List.{map-append, length-map}
use Rattle.std.proofs.lemmas.Option.{slice_get_read}
use Rattle.mmtext.specs.Views.{seen}
use Rattle.mmtext.specs.declared.token.Token.{Token as CodeToken}
use Rattle.checking.specs.Checks.{Bytes}
use Rattle.expanding.specs.Descriptions.{IsDescriptive}
use Rattle.expanding.specs.InFront.{seen_described}
use Rattle.expanding.specs.declared.described.Described.{Described}
use Rattle.expanding.specs.Views.{seen_scripts}
use Rattle.editscripts.specs.Views.{seen_texts, seen_descriptions}
use Rattle.editscripts.proofs.Describing.{descriptive_next}
use Rattle.editscripts.proofs.Expanding.{get_seen}
use Rattle.editscripts.proofs.described.descriptions_of.Goals as goal

pub loop-place-preserved : goal.loop-place-preserved
loop-place-preserved c =
    let texts = seen_texts c.args.texts.now in
    let scripts = c.args.scripts.now in
    let k = c.loop-place.place in
    let words = c.index-scripts-place.result in
    let at = slice_get_read scripts (length scripts) k words refl c.loop-place-test.true c.index-scripts-place.is in
    let view = λ (ts : Vec CodeToken Global). map seen ts.items in
    let found = c.in_ok-described_in.field-0 in
    let within : length (seen_scripts scripts) ≡ length scripts = length-map scripts view in
    let own = c.in_ok-described_in.ensures in
    let own_words : c.as_slice.result.now ≡ words.items = c.as_slice.ensures.value in
    let one : IsDescriptive c.text_at-text.result.now (map seen c.as_slice.result.now) (map seen_described found.items) = own in
    descriptive_next texts (seen_scripts scripts) k (view words) (seen_descriptions c.loop-place.all.items) _
    (map seen_described found.items) (get_seen view scripts k words at) (omega (arith, within, c.loop-place-test.true))
    c.loop-place.invariant
    (subst (λ (text : Bytes). IsDescriptive text (view words) (map seen_described found.items)) c.text_at-text.ensures
    (subst (λ (ts : List CodeToken). IsDescriptive c.text_at-text.result.now (map seen ts) (map seen_described found.items)) own_words one))
    (ap seen_descriptions c.in_ok-push.ensures.items
    ∙ map-append (λ (ds : Vec Described Global). map seen_described ds.items) c.loop-place.all.items _)
