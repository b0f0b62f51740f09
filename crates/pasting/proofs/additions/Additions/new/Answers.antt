-- What is left to show of `new`.
use Rattle.std.proofs.Common.{◌≡◌, ◌∙◌, ◌<◌, ◌≤◌, ◌+◌, ◌++◌, ◌∷◌, [], ℕ, List, Vec, Global, length, map, take, refl, sym, ap, subst, get_or}
use Rattle.std.specs.List.{AllZip, flat_map}
use Rattle.std.proofs.lemmas.Grind.{flat_map-append}
use Rattle.std.proofs.lemmas.List.{append-nil, length-map, get_or-map, take_all, take_more}
use Rattle.std.proofs.lemmas.Slice.Zip.{all_zipped_more}
use Rattle.mmtext.specs.Text.{Token}
use Rattle.mmtext.specs.Views.{seen}
use Rattle.mmtext.specs.declared.token.Token.{Token as CodeToken}
use Rattle.source.specs.Scopes.{Assertion}
use Rattle.source.specs.Views.{seen_hypothesis}
use Rattle.spreading.specs.Forms.{AreParts}
use Rattle.expanding.specs.Views.{seen_scripts}
use Rattle.pasting.specs.Additions.{added_by}
use Rattle.pasting.specs.Views.{AreAdded, AreNoted, seen_addition}
use Rattle.pasting.proofs.additions.Additions.new.Goals as goal

pub loop-words-preserved : goal.loop-words-preserved
loop-words-preserved c = λ m t floats.
    let scripts = c.args.scripts.now in
    let i = c.loop-words.words-index in
    let script = c.words-item.result in
    let all = seen_scripts scripts in
    let new = c.note_script.new.noted in
    let adds = flat_map (added_by m t) in
    let view = λ (ts : Vec CodeToken Global). map seen ts.items in
    let d = c.loop-words.invariant m t floats in
    let e = c.in_ok-note_script.ensures m t (flat_map adds d.0) (ap (map seen_hypothesis) c.as_slice.ensures.value ∙ floats) d.2 in
    let within : i < length all = subst (λ (n : ℕ). i < n) (sym (length-map scripts view)) c.loop-words-test.true in
    let here : get_or all i [] ≡ map seen script.items =
    get_or-map view scripts i script [] c.loop-words-test.true ∙ ap view (sym c.words-item.is) in
    let front : take (i + 1) all ≡ take i all ++ map seen script.items ∷ [] =
    take_more all i [] within ∙ ap (λ (ts : List Token). take i all ++ ts ∷ []) here in
    let own : AreParts (map seen script.items) e.0 =
    subst (λ (ws : List CodeToken). AreParts (map seen ws) e.0) c.as_slice-in-loop-words.ensures.value e.1 in
    let same : flat_map adds d.0 ++ adds e.0 ≡ flat_map adds (d.0 ++ e.0 ∷ []) =
    ap (λ ys. flat_map adds d.0 ++ ys) (sym (append-nil (adds e.0))) ∙ sym (flat_map-append adds d.0 (e.0 ∷ [])) in (
      d.0 ++ e.0 ∷ [],
      subst (λ (ss : List (List Token)). AllZip AreParts ss (d.0 ++ e.0 ∷ [])) (sym front)
          (all_zipped_more AreParts (take i all) d.0 (map seen script.items) e.0 d.1 own),
      subst (λ (ys : List Assertion). AreNoted m t ys new) same e.2,
    )

pub returns : goal.returns
returns c = λ m t floats.
    let scripts = c.args.scripts.now in
    let view = λ (ts : Vec CodeToken Global). map seen ts.items in
    let all = seen_scripts scripts in
    let noted = c.loop-words.noted in
    let d = c.loop-words.invariant m t floats in
    let whole : take c.loop-words.words-index all ≡ all =
    take_all c.loop-words.words-index all
    (subst (λ (n : ℕ). n ≤ c.loop-words.words-index) (sym (length-map scripts view)) c.loop-words-test.false) in
    let xs = flat_map (flat_map (added_by m t)) d.0 in (
      xs,
      record { parts = d.0; are_parts = subst (λ (ss : List (List Token)). AllZip AreParts ss d.0) whole d.1; added_are = refl },
      record {
        floats_are = floats;
        added = subst (λ ls. AreAdded m t xs ls noted.flags.items (map seen_addition noted.added.items)) (sym c.in_ok-labels.ensures) d.2;
      },
    )
