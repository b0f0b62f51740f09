use Rattle.std.proofs.Common.{◌≡◌, ◌∙◌, ℕ, List, [], IfSome, All, refl, sym, subst}
use Rattle.std.specs.Prelude.{IfNone, IfOk}
use Rattle.leaving.specs.declared.part.Part.{Part}
use Rattle.items.specs.Items.{Item, Spells}
use Rattle.items.specs.Bare.{HasBare}
use Rattle.items.specs.declared.reading.Item.{Item as Found}
use Rattle.items.specs.Reading.{AreFound}
use Rattle.giving.specs.Staying.{Change}
use Rattle.arranging.specs.Parts.{Edited, known_labels, parts}
use Rattle.arranging.specs.Arranged.{IsLayout, Says, label_in_source}
use Rattle.arranging.specs.Named.{IsNamedFrom}
use Rattle.arranging.specs.Places.{IsKnownOf}
use Rattle.arranging.specs.declared.coming.Coming.{Coming}
use Rattle.arranging.proofs.call.arrange.Goals as goal

-- the edits, and what is known of the items under them
abbrev edited : List Change → List Change → List Change → List Change → List Coming → Edited
edited gone moving moved library comings = record {
  gone = known_labels gone;
  moving = known_labels moving;
  moved = known_labels moved;
  library = known_labels library;
  comings = comings;
}

known : (gone moving moved library : List Change) (comings : List Coming) (source : List ℕ) (items : List Found) (old : List Item)
    (ps : List Part) → AreFound source 0 items old → ps ≡ parts (edited gone moving moved library comings) old
    → IsKnownOf (edited gone moving moved library comings) source old moving moved library items ps
known gone moving moved library comings source items old ps found same = record {
  found = found;
  parts_are = same;
  moving_are = refl;
  moved_are = refl;
  library_are = refl;
}

pub returns-in-Some-2 : goal.returns-in-Some-2
returns-in-Some-2 c =
    let edits = c.args.edits in
    let cs = edits.changes.now in
    let proofs = edits.proofs.now in
    let e = edited edits.gone.now edits.moving.now edits.moved.now edits.library.now c.args.comings.now in
    let source = c.args.source.now in
    let old = c.requires.0 in
    let found = c.requires.1 in
    let layout = c.in-Ok.layout.items in
    let out = c.in-Some-2.text.items in
    let here = known edits.gone.now edits.moving.now edits.moved.now edits.library.now c.args.comings.now source c.args.items.now old
    c.as_slice.result.now found (c.as_slice.ensures.value ∙ c.in_ok-parts.ensures old found) in
    let is_layout : IsLayout e [] old layout =
    subst (λ made. IfOk made (λ made. IsLayout e [] old made.items)) c.in-Ok.is (c.in_ok-layout.ensures.laid e old here refl) in
    let says =
    subst (λ made. IfSome made (λ text. (rest : List ℕ) × Spells old rest source
    × Says cs proofs old rest old c.as_slice-2.result.now text.items)) c.in-Some-2.is (c.in_ok-text.ensures.printed old found) in record {
      old = old;
      rest = says.0;
      spells = says.1;
      layout = layout;
      is_layout = is_layout;
      says = subst (λ ps. Says cs proofs old says.0 old ps out) c.as_slice-2.ensures.value says.2;
      named =
          subst (λ made. IfNone made (All (λ (d : Coming). IsNamedFrom cs d (label_in_source d)) c.args.comings.now)) c.in_default.is
          c.in_ok-number.ensures.named;
    }

pub returns : goal.returns
returns c =
    let edits = c.args.edits in
    let e = edited edits.gone.now edits.moving.now edits.moved.now edits.library.now c.args.comings.now in
    let source = c.args.source.now in
    let old = c.requires.0 in
    let found = c.requires.1 in
    let here = known edits.gone.now edits.moving.now edits.moved.now edits.library.now c.args.comings.now source c.args.items.now old
    c.as_slice.result.now found (c.as_slice.ensures.value ∙ c.in_ok-parts.ensures old found) in
    let is_layout : IsLayout e [] old c.in-Ok.layout.items =
    subst (λ made. IfOk made (λ made. IsLayout e [] old made.items)) c.in-Ok.is (c.in_ok-layout.ensures.laid e old here refl) in
    subst (λ made. IfNone made (HasBare edits.proofs.now source)) c.in-None.is
    (c.in_ok-text.ensures.bare e old found (subst (IsLayout e [] old) (sym c.as_slice-2.ensures.value) is_layout))
