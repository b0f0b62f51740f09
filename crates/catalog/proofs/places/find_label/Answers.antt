use Rattle.std.proofs.Common.{◌≡◌, true, false, None, Some, sym, ap, ◌∙◌}
use Rattle.std.specs.List.{slice_get}
use Rattle.std.specs.Str.{bytes_eq}
use Rattle.mmsyntax.proofs.Names.{same_bytes, bytes_eq-sym}
use Rattle.library.specs.declared.library.Ranked.{Ranked}
use Rattle.library.specs.Library.{label_of}
use Rattle.catalog.specs.Entries.{StandsIn}
use Rattle.catalog.specs.Places.{place_in}
use Rattle.catalog.proofs.Living.{absent}
use Rattle.catalog.proofs.Reading.{item-past, item-read}
use Rattle.catalog.proofs.places.find_label.Goals as goal

pub returns-in_err-place : goal.returns-in_err-place
returns-in_err-place c =
    let unknown : None ≡ place_in c.args.places.now c.args.label.now = c.in_err-place.ensures.value in
    rw c.from_residual.ensures (absent c.args.places.now c.args.entries.now c.args.label.now c.requires (λ p e at here. absurd cc))

pub returns-in_err-get : goal.returns-in_err-get
returns-in_err-get c =
    let xs = c.args.entries.now in
    let known : Some c.in_ok-place.field-0.now ≡ place_in c.args.places.now c.args.label.now = c.in_ok-place.ensures.value in
    let past = item-past xs c.in_ok-place.field-0.now c.in_err-get.ensures.lookup in
    rw c.from_residual-in_err-get.ensures (absent c.args.places.now xs c.args.label.now c.requires (λ p e at here.
    let same : p ≡ c.in_ok-place.field-0.now = cc in
    let both : None ≡ Some (Some e) = sym past ∙ ap (slice_get xs) (sym same) ∙ here in
    absurd cc))

pub returns-in_err-entry : goal.returns-in_err-entry
returns-in_err-entry c =
    let xs = c.args.entries.now in
    let place = c.in_ok-place.field-0.now in
    let known : Some place ≡ place_in c.args.places.now c.args.label.now = c.in_ok-place.ensures.value in
    let read = item-read xs place c.in_ok-get.field-0 c.in_ok-get.ensures.lookup in
    let empty : c.in_ok-get.field-0.now ≡ None = sym c.in_err-entry.ensures.value in
    rw c.from_residual-in_err-entry.ensures (absent c.args.places.now xs c.args.label.now c.requires (λ p e at here.
    let same : p ≡ place = cc in
    let both : Some (Some e) ≡ Some c.in_ok-get.field-0.now = sym here ∙ ap (slice_get xs) same ∙ read in
    absurd cc))

pub returns-then-eq : goal.returns-then-eq
returns-then-eq c =
    let xs = c.args.entries.now in
    let place = c.in_ok-place.field-0.now in
    let e = c.in_ok-entry.entry.now in
    let own : bytes_eq (label_of e) c.args.label.now ≡ true = ap (λ w. bytes_eq w c.args.label.now) (sym c.as_slice.ensures)
    ∙ sym c.if-eq.ensures in
    let there : c.in_ok-get.field-0.now ≡ Some e = sym c.in_ok-entry.ensures.value in
    record {
      entry = e;
      at = item-read xs place c.in_ok-get.field-0 c.in_ok-get.ensures.lookup ∙ ap (λ o. Some o) there;
      labelled = same_bytes (label_of e) c.args.label.now own;
    }

pub returns-else-eq : goal.returns-else-eq
returns-else-eq c =
    let xs = c.args.entries.now in
    let w = c.args.label.now in
    let place = c.in_ok-place.field-0.now in
    let e = c.in_ok-entry.entry.now in
    let there : c.in_ok-get.field-0.now ≡ Some e = sym c.in_ok-entry.ensures.value in
    let at : StandsIn xs place e = item-read xs place c.in_ok-get.field-0 c.in_ok-get.ensures.lookup ∙ ap (λ o. Some o) there in
    let known : Some place ≡ place_in c.args.places.now w = c.in_ok-place.ensures.value in
    let other : bytes_eq w (label_of e) ≡ false = bytes_eq-sym w (label_of e) ∙ ap (λ l. bytes_eq l w) (sym c.as_slice.ensures)
    ∙ sym c.if-eq.ensures in
    absent c.args.places.now xs w c.requires (λ p f at_p here.
    let same : p ≡ place = cc in
    let one : Some (Some f) ≡ Some (Some e) = sym here ∙ ap (slice_get xs) same ∙ at in
    let entry : f ≡ e = cc in
    ap (λ (x : Ranked). bytes_eq w (label_of x)) entry ∙ other)
