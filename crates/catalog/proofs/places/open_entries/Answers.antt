use Rattle.std.proofs.Common.{◌≡◌, ◌+◌, ◌*◌, [], ◌∷◌, ◌++◌, Some, length, take, refl, sym, ap, ◌∙◌, arith}
use Rattle.std.specs.List.{slice_get}
use Rattle.std.proofs.lemmas.List.{take_all, map-append}
use Rattle.std.proofs.lemmas.Option.{slice_get_read}
use Rattle.library.specs.declared.library.Ranked.{Ranked}
use Rattle.library.specs.Library.{ranked_from}
use Rattle.catalog.specs.Entries.{standing}
use Rattle.catalog.proofs.Changing.{living-standing}
use Rattle.librarylaws.proofs.Opening.{length-ranked_from}
use Rattle.catalog.proofs.Openings.{ranked_from-at, ranked_from-next, front_free}
use Rattle.catalog.proofs.places.open_entries.Goals as goal

pub add_entry-requires-clause-free : goal.add_entry-requires-clause-free
add_entry-requires-clause-free c =
    let xs = c.args.assertions.now in
    let i = c.loop-i.i in
    let a = c.in_ok-copy.field-0 in
    let lib = ranked_from 1 xs in
    let item = slice_get_read xs (length xs) i c.index-assertions-i.result refl c.loop-i-test.true c.index-assertions-i.is in
    let at : slice_get xs i ≡ Some a = item ∙ ap (λ x. Some x) (sym c.in_ok-copy.ensures) in
    rw (c.loop-i.invariant.entries, living-standing) (front_free lib i (record { rank = 100 * (1 + i); assertion = a }) c.requires.distinct
    (ranked_from-at 1 xs i a at))

pub loop-i-preserved : goal.loop-i-preserved
loop-i-preserved c =
    let xs = c.args.assertions.now in
    let i = c.loop-i.i in
    let a = c.in_ok-copy.field-0 in
    let e : Ranked = record { rank = 100 * (i + 1); assertion = a } in
    let item = slice_get_read xs (length xs) i c.index-assertions-i.result refl c.loop-i-test.true c.index-assertions-i.is in
    let at : slice_get xs i ≡ Some a = item ∙ ap (λ x. Some x) (sym c.in_ok-copy.ensures) in
    record {
      entries = c.in_ok-add_entry.ensures.items ∙ ap (λ es. es ++ Some e ∷ []) c.loop-i.invariant.entries
          ∙ sym (ap standing (ranked_from-next xs i a at) ∙ map-append (λ (x : Ranked). Some x) (take i (ranked_from 1 xs)) (e ∷ []));
      indexed = c.in_ok-add_entry.ensures.indexed;
      only = c.in_ok-add_entry.ensures.only;
      trunks = c.in_ok-add_entry.ensures.trunks;
    }

pub returns-clause-entries : goal.returns-clause-entries
returns-clause-entries c =
    let lib = ranked_from 1 c.args.assertions.now in
    let past = c.loop-i-test.false in
    c.loop-i.invariant.entries ∙ ap standing (take_all c.loop-i.i lib (omega (arith, length-ranked_from 1 c.args.assertions.now)))
