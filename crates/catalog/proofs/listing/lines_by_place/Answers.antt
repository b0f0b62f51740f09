use Rattle.std.proofs.Common.{◌≡◌, ℕ, Some, length, refl, sym, ap, ◌∙◌}
use Rattle.std.proofs.lemmas.Option.{slice_get_read}
use Rattle.library.specs.declared.command.Line.{Line}
use Rattle.library.specs.Library.{label_of}
use Rattle.library.specs.Edits.{listing_line}
use Rattle.catalog.specs.Entries.{living, StandsIn}
use Rattle.catalog.proofs.Lines.{lines-empty, lines-more}
use Rattle.catalog.proofs.listing.lines_by_place.Goals as goal
use Rattle.catalog.proofs.listing.lines_by_place.Goals.{in-Some+in_ok-line_of+in_ok-push, in_default}

pub loop-place-preserved : goal.loop-place-preserved
loop-place-preserved c =
    let xs = c.args.entries.now in
    let f = listing_line (living xs) in
    let k = c.loop-place.place in
    let o = c.index-entries-place.result in
    let here = sym c.index-entries-place.is in
    elim c.match-entry.branch [
      | in-Some+in_ok-line_of+in_ok-push w ↦
          let e = w.in-Some.entry in
          let l = w.in_ok-line_of.field-0 in
          let at : StandsIn xs k e =
          slice_get_read xs (length xs) k o refl c.loop-place-test.true c.index-entries-place.is ∙ ap (λ y. Some y) w.in-Some.is in
          let counted : ℕ → Line = λ n. record { rank = e.rank; label = label_of e; kind = e.assertion.kind; citers = n } in
          let own : l ≡ f e = w.in_ok-line_of.ensures ∙ ap counted (c.requires.counted k e at) in
          ap (λ v. v.items) w.lines-is ∙ w.in_ok-push.ensures.items
          ∙ lines-more f xs k o c.loop-place-test.true here c.loop-place.lines.items l e w.in-Some.is c.loop-place.invariant own
      | in_default w ↦
          ap (λ v. v.items) w.lines-is ∙ c.loop-place.invariant ∙ lines-empty f xs k o c.loop-place-test.true here w.in_default.is
    ]
