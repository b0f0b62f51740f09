use Rattle.std.proofs.Common.{◌≡◌, length, map, refl, sym, ap, subst, ◌∙◌}
use Rattle.mmframes.specs.Frames.{frame}
use Rattle.library.specs.Library.{ranked_from}
use Rattle.catalog.specs.Entries.{living, standing, AreFramed}
use Rattle.catalog.specs.Citers.{Covers}
use Rattle.catalog.specs.Changes.{undone}
use Rattle.catalog.proofs.Changing.{living-standing}
use Rattle.librarylaws.proofs.Opening.{length-ranked_from}
use Rattle.catalog.proofs.Openings.{framed-opening}
use Rattle.history.proofs.Listed.{citers_settled}
use Rattle.history.proofs.Drafting.{draft_settled, counted_settled}
use Rattle.history.proofs.draft.Draft.open.Goals as goal

pub invariant_of-result : goal.invariant_of-result
invariant_of-result c =
    let xs = c.args.assertions.now in
    let t = c.args.prelude in
    let es = c.in_ok-entries.entries.items in
    let frames = c.in_ok-frames.frames.items in
    let lib = ranked_from 1 xs in
    let is = c.in_ok-entries.ensures.entries in
    let beside : frames ≡ map (frame t) xs = c.in_ok-frames.ensures in
    let framed : AreFramed t es frames =
    subst (λ l. AreFramed t l frames) (sym is) (subst (AreFramed t (standing lib)) (sym beside) (framed-opening t 1 xs)) in
    let count : length xs ≡ length (living es) =
    sym (ap (λ l. length (living l)) is ∙ ap length (living-standing lib) ∙ length-ranked_from 1 xs) in (
      draft_settled t c.in_ok-entries.places frames c.new.result.items es c.new.ensures.items c.in_ok-entries.ensures.indexed
          c.in_ok-entries.ensures.only framed,
      counted_settled (length xs) (length xs) c.new.result.items es c.new.ensures.items count count,
      record { empty = c.in_ok-with_capacity.ensures.len; room = c.in_ok-with_capacity.ensures.capacity },
      citers_settled c.in_ok-citers.citers.items c.new.result.items es c.new.ensures.items
          (c.in_ok-citers.ensures.long ∙ ap length c.as_slice.ensures.value) c.in_ok-citers.ensures.ascending
          (subst (Covers c.in_ok-citers.citers.items) c.as_slice.ensures.value c.in_ok-citers.ensures.covered),
      c.in_ok-entries.ensures.trunks,
    )

pub returns : goal.returns
returns c =
    let is = c.in_ok-entries.ensures.entries in
    record {
      setting = refl;
      start = ap (λ ns. living (undone ns c.in_ok-entries.entries.items)) c.new.ensures.items ∙ ap living is
          ∙ living-standing (ranked_from 1 c.args.assertions.now);
      entries = is;
      noted = c.new.ensures.items;
    }
