use Rattle.std.proofs.Common.{sym, ap, ◌∙◌}
use Rattle.std.specs.Prelude.{◌&&◌}
use Rattle.std.specs.List.{list_any}
use Rattle.mmsyntax.specs.Dotted.{is_dotted}
use Rattle.library.specs.Edits.{has, without}
use Rattle.catalog.specs.Entries.{living}
use Rattle.catalog.proofs.Clashes.{front_clashes, unlisted_clashes, listed_clashes}
use Rattle.catalog.proofs.clashing.has_clash.Goals as goal

pub returns-then-has_front_beside : goal.returns-then-has_front_beside
returns-then-has_front_beside c =
    sym (front_clashes (without c.args.own.now (living c.args.entries.now)) c.args.label.now
    (sym c.has_front_beside.ensures ∙ c.if-has_front_beside.true))

pub returns-in-None : goal.returns-in-None
returns-in-None c =
    sym (unlisted_clashes c.args.trunks.now c.args.places.now c.args.entries.now c.args.own.now c.args.label.now c.requires.indexed
    c.requires.trunks (sym c.has_front_beside.ensures ∙ c.if-has_front_beside.false) c.in-None.ensures.value)

pub returns-in-Some : goal.returns-in-Some
returns-in-Some c =
    let lib = without c.args.own.now (living c.args.entries.now) in
    let w = c.args.label.now in
    c.some_beside.ensures ∙ ap (list_any (λ k. is_dotted w k.items && has lib k.items)) c.as_slice.ensures.value
    ∙ listed_clashes c.args.trunks.now c.args.places.now c.args.entries.now c.args.own.now w c.requires.indexed
    c.requires.trunks (sym c.has_front_beside.ensures ∙ c.if-has_front_beside.false) c.in-Some.dotted.now c.in-Some.ensures.value
