use Rattle.std.proofs.Common.{◌≡◌, true, false, sym, ap, ◌∙◌}
use Rattle.std.proofs.Math.Bool.{not, not-not}
use Rattle.std.specs.Str.{bytes_eq}
use Rattle.catalog.specs.Entries.{living}
use Rattle.catalog.proofs.Clashes.{has_without-own, has_without-other}
use Rattle.catalog.proofs.Living.{some-known}
use Rattle.catalog.proofs.clashing.has_beside.Goals as goal

pub returns-then-ne : goal.returns-then-ne
returns-then-ne c =
    let es = c.args.entries.now in
    let own = c.args.own.now in
    let w = c.args.label.now in
    let other : bytes_eq own w ≡ false = sym (not-not (bytes_eq own w)) ∙ ap not (sym c.ne.ensures ∙ c.if-ne.true) in
    c.is_some.ensures ∙ some-known es w c.find_label.result c.find_label.ensures ∙ sym (has_without-other (living es) own w other)

pub returns-else-ne : goal.returns-else-ne
returns-else-ne c =
    let own = c.args.own.now in
    let w = c.args.label.now in
    let same : bytes_eq own w ≡ true = sym (not-not (bytes_eq own w)) ∙ ap not (sym c.ne.ensures ∙ c.if-ne.false) in
    c.if-ne.false ∙ sym (has_without-own (living c.args.entries.now) own w same)
