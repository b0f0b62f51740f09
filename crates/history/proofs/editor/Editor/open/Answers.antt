use Rattle.std.proofs.Common.{◌≡◌, ◌≤◌, map, length, sym, ap, subst, ◌∙◌}
use Rattle.std.specs.Str.{bytes_eq}
use Rattle.mmsyntax.specs.Assertions.{Distinct}
use Rattle.catalog.specs.Entries.{living}
use Rattle.library.specs.Library.{Setting, Verifies, label_of, ranked_from, opening}
use Rattle.librarylaws.proofs.Opening.{opening_verifies}
use Rattle.history.specs.Drafts.{now_in}
use Rattle.catalog.proofs.Changing.{living-standing}
use Rattle.history.proofs.editor.Editor.open.Goals as goal

pub open-requires-clause-distinct : goal.open-requires-clause-distinct
open-requires-clause-distinct c =
    let db = c.args.db.now in
    let a = c.assertions-assertions in
    let within = c.if-assertions-slots.false in
    let room : length db.assertions ≤ c.args.slots = subst (λ xs. length xs ≤ c.args.slots) a.ensures.value within in
    let v = opening_verifies db c.args.slots a.ensures.sound c.requires.checks c.requires.slots.0 c.requires.slots.1 room in
    subst (λ xs. Distinct bytes_eq (map label_of (ranked_from 1 xs))) (sym a.ensures.value) v.library.distinct

pub invariant_of-result : goal.invariant_of-result
invariant_of-result c =
    let db = c.args.db.now in
    let a = c.assertions-assertions in
    let within = c.if-assertions-slots.false in
    let room : length db.assertions ≤ c.args.slots = subst (λ xs. length xs ≤ c.args.slots) a.ensures.value within in
    let s : Setting = record { prelude = db.prelude; slots = c.args.slots } in
    let d = c.in_ok-draft.draft in
    let prelude : c.in_ok-prelude.prelude ≡ db.prelude = c.in_ok-prelude.ensures ∙ c.prelude.ensures in
    let setting : d.setting ≡ s = c.in_ok-draft.ensures.setting ∙ ap (λ p. record { prelude = p; slots = c.args.slots }) prelude in
    let held : now_in d ≡ opening db =
    ap living c.in_ok-draft.ensures.entries ∙ living-standing (ranked_from 1 a.result.now) ∙ ap (ranked_from 1) a.ensures.value in
    let start : d.start ≡ opening db = c.in_ok-draft.ensures.start ∙ ap (ranked_from 1) a.ensures.value in
    let verifies = opening_verifies db c.args.slots a.ensures.sound c.requires.checks c.requires.slots.0 c.requires.slots.1 room in
    record {
      verifies = subst (λ x. Verifies x (now_in d)) (sym setting) (subst (Verifies s) (sym held) verifies);
      settled = start ∙ sym held;
      forgotten = c.in_ok-draft.ensures.noted;
    }
