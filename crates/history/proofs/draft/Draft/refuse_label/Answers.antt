use Rattle.std.proofs.Common.{◌≡◌, true, false, sym, ap, ◌∙◌}
use mathlib.Core.Bool.{not}
use Rattle.mmsyntax.specs.Assertions.{is_lawful_label}
use Rattle.library.specs.declared.reason.Reason.TheVariants as reason
use Rattle.library.specs.Edits.{has, clashes, without, bad_label, label_taken, label_clashes}
use Rattle.history.specs.Drafts.{Drafted, now_in}
use Rattle.history.proofs.Commands.{so, not_so, first-some, first-none, known, clashing}
use Rattle.history.proofs.draft.Draft.refuse_label.Goals as goal
use Rattle.std.proofs.Common.{refl}

pub returns-then-not-is_lawful_label : goal.returns-then-not-is_lawful_label
returns-then-not-is_lawful_label c =
    let d = c.args.self.now in
    let w = c.args.label.now in
    let lawful : is_lawful_label d.setting.prelude w ≡ false =
    ap (λ (x : Drafted). is_lawful_label x.setting.prelude w) (sym c.self.view_is) ∙ sym c.is_lawful_label.ensures
    ∙ c.if-not-is_lawful_label.true in
    sym (first-some (bad_label d.setting w) _ reason.BadLabel
    (so (not (is_lawful_label d.setting.prelude w)) reason.BadLabel (ap not lawful)))

pub returns-then-is_some : goal.returns-then-is_some
returns-then-is_some c =
    let d = c.args.self.now in
    let lib = now_in d in
    let w = c.args.label.now in
    let held = c.as_slice-entries.ensures.value ∙ ap (λ (x : Drafted). x.entries) c.self.view_is in
    let lawful : is_lawful_label d.setting.prelude w ≡ true =
    ap (λ (x : Drafted). is_lawful_label x.setting.prelude w) (sym c.self.view_is) ∙ sym c.is_lawful_label.ensures
    ∙ c.if-not-is_lawful_label.false in
    let taken : has lib w ≡ true =
    known c.as_slice-entries.result.now d.entries w w _ _ held refl c.find_label.ensures c.is_some.ensures ∙ c.if-is_some.true in
    sym (first-none (bad_label d.setting w) _ (not_so (not (is_lawful_label d.setting.prelude w)) reason.BadLabel (ap not lawful))
    ∙ first-some (label_taken lib w) _ reason.LabelTaken (so (has lib w) reason.LabelTaken taken))

pub returns-then-has_clash : goal.returns-then-has_clash
returns-then-has_clash c =
    let d = c.args.self.now in
    let lib = now_in d in
    let own = c.args.own.now in
    let w = c.args.label.now in
    let held = c.as_slice-entries.ensures.value ∙ ap (λ (x : Drafted). x.entries) c.self.view_is in
    let lawful : is_lawful_label d.setting.prelude w ≡ true =
    ap (λ (x : Drafted). is_lawful_label x.setting.prelude w) (sym c.self.view_is) ∙ sym c.is_lawful_label.ensures
    ∙ c.if-not-is_lawful_label.false in
    let free : has lib w ≡ false =
    known c.as_slice-entries.result.now d.entries w w _ _ held refl c.find_label.ensures c.is_some.ensures ∙ c.if-is_some.false in
    let clash : clashes (without own lib) w ≡ true =
    clashing c.as_slice-entries.result.now d.entries own w own w _ held refl refl c.has_clash.ensures ∙ c.if-has_clash.true in
    sym (first-none (bad_label d.setting w) _ (not_so (not (is_lawful_label d.setting.prelude w)) reason.BadLabel (ap not lawful))
    ∙ first-none (label_taken lib w) _ (not_so (has lib w) reason.LabelTaken free)
    ∙ first-some (label_clashes (without own lib) w) _ reason.LabelClashes (so (clashes (without own lib) w) reason.LabelClashes clash))

pub returns : goal.returns
returns c =
    let d = c.args.self.now in
    let lib = now_in d in
    let own = c.args.own.now in
    let w = c.args.label.now in
    let held = c.as_slice-entries.ensures.value ∙ ap (λ (x : Drafted). x.entries) c.self.view_is in
    let lawful : is_lawful_label d.setting.prelude w ≡ true =
    ap (λ (x : Drafted). is_lawful_label x.setting.prelude w) (sym c.self.view_is) ∙ sym c.is_lawful_label.ensures
    ∙ c.if-not-is_lawful_label.false in
    let free : has lib w ≡ false =
    known c.as_slice-entries.result.now d.entries w w _ _ held refl c.find_label.ensures c.is_some.ensures ∙ c.if-is_some.false in
    let clear : clashes (without own lib) w ≡ false =
    clashing c.as_slice-entries.result.now d.entries own w own w _ held refl refl c.has_clash.ensures ∙ c.if-has_clash.false in
    sym (first-none (bad_label d.setting w) _ (not_so (not (is_lawful_label d.setting.prelude w)) reason.BadLabel (ap not lawful))
    ∙ first-none (label_taken lib w) _ (not_so (has lib w) reason.LabelTaken free)
    ∙ first-none (label_clashes (without own lib) w) _ (not_so (clashes (without own lib) w) reason.LabelClashes clear))
