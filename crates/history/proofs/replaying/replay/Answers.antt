use Rattle.std.proofs.Common.{◌≡◌, ◌∙◌, ap, sym, subst, map, take, refl, rules}
use Rattle.std.proofs.lemmas.Option.{slice_get_read}
use Rattle.std.proofs.lemmas.List.{take_all, length-map}
use Rattle.library.specs.Library.{setting_over, opening, ShowsInOrder}
use Rattle.library.specs.Histories.{seen_entry, after_all, after_entry, IsLegal}
use Rattle.librarylaws.proofs.Legal.{after-more, goes_on, told_at}
use Rattle.history.proofs.Differing.{first_differing}
use Rattle.history.proofs.replaying.replay.Goals as goal

pub repeats-requires : goal.repeats-requires
repeats-requires c =
    let x = c.index-history-i.result in
    let at = told_at c.args.history.now c.loop-i.i x c.loop-i-test.true c.index-history-i.is in
    record {
      fit = rw (c.loop-i.invariant.1, at.1) (c.requires.fit c.loop-i.i (seen_entry x) at.0);
    }

pub returns-then-not-branch : goal.returns-then-not-branch
returns-then-not-branch c =
    let x = c.index-history-i.result in
    let h = map seen_entry c.args.history.now in
    let at = told_at c.args.history.now c.loop-i.i x c.loop-i-test.true c.index-history-i.is in
    let same = c.in_ok-repeats.ensures.same in
    first_differing (setting_over c.args.db.now c.args.slots) (opening c.args.db.now) h c.loop-i.i (seen_entry x)
    (slice_get_read h _ c.loop-i.i (seen_entry x) refl at.0 at.1) c.loop-i.invariant.3
    (λ k. let t = same.1 (rw (c.loop-i.invariant.1, c.loop-i.invariant.2) k) in cc)

pub loop-i-preserved : goal.loop-i-preserved
loop-i-preserved c =
    let x = c.index-history-i.result in
    let h = map seen_entry c.args.history.now in
    let s = setting_over c.args.db.now c.args.slots in
    let lib = opening c.args.db.now in
    let i = c.loop-i.i in
    let at = told_at c.args.history.now i x c.loop-i-test.true c.index-history-i.is in
    let is_setting = c.loop-i.invariant.1 in
    let is_library = c.loop-i.invariant.2 in
    let same = c.in_ok-repeats.ensures.same in (
      c.loop-i.invariant.0,
      c.in_ok-repeats.ensures.setting ∙ is_setting,
      c.in_ok-repeats.ensures.after
          ∙ ap (λ t. after_entry t c.loop-i.editor.library (seen_entry x)) is_setting
          ∙ ap (λ l. after_entry s l (seen_entry x)) is_library
          ∙ sym (after-more s lib h i (seen_entry x) at.0 at.1),
      goes_on s lib h i (seen_entry x) at.0 at.1 c.loop-i.invariant.3
          (rw (is_setting, is_library) at (same.0 (search rules))),
    )

pub returns : goal.returns
returns c =
    let h = map seen_entry c.args.history.now in
    let s = setting_over c.args.db.now c.args.slots in
    let lib = opening c.args.db.now in
    let all : take c.loop-i.i h ≡ h = take_all c.loop-i.i h (rw length-map c.loop-i-test.false) in (
      c.loop-i.invariant.0,
      record {
        setting = c.into_library.ensures.setting ∙ c.loop-i.invariant.1;
        legal = subst (λ g. IsLegal s lib g) all c.loop-i.invariant.3;
        shows = subst (λ l. ShowsInOrder l c.into_library.result.entries) (c.loop-i.invariant.2 ∙ ap (after_all s lib) all)
            c.into_library.ensures.shown;
      },
    )
