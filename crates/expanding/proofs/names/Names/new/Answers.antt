-- What is left to show of `Names::new`.
use Rattle.std.proofs.Common.{◌≡◌, ◌∙◌, ap, subst, map}
use Rattle.std.specs.Prelude.{filter}
use Rattle.source.specs.Scopes.{is_in}
use Rattle.source.specs.Views.{seen_words, seen_pairs}
use Rattle.expanding.specs.Bars.{seen_command}
use Rattle.expanding.specs.Bearing.{bearers_for, words_in, or_own}
use Rattle.expanding.specs.Called.{AreBearers, renames}
use Rattle.expanding.specs.Discouraged.{added, is_declared}
use Rattle.expanding.proofs.Naming.{all_bearers}
use Rattle.expanding.proofs.names.Names.new.Goals as goal

pub returns : goal.returns
returns g c =
    let s = g.D.Declared.scope c.args.declared.now in
    let cs = map seen_command c.args.commands.now in
    let test = is_declared s in
    let pairs = c.in_ok-renames.renames.pairs.items in
    let are : seen_pairs pairs ≡ renames cs = c.in_ok-renames.ensures.pairs in
    let words : seen_words c.in_ok-words.words.items ≡ words_in (seen_pairs pairs) =
    c.in_ok-words.ensures ∙ ap (λ ps. words_in (seen_pairs ps)) c.as_slice.ensures.value in
    let labels : seen_words c.as_slice-3.result.now ≡ filter test (words_in (seen_pairs pairs)) =
    ap seen_words c.as_slice-3.ensures.value
    ∙ (c.in_ok-source.ensures
    ∙ (ap (λ ws. filter test (seen_words ws)) c.as_slice-2.ensures.value ∙ ap (filter test) words)) in
    let new : seen_words c.as_slice-4.result.now ≡ added cs = ap seen_words c.as_slice-4.ensures.value ∙ c.in_ok-added.ensures in
    record {
      modification = λ w.
          let f = bearers_for c.in_ok-called_of.field-0 in
          subst (λ rs. AreBearers rs (is_in (seen_words c.args.modification.now)) w (f w)) are (c.in_ok-called_of.ensures w);
      usage = λ w.
          let f = bearers_for c.in_ok-called_of-2.field-0 in
          subst (λ rs. AreBearers rs (is_in (seen_words c.args.usage.now)) w (f w)) are (c.in_ok-called_of-2.ensures w);
      source = λ w.
          let f = bearers_for c.in_ok-called_of-3.field-0 in
          let some = subst (λ ws. AreBearers (seen_pairs pairs) (is_in ws) w (f w)) labels (c.in_ok-called_of-3.ensures w) in
          subst (λ rs. AreBearers rs test w (or_own (f w) (test w) w)) are
          (all_bearers (seen_pairs pairs) test w (f w) some);
      added = λ w.
          let f = bearers_for c.in_ok-called_of-4.field-0 in
          let some = subst (λ ws. AreBearers (seen_pairs pairs) (is_in ws) w (f w)) new (c.in_ok-called_of-4.ensures w) in
          subst (λ rs. AreBearers rs (is_in (added cs)) w (f w)) are some;
    }
