-- What is left to show of `faultless`.
use Rattle.std.proofs.Common.{◌∙◌, List, map, ap, subst, Vec, Global}
use Rattle.mmtext.specs.declared.token.Token.{Token as CodeToken}
use Rattle.expanding.specs.Views.{seen_scripts}
use Rattle.editscripts.specs.Gathered.{AreRead, AreSpreadOut, ArePutBarred, ArePutCounted}
use Rattle.editscripts.specs.Faults.{AreOrdered, lines_text, told_lines}
use Rattle.editscripts.specs.Views.{seen_fault, seen_texts}
use Rattle.editscripts.specs.declared.faults.ScriptFault.{ScriptFault as CodeFault}
use Rattle.editscripts.proofs.Sayings.{spread_of, allowed_of, faults_of, some_told, none_in, some_in}
use Rattle.editscripts.proofs.hearing.faultless.Goals as goal

pub returns-then-is_empty-clause-spread : goal.returns-then-is_empty-clause-spread
returns-then-is_empty-clause-spread g c =
    let s = g.D.Declared.scope c.args.declared.now in
    let source = c.args.source.now in
    let texts = seen_texts c.args.texts.now in
    let force = c.args.force in
    let words = seen_scripts c.in_ok-words.words.items in
    let outs = seen_scripts c.in_ok-spread.spread.items in
    let first = map seen_fault c.words_of.new.faults.items in
    let second = map seen_fault c.spread_all.new.faults.items in
    let third = map seen_fault c.put_barred.new.faults.items in
    let last = map seen_fault c.put_discouraged.new.faults.items in
    let read =
    subst (λ (fs : List CodeFault). AreRead texts (map seen_fault fs) first words) c.new-faults.ensures.items c.in_ok-words.ensures in
    let spread =
    subst (λ (ws : List (Vec CodeToken Global)). AreSpreadOut s (seen_scripts ws) first second outs) c.as_slice.ensures.value
    c.in_ok-spread.ensures in
    let barred =
    subst (λ (os : List (Vec CodeToken Global)). ArePutBarred s (seen_scripts os) second third) c.as_slice-scripts.ensures.value
    c.in_ok-put_barred.ensures in
    let counted =
    subst (λ (os : List (Vec CodeToken Global)). ArePutCounted source s force (seen_scripts os) third last) c.as_slice-scripts.ensures.value
    c.in_ok-put_discouraged.ensures in
    let none = none_in c.put_discouraged.new.faults c.is_empty.result c.is_empty.ensures c.if-is_empty.true in
    spread_of source s texts force words outs first second third last read spread barred counted none

pub returns-then-is_empty-clause-allowed : goal.returns-then-is_empty-clause-allowed
returns-then-is_empty-clause-allowed g c =
    let s = g.D.Declared.scope c.args.declared.now in
    let source = c.args.source.now in
    let texts = seen_texts c.args.texts.now in
    let force = c.args.force in
    let words = seen_scripts c.in_ok-words.words.items in
    let outs = seen_scripts c.in_ok-spread.spread.items in
    let first = map seen_fault c.words_of.new.faults.items in
    let second = map seen_fault c.spread_all.new.faults.items in
    let third = map seen_fault c.put_barred.new.faults.items in
    let last = map seen_fault c.put_discouraged.new.faults.items in
    let read =
    subst (λ (fs : List CodeFault). AreRead texts (map seen_fault fs) first words) c.new-faults.ensures.items c.in_ok-words.ensures in
    let spread =
    subst (λ (ws : List (Vec CodeToken Global)). AreSpreadOut s (seen_scripts ws) first second outs) c.as_slice.ensures.value
    c.in_ok-spread.ensures in
    let barred =
    subst (λ (os : List (Vec CodeToken Global)). ArePutBarred s (seen_scripts os) second third) c.as_slice-scripts.ensures.value
    c.in_ok-put_barred.ensures in
    let counted =
    subst (λ (os : List (Vec CodeToken Global)). ArePutCounted source s force (seen_scripts os) third last) c.as_slice-scripts.ensures.value
    c.in_ok-put_discouraged.ensures in
    let none = none_in c.put_discouraged.new.faults c.is_empty.result c.is_empty.ensures c.if-is_empty.true in
    allowed_of source s texts force words outs first second third last read spread barred counted none

pub returns-clause-refused : goal.returns-clause-refused
returns-clause-refused g c =
    let s = g.D.Declared.scope c.args.declared.now in
    let source = c.args.source.now in
    let texts = seen_texts c.args.texts.now in
    let force = c.args.force in
    let words = seen_scripts c.in_ok-words.words.items in
    let outs = seen_scripts c.in_ok-spread.spread.items in
    let first = map seen_fault c.words_of.new.faults.items in
    let second = map seen_fault c.spread_all.new.faults.items in
    let third = map seen_fault c.put_barred.new.faults.items in
    let last = map seen_fault c.put_discouraged.new.faults.items in
    let read =
    subst (λ (fs : List CodeFault). AreRead texts (map seen_fault fs) first words) c.new-faults.ensures.items c.in_ok-words.ensures in
    let spread =
    subst (λ (ws : List (Vec CodeToken Global)). AreSpreadOut s (seen_scripts ws) first second outs) c.as_slice.ensures.value
    c.in_ok-spread.ensures in
    let barred =
    subst (λ (os : List (Vec CodeToken Global)). ArePutBarred s (seen_scripts os) second third) c.as_slice-scripts.ensures.value
    c.in_ok-put_barred.ensures in
    let counted =
    subst (λ (os : List (Vec CodeToken Global)). ArePutCounted source s force (seen_scripts os) third last) c.as_slice-scripts.ensures.value
    c.in_ok-put_discouraged.ensures in
    let fs = map seen_fault c.in_ok-ordered.ordered.items in
    let paths = map (λ p. p.now) c.args.paths.now in
    let ordered =
    subst (λ (all : List CodeFault). AreOrdered (map seen_fault all) fs) c.as_slice-2.ensures.value c.in_ok-ordered.ensures in
    let some = some_in c.put_discouraged.new.faults c.is_empty.result c.is_empty.ensures c.if-is_empty.false in
    record {
      faults = fs;
      are_faults = faults_of source s texts force words outs first second third last read spread barred counted fs ordered;
      some = some_told last fs ordered some;
      says =
          c.in_ok-told.ensures
          ∙ ap (λ (os : List CodeFault). lines_text (told_lines paths texts (map seen_fault os))) c.as_slice-3.ensures.value;
    }
