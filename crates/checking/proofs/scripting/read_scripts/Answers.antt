use Rattle.std.proofs.Common.{◌+◌, List, ◌∷◌, [], ◌++◌, map, take, subst, sym, arith}
use Rattle.std.specs.Prelude.{All}
use Rattle.std.proofs.lemmas.List.Elements.{All-nil, All-push, All-same}
use Rattle.mmsyntax.specs.Tables.{Tables}
use Rattle.library.specs.Fitting.{CommandFits}
use Rattle.scripts.specs.ScriptFaults.{FaultyScript}
use Rattle.checking.specs.Checks.{Bytes, Orders, AreScripts}
use Rattle.checking.proofs.ScriptFaults.{spelled_begins, spelled_next, script_fault, spelled_all, read_as, script_refused, no_first}
use Rattle.checking.proofs.scripting.read_scripts.Goals as goal

-- each command of the transactions is within the limits of the prelude
abbrev Fit : Tables → Orders → Type 0
Fit p = All (All (CommandFits p))

pub loop-i-init : goal.loop-i-init
loop-i-init c = record {
  spelled = spelled_begins c.args.prelude.now c.args.texts.now c.new-scripts.result.items c.new-scripts.ensures.items;
  fit = All-same (Fit c.args.prelude.now) c.new-scripts.result.items [] c.new-scripts.ensures.items (All-nil (Fit c.args.prelude.now));
}

pub returns-in-Err-clause-err : goal.returns-in-Err-clause-err
returns-in-Err-clause-err c =
    let p = c.args.prelude.now in
    script_fault p c.args.texts.now c.loop-i.scripts.items c.index-texts-i.result c.loop-i.i c.in-Err.fault c.text_fault.result
    (omega arith)
    c.index-texts-i.is c.loop-i.invariant.spelled
    (λ k. subst (λ (b : Bytes). FaultyScript p b c.in-Err.fault) c.as_slice.ensures.value
    (c.in-Err.ensures.read.fault k)) c.text_fault.ensures

pub loop-i-preserved : goal.loop-i-preserved
loop-i-preserved c = record {
  spelled =
      let p = c.args.prelude.now in
      let texts = c.args.texts.now in
      subst (λ (xs : List Orders). AreScripts p (map (λ t. t.items) (take (c.loop-i.i + 1) texts)) xs)
      (sym c.in_ok-push-in-Ok.ensures.items)
      (spelled_next p texts c.loop-i.scripts.items c.index-texts-i.result c.in-Ok.script c.loop-i.i (omega arith) c.index-texts-i.is
      c.loop-i.invariant.spelled
      (read_as p _ _ c.in-Ok.script c.as_slice.ensures.value c.in-Ok.ensures.read.found c.in-Ok.ensures.read.refused));
  fit =
      let p = c.args.prelude.now in
      All-same (Fit p) _ (c.loop-i.scripts.items ++ c.in-Ok.script ∷ []) c.in_ok-push-in-Ok.ensures.items
      (All-push (Fit p) c.loop-i.scripts.items c.in-Ok.script c.loop-i.invariant.fit c.in-Ok.ensures.fits);
}

pub returns-clause-ok : goal.returns-clause-ok
returns-clause-ok c = spelled_all c.args.prelude.now c.args.texts.now c.loop-i.scripts.items c.loop-i.i
    (omega arith) c.loop-i.invariant.spelled

pub returns-in-Err-clause-refused : goal.returns-in-Err-clause-refused
returns-in-Err-clause-refused c = λ k f first.
    let text = c.index-texts-i.result in
    let as_text = c.as_slice.ensures.value in
    script_refused c.args.prelude.now c.args.texts.now c.loop-i.scripts.items text c.loop-i.i k c.in-Err.fault f c.text_fault.result
    (omega arith) c.index-texts-i.is c.loop-i.invariant.spelled
    (λ h faulty. c.in-Err.ensures.read.refused h (subst (λ (b : Bytes). FaultyScript c.args.prelude.now b h) (sym as_text) faulty))
    (λ ne. subst (λ (b : Bytes). FaultyScript c.args.prelude.now b c.in-Err.fault) as_text
    (c.in-Err.ensures.read.fault ne)) c.text_fault.ensures first

pub returns-clause-refused : goal.returns-clause-refused
returns-clause-refused c = λ k f first.
    let p = c.args.prelude.now in
    let scripts = c.loop-i.scripts.items in
    let spelled = spelled_all p c.args.texts.now scripts c.loop-i.i (omega arith) c.loop-i.invariant.spelled in
    absurd (no_first p _ scripts k f spelled first)
