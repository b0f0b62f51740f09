-- What is left to show of `open`: the library with its stand-ins, and the scripts with ranks that count them.
use Rattle.std.proofs.Common.{◌≡◌, ◌∙◌, ◌-◌, ◌*◌, [], length, sym, ap, ap₂, subst, rules}
use Rattle.std.specs.Prelude.{All}
use Rattle.std.proofs.lemmas.List.{nil_from_length}
use Rattle.mmsyntax.specs.Tables.{Contents}
use Rattle.expanding.specs.Views.{seen_scripts}
use Rattle.library.specs.Fitting.{CommandFits}
use Rattle.standins.specs.StandIns.{Scripts, raise_by, raised, stand_ins, with_stand_ins}
use Rattle.standins.specs.Views.{seen_stand_ins}
use Rattle.standins.proofs.Leaned.{none_raised, raised_by, with_none}
use Rattle.standins.proofs.Raised.{raised_none}
use Rattle.standins.proofs.call.open.Goals as goal

pub returns-then-is_empty-clause-opened : goal.returns-then-is_empty-clause-opened
returns-then-is_empty-clause-opened g c = λ choice are.
    let s = g.D.Declared.scope c.args.declared.now in
    let t = c.args.taken.now in
    let db = t.database in
    let scripts = c.args.read.scripts.items in
    let words = seen_scripts c.args.read.words.now in
    let ss = stand_ins s choice t words scripts in
    let are_these : seen_stand_ins c.in_ok-stand_ins.stand_ins.items ≡ ss =
    c.in_ok-stand_ins.ensures choice are ∙ ap (stand_ins s choice t words) c.as_slice.ensures.value in
    let long : length c.in_ok-stand_ins.stand_ins.items ≡ 0 = search rules in
    let none : ss ≡ [] = sym are_these ∙ ap seen_stand_ins (nil_from_length c.in_ok-stand_ins.stand_ins.items long) in
    record {
      stand_ins = are_these;
      database = sym (ap (with_stand_ins db) none ∙ with_none db);
      scripts = sym (ap (λ xs. raised (raise_by db xs) scripts) none ∙ ap (λ by. raised by scripts) (none_raised db)
          ∙ raised_none db.prelude scripts c.requires.fit);
    }

pub returns-clause-opened : goal.returns-clause-opened
returns-clause-opened g c = λ choice are.
    let s = g.D.Declared.scope c.args.declared.now in
    let t = c.args.taken.now in
    let db = t.database in
    let scripts = c.args.read.scripts.items in
    let words = seen_scripts c.args.read.words.now in
    let ss = stand_ins s choice t words scripts in
    let are_these : seen_stand_ins c.in_ok-stand_ins.stand_ins.items ≡ ss =
    c.in_ok-stand_ins.ensures choice are ∙ ap (stand_ins s choice t words) c.as_slice.ensures.value in
    let opened : c.in_ok-database.database ≡ with_stand_ins db ss =
    c.in_ok-database.ensures.made
    ∙ ap (λ xs. with_stand_ins db (seen_stand_ins xs)) c.as_slice-2.ensures.value
    ∙ ap (with_stand_ins db) are_these in
    let by : c.raise_by-by.result ≡ raise_by db ss =
    c.raise_by-by.ensures
    ∙ ap (λ (d : Contents). 100 * (length d.assertions - length db.assertions)) opened
    ∙ raised_by db ss in
    record {
      stand_ins = are_these;
      database = opened;
      scripts = c.in_ok-scripts.ensures.raised ∙ ap₂ raised by c.as_slice-3.ensures.value;
    }

pub returns-clause-fit : goal.returns-clause-fit
returns-clause-fit g c =
    let t = c.args.taken.now.database.prelude in
    c.in_ok-scripts.ensures.fit t
    (subst (λ (xs : Scripts). All (All (All (CommandFits t))) xs) (sym c.as_slice-3.ensures.value) c.requires.fit)
