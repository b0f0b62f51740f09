-- What the loop of `paste_all` keeps: the scripts so far, with proofs of the library.
use Rattle.std.proofs.Common.{List, take}
use Rattle.std.specs.List.{AllZip}
use Rattle.mmtext.specs.Text.{Token}
use Rattle.source.specs.Scopes.{Assertion}
use Rattle.expanding.specs.Views.{IsLaid, seen_scripts}
use Rattle.pasting.specs.Pasted.{AreAdditions}
use Rattle.pasting.specs.Places.{places_in}
use Rattle.pasting.specs.Views.{AreKnown, IsPaster}
use Rattle.editscripts.specs.Expanded.{ArePastedWith}
use Rattle.editscripts.proofs.expanded.paste_all.Given as goal

abbrev pub invariant-loop-script : goal.invariant-loop-script
invariant-loop-script g l =
    let s = g.D.Declared.scope l.declared in
    let m = places_in s l.flags l.database in
    (outs : List (List Token)) × AllZip IsLaid outs l.all.items × (added : List Assertion)
    × ArePastedWith s l.flags l.database added (take l.script (seen_scripts l.scripts)) outs
    × AreAdditions m l.database.prelude (seen_scripts l.scripts) added
    × AreKnown m l.database.prelude added l.additions × IsPaster s l.flags l.database l.paster
