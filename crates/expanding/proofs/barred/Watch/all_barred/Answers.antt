-- What is left to show of `all_barred`.
use Rattle.std.proofs.Common.{◌≡◌, ◌∙◌, ℕ, List, map, sym, ap, subst, Vec, Global}
use Rattle.std.proofs.lemmas.Result.{IfOk-weaker}
use Rattle.expanding.specs.Bars.{bars_of, holds, seen_bar}
use Rattle.expanding.specs.Watches.{seen_barred, AreBarred, AreWatched, all_barred}
use Rattle.expanding.specs.declared.barred.Barred.{Barred as CodeBarred}
use Rattle.expanding.proofs.Barring.{all_there, none_there}
use Rattle.expanding.proofs.barred.Watch.all_barred.Goals as goal

pub returns : goal.returns
returns g c = λ asked cs watch.
    let s = g.D.Declared.scope c.args.declared.now in
    let test = holds c.args.self.now.labels in
    let places = c.as_slice.result.now in
    let watched = subst (AreWatched s asked test) (sym c.as_slice.ensures.value) (c.in_ok-places.ensures asked cs watch) in
    let all = all_there s asked cs test places watch.by_label watched in
    IfOk-weaker c.barred_among.result
    (λ (v : Vec CodeBarred Global). map seen_barred v.items ≡ all_barred s asked cs places (map seen_bar c.args.self.now.bars.items))
    (λ (v : Vec CodeBarred Global). AreBarred s asked cs (map seen_barred v.items))
    (λ v is. subst (AreBarred s asked cs) (sym (is ∙ ap (all_barred s asked cs places) watch.bars_are)) all)
    (c.barred_among.ensures asked cs watch)
