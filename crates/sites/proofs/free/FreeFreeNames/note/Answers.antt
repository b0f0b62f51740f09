-- What is left to show of `note`.
use Rattle.std.proofs.Common.{◌≡◌, ◌∙◌, true, cond, ap}
use Rattle.std.specs.Prelude.{◌&&◌}
use mathlib.Core.Bool.{not}
use Rattle.std.specs.Str.{bytes_eq}
use Rattle.mmtext.specs.Words.{has_dot}
use Rattle.mmsyntax.proofs.Names.{bytes_eq-sym}
use Rattle.taking.specs.Names.{is_fresh}
use Rattle.source.specs.Views.{has}
use Rattle.sites.specs.Changes.{has_given}
use Rattle.sites.proofs.Flags.{given_more, given_has}
use Rattle.sites.proofs.free.FreeFreeNames.note.Goals as goal

pub returns : goal.returns
returns g c = λ w.
    let f = c.args.self.now in
    let name = c.args.name.now in
    let key = c.in_ok-key.key.items in
    let fresh = is_fresh (g.D.Declared.scope f.declared.now) w in
    let t = has f.trunks w in
    let noted : has_given c.insert.new.self w ≡ cond (bytes_eq w name) true (has_given f.given w) =
    given_has key f.given c.insert.new.self c.in_ok-insert.ensures.updates w
    ∙ ap (λ v. cond (bytes_eq v w) true (has_given f.given w)) c.in_ok-key.ensures.items
    ∙ ap (λ b. cond b true (has_given f.given w)) (bytes_eq-sym name w) in
    ap (λ b. fresh && (not t && (not b && not (has_dot w)))) noted
    ∙ given_more fresh t (bytes_eq w name) (has_given f.given w) (has_dot w)
