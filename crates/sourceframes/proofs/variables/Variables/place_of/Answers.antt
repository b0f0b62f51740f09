-- What is left to show of `place_of`.
use Rattle.std.proofs.Common.{◌≡◌, ap, subst, ◌∙◌, rules}
use Rattle.std.specs.Prelude.{IfSome, map}
use Rattle.mmsyntax.specs.Tables.{place_of}
use Rattle.sourceframes.specs.Names.{looks_up}
use Rattle.sourceframes.specs.Frames.{ArePlaced, is_that, seen_variable}
use Rattle.sourceframes.proofs.variables.Variables.place_of.Goals as goal

pub returns-in-Some : goal.returns-in-Some
returns-in-Some c =
    let vs = map seen_variable c.self.inside.listed.items in
    let w = c.args.word.now in
    let placed : ArePlaced vs c.in-Some.places = subst (λ o. IfSome o (ArePlaced vs)) c.in-Some.is c.self.invariant in
    let at : c.copied.result ≡ looks_up c.in-Some.places w = search rules in
    at ∙ placed w ∙ ap (place_of (is_that w)) c.self.view_is
