-- What is left to show of `proof_for`.
use Rattle.std.proofs.Common.{◌≡◌, ◌∙◌, length, refl, sym, ap, arith}
use Rattle.std.specs.Prelude.{slice_get}
use Rattle.std.specs.Option.{option_and_then, option_map}
use Rattle.std.specs.Str.{bytes_eq}
use Rattle.std.proofs.lemmas.List.{length-map}
use Rattle.std.proofs.lemmas.Option.{slice_get_read}
use Rattle.pasting.specs.declared.own_words.GivenProof.{GivenProof as CodeProof}
use Rattle.mmsyntax.specs.Tables.{place_of}
use Rattle.pasting.specs.Views.{seen_given_proof}
use Rattle.dressing.proofs.Firsts.{first_for}
use Rattle.dressing.proofs.quoted.proof_for.Goals as goal

pub returns-in-None : goal.returns-in-None
returns-in-None c =
    let qs = c.args.given.now in
    let w = c.args.label.now in
    let none = ap (place_of (bytes_eq w)) (sym c.requires) ∙ sym c.place.ensures.place ∙ c.in-None.is in
    ap (λ o. option_map seen_given_proof (option_and_then (slice_get qs) o)) (sym none) ∙ first_for seen_given_proof (λ g. g.label) qs w

pub returns-in-Some : goal.returns-in-Some
returns-in-Some c =
    let qs = c.args.given.now in
    let w = c.args.label.now in
    let some = ap (place_of (bytes_eq w)) (sym c.requires) ∙ sym c.place.ensures.place ∙ c.in-Some.is in
    let long : length c.args.labels.now ≡ length qs = ap length c.requires ∙ length-map qs (λ (q : CodeProof). q.label.now) in
    let within = c.in-Some.ensures.within in
    let at = slice_get_read qs (length qs) c.in-Some.place c.index-given-place.result refl (omega (arith, long, within))
    c.index-given-place.is in
    ap (option_map seen_given_proof) (sym at)
    ∙ ap (λ o. option_map seen_given_proof (option_and_then (slice_get qs) o)) (sym some)
    ∙ first_for seen_given_proof (λ g. g.label) qs w
