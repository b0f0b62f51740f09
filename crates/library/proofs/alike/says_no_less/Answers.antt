-- What is left to show of `says_no_less`.
use Rattle.std.proofs.Common.{◌≡◌, ◌↔◌, All, Contains, IsTrue, refl, sym, subst, ◌∙◌}
use Rattle.library.proofs.alike.says_no_less.Goals as goal

pub returns : goal.returns
returns c =
    let old = c.args.old.now in
    let new = c.args.new.now in
    let hyps : new.hyps ≡ old.hyps = sym c.as_slice.ensures ∙ c.if-not-are_same.ensures.0 refl ∙ c.as_slice-2.ensures in
    let statement : new.statement ≡ old.statement = sym c.as_slice-3.ensures ∙ c.if-not-is_same.ensures.0 refl ∙ c.as_slice-4.ensures in
    let pairs : IsTrue c.are_within.result ↔ All (Contains old.pairs) new.pairs =
    subst (λ ps. IsTrue c.are_within.result ↔ All (Contains old.pairs) ps) c.as_slice-5.ensures
    (subst (λ qs. IsTrue c.are_within.result ↔ All (Contains qs) c.as_slice-5.result.now) c.as_slice-6.ensures c.are_within.ensures) in
    (λ yes. ((hyps, statement), pairs.0 yes), λ says. pairs.1 says.1)
