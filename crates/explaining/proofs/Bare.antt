-- What is found doesn't speak of the proof of an assertion, nor, where it is proved, of its mandatory hypotheses.
use Rattle.std.proofs.Common.{◌≡◌, ◌∙◌, ℕ, List, None, sym, ap, subst as transport}
use Rattle.source.specs.Scopes.{Hypothesis, Assertion}
use Rattle.source.specs.Proofs.{Step, Stack}
use Rattle.mmtext.specs.Words.{Word}
use Rattle.verifying.specs.Citations.{Expression}
use Rattle.verifying.specs.Verifies.{Entry}
use Rattle.explaining.specs.declared.assertion.AssertionWords.{AssertionWords}
use Rattle.explaining.specs.declared.finding.Finding.{Finding}
use Rattle.explaining.specs.declared.finding.Finding.TheVariants.{WrongType, HypothesisDiffers, NotDisjoint, StatementDiffers}
use Rattle.explaining.specs.declared.stepping.Outcome.{Outcome}
use Rattle.explaining.specs.declared.stepping.Outcome.TheVariants as outcome
use Rattle.explaining.specs.Findings.{Cites, IsCitation, Finds, IsFound}
use Rattle.explaining.specs.Shown.{bare, seen_assertion, with_hypotheses, FailsToCite, Tells}

-- ---- what is cited

abbrev pub without_proof : Assertion → Assertion
without_proof c = record c { proof = None }

pub same_cited : (c : Assertion) (w : AssertionWords) (hs : List Hypothesis) → bare c ≡ seen_assertion w → c.hypotheses ≡ hs
    → without_proof c ≡ with_hypotheses w hs
same_cited c w hs is e =
    ap (λ h. record c { hypotheses = h; proof = None }) e ∙ ap (λ (b : Assertion). record b { hypotheses = hs }) is

finds_cited : (x c : Assertion) (es : List Expression) (f : Finding) → Finds x (without_proof c) es f → Finds x c es f
finds_cited x c es (WrongType cited float wanted found) h =
    record { labelled = h.labelled; variable = h.variable; first_misfit = h.first_misfit }
finds_cited x c es (HypothesisDiffers cited label wanted found) h =
    record { labelled = h.labelled; symbols = h.symbols; first_misfit = h.first_misfit; substituted = h.substituted }
finds_cited x c es (NotDisjoint cited first second for_first for_second one other) h = record {
  labelled = h.labelled;
  first_misfit = h.first_misfit;
  first_is = h.first_is;
  second_is = h.second_is;
  one_is = h.one_is;
  other_is = h.other_is;
}
finds_cited x c es (StatementDiffers wanted found) h = h

pub fails_cited : (x c b : Assertion) (es : List Expression) (f : Finding) → without_proof c ≡ b → FailsToCite x b es f
    → FailsToCite x c es f
fails_cited x c b es f is h =
    let own : FailsToCite x (without_proof c) es f = transport (λ (b : Assertion). FailsToCite x b es f) (sym is) h
    in
    record { finds = finds_cited x c es f own.finds; fails = own.fails }

-- ---- what is proved

module _ (earlier : List Assertion) (x : Assertion) where
  cites_bare : (s : Stack Entry) (w : Word) (c : Assertion) (es : List Expression) → Cites earlier (bare x) s w c es
      → Cites earlier x s w c es
  cites_bare s w c es h =
      record { no_hypothesis = h.no_hypothesis; is_cited = h.is_cited; below = h.below; takes = h.takes }

  citation_bare : (steps : List Step) (n : ℕ) (c : Assertion) (es : List Expression) → IsCitation earlier (bare x) steps n c es
      → IsCitation earlier x steps n c es
  citation_bare steps n c es h = record {
    front = h.front;
    label = h.label;
    at = h.at;
    stack = h.stack;
    stands = h.stands;
    cites = cites_bare h.stack h.label c es h.cites;
  }

  found_bare : (steps : List Step) (n : ℕ) (f : Finding) → IsFound earlier (bare x) steps n f → IsFound earlier x steps n f
  found_bare steps n (WrongType cited float wanted found) h = (h.0, h.1, citation_bare steps n h.0 h.1 h.2, h.3)
  found_bare steps n (HypothesisDiffers cited label wanted found) h = (h.0, h.1, citation_bare steps n h.0 h.1 h.2, h.3)
  found_bare steps n (NotDisjoint cited first second for_first for_second one other) h = (
    h.0,
    h.1,
    citation_bare steps n h.0 h.1 h.2,
    record {
      labelled = h.3.labelled;
      first_misfit = h.3.first_misfit;
      first_is = h.3.first_is;
      second_is = h.3.second_is;
      one_is = h.3.one_is;
      other_is = h.3.other_is;
    },
  )
  found_bare steps n (StatementDiffers wanted found) h = record { derives = h.derives; stated = h.stated }

  tells_bare : (steps : List Step) (o : Outcome) → Tells earlier (bare x) steps o → Tells earlier x steps o
  tells_bare steps outcome.Absent h = h
  tells_bare steps outcome.Derives h = h
  tells_bare steps (outcome.Fails e) h = record { fault = h.fault; found = found_bare steps e.step e.finding h.found }

  pub tells_same : (a : Assertion) (steps : List Step) (o : Outcome) → bare x ≡ a → Tells earlier a steps o → Tells earlier x steps o
  tells_same a steps o is h =
      tells_bare steps o (transport (λ (y : Assertion). Tells earlier y steps o) (sym is) h)
