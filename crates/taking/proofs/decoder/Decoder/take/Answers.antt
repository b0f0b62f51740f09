-- What is left to show of `take`.
use Rattle.std.proofs.Common.{◌≡◌, true, arith, ◌∙◌, ap}
use Rattle.source.specs.Letters.{is_absent}
use Rattle.source.specs.Proofs.{stepped, step_of}
use Rattle.taking.specs.Decoding.{grown, stack_of}
use Rattle.taking.proofs.Turned.{if_ok}
use Rattle.taking.proofs.Codes.{step_names, step_repeats}
use Rattle.taking.proofs.decoder.Decoder.take.Goals as goal

pub returns-then-place-named-clause-taken : goal.returns-then-place-named-clause-taken
returns-then-place-named-clause-taken c =
    if_ok c.cite.result
    (λ there h. record {
      known = λ _. ap is_absent c.in-Number.is;
      steps = λ _ s are.
          ap (stepped grown s.earlier s.active (stack_of s.labels c.args.self.now))
          (step_names s c.args.named.now are c.args.code c.in-Number.number c.saturating_sub-place.result c.in-Number.is
          c.saturating_sub-place.ensures c.if-place-named.true)
          ∙ h s are;
    })
    c.cite.ensures.cited

pub returns-else-place-named-clause-taken : goal.returns-else-place-named-clause-taken
returns-else-place-named-clause-taken c =
    if_ok c.repeat.result
    (λ there h. record {
      known = λ _. ap is_absent c.in-Number.is;
      steps = λ _ s are.
          ap (stepped grown s.earlier s.active (stack_of s.labels c.args.self.now))
          (step_repeats s c.args.named.now are c.args.code c.in-Number.number c.saturating_sub-place.result _ c.in-Number.is
          c.saturating_sub-place.ensures (let le = c.if-place-named.false in omega arith))
          ∙ h s.labels;
    })
    c.repeat.ensures.repeated

pub returns-in-Mark-clause-taken : goal.returns-in-Mark-clause-taken
returns-in-Mark-clause-taken c =
    if_ok c.mark.result
    (λ there h. record {
      known = λ _. ap is_absent c.in-Mark.is;
      steps = λ _ s are.
          ap (λ code. stepped grown s.earlier s.active (stack_of s.labels c.args.self.now) (step_of s.labels code)) c.in-Mark.is
          ∙ h s.labels;
    })
    c.mark.ensures.marked

pub returns-in-Unknown-clause-taken : goal.returns-in-Unknown-clause-taken
returns-in-Unknown-clause-taken c = record {
  known = λ go. absurd cc;
  steps = λ known. let absent : is_absent c.args.code ≡ true = ap is_absent c.in-Unknown.is in absurd cc;
}
