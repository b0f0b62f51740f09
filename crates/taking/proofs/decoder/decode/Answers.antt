-- What is left to show of `decode`.
use Rattle.std.proofs.Common.{◌∙◌, ◌+◌, sym, ap, map, drop}
use Rattle.std.specs.Prelude.{Some, None, if◌then◌else◌}
use Rattle.std.specs.List.{list_any}
use Rattle.std.proofs.lemmas.Bool.{cond-false}
use Rattle.source.specs.declared.letters.Code.TheVariants.{Number}
use Rattle.source.specs.Letters.{is_absent}
use Rattle.source.specs.Proofs.{run_steps, single, step_of, denoted_by}
use Rattle.taking.specs.Decoding.{grown, stack_of}
use Rattle.taking.proofs.Codes.{next, lost, done, known_on, none_made, known_all}
use Rattle.taking.proofs.Loops.{start}
use Rattle.taking.proofs.decoder.decode.Goals as goal

pub loop-code-init : goal.loop-code-init
loop-code-init c =
    start c.args.named.now c.args.codes.now c.new-decoder.result c.new-decoder.ensures.nodes c.new-decoder.ensures.entries
    c.new-decoder.ensures.marked

pub loop-code-preserved : goal.loop-code-preserved
loop-code-preserved c =
    let l = c.loop-code in
    let codes = c.args.codes.now in
    let taken = c.in_ok-take.ensures.taken in
    let known = taken.known c.if-not-branch.false in
    record {
      stands = c.in_ok-take.ensures.stands c.if-not-branch.false;
      known = known_on codes l.code-index (Number 0) c.loop-code-test.true l.invariant.known known;
      goes =
          λ s are.
          sym (next s.earlier s.active s.labels codes l.code-index (Number 0) (stack_of s.labels l.decoder) c.loop-code-test.true
          ∙ ap (λ o. run_steps grown s.earlier s.active o (map (step_of s.labels) (drop (l.code-index + 1) codes)))
          (taken.steps known s are
          ∙ ap (λ b. if b then Some (stack_of s.labels c.take.new.self) else None) c.if-not-branch.false))
          ∙ l.invariant.goes s are;
    }

pub returns-then-not-branch-clause-decoded : goal.returns-then-not-branch-clause-decoded
returns-then-not-branch-clause-decoded c =
    let l = c.loop-code in
    let codes = c.args.codes.now in
    λ s are.
    let rest = map (step_of s.labels) (drop (l.code-index + 1) codes) in
    none_made codes l.code-index (Number 0) (denoted_by s.earlier s.active (map (step_of s.labels) codes)) c.loop-code-test.true
    l.invariant.known
    (λ known. ap single (sym (l.invariant.goes s are)
    ∙ next s.earlier s.active s.labels codes l.code-index (Number 0) (stack_of s.labels l.decoder) c.loop-code-test.true
    ∙ ap (λ o. run_steps grown s.earlier s.active o rest)
    (c.in_ok-take.ensures.taken.steps known s are
    ∙ ap (λ b. if b then Some (stack_of s.labels c.take.new.self) else None) c.if-not-branch.true)
    ∙ lost s.earlier s.active s.labels codes rest))

pub returns-clause-decoded : goal.returns-clause-decoded
returns-clause-decoded c =
    let l = c.loop-code in
    let codes = c.args.codes.now in
    λ s are.
    cond-false (list_any is_absent codes) None (denoted_by s.earlier s.active (map (step_of s.labels) codes))
    (known_all codes l.code-index c.loop-code-test.false l.invariant.known)
    ∙ ap single (sym (l.invariant.goes s are)
    ∙ done s.earlier s.active s.labels codes l.code-index (stack_of s.labels l.decoder) c.loop-code-test.false)
    ∙ c.into_proof.ensures.left s.labels
