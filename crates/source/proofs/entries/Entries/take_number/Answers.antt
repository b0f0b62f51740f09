-- What is left to show of `take_number`.
use Rattle.std.proofs.Common.{◌≡◌, ℕ, pred, ◌+◌, ◌-◌, ◌<◌, ◌≤◌, Bool, false, List, ◌++◌, length, get_or, replicate}
use Rattle.std.proofs.Common.{sym, subst, ◌∙◌, arith, refl}
use Rattle.std.specs.Prelude.{Some}
use Rattle.std.proofs.lemmas.Result.{MatchResult-weaker}
use Rattle.std.proofs.lemmas.List.{length-append, length-replicate, get_or-replicate, get_or_append_left, get_or-append_right}
use Rattle.mmtext.specs.Words.{Word}
use Rattle.source.specs.declared.entries.Citation.{Citation}
use Rattle.source.specs.declared.entries.Citation.TheVariants as citation
use Rattle.source.specs.declared.entries.Entries.{Entries}
use Rattle.source.specs.Scopes.{Hypothesis, Assertion}
use Rattle.source.specs.Proofs.{names, again, numbered}
use Rattle.source.specs.Counts.{citation_of, CountNumbers, IsStep}
use Rattle.source.proofs.Counted.{label_step, marked_step, again_step, absent_step}
use Rattle.source.proofs.entries.Entries.take_number.Goals as goal

-- what `put_citation` says
abbrev Names : Citation → Entries → Entries → Bool → Type 0
Names c old new goes =
    (earlier : List Assertion) (active : List Hypothesis) (w : Word) → citation_of earlier active w ≡ Some c
    → IsStep earlier active (names w) old new goes

-- a number from 1 is one from 0
abbrev Numbers : ℕ → List Citation → ℕ → Entries → Entries → Bool → Type 0
Numbers hypotheses citations number old new goes =
    (earlier : List Assertion) (active : List Hypothesis) (labels : List Word) → CountNumbers earlier active labels hypotheses citations
    → IsStep earlier active (numbered labels (pred number)) old new goes

many : (h : ℕ) (cs : List Citation) → length (replicate h citation.Hypothesis ++ cs) ≡ h + length cs
many h cs =
    omega (arith, length-append {A = Citation} (replicate h citation.Hypothesis) cs, length-replicate {A = Citation} h citation.Hypothesis)

of_hypothesis : (h : ℕ) (cs : List Citation) (i number : ℕ) (old new : Entries) (goes : Bool) → i ≡ pred number → i < h
    → Names citation.Hypothesis old new goes → Numbers h cs number old new goes
of_hypothesis h cs i number old new goes is lt step earlier active labels e =
    let front = replicate h citation.Hypothesis in
    let one = get_or_append_left front cs citation.Hypothesis i (omega (arith, length-replicate {A = Citation} h citation.Hypothesis))
    ∙ get_or-replicate h i citation.Hypothesis citation.Hypothesis lt in
    subst (λ j. IsStep earlier active (numbered labels j) old new goes) is
    (label_step earlier active labels (front ++ cs) i citation.Hypothesis old new goes e (omega (arith, many h cs)) (sym one)
    (step earlier active))

of_label : (h : ℕ) (cs : List Citation) (i : ℕ) (c : Citation) (number : ℕ) (old new : Entries) (goes : Bool) → i ≡ pred number → h ≤ i
    → i - h < length cs → c ≡ get_or cs (i - h) citation.Hypothesis → Names c old new goes → Numbers h cs number old new goes
of_label h cs i c number old new goes is le lt c-is step earlier active labels e =
    let front = replicate h citation.Hypothesis in
    let there = get_or-append_right front cs h i citation.Hypothesis (length-replicate {A = Citation} h citation.Hypothesis) le in
    subst (λ j. IsStep earlier active (numbered labels j) old new goes) is
    (label_step earlier active labels (front ++ cs) i c old new goes e (omega (arith, many h cs)) (c-is ∙ sym there)
    (step earlier active))

of_mark : (h : ℕ) (cs : List Citation) (i number : ℕ) (old new : Entries) (goes : Bool) → i ≡ pred number → h ≤ i → length cs ≤ i - h
    → ((earlier : List Assertion) (active : List Hypothesis) → IsStep earlier active (again (i - h - length cs)) old new goes)
    → Numbers h cs number old new goes
of_mark h cs i number old new goes is le past step earlier active labels e =
    subst (λ j. IsStep earlier active (numbered labels j) old new goes) is
    (marked_step earlier active labels (replicate h citation.Hypothesis ++ cs) i (i - h - length cs) old new goes e
    (omega (arith, many h cs)) (omega (arith, many h cs)) (step earlier active))

pub returns-then-index-hypotheses : goal.returns-then-index-hypotheses
returns-then-index-hypotheses c =
    MatchResult-weaker c.put_citation.result c.put_citation.ensures
    (λ goes step. of_hypothesis c.args.hypotheses c.args.citations.now c.saturating_sub-index.result c.args.number c.args.self.now
    c.put_citation.new.self
    goes (omega arith) c.if-index-hypotheses.true step)
    (λ _ full. full)

pub returns-then-index-citations : goal.returns-then-index-citations
returns-then-index-citations c =
    let call = c.put_citation-then-index-citations in
    MatchResult-weaker call.result call.ensures
    (λ goes step. of_label c.args.hypotheses c.args.citations.now c.saturating_sub-index.result _ c.args.number c.args.self.now
    call.new.self goes (omega arith) c.if-index-hypotheses.false c.if-index-citations.true refl step)
    (λ _ full. full)

pub returns-then-index-citations-2 : goal.returns-then-index-citations-2
returns-then-index-citations-2 c =
    MatchResult-weaker c.put.result c.put.ensures
    (λ goes puts. of_mark c.args.hypotheses c.args.citations.now c.saturating_sub-index.result c.args.number c.args.self.now c.put.new.self
    goes (omega arith) c.if-index-hypotheses.false c.if-index-citations.false
    (λ earlier active. again_step earlier active _ c.args.self.now c.put.new.self goes c.if-index-citations-2.true puts))
    (λ _ full. full)

pub returns : goal.returns
returns c =
    of_mark c.args.hypotheses c.args.citations.now c.saturating_sub-index.result c.args.number c.args.self.now c.args.self.now
    false (omega arith) c.if-index-hypotheses.false c.if-index-citations.false
    (λ earlier active. absent_step earlier active _ c.args.self.now c.if-index-citations-2.false)
