use Rattle.std.proofs.Common.{◌≡◌, ◌∙◌, ◌+◌, suc, sym, ap, subst, arith, map, length, drop, List}
use Rattle.std.specs.Prelude.{Some}
use Rattle.std.specs.Option.{option_map}
use Rattle.std.proofs.lemmas.List.{length-map}
use Rattle.std.proofs.lemmas.Option.{slice_get-map, slice_get-get_or, same_Some}
use Rattle.source.specs.declared.letters.Code.{Code}
use Rattle.source.specs.Proofs.{step_of}
use Rattle.sourcewriting.specs.Reading.{labels_in, IsReadTo}
use Rattle.sourcewriting.specs.Readable.{seen_reader, LeadAll, unread}
use Rattle.sourcewriting.proofs.Marking.{none_read, all_read}
use Rattle.sourcewriting.proofs.Named.{refuted}
use Rattle.sourcewriting.proofs.Readable.{none_seen, led_by}
use Rattle.sourcewriting.proofs.reading.are_marked.Goals as goal

pub loop-code-init : goal.loop-code-init
loop-code-init c = (
  λ earlier active takes.
      none_read c.args.shared.now earlier active (map (step_of (labels_in c.args.counted.now)) c.as_slice-code-items.result.now)
      c.in_ok-reader.reader c.in_ok-reader.ensures.entries c.in_ok-reader.ensures.marked c.in_ok-reader.ensures.may_mark,
  λ end leads.
      let same = none_seen c.in_ok-reader.reader c.len.result c.in_ok-reader.ensures.entries c.in_ok-reader.ensures.marked
      c.in_ok-reader.ensures.written c.in_ok-reader.ensures.may_mark ∙ ap unread c.len.ensures in
      subst (λ r. LeadAll c.args.shared.now c.args.counted.now c.as_slice-code-items.result.now r end) (sym same) leads,
)

pub loop-code-preserved : goal.loop-code-preserved
loop-code-preserved c =
    let codes = c.as_slice-code-items.result.now in
    let s = c.args.shared.now in
    let cs = c.args.counted.now in
    let f = step_of (labels_in cs) in
    let i = c.loop-code.code-index in
    let within = c.loop-code-test.true in (
      λ earlier active takes.
          let e : suc i ≡ i + 1 = omega arith in
          let at = slice_get-map f codes i ∙ ap (option_map f) (slice_get-get_or codes i _ within) in
          subst (IsReadTo s earlier active (map f codes) c.take.new.self) e
          (c.in_ok-take.ensures.read c.if-not-branch.false earlier active takes (map f codes) i at
          (c.loop-code.invariant.0 earlier active takes)),
      λ end leads.
          let next = led_by s cs codes i _ (seen_reader c.loop-code.reader) end within (c.loop-code.invariant.1 end leads) in
          subst (λ r. LeadAll s cs (drop (i + 1) codes) r end) (sym (c.in_ok-take.ensures.right next.0 next.1).1) next.2,
    )

pub returns-then-not-branch-clause-right : goal.returns-then-not-branch-clause-right
returns-then-not-branch-clause-right c = λ said end are leads.
    let codes = c.as_slice-code-items.result.now in
    let s = c.args.shared.now in
    let cs = c.args.counted.now in
    let i = c.loop-code.code-index in
    let same : codes ≡ said = same_Some codes said
    (ap (λ (cs : List Code). Some cs) c.as_slice-code-items.ensures ∙ sym c.in-Some.is ∙ c.in_ok-codes.ensures ∙ are) in
    let all = subst (λ codes. LeadAll s cs codes (unread (length s.nodes.items)) end) (sym same) leads in
    let next = led_by s cs codes i _ (seen_reader c.loop-code.reader) end c.loop-code-test.true (c.loop-code.invariant.1 end all) in
    absurd (refuted c.in_ok-take.field-0 (c.in_ok-take.ensures.right next.0 next.1).0 c.if-not-branch.true)

pub returns-clause-marked : goal.returns-clause-marked
returns-clause-marked c = λ yes.
    let codes = c.as_slice-code-items.result.now in
    let f = step_of (labels_in c.args.counted.now) in
    record {
      codes = codes;
      said = sym c.in_ok-codes.ensures ∙ c.in-Some.is ∙ ap (λ cs. Some cs) (sym c.as_slice-code-items.ensures);
      marked = λ earlier active takes.
          let many = length-map codes f in
          let le = c.loop-code-test.false in
          all_read c.args.shared.now earlier active (map f codes) c.loop-code.reader c.loop-code.code-index (omega arith)
          (c.loop-code.invariant.0 earlier active takes);
    }
