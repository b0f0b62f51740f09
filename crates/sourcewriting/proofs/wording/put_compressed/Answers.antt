use Rattle.std.proofs.Common.{◌≡◌, ◌∙◌, ◌<◌, ◌+◌, ◌^◌, ℕ, List, Some, length, sym, ap, subst, arith, IsTrue}
use Rattle.std.specs.List.{list_all}
use Rattle.std.proofs.lemmas.List.{length-map}
use Rattle.mmtext.specs.Text.{is_printable}
use Rattle.source.specs.Letters.{codes_of}
use Rattle.sourcewriting.specs.Lettered.{AreNumbers, AreUntaken, counts_behind}
use Rattle.sourcewriting.specs.Named.{AreNames}
use Rattle.sourcewriting.specs.Readable.{LeadAll, unread}
use Rattle.sourcewriting.proofs.Numbering.{names_among, counted_long}
use Rattle.sourcewriting.proofs.Printed.{printable_letters}
use Rattle.source.specs.Views.{seen_words}
use Rattle.taking.proofs.Turned.{if_ok}
use Rattle.sourcewriting.specs.declared.shared.CountedLabel.{CountedLabel}
use Rattle.sourcewriting.specs.Laid.{IsLaid}
use Rattle.sourcewriting.specs.Lines.{parenthesized}
use Rattle.sourcewriting.specs.Reading.{counts_of, labels_in, HaveMore, AreMarkedLetters}
use Rattle.sourcewriting.proofs.MarkedWords.{marked_words}
use Rattle.sourcewriting.proofs.wording.put_compressed.Goals as goal

pub returns-clause-laid : goal.returns-clause-laid
returns-clause-laid c = λ i laid.
    let words = c.args.shared.now.words.items in
    let mandatory = seen_words c.args.mandatory.now in
    let none = c.new-others.result.items in
    let others = c.numbers_of.new.others.items in
    let counted = c.in_ok-counted.counted.items in
    let letters = c.in_ok-letters.letters.items in
    let have = subst (λ (ws : List CountedLabel). HaveMore ws none others) c.words.ensures c.in_ok-numbers.ensures.more in
    let are = subst (λ (os : List CountedLabel). counts_of counted ≡ counts_behind mandatory os) c.as_slice-2.ensures.value
    c.in_ok-counted.ensures in
    let was = subst (λ (os : List CountedLabel). IsLaid i c.put_in_parentheses.new.layout (parenthesized (labels_in os)))
    c.as_slice.ensures.value
    (c.put_in_parentheses.ensures.laid i laid) in
    if_ok c.are_marked.result
    (λ right now yes.
    marked_words i c.put_in_parentheses.new.layout c.put_letters.new.self words none others counted mandatory letters
    c.new-others.ensures.items have are was
    (λ i ws laid. let r = c.put_letters.ensures.laid i ws laid in (r.0, r.1 ∙ c.as_slice-4.ensures.value, r.2))
    (subst (λ (ls : List ℕ). AreMarkedLetters counted ls) c.as_slice-6.ensures.value
    (subst (λ (cs : List CountedLabel). AreMarkedLetters cs c.as_slice-6.result.now) c.as_slice-5.ensures.value (now yes))))
    c.are_marked.ensures.marked

pub returns-clause-fine : goal.returns-clause-fine
returns-clause-fine c = λ names can.
    let s = c.args.shared.now in
    let words = s.words.items in
    let mandatory = seen_words c.args.mandatory.now in
    let none = c.new-others.result.items in
    let others = c.numbers_of.new.others.items in
    let counted = c.in_ok-counted.counted.items in
    let letters = c.in_ok-letters.letters.items in
    let have = subst (λ (ws : List CountedLabel). HaveMore ws none others) c.words.ensures c.in_ok-numbers.ensures.more in
    let none-long = ap length c.new-others.ensures.items in
    let words-long = ap length c.words.ensures in
    let mandatory-long = length-map c.args.mandatory.now (λ w. w.now) in
    let room : length c.args.mandatory.now + length none + length c.words.result.now < 2 ^ 64 =
    omega (arith, can.few, none-long, words-long, mandatory-long) in
    let numbered = c.in_ok-numbers.ensures.numbered room
    (subst (λ (ws : List CountedLabel). AreUntaken mandatory ws) (sym c.words.ensures) can.untaken) in
    let are : counts_of counted ≡ counts_behind mandatory others =
    c.in_ok-counted.ensures ∙ ap (counts_behind mandatory) c.as_slice-2.ensures.value in
    let numbers = subst (λ (ns : List ℕ). AreNumbers words (counts_of counted) ns) (sym c.as_slice-3.ensures.value)
    (subst (λ ps. AreNumbers words ps c.in_ok-numbers.numbers.items) (sym are)
    (subst (λ (ws : List CountedLabel). AreNumbers ws (counts_behind mandatory others) c.in_ok-numbers.numbers.items)
    c.words.ensures numbered)) in
    let long = counted_long mandatory counted others are in
    let few = c.in_ok-numbers.ensures.few in
    let said = c.in_ok-letters.ensures counted can.nodes can.there numbers (c.len.ensures ∙ c.in_ok-counted.counted.ok.0)
    (omega (arith, long, few, can.few, none-long, words-long)) in
    let printed = c.put_letters.ensures.fine
    (subst (λ (ls : List ℕ). IsTrue (list_all is_printable ls)) (sym c.as_slice-4.ensures.value)
    (printable_letters letters said.0 said.2)) in
    let parted = c.put_in_parentheses.ensures.fine
    (subst (λ (os : List CountedLabel). AreNames (labels_in os)) (sym c.as_slice.ensures.value)
    (names_among words none others c.new-others.ensures.items have names)) in
    if_ok c.are_marked.result (λ right yes'. (yes', printed ∙ parted))
    (c.are_marked.ensures.right said.0 said.1
    (subst (λ (ls : List ℕ). codes_of ls ≡ Some said.0) (sym c.as_slice-6.ensures.value) said.2)
    (subst (λ (cs : List CountedLabel). LeadAll s cs said.0 (unread (length s.nodes.items)) said.1)
    (sym c.as_slice-5.ensures.value) said.3))
