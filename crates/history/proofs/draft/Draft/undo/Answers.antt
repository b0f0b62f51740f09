use Rattle.std.proofs.Common.{◌≡◌, [], length, rules, sym, ap, subst, ◌∙◌}
use Rattle.catalog.specs.Entries.{living, AreFramed}
use Rattle.catalog.specs.Places.{IsIndex, HasOnly}
use Rattle.catalog.specs.Citers.{Covers}
use Rattle.catalog.specs.Changes.{undone}
use Rattle.catalog.proofs.Dotted.{trunks-kept, listed-all}
use Rattle.history.proofs.Listed.{citers_settled}
use Rattle.history.proofs.Drafting.{draft_settled, counted_settled}
use Rattle.catalog.proofs.Undoing.{framed-undone, written_whole, length-undone}
use Rattle.history.proofs.draft.Draft.undo.Goals as goal

pub drop_notes-requires-clause-trunks : goal.drop_notes-requires-clause-trunks
drop_notes-requires-clause-trunks c =
    let i = c.self.inside in
    trunks-kept i.trunks i.trunks i.places c.take_all_back.new.places (listed-all i.trunks) c.take_all_back.ensures.fewer c.self.invariant.4

pub invariant_of-self : goal.invariant_of-self
invariant_of-self c =
    let i = c.self.inside in
    let es = i.entries.items in
    let ns = i.notes.items in
    let new = c.take_all_back.new.entries in
    let given : new ≡ undone ns es =
    c.take_all_back.ensures.entries ∙ ap (λ l. undone l c.as_mut_slice.result.now) c.as_mut_slice-2.ensures.value
    ∙ ap (undone ns) c.as_mut_slice.ensures.value in
    let all : i.entries.len ≡ length es = search rules in
    let whole = written_whole es new i.entries.len all (ap length given ∙ length-undone ns es) in
    let framed = framed-undone i.prelude ns es i.frames.items c.self.invariant.0.framed c.self.invariant.0.noted in
    let count = c.self.invariant.1.start_right in
    let is = whole ∙ given in
    let read = c.as_slice.ensures.value in
    let m = c.drop_notes.new.places in
    let left = c.drop_notes.new.notes.items in
    let none = c.drop_notes.ensures.empty in
    let same = count ∙ ap (λ l. length (living l)) (sym is) in (
      draft_settled i.prelude m i.frames.items left _ none (subst (IsIndex m) read c.drop_notes.ensures.indexed)
          (subst (λ l. HasOnly m l []) read c.drop_notes.ensures.only) (subst (λ l. AreFramed i.prelude l i.frames.items) (sym is) framed),
      counted_settled i.start_count i.start_count left _ none same same,
      c.self.invariant.2,
      citers_settled i.citers.items left _ none (c.self.invariant.3.long ∙ sym (length-undone ns es) ∙ ap length (sym is))
          c.self.invariant.3.ascending
          (subst (Covers i.citers.items) (sym is) c.self.invariant.3.covers_start),
      c.drop_notes.ensures.trunks,
    )
