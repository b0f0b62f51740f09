use Rattle.std.proofs.Common.{◌≡◌, ◌≢◌, ◌<◌, ℕ, List, [], length, sym, ap, subst, ◌∙◌, arith}
use Rattle.std.specs.Vec.{vec_len}
use Rattle.std.proofs.lemmas.Bool.Decides.{Decides-eqb}
use Rattle.std.proofs.lemmas.List.{nil_from_length}
use Rattle.cells.specs.Slots.{name_cell}
use Rattle.cells.specs.State.{State}
use Rattle.cells.specs.Sight.{Matches, after}
use Rattle.cells.specs.Lookups.{AreWordsOf}
use Rattle.cells.proofs.Asking.{asks_cell}
use Rattle.cells.proofs.Holders.{tells_empty, tells_full}
use Rattle.cells.proofs.ReadBack.{name_held}
use Rattle.cells.proofs.Settings.{same_slots, small_slot}
use Rattle.cells.proofs.reading.labels.label.Goals as goal

pub name_cell-requires : goal.name_cell-requires
name_cell-requires g c = small_slot _ (g.met.C.Cells.grounded c.args.cells.now) c.args.slot c.requires

pub returns-then-is_empty-clause-ok : goal.returns-then-is_empty-clause-ok
returns-then-is_empty-clause-ok g c =
    let s = g.C.Cells.sight c.words_of.new.cells in
    let words = c.in_ok-words.words.items in
    let lt : c.args.slot < s.setting.slots =
    subst (λ (n : ℕ). c.args.slot < n) (sym (same_slots _ _ c.words_of.ensures.looks)) c.requires in
    let are : (st : State) → Matches s st → AreWordsOf (after s st) (name_cell c.args.slot) c.in_ok-words.words.items =
    λ st m. subst (λ (n : ℕ). AreWordsOf (after s st) n words) c.name_cell.ensures (c.in_ok-words.ensures.ok st m) in
    let zero = (Decides-eqb (vec_len c.in_ok-words.words) 0).0 (sym c.is_empty.ensures ∙ c.if-is_empty.true) in
    let short : length c.in_ok-words.words.items ≡ 0 = omega (arith, zero) in
    tells_empty s c.args.slot words lt are (nil_from_length words short)

pub returns-clause-ok : goal.returns-clause-ok
returns-clause-ok g c =
    let s = g.C.Cells.sight c.words_of.new.cells in
    let words = c.in_ok-words.words.items in
    let lt : c.args.slot < s.setting.slots =
    subst (λ (n : ℕ). c.args.slot < n) (sym (same_slots _ _ c.words_of.ensures.looks)) c.requires in
    let are : (st : State) → Matches s st → AreWordsOf (after s st) (name_cell c.args.slot) c.in_ok-words.words.items =
    λ st m. subst (λ (n : ℕ). AreWordsOf (after s st) n words) c.name_cell.ensures (c.in_ok-words.ensures.ok st m) in
    let some : c.in_ok-words.words.items ≢ [] = λ none.
    let short : length c.in_ok-words.words.items ≡ 0 = ap (λ (l : List ℕ). length l) none in
    let zero : vec_len c.in_ok-words.words ≡ 0 = omega (arith, short) in
    let yes = c.is_empty.ensures ∙ (Decides-eqb (vec_len c.in_ok-words.words) 0).1 zero in
    let no = c.if-is_empty.false in
    absurd cc in (
      tells_full s c.args.slot words lt are some,
      name_held s c.args.slot c.in_ok-decode_label.field-0 (λ st label m small named.
          let here = are st m in
          c.in_ok-decode_label.ensures label small (sym (here.body label named.body) ∙ sym c.as_slice.ensures.value)),
    )

pub returns-in_err-words-clause-reads : goal.returns-in_err-words-clause-reads
returns-in_err-words-clause-reads g c = asks_cell c.name_cell.ensures c.words_of.ensures.reads

pub returns-then-is_empty-clause-reads : goal.returns-then-is_empty-clause-reads
returns-then-is_empty-clause-reads g c = asks_cell c.name_cell.ensures c.words_of.ensures.reads

pub returns-in_err-decode_label-clause-reads : goal.returns-in_err-decode_label-clause-reads
returns-in_err-decode_label-clause-reads g c = asks_cell c.name_cell.ensures c.words_of.ensures.reads

pub returns-clause-reads : goal.returns-clause-reads
returns-clause-reads g c = asks_cell c.name_cell.ensures c.words_of.ensures.reads
