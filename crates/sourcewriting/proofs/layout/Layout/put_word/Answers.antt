use Rattle.std.proofs.Common.{◌≡◌, ◌≤◌, ◌+◌, ◌⊎◌, suc, min, ◌∷◌, ◌++◌, length, sym, ◌∙◌, ap, subst, codes, false, if◌then◌else◌, not}
use Rattle.std.specs.Prelude.{nat_le}
use Rattle.sourcewriting.specs.Laid.{has_closing}
use Rattle.sourcewriting.proofs.Laying.{word_put, first_no, second_yes}
use Rattle.sourcewriting.proofs.layout.Layout.put_word.Goals as goal

pub returns-clause-laid : goal.returns-clause-laid
returns-clause-laid c = λ i ws short laid whole right.
    let l = c.args.self.now in
    let e = c.expect.ensures in
    let said = c.put.ensures.whole whole in
    let spaced = c.put_space.ensures.whole said.0 in
    let refused = sym (ap (λ l. l.is_refused) e) ∙ (sym c.put_space.ensures.refused ∙ (sym c.put.ensures.refused ∙ right)) in
    let was = laid (sym (ap (λ l. l.is_cut_off) e) ∙ spaced.0) (first_no l.is_refused c.is_printable_word.result refused) in
    let is = sym c.is_printable_word.ensures ∙ second_yes l.is_refused c.is_printable_word.result refused in
    let m = c.put_space.new.self in
    let n = c.put.new.self in
    let word = c.args.word.now in
    let fits = c.has_room-begins_line.result in
    let column = ap (λ l. l.column) e in
    let texts = ap (λ l. l.text.items) e in
    let indentation = ap (λ l. l.indentation.now) e in
    let fit = c.has_room-begins_line.ensures ∙ ap (λ n. nat_le (n + suc (length word)) 79) column in
    let between : m.text.items ≡ l.text.items ++ (if not fits then 10 ∷ i else codes " ") = cc (spaced.1, texts, indentation, was.0) in
    let begins : min m.column 79 ≡ min (if not fits then length i else suc l.column) 79 =
    cc (c.put_space.ensures.column, column, indentation, was.0) in
    let enough : (has_closing ws ≡ false) ⊎ ((l.column + suc (length word) ≤ 79) ⊎ (length i + length word ≤ 79)) =
    subst (λ j. (has_closing ws ≡ false) ⊎ ((l.column + suc (length word) ≤ 79) ⊎ (length j + length word ≤ 79))) was.0 short in
    let same : n.indentation.now ≡ i =
    ap (λ r. r.now) c.put.ensures.same ∙ (ap (λ r. r.now) c.put_space.ensures.same ∙ (indentation ∙ was.0)) in (
      same,
      word_put i ws l.text.items m.text.items n.text.items l.column m.column n.column word fits was.1 is fit enough between begins said.1
          c.put.ensures.column,
    )
