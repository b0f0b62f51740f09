use Rattle.std.proofs.Common.{◌≡◌, ◌≤◌, ◌<◌, ◌++◌, ◌∷◌, [], ℕ, List, length, take, drop, sym, ◌∙◌, ap, subst, inr, append_assoc, arith}
use Rattle.std.specs.List.{flat_map}
use Rattle.std.proofs.lemmas.Grind.{flat_map-append}
use Rattle.std.proofs.lemmas.List.{append-nil, take-append-drop}
use Rattle.mmtext.specs.Words.{Word}
use Rattle.sourcewriting.specs.Indentations.{IsIndentation}
use Rattle.sourcewriting.specs.Laid.{AreLaid, IsWhole}
use Rattle.std.proofs.lemmas.Bool.Decides.{nat_tests}
use Rattle.sourcewriting.specs.Lines.{column_then, columns_then}
use Rattle.sourcewriting.proofs.Laying.{column_same, columns_then-append, cut_behind}
use Rattle.sourcewriting.proofs.Printed.{cut_printable}
use Rattle.sourcewriting.proofs.layout.Layout.put_letters.Goals as goal

abbrev joined : List Word → List ℕ
joined ws = flat_map (λ w. w) ws

cut_more : (cut : List Word) (word others rest letters : List ℕ) (n : ℕ) → joined cut ++ rest ≡ letters → word ≡ take n rest
    → others ≡ drop n rest
    → joined (cut ++ word ∷ []) ++ others ≡ letters
cut_more cut word others rest letters n e front back =
    let one : joined (cut ++ word ∷ []) ≡ joined cut ++ word =
    flat_map-append (λ w. w) cut (word ∷ []) ∙ ap (λ t. joined cut ++ t) (append-nil word) in
    let both : word ++ others ≡ rest = rw (front, back) (take-append-drop n rest) in
    ap (λ t. t ++ others) one ∙ (append_assoc (joined cut) word others ∙ (ap (λ t. joined cut ++ t) both ∙ e))

pub loop-rest-preserved : goal.loop-rest-preserved
loop-rest-preserved c = record {
  laid = λ i ws laid.
      let was = c.loop-rest.invariant.laid i ws laid in
      let cut = was.0 in
      let m = c.put_word.new.self in
      let word = c.split_at.result.0.now in
      let le : length word ≤ c.room.result = omega (arith, c.split_at.ensures.front_len, c.min.ensures) in (
        cut ++ word ∷ [],
        cut_more cut word _ _ _ _ was.1 c.split_at.ensures.front c.split_at.ensures.back,
        λ whole right.
            let old = was.2 (c.put_word.ensures.whole whole) (c.put_word.ensures.right right) in
            let begins = subst IsIndentation (sym old.0) old.1.begins in
            let short = c.room.ensures.short (length word) le begins in
            subst (λ ws. (m.indentation.now ≡ i) × AreLaid i ws m.text.items m.column) (append_assoc ws cut (word ∷ []))
            (c.put_word.ensures.laid i (ws ++ cut) (inr short) was.2 whole right),
        λ whole.
            let past : IsWhole c.loop-rest.self = (c.put_word.ensures.whole whole.0, c.put_word.ensures.right whole.1) in
            let old = was.2 past.0 past.1 in
            let begins = subst IsIndentation (sym old.0) old.1.begins in
            let some : 0 < length c.loop-rest.rest.now = grind (arith, nat_tests, c.is_empty.ensures, c.loop-rest-test.true) in
            let filled = (was.3 past).1 some in (
              filled word,
              λ more next.
                  let long : length word ≡ c.room.result =
                  omega (arith, more, c.split_at.ensures.front_len, c.split_at.ensures.back_len, c.min.ensures) in
                  let fills = subst (λ j. column_then j c.loop-rest.self.column c.room.result ≡ 79) old.0 (c.room.ensures.fills begins) in
                  let there = column_same i c.loop-rest.self.column (columns_then i 79 (ws ++ cut)) c.room.result old.1.there fills in
                  let column = subst (λ n. column_then i (columns_then i (columns_then i 79 ws) cut) n ≡ 79) (sym long)
                  (subst (λ d. column_then i d c.room.result ≡ 79) (columns_then-append i 79 ws cut) there) in
                  cut_behind i (columns_then i 79 ws) cut word (filled word) column next,
            ),
      );
  fine = λ printable.
      let was = c.loop-rest.invariant.fine printable in
      let some : 0 < length c.loop-rest.rest.now = grind (arith, nat_tests, c.is_empty.ensures, c.loop-rest-test.true) in
      let low : 0 < c.min.result = omega (arith, c.room.ensures.some, c.min.ensures, some) in
      let cut = cut_printable _ c.loop-rest.rest.now c.split_at.result.0.now c.split_at.result.1.now was.0 low some
      c.split_at.ensures.front c.split_at.ensures.back in
      (cut.1, c.put_word.ensures.fine cut.0 ∙ was.1);
}
