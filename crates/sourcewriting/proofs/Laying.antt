-- Words that are laid out in lines: one more behind them.
use Rattle.std.proofs.Common.{◌≡◌, ◌≤◌, ◌+◌, ◌⊎◌, ◌&&◌, ◌||◌, ℕ, zero, suc, min, Bool, true, false, List, [], ◌∷◌, ◌++◌, length, All, inl, inr, Some, None}
use Rattle.std.proofs.Common.{refl, sym, ap, subst, ◌∙◌, arith, append_assoc, IsTrue, codes, ◌<◌, if◌then◌else◌}
use Rattle.std.specs.List.{list_all}
use Rattle.std.specs.Option.{option_map, unwrap_or, is_some}
use Rattle.std.specs.Str.{bytes_eq}
use Rattle.std.specs.Prelude.{nat_le, ◌==◌}
use mathlib.Core.Bool.{not}
use Rattle.std.proofs.lemmas.Grind.{flat_map-append}
use Rattle.std.proofs.lemmas.List.{map-append, append-nil}
use Rattle.std.proofs.lemmas.List.Elements.{filter_map-append, All-append}
use Rattle.std.proofs.lemmas.List.Folds.{list_all-append}
use Rattle.std.proofs.lemmas.Bool.Decides.{nat_tests}
use Rattle.mmtext.specs.Words.{Word}
use Rattle.items.specs.Items.{Piece, Item, bytes_of, words}
use Rattle.items.specs.Layout.{indent, begins_line, column, is_laid_out, indents, is_word, is_compressed}
use Rattle.sourcewriting.specs.Indentations.{IsIndentation}
use Rattle.sourcewriting.specs.Laid.{column_behind, has_closing, AreLaid, IsLaidOutAs}
use Rattle.sourcewriting.specs.Lines.{has_room, space_before, column_then, words_laid, columns_then, are_cut}

-- the white space that a piece may have, and its column
abbrev stands : Piece → Bool
stands p = bytes_eq p.space (codes " ") || begins_line p

abbrev in_width : ℕ → Bool → Piece → Bool
in_width at letters p = nat_le (column at p) 79 || (begins_line p && not letters)

abbrev closes : Piece → Bool
closes p = bytes_eq p.word (codes ")")

both : (a b c : Bool) → IsTrue a → IsTrue b → IsTrue c → IsTrue (a && b && c)
both a b c p q r = rw (p, q, r) refl

first_of_three : (a b c : Bool) → IsTrue (a && b && c) → IsTrue a
first_of_three true b c p = refl
first_of_three false b c p = p

second_of_three : (a b c : Bool) → IsTrue (a && b && c) → IsTrue b
second_of_three true true c p = refl
second_of_three true false c p = p
second_of_three false b c p = cc

third_of_three : (a b c : Bool) → IsTrue (a && b && c) → IsTrue c
third_of_three true true c p = p
third_of_three true false c p = cc
third_of_three false b c p = cc

first_of_two : (a b : Bool) → IsTrue (a && b) → IsTrue a
first_of_two true b p = refl
first_of_two false b p = p

second_of_two : (a b : Bool) → IsTrue (a && b) → IsTrue b
second_of_two true b p = p
second_of_two false b p = cc

or_false : (l : Bool) → (l || false) ≡ l
or_false true = refl
or_false false = refl

or_later : (a b c : Bool) → (a || (b || c)) ≡ ((a || b) || c)
or_later true b c = refl
or_later false b c = refl

-- one more piece behind others
laid_more : (at : ℕ) (letters : Bool) (ps : Item) (p : Piece) → IsTrue (is_laid_out at letters ps) → IsTrue (stands p)
    → IsTrue (in_width (column_behind at ps) (letters || has_closing (words ps)) p) → IsTrue (is_laid_out at letters (ps ++ p ∷ []))
laid_more at letters [] p _ space width =
    both (stands p) (in_width at letters p) true space (subst (λ l. IsTrue (in_width at l p)) (or_false letters) width) refl
laid_more at letters (q ∷ ps) p laid space width =
    let rest = is_laid_out (column at q) (letters || closes q) ps in
    let e = or_later letters (closes q) (has_closing (words ps)) in
    let first = first_of_three (stands q) (in_width at letters q) rest laid in
    let second = second_of_three (stands q) (in_width at letters q) rest laid in
    let third = third_of_three (stands q) (in_width at letters q) rest laid in
    let now = laid_more (column at q) (letters || closes q) ps p third space
    (subst (λ l. IsTrue (in_width (column_behind (column at q) ps) l p)) e width) in
    both (stands q) (in_width at letters q) (is_laid_out (column at q) (letters || closes q) (ps ++ p ∷ [])) first second now

column_behind-more : (at : ℕ) (ps : Item) (p : Piece) → column_behind at (ps ++ p ∷ []) ≡ column (column_behind at ps) p
column_behind-more at [] p = refl
column_behind-more at (q ∷ ps) p = column_behind-more (column at q) ps p

-- the white space of one more piece
abbrev HasSpace : List ℕ → Piece → Type 0
HasSpace i p = (indent p.space ≡ None) ⊎ (indent p.space ≡ Some i)

single : (i : List ℕ) → All (λ x. x ≡ i) (i ∷ [])
single i zero d h = refl
single i (suc k) d h = absurd (omega arith)

indents-one : (i : List ℕ) (p : Piece) → HasSpace i p → All (λ x. x ≡ i) (indents (p ∷ []))
indents-one i p (inl e) = rw e (λ k d h. absurd (omega (arith, h)))
indents-one i p (inr e) = rw e (single i)

indents-more : (i : List ℕ) (ps : Item) (p : Piece) → All (λ x. x ≡ i) (indents ps) → HasSpace i p
    → All (λ x. x ≡ i) (indents (ps ++ p ∷ []))
indents-more i ps p all has = rw filter_map-append (All-append (λ x. x ≡ i) _ _ all (indents-one i p has))

spelled-more : (ws : List Word) (w : Word) → IsTrue (list_all is_word ws) → IsTrue (is_word w) → IsTrue (list_all is_word (ws ++ w ∷ []))
spelled-more ws w h g = rw (list_all-append is_word ws (w ∷ []), h, g) refl

bytes-more : (text : List ℕ) (ps : Item) (p : Piece) → text ≡ bytes_of ps → (text ++ p.space) ++ p.word ≡ bytes_of (ps ++ p ∷ [])
bytes-more text ps p h =
    let own : (p.space ++ p.word) ++ [] ≡ p.space ++ p.word = append-nil (p.space ++ p.word) in
    let e : bytes_of (ps ++ p ∷ []) ≡ bytes_of ps ++ ((p.space ++ p.word) ++ []) =
    flat_map-append (λ (p : Piece). p.space ++ p.word) ps (p ∷ []) in
    append_assoc text p.space p.word ∙ ap (λ t. t ++ (p.space ++ p.word)) h ∙ ap (λ t. bytes_of ps ++ t) (sym own) ∙ sym e

-- a line begins so
indent-line : (i : List ℕ) → IsIndentation i → indent (10 ∷ i) ≡ Some i
indent-line i h = rw h.spaces refl

-- how a piece stands behind others, up to a column
record IsPlaced (i : List ℕ) (letters : Bool) (behind : ℕ) (p : Piece) (after : ℕ) : Type 0 where
  has : HasSpace i p
  space : IsTrue (stands p)
  width : IsTrue (in_width behind letters p)
  ends : min after 79 ≡ min (column behind p) 79

-- columns that are no more than 79, and others of a new line
abbrev widens : ℕ → Bool → Bool → Bool
widens n begins letters = nat_le n 79 || (begins && not letters)

narrow : (n : ℕ) (begins letters : Bool) → n ≤ 79 → IsTrue (widens n begins letters)
narrow n begins letters h = grind (arith, nat_tests)

wide : (n : ℕ) (letters : Bool) → (letters ≡ false) ⊎ (n ≤ 79) → IsTrue (widens n true letters)
wide n letters (inl e) = rw e (elim (nat_le n 79) as (λ b. IsTrue (b || true)) [ true ↦ refl | false ↦ refl ])
wide n letters (inr h) = narrow n true letters h

-- on the line, behind a space
placed_behind : (i : List ℕ) (letters : Bool) (at behind after : ℕ) (word : Word) → min at 79 ≡ min behind 79
    → at + suc (length word) ≤ 79 → min after 79 ≡ min (suc at + length word) 79
    → IsPlaced i letters behind (record { space = 32 ∷ []; word = word }) after
placed_behind i letters at behind after word e short ends =
    let le : length word + suc behind ≤ 79 = omega arith in
    let same : min after 79 ≡ min (length word + suc behind) 79 = omega arith in
    record { has = inl refl; space = refl; width = narrow _ false letters le; ends = same }

-- on a line of its own
placed_below : (i : List ℕ) (letters : Bool) (behind after : ℕ) (word : Word) → IsIndentation i
    → (letters ≡ false) ⊎ (length i + length word ≤ 79) → min after 79 ≡ min (length i + length word) 79
    → IsPlaced i letters behind (record { space = 10 ∷ i; word = word }) after
placed_below i letters behind after word begins short ends =
    let p : Piece = record { space = 10 ∷ i; word = word } in
    let line = indent-line i begins in
    let begun : begins_line p ≡ true = ap is_some line in
    let n = length word + length i in
    let col : column behind p ≡ n = ap (λ o. length word + unwrap_or (option_map length o) (suc behind)) line in
    let order : length i + length word ≡ n = omega arith in
    let width : IsTrue (widens n true letters) =
    elim short as (λ _. IsTrue (widens n true letters)) [
      | inl e ↦ wide n letters (inl e)
      | inr h ↦ wide n letters (inr (subst (λ m. m ≤ 79) order h))
    ] in
    let on_line : IsTrue (widens n (begins_line p) letters) = subst (λ b. IsTrue (widens n b letters)) (sym begun) width in
    record {
      has = inr line;
      space = begun;
      width = subst (λ m. IsTrue (widens m (begins_line p) letters)) (sym col) on_line;
      ends = ends ∙ ap (λ m. min m 79) (order ∙ sym col);
    }

-- the white space in front of a word, by whether it fits on the line
abbrev space_of : List ℕ → Bool → List ℕ
space_of i fits = if not fits then 10 ∷ i else codes " "

short_if : (n : ℕ) → true ≡ nat_le n 79 → n ≤ 79
short_if n e = grind (arith, nat_tests)

long_if : (n : ℕ) → false ≡ nat_le n 79 → 79 < n
long_if n e = grind (arith, nat_tests)

placed : (i : List ℕ) (letters : Bool) (at behind begin after : ℕ) (word : Word) (fits : Bool) → IsIndentation i → min at 79 ≡ min behind 79
    → fits ≡ nat_le (at + suc (length word)) 79 → (letters ≡ false) ⊎ ((at + suc (length word) ≤ 79) ⊎ (length i + length word ≤ 79))
    → min begin 79 ≡ min (if not fits then length i else suc at) 79 → min after 79 ≡ min (begin + length word) 79
    → IsPlaced i letters behind (record { space = space_of i fits; word = word }) after
placed i letters at behind begin after word true indentation same e short begins ends =
    let k : min after 79 ≡ min (suc at + length word) 79 = omega arith in
    placed_behind i letters at behind after word same (short_if _ e) k
placed i letters at behind begin after word false indentation same e short begins ends =
    let gt : 79 < at + suc (length word) = long_if _ e in
    let k : min after 79 ≡ min (length i + length word) 79 = omega arith in
    let s : (letters ≡ false) ⊎ (length i + length word ≤ 79) =
    elim short as (λ _. (letters ≡ false) ⊎ (length i + length word ≤ 79)) [
      | inl h ↦ inl h
      | inr g ↦
          elim g as (λ _. (letters ≡ false) ⊎ (length i + length word ≤ 79)) [ inl h ↦ absurd (omega arith) | inr h ↦ inr h ]
    ] in
    placed_below i letters behind after word indentation s k

-- the layout with one more piece
layout_more : (i : List ℕ) (ws : List Word) (text : List ℕ) (at after : ℕ) (p : Piece) (was : AreLaid i ws text at)
    → IsPlaced i (has_closing ws) (column_behind 79 was.pieces) p after → IsTrue (is_laid_out 79 false (was.pieces ++ p ∷ []))
layout_more i ws text at after p was now =
    laid_more 79 false was.pieces p was.layout now.space
    (subst (λ vs. IsTrue (in_width (column_behind 79 was.pieces) (has_closing vs) p)) (sym was.words_are) now.width)

-- ---- the lines themselves

-- one more word in lines
words_laid-more : (i : List ℕ) (at : ℕ) (ws : List Word) (w : Word)
    → words_laid i at (ws ++ w ∷ []) ≡ words_laid i at ws ++ (space_before i (columns_then i at ws) (length w) ++ w)
words_laid-more i at [] w = ap (λ t. space_before i at (length w) ++ t) (append-nil w)
words_laid-more i at (v ∷ ws) w =
    let next = column_then i at (length v) in
    let more = space_before i (columns_then i next ws) (length w) ++ w in
    let space = space_before i at (length v) in
    ap (λ t. space ++ (v ++ t)) (words_laid-more i next ws w)
    ∙ ap (λ t. space ++ t) (sym (append_assoc v (words_laid i next ws) more))
    ∙ sym (append_assoc space (v ++ words_laid i next ws) more)

pub columns_then-append : (i : List ℕ) (at : ℕ) (ws vs : List Word)
    → columns_then i at (ws ++ vs) ≡ columns_then i (columns_then i at ws) vs
columns_then-append i at [] vs = refl
columns_then-append i at (w ∷ ws) vs = columns_then-append i (column_then i at (length w)) ws vs

-- columns that differ from 79 on alone leave the same room
same_room : (a b n : ℕ) → min a 79 ≡ min b 79 → nat_le (a + suc n) 79 ≡ nat_le (b + suc n) 79
same_room a b n e = grind (arith, nat_tests)

same_if : (i : List ℕ) (a b n : ℕ) (r : Bool) → min a 79 ≡ min b 79 → r ≡ has_room a n → (if r then a + suc n else length i + n) ≡ 79
    → column_then i b n ≡ 79
same_if i a b n true same e f =
    let short = short_if _ e in
    let k : b + suc n ≡ 79 = omega arith in
    rw (sym (e ∙ same_room a b n same)) k
same_if i a b n false same e f = rw (sym (e ∙ same_room a b n same)) f

pub column_same : (i : List ℕ) (a b n : ℕ) → min a 79 ≡ min b 79 → column_then i a n ≡ 79 → column_then i b n ≡ 79
column_same i a b n same fills = same_if i a b n (has_room a n) same refl fills

-- a word stands in the lines where it was put
stands_there : (i : List ℕ) (at there begin end n : ℕ) (fits : Bool) → min at 79 ≡ min there 79 → fits ≡ nat_le (at + suc n) 79
    → min begin 79 ≡ min (if not fits then length i else suc at) 79 → min end 79 ≡ min (begin + n) 79
    → (space_of i fits ≡ space_before i there n) × (min end 79 ≡ min (column_then i there n) 79)
stands_there i at there begin end n true same e begins ends =
    let short = short_if _ e in
    let room : has_room there n ≡ true = sym (e ∙ same_room at there n same) in
    let column : min end 79 ≡ min (there + suc n) 79 = omega arith in
    rw room (refl, column)
stands_there i at there begin end n false same e begins ends =
    let room : has_room there n ≡ false = sym (e ∙ same_room at there n same) in
    let column : min end 79 ≡ min (length i + n) 79 = omega arith in
    rw room (refl, column)

-- one more word
word_more : (i : List ℕ) (ws : List Word) (text : List ℕ) (at after : ℕ) (p : Piece) (was : AreLaid i ws text at) → IsTrue (is_word p.word)
    → p.space ≡ space_before i (columns_then i 79 ws) (length p.word)
    → min after 79 ≡ min (column_then i (columns_then i 79 ws) (length p.word)) 79
    → IsPlaced i (has_closing ws) (column_behind 79 was.pieces) p after → AreLaid i (ws ++ p.word ∷ []) ((text ++ p.space) ++ p.word) after
word_more i ws text at after p was word space column now = record {
  begins = was.begins;
  pieces = was.pieces ++ p ∷ [];
  words_are = map-append (λ (p : Piece). p.word) was.pieces (p ∷ []) ∙ ap (λ vs. vs ++ p.word ∷ []) was.words_are;
  bytes = bytes-more text was.pieces p was.bytes;
  layout = layout_more i ws text at after p was now;
  indented = indents-more i was.pieces p was.indented now.has;
  ends = now.ends ∙ ap (λ c. min c 79) (sym (column_behind-more 79 was.pieces p));
  lines =
      append_assoc text p.space p.word
      ∙ ap (λ t. t ++ (p.space ++ p.word)) was.lines
      ∙ ap (λ t. words_laid i 79 ws ++ (t ++ p.word)) space
      ∙ sym (words_laid-more i 79 ws p.word);
  there = column ∙ ap (λ c. min c 79) (sym (columns_then-append i 79 ws (p.word ∷ [])));
  spelled = spelled-more ws p.word was.spelled word;
}

-- one more word, on the line or on a new one
pub word_put : (i : List ℕ) (ws : List Word) (text between after : List ℕ) (at begin end : ℕ) (word : Word) (fits : Bool)
    → AreLaid i ws text at
    → IsTrue (is_word word) → fits ≡ nat_le (at + suc (length word)) 79
    → (has_closing ws ≡ false) ⊎ ((at + suc (length word) ≤ 79) ⊎ (length i + length word ≤ 79))
    → between ≡ text ++ (if not fits then 10 ∷ i else codes " ") → min begin 79 ≡ min (if not fits then length i else suc at) 79
    → after ≡ between ++ word → min end 79 ≡ min (begin + length word) 79 → AreLaid i (ws ++ word ∷ []) after end
word_put i ws text between after at begin end word fits was is e short said begins more ends =
    let now = placed i (has_closing ws) at (column_behind 79 was.pieces) begin end word fits was.begins was.ends e short begins ends in
    let there = stands_there i at (columns_then i 79 ws) begin end (length word) fits was.there e begins ends in
    rw (more, said) (word_more i ws text at end (record { space = space_of i fits; word = word }) was is there.0 there.1 now)

-- the white space for $. behind them, on the line or on a new one
pub finished : (i : List ℕ) (ws : List Word) (text after : List ℕ) (at begin : ℕ) (fits : Bool) → AreLaid i ws text at
    → fits ≡ nat_le (at + 3) 79 → after ≡ text ++ (if not fits then 10 ∷ i else codes " ")
    → min begin 79 ≡ min (if not fits then length i else suc at) 79 → IsLaidOutAs i ws after
finished i ws text after at begin fits was e said begins =
    let p : Piece = record { space = space_of i fits; word = codes "$." } in
    let short : length i + 2 ≤ 79 = omega (arith, was.begins.short) in
    let now = placed i (has_closing ws) at (column_behind 79 was.pieces) begin (begin + 2) (codes "$.") fits was.begins was.ends e (inr (inr short)) begins refl in
    let there = stands_there i at (columns_then i 79 ws) begin (begin + 2) 2 fits was.there e begins refl in
    record {
      laid = record {
        proof = was.pieces;
        space = p.space;
        bytes = said ∙ ap (λ t. t ++ p.space) was.bytes;
        spelled = subst (λ vs. IsTrue (list_all is_word vs)) (sym was.words_are) was.spelled;
        form = ap is_compressed was.words_are;
        layout = layout_more i ws text at (begin + 2) p was now;
        indented = indents-more i was.pieces p was.indented now.has;
      };
      says = was.words_are;
      lines = said ∙ ap (λ t. t ++ p.space) was.lines ∙ ap (λ t. words_laid i 79 ws ++ t) there.0;
    }

-- ---- letters are cut where lines end

-- behind pieces that fill their lines, a piece ends in column 79, and one more stands
pub cut_behind : (i : List ℕ) (at : ℕ) (cut : List Word) (word : Word) → IsTrue (are_cut i at (cut ++ word ∷ []))
    → column_then i (columns_then i at cut) (length word) ≡ 79 → (next : Word)
    → IsTrue (are_cut i at ((cut ++ word ∷ []) ++ next ∷ []))
cut_behind i at [] word was fills next = rw fills refl
cut_behind i at (v ∷ []) word was fills next =
    let first : (column_then i at (length v) == 79) ≡ true = first_of_two (column_then i at (length v) == 79) true was in
    let column : column_then i at (length v) ≡ 79 = grind (arith, nat_tests, first) in
    let filled : column_then i 79 (length word) ≡ 79 = subst (λ c. column_then i c (length word) ≡ 79) column fills in
    rw (first, filled) refl
cut_behind i at (v ∷ u ∷ cut) word was fills next =
    let rest = are_cut i 79 ((u ∷ cut) ++ word ∷ []) in
    let first : (column_then i at (length v) == 79) ≡ true = first_of_two (column_then i at (length v) == 79) rest was in
    let second : IsTrue rest = second_of_two (column_then i at (length v) == 79) rest was in
    let column : column_then i at (length v) ≡ 79 = grind (arith, nat_tests, first) in
    let filled = subst (λ c. column_then i (columns_then i c (u ∷ cut)) (length word) ≡ 79) column fills in
    let more = cut_behind i 79 (u ∷ cut) word second filled next in
    rw (first, more) refl

-- what was right and stays so
pub first_no : (a b : Bool) → (a || not b) ≡ false → a ≡ false
first_no true b e = e
first_no false b e = refl

pub second_yes : (a b : Bool) → (a || not b) ≡ false → b ≡ true
second_yes a true e = refl
second_yes true false e = cc
second_yes false false e = cc
