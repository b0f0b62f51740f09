-- Letters that say codes are printable, and so is each part of them.
use Rattle.std.proofs.Common.{◌≡◌, ◌∙◌, ◌<◌, ◌&&◌, ◌⊎◌, ℕ, Bool, true, false, List, [], ◌∷◌, ◌++◌, length, take, drop, refl, sym, ap, inl, inr, arith, IsTrue, not}
use Rattle.std.specs.Prelude.{Option, Some, None, if◌then◌else◌, ◌==◌}
use Rattle.std.specs.List.{list_all}
use Rattle.std.proofs.lemmas.Bool.Decides.{nat_tests}
use Rattle.std.proofs.lemmas.List.{length-take, take-append-drop}
use Rattle.std.proofs.lemmas.List.Folds.{list_all-append}
use Rattle.std.proofs.lemmas.Bool.{and_parts}
use Rattle.mmtext.specs.Text.{is_printable}
use Rattle.mmtext.specs.Words.{Word}
use Rattle.source.specs.Letters.{Decoded, decoded, turned, before, turn_at, is_too_large, is_last, is_front, uncut, codes_of}
use Rattle.source.specs.declared.letters.Code.{Code}
use Rattle.source.specs.declared.letters.Turn.{Turn}
use Rattle.items.specs.Layout.{is_word}

-- ---- letters

kinds : (large last front mark absent : Bool) (a b c d : Option Turn) (u : Turn)
    → (if large then None else (if last then a else (if front then b else (if mark then c else (if absent then d else None))))) ≡ Some u
    → (last ≡ true) ⊎ ((front ≡ true) ⊎ ((mark ≡ true) ⊎ (absent ≡ true)))
kinds true last front mark absent a b c d u e = absurd cc
kinds false true front mark absent a b c d u e = inl refl
kinds false false true mark absent a b c d u e = inr (inl refl)
kinds false false false true absent a b c d u e = inr (inr (inl refl))
kinds false false false false true a b c d u e = inr (inr (inr refl))
kinds false false false false false a b c d u e = absurd cc

last_printable : (b : ℕ) → is_last b ≡ true → is_printable b ≡ true
last_printable b h = grind (arith, nat_tests)

front_printable : (b : ℕ) → is_front b ≡ true → is_printable b ≡ true
front_printable b h = grind (arith, nat_tests)

mark_printable : (b f : ℕ) → ((b == 90) && (f == 0)) ≡ true → is_printable b ≡ true
mark_printable b f h = grind (arith, nat_tests)

absent_printable : (b f : ℕ) → ((b == 63) && (f == 0)) ≡ true → is_printable b ≡ true
absent_printable b f h = grind (arith, nat_tests)

printable_turn : (f b : ℕ) (u : Turn) → turn_at f b ≡ Some u → is_printable b ≡ true
printable_turn f b u e =
    elim (kinds (is_too_large f) (is_last b) (is_front b) ((b == 90) && (f == 0)) ((b == 63) && (f == 0)) _ _ _ _ u e) [
      | inl h ↦ last_printable b h
      | inr g ↦ elim g [ inl h ↦ front_printable b h | inr k ↦ elim k [ inl h ↦ mark_printable b f h | inr h ↦ absent_printable b f h ] ]
    ]

before_some : (said : Option Code) (r : Option Decoded) (d : Decoded) → before said r ≡ Some d → (e : Decoded) × (r ≡ Some e)
before_some None r d e = (d, e)
before_some (Some c) None d e = absurd cc
before_some (Some c) (Some r) d e = (r, refl)

turned_some : (t : Option Turn) (rest : ℕ → Option Decoded) (d : Decoded) → turned t rest ≡ Some d
    → (u : Turn) × (t ≡ Some u) × ((e : Decoded) × (rest u.front ≡ Some e))
turned_some None rest d e = absurd cc
turned_some (Some u) rest d e = (u, refl, before_some u.said (rest u.front) d e)

all_printable : (bs : List ℕ) (f : ℕ) (d : Decoded) → decoded f bs ≡ Some d → IsTrue (list_all is_printable bs)
unfolding decoded
all_printable [] f d e = refl
all_printable (b ∷ bs) f d e =
    let t = turned_some (turn_at f b) (λ f. decoded f bs) d e in
    let here = printable_turn f b t.0 t.1 in
    let rest = all_printable bs t.0.front t.2.0 t.2.1 in
    rw (here, rest) refl

uncut_some : (o : Option Decoded) (codes : List Code) → uncut o ≡ Some codes → (d : Decoded) × (o ≡ Some d)
uncut_some None codes e = absurd cc
uncut_some (Some d) codes e = (d, refl)

pub printable_letters : (bs : List ℕ) (codes : List Code) → codes_of bs ≡ Some codes → IsTrue (list_all is_printable bs)
printable_letters bs codes e = let d = uncut_some (decoded 0 bs) codes e in all_printable bs 0 d.0 d.1

-- ---- parts of them

nonempty : (n : ℕ) → 0 < n → (n == 0) ≡ false
nonempty n h = grind (arith, nat_tests)

word_of : (w : Word) → 0 < length w → IsTrue (list_all is_printable w) → IsTrue (is_word w)
word_of w h p = ap (λ b. not b && list_all is_printable w) (nonempty (length w) h) ∙ p

pub cut_printable : (n : ℕ) (rest word others : List ℕ) → IsTrue (list_all is_printable rest) → 0 < n → 0 < length rest
    → word ≡ take n rest → others ≡ drop n rest → IsTrue (is_word word) × IsTrue (list_all is_printable others)
cut_printable n rest word others p some there front back =
    let both : (list_all is_printable word && list_all is_printable others) ≡ true =
    sym (list_all-append is_printable word others)
    ∙ ap (list_all is_printable) (ap (λ xs. xs ++ others) front ∙ ap (λ xs. take n rest ++ xs) back ∙ take-append-drop n rest)
    ∙ p in
    let long : 0 < length word = omega (arith, length-take n rest, ap length front) in (
      word_of word long (and_parts (list_all is_printable word) (list_all is_printable others) both).0,
      (and_parts (list_all is_printable word) (list_all is_printable others) both).1,
    )
