-- An item cut behind its $=.
use Rattle.std.proofs.Common.{◌≡◌, ◌≢◌, ◌∙◌, ℕ, ◌<◌, Bool, true, false, cond, List, [], ◌∷◌, ◌++◌, codes, refl, sym, ap, subst, arith}
use Rattle.std.specs.Str.{bytes_eq}
use Rattle.mmtext.specs.Words.{Word}
use Rattle.items.specs.Items.{Piece, Item, words, said, outside, is_open_behind, asserts, label_among, label_of}
use Rattle.items.specs.Rewriting.{IsUpToProof}
use Rattle.items.specs.Reading.{end_of, Stands}
use Rattle.items.proofs.Standing.{words_both}
use Rattle.items.proofs.Commented.{outside_both}
use Rattle.items.proofs.Reworded.{one_left, stands_later}

-- what stands up to a place stands in what stands farther
pub behind_front : (text : List ℕ) (at mid end : ℕ) (x front : Item) → Stands text at x end → Stands text at front mid → mid < end
    → (rest : Item) × (x ≡ front ++ rest) × Stands text mid rest end
behind_front text at mid end x [] h k lt = (x, refl, subst (λ m. Stands text m x end) k h)
behind_front text at mid end x (p ∷ ps) h k lt =
    let le = stands_later text (end_of k.0) mid ps k.3 in
    let later = k.1.later in
    let one = one_left text at end x k.0 h (omega (arith, le, later, lt)) k.1 in
    let rest = behind_front text (end_of k.0) mid end one.0 ps one.2 k.3 lt in
    (rest.0, one.1 ∙ (ap (λ q. q ∷ one.0) (sym k.2) ∙ ap (λ ys. p ∷ ys) rest.1), rest.2)

-- what is last of all is last of the rest
last_of : (xs : Item) (ws : List Word) (w : Word) (p : Piece) → words (p ∷ xs) ≡ ws ++ w ∷ []
    → (proof : Item) × (last : Piece) × (p ∷ xs ≡ proof ++ last ∷ []) × (last.word ≡ w)
last_of [] [] w p e = ([], p, refl, let same : p.word ≡ w = cc in same)
last_of [] (v ∷ []) w p e = absurd cc
last_of [] (v ∷ u ∷ ws) w p e = absurd cc
last_of (q ∷ xs) [] w p e = absurd cc
last_of (q ∷ xs) (v ∷ ws) w p e =
    let later : words (q ∷ xs) ≡ ws ++ w ∷ [] = cc in
    let l = last_of xs ws w q later in (p ∷ l.0, l.1, ap (λ ys. p ∷ ys) l.2, l.3)

no_words : (xs ys : Item) → words (xs ++ ys) ≡ [] → ys ≡ []
no_words [] [] e = refl
no_words [] (p ∷ ps) e = absurd cc
no_words (q ∷ xs) ys e = absurd cc

pub last_behind : (front rest : Item) (ws : List Word) (w : Word) → words (front ++ rest) ≡ ws ++ w ∷ [] → rest ≢ []
    → (proof : Item) × (last : Piece) × (rest ≡ proof ++ last ∷ []) × (last.word ≡ w)
last_behind [] [] ws w e some = absurd (some refl)
last_behind [] (p ∷ ps) ws w e some = last_of ps ws w p e
last_behind (q ∷ front) rest [] w e some = let none : words (front ++ rest) ≡ [] = cc in absurd (some (no_words front rest none))
last_behind (q ∷ front) rest (v ∷ ws) w e some =
    let later : words (front ++ rest) ≡ ws ++ w ∷ [] = cc in last_behind front rest ws w later some

-- the label of all is that of the front
no_label : (label : Word) (b : Bool) → cond b (codes "$=" ∷ []) [] ≡ label ∷ [] → bytes_eq label (codes "$=") ≡ false → ⊥
no_label label true has other =
    let same : codes "$=" ≡ label = cc in
    let is : true ≡ false = subst (λ l. bytes_eq l (codes "$=") ≡ false) (sym same) other in absurd cc
no_label label false has other = absurd cc

label_front : (says more : List Word) (label : Word) → label_among ((says ++ codes "$=" ∷ []) ++ more) ≡ label ∷ []
    → bytes_eq label (codes "$=") ≡ false → label_among (says ++ codes "$=" ∷ []) ≡ label ∷ []
label_front [] [] label has other = absurd cc
label_front [] (m ∷ more) label has other = absurd (no_label label (asserts m) has other)
label_front (l ∷ []) more label has other = has
label_front (l ∷ m ∷ says) more label has other = has

pub front_label : (front rest : Item) (label : Word) → IsUpToProof front → label_of (front ++ rest) ≡ label ∷ []
    → bytes_eq label (codes "$=") ≡ false → label_of front ≡ label ∷ []
front_label front rest label up has other =
    let all : said (front ++ rest) ≡ said front ++ outside (is_open_behind false (words front)) (words rest) =
    ap (outside false) (words_both front rest) ∙ outside_both false (words front) (words rest) in
    ap label_among up.whole
    ∙ label_front up.says (outside (is_open_behind false (words front)) (words rest)) label
    (ap (λ ws. label_among (ws ++ outside (is_open_behind false (words front)) (words rest))) (sym up.whole) ∙ (ap label_among (sym all) ∙
    has)) other
