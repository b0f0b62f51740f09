-- Texts cut at a byte, lines and words: there is one way to cut them.
use Rattle.std.proofs.Common.{◌≡◌, ◌∙◌, ℕ, List, [], ◌∷◌, ◌++◌, refl, sym, subst}
use Rattle.std.specs.Prelude.{◌≢◌, All}
use Rattle.std.specs.List.{AllByRecursion}
use Rattle.std.proofs.lemmas.List.Elements.{recursion_from_All, All-weaker}
use Rattle.mmtext.specs.Words.{Word}
use Rattle.mmsyntax.specs.Layout.{spaced}
use Rattle.taketext.specs.Origins.{IsBetweenSpaces}
use Rattle.taketext.specs.Reading.{AreLines, AreWords}

-- ---- at a byte

abbrev Lacks : ℕ → List ℕ → Type 0
Lacks byte xs = AllByRecursion (λ b. b ≢ byte) xs

cut_so : (byte : ℕ) (xs ys us vs : List ℕ) → Lacks byte xs → Lacks byte ys → xs ++ byte ∷ us ≡ ys ++ byte ∷ vs → (xs ≡ ys) × (us ≡ vs)
cut_so byte [] [] us vs hx hy e = (refl, cc)
cut_so byte [] (y ∷ ys) us vs hx hy e = absurd (hy.0 cc)
cut_so byte (x ∷ xs) [] us vs hx hy e = absurd (hx.0 cc)
cut_so byte (x ∷ xs) (y ∷ ys) us vs hx hy e =
    let left : xs ++ byte ∷ us ≡ ys ++ byte ∷ vs = cc in
    let same = cut_so byte xs ys us vs hx.1 hy.1 left in
    let front : xs ≡ ys = same.0 in
    (cc, same.1)

pub cut_one : (byte : ℕ) (xs ys us vs : List ℕ) → All (λ b. b ≢ byte) xs → All (λ b. b ≢ byte) ys
    → xs ++ byte ∷ us ≡ ys ++ byte ∷ vs → (xs ≡ ys) × (us ≡ vs)
cut_one byte xs ys us vs hx hy e =
    let lacks = recursion_from_All (λ (b : ℕ). b ≢ byte) in
    cut_so byte xs ys us vs (lacks xs hx) (lacks ys hy) e

lacks_none : (byte : ℕ) (xs us : List ℕ) → Lacks byte (xs ++ byte ∷ us) → ⊥
lacks_none byte [] us h = h.0 refl
lacks_none byte (x ∷ xs) us h = lacks_none byte xs us h.1

pub cut_there : (byte : ℕ) (text xs us : List ℕ) → All (λ b. b ≢ byte) text → text ≡ xs ++ byte ∷ us → ⊥
cut_there byte text xs us h e =
    let P : List ℕ → Type 0 = λ t. All (λ b. b ≢ byte) t in
    lacks_none byte xs us (recursion_from_All (λ (b : ℕ). b ≢ byte) (xs ++ byte ∷ us) (subst P e h))

-- ---- lines

pub lines_one : (text first third other one : List ℕ) → AreLines text first third → AreLines text other one
    → (first ≡ other) × (third ≡ one)
lines_one text first third other one h k =
    let front = cut_one 10 first other _ _ h.in_first k.in_first (sym h.are ∙ k.are) in
    let middle = cut_one 10 h.second k.second _ _ h.in_second k.in_second front.1 in
    (front.0, (cut_one 10 third one _ _ h.in_third k.in_third middle.1).0)

-- ---- words

front_so : (xs ys : List ℕ) (ws vs : List Word) → Lacks 32 xs → Lacks 32 ys → xs ++ spaced ws ≡ ys ++ spaced vs
    → (xs ≡ ys) × (spaced ws ≡ spaced vs)
front_so [] [] ws vs hx hy e = (refl, e)
front_so [] (y ∷ ys) [] vs hx hy e = absurd cc
front_so [] (y ∷ ys) (w ∷ ws) vs hx hy e = absurd (hy.0 cc)
front_so (x ∷ xs) [] ws [] hx hy e = absurd cc
front_so (x ∷ xs) [] ws (v ∷ vs) hx hy e = absurd (hx.0 cc)
front_so (x ∷ xs) (y ∷ ys) ws vs hx hy e =
    let left : xs ++ spaced ws ≡ ys ++ spaced vs = cc in
    let same = front_so xs ys ws vs hx.1 hy.1 left in
    let front : xs ≡ ys = same.0 in
    (cc, same.1)

abbrev Spaceless : Word → Type 0
Spaceless w = Lacks 32 w

words_so : (ws vs : List Word) → AllByRecursion Spaceless ws → AllByRecursion Spaceless vs → spaced ws ≡ spaced vs → ws ≡ vs
words_so [] [] hw hv e = refl
words_so [] (v ∷ vs) hw hv e = absurd cc
words_so (w ∷ ws) [] hw hv e = absurd cc
words_so (w ∷ ws) (v ∷ vs) hw hv e =
    let left : w ++ spaced ws ≡ v ++ spaced vs = cc in
    let same = front_so w v ws vs hw.0 hv.0 left in
    let first : w ≡ v = same.0 in
    let others : ws ≡ vs = words_so ws vs hw.1 hv.1 same.1 in
    cc

spaceless : (w : Word) → IsBetweenSpaces w → Spaceless w
spaceless w h =
    recursion_from_All (λ (b : ℕ). b ≢ 32) w (All-weaker (λ (b : ℕ). (b ≢ 10) × (b ≢ 32)) (λ (b : ℕ). b ≢ 32) (λ b q. q.1) w h)

all_spaceless : (ws : List Word) → All IsBetweenSpaces ws → AllByRecursion Spaceless ws
all_spaceless ws h = recursion_from_All Spaceless ws (All-weaker IsBetweenSpaces Spaceless spaceless ws h)

pub words_one : (line : List ℕ) (ws vs : List Word) → AreWords line ws → AreWords line vs → ws ≡ vs
words_one line ws vs h k = words_so ws vs (all_spaceless ws h.each) (all_spaceless vs k.each) (h.are ∙ sym k.are)
