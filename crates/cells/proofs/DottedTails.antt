-- The tail .k of a label L.k: its bytes, and that it tells whether a word is one.
use Rattle.std.proofs.Common.{◌≡◌, ◌≢◌, ℕ, zero, suc, ◌+◌, ◌<◌, ◌≤◌, Bool, true, false, List, [], ◌∷◌, ◌++◌, length, get_or, take, drop}
use Rattle.std.proofs.Common.{Option, Some, None, refl, sym, ap, subst, ◌∙◌, inl, inr, arith, length-append}
use Rattle.std.specs.Prelude.{is_some, nat_eq}
use Rattle.std.specs.Fmt.{decimal}
use Rattle.std.proofs.Math.Seq.{take-append_seam, drop-append_seam}
use Rattle.std.proofs.lemmas.Bool.{cases_Bool, eqb-true}
use Rattle.std.proofs.lemmas.List.{take-append-drop}
use Rattle.std.proofs.lemmas.Fmt.{length-decimal-le, decimal_nonempty, IsAscii-decimal}
use Rattle.mmsyntax.specs.Dotted.{hypothesis_label, hypothesis_numbered, is_dotted}
use Rattle.mmsyntax.proofs.DottedWords.{numbered_some, numbered_is, dotted_parts, dotted_is}

-- ---- what stands behind the label

-- a tail .k
pub record IsTail (tail : List ℕ) : Type 0 where
  pub k : ℕ
  pub low : 1 ≤ k
  pub high : k ≤ 1000
  pub is : tail ≡ 46 ∷ decimal k

tail_from : (tail : List ℕ) → is_some (hypothesis_numbered [] tail) ≡ true → IsTail tail
tail_from tail h = go (hypothesis_numbered [] tail) refl h
  where
    go : (o : Option ℕ) → hypothesis_numbered [] tail ≡ o → is_some o ≡ true → IsTail tail
    go None e y = absurd cc
    go (Some k) e y = let of = numbered_is [] tail k e in record { k = k; low = of.0; high = of.1; is = of.2 }

tail_told : (tail : List ℕ) → IsTail tail → is_some (hypothesis_numbered [] tail) ≡ true
tail_told tail t = ap is_some (numbered_some [] tail t.k t.low t.high t.is)

-- where it isn't one
pub not_tail : (tail : List ℕ) → (IsTail tail → ⊥) → false ≡ is_some (hypothesis_numbered [] tail)
not_tail tail wrong = elim (cases_Bool (is_some (hypothesis_numbered [] tail))) [
  | inl y ↦ absurd (wrong (tail_from tail y))
  | inr n ↦ sym n
]

-- it has 2 to 5 bytes
pub tail_length : (tail : List ℕ) → IsTail tail → (2 ≤ length tail) × (length tail ≤ 5)
tail_length tail t =
    let long : length tail ≡ suc (length (decimal t.k)) = ap length t.is in
    let most = length-decimal-le 4 t.k (omega arith) (let high = t.high in omega arith) (let high = t.high in omega arith) in
    let some = decimal_nonempty t.k (let high = t.high in omega arith) in
    (omega arith, omega arith)

-- bytes, all of them
pub tail_bytes : (tail : List ℕ) (i : ℕ) → IsTail tail → get_or tail i 0 < 256
tail_bytes tail i t = subst (λ (xs : List ℕ). get_or xs i 0 < 256) (sym t.is) (within i)
  where
    within : (i : ℕ) → get_or (46 ∷ decimal t.k) i 0 < 256
    within zero = omega arith
    within (suc i) = let high = t.high in let small = IsAscii-decimal t.k (omega arith) i in omega arith

-- ---- words L.k

dotted_tail : (label w : List ℕ) → is_dotted label w ≡ true → IsTail (drop (length label) w)
dotted_tail label w h =
    let p = dotted_parts label w h in
    record { k = p.k; low = p.low; high = p.high; is = ap (drop (length label)) p.is ∙ drop-append_seam label (46 ∷ decimal p.k) }

dotted_front : (label w : List ℕ) → is_dotted label w ≡ true → take (length label) w ≡ label
dotted_front label w h =
    let p = dotted_parts label w h in
    ap (take (length label)) p.is ∙ take-append_seam label (46 ∷ decimal p.k)

not_dotted : (label w : List ℕ) → (is_dotted label w ≡ true → ⊥) → false ≡ is_dotted label w
not_dotted label w wrong = elim (cases_Bool (is_dotted label w)) [ inl y ↦ absurd (wrong y) | inr n ↦ sym n ]

-- none is for an empty label
pub none_of_empty : (label w : List ℕ) → nat_eq (length label) 0 ≡ true → false ≡ is_dotted label w
none_of_empty [] w empty = not_dotted [] w (λ y. (dotted_parts [] w y).some refl)
none_of_empty (b ∷ label) w empty = let none = eqb-true (length (b ∷ label)) 0 empty in absurd (omega arith)

pub filled : (label : List ℕ) → nat_eq (length label) 0 ≡ false → label ≢ []
filled [] some = absurd cc
filled (b ∷ label) some = λ none. absurd cc

-- nor a word that is shorter
pub none_shorter : (label w : List ℕ) → length w < length label → false ≡ is_dotted label w
none_shorter label w short = not_dotted label w (λ y.
    let p = dotted_parts label w y in
    let e : length w ≡ length label + suc (length (decimal p.k)) = ap length p.is ∙ length-append label (46 ∷ decimal p.k) in
    omega arith)

-- nor one that has another tail
pub none_of_tail : (label w : List ℕ) → is_some (hypothesis_numbered [] (drop (length label) w)) ≡ false → false ≡ is_dotted label w
none_of_tail label w other = not_dotted label w (λ y. let told =
    tail_told (drop (length label) w) (dotted_tail label w y) in absurd (let z : true ≡ false = sym told ∙ other in cc))

-- with such a tail, a word is one just where it begins with the label
pub told_by_front : (label w : List ℕ) (b : Bool) → label ≢ [] → is_some (hypothesis_numbered [] (drop (length label) w)) ≡ true
    → (b ≡ true → take (length label) w ≡ label) → (take (length label) w ≡ label → b ≡ true) → b ≡ is_dotted label w
told_by_front label w true some told front back =
    let t = tail_from (drop (length label) w) told in
    let is : w ≡ hypothesis_label label t.k =
    sym (take-append-drop (length label) w) ∙ ap (λ (xs : List ℕ). xs ++ drop (length label) w) (front refl)
    ∙ ap (λ (xs : List ℕ). label ++ xs) t.is in
    sym (ap (is_dotted label) is ∙ dotted_is label t.k some t.low t.high)
told_by_front label w false some told front back =
    not_dotted label w (λ y. absurd (let z : false ≡ true = back (dotted_front label w y) in cc))

-- none is empty
pub dotted_some : (label w : List ℕ) → is_dotted label w ≡ true → w ≢ []
dotted_some label w h none =
    let p = dotted_parts label w h in
    let e : length w ≡ length label + suc (length (decimal p.k)) = ap length p.is ∙ length-append label (46 ∷ decimal p.k) in
    omega (arith, e, ap length none)
