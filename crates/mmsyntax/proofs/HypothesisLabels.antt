-- The labels of hypotheses, L.1, L.2, .., differ from other labels and from one another; hypotheses that have them.
use Rattle.std.proofs.Common.{◌≡◌, ◌≢◌, ℕ, zero, suc, ◌+◌, ◌<◌, ◌≤◌, Bool, true, false, List, [], ◌∷◌, ◌++◌, length, Some}
use Rattle.std.proofs.Common.{refl, sym, ap, ◌∙◌, inl, inr, arith}
use Rattle.std.specs.Prelude.{◌||◌}
use Rattle.std.specs.List.{list_any, AllByRecursion}
use Rattle.std.specs.Option.{option_map}
use Rattle.std.specs.Str.{bytes_eq}
use Rattle.std.proofs.lemmas.Bool.{cases_Bool, cond-true, cond-false, or_parts, or_from, or_left, or_right}
use Rattle.std.proofs.lemmas.List.Folds.{list_any-append}
use Rattle.mmsyntax.specs.declared.statement.Symbol.{Symbol}
use Rattle.mmtext.specs.Words.{Word}
use Rattle.mmsyntax.specs.Dotted.{hypothesis_label, hypothesis_numbered, is_dotted, clash}
use Rattle.mmsyntax.specs.Blocks.{Hypothesis}
use Rattle.mmsyntax.specs.Steps.{hypothesis_named}
use Rattle.mmsyntax.proofs.Names.{same_bytes, bytes_eq-same}
use Rattle.mmsyntax.proofs.Numbered.{differ}
use Rattle.mmsyntax.proofs.DottedWords.{DottedParts, dotted_is, dotted_same, numbered_some, not_dotted_itself}

-- ---- L.k and M.n

abbrev own_parts : (l : Word) (k : ℕ) → l ≢ [] → 1 ≤ k → k ≤ 1000 → DottedParts l (hypothesis_label l k)
own_parts l k some low high = record { some = some; k = k; low = low; high = high; is = refl }

parts_dotted : (l w : Word) → DottedParts l w → is_dotted l w ≡ true
parts_dotted l w p = ap (is_dotted l) p.is ∙ dotted_is l p.k p.some p.low p.high

parts_apart : (l m v w : Word) (p : DottedParts l v) (q : DottedParts m w) → (l ≡ m → p.k ≡ q.k → ⊥) → bytes_eq v w ≡ false
parts_apart l m v w p q unlike = elim (cases_Bool (bytes_eq v w)) [
  | inl y ↦
      let same : v ≡ w = same_bytes v w y in
      let label : l ≡ m = dotted_same l m v (parts_dotted l v p) (ap (is_dotted m) same ∙ parts_dotted m w q) in
      let number : Some p.k ≡ Some q.k =
      sym (numbered_some l v p.k p.low p.high p.is) ∙ ap (λ x. hypothesis_numbered x v) label ∙ ap (hypothesis_numbered m) same
      ∙ numbered_some m w q.k q.low q.high q.is in
      absurd (unlike label (let e : p.k ≡ q.k = cc in e))
  | inr n ↦ n
]

-- ---- the labels of hypotheses that stand

-- the label of a hypothesis of an assertion with one of these labels
pub record IsNumbered (labels : List Word) (w : Word) : Type 0 where
  pub label : Word
  pub parts : DottedParts label w
  pub of_one : list_any (bytes_eq label) labels ≡ true

-- the same, where the hypotheses of the last of the labels go to a count
pub record IsEarlier (labels : List Word) (last : Word) (count : ℕ) (w : Word) : Type 0 where
  pub numbered : IsNumbered (labels ++ last ∷ []) w
  pub before : numbered.label ≡ last → numbered.parts.k ≤ count

any_more : (labels : List Word) (last w : Word) → list_any (bytes_eq w) labels ≡ true → list_any (bytes_eq w) (labels ++ last ∷ []) ≡ true
any_more labels last w h = list_any-append (bytes_eq w) labels (last ∷ []) ∙ or_left (list_any (bytes_eq w) labels) _ h

pub earlier : (labels : List Word) (last w : Word) → list_any (bytes_eq last) labels ≡ false → IsNumbered labels w
    → IsEarlier labels last 0 w
earlier labels last w new p = record {
  numbered = record { label = p.label; parts = p.parts; of_one = any_more labels last p.label p.of_one };
  before = λ e. absurd (let f : true ≡ false = sym p.of_one ∙ ap (λ l. list_any (bytes_eq l) labels) e ∙ new in cc);
}

pub still_earlier : (labels : List Word) (last : Word) (count : ℕ) (w : Word) → IsEarlier labels last count w
    → IsEarlier labels last (suc count) w
still_earlier labels last count w p = record {
  numbered = p.numbered;
  before = λ e. let le : p.numbered.parts.k ≤ count = p.before e in omega arith;
}

is_last : (labels : List Word) (last : Word) → list_any (bytes_eq last) (labels ++ last ∷ []) ≡ true
is_last labels last =
    list_any-append (bytes_eq last) labels (last ∷ [])
    ∙ or_right (list_any (bytes_eq last) labels) _ (or_left (bytes_eq last last) false (bytes_eq-same last))

pub newest : (labels : List Word) (last : Word) (count : ℕ) → last ≢ [] → count < 1000
    → IsEarlier labels last (suc count) (hypothesis_label last (suc count))
newest labels last count some few = record {
  numbered = record { label = last; parts = own_parts last (suc count) some (omega arith) (omega arith); of_one = is_last labels last };
  before = λ e. omega arith;
}

pub not_earlier : (labels : List Word) (last : Word) (count : ℕ) (w : Word) → last ≢ [] → count < 1000 → IsEarlier labels last count w
    → bytes_eq (hypothesis_label last (suc count)) w ≡ false
not_earlier labels last count w some few p =
    parts_apart last p.numbered.label (hypothesis_label last (suc count)) w (own_parts last (suc count) some (omega arith) (omega arith))
    p.numbered.parts
    (λ e same. let le : p.numbered.parts.k ≤ count = p.before (sym e) in let now : suc count ≡ p.numbered.parts.k = same in omega arith)

-- ---- the labels of assertions that are apart

-- a test that fails for all labels fails for one of them
test_of : (test : Word → Bool) (labels : List Word) (l : Word) → list_any test labels ≡ false → list_any (bytes_eq l) labels ≡ true
    → test l ≡ false
test_of test [] l none one = absurd cc
test_of test (x ∷ labels) l none one = elim (cases_Bool (bytes_eq l x)) [
  | inl y ↦ ap test (same_bytes l x y) ∙ both.0
  | inr n ↦ test_of test labels l both.1 (sym (ap (λ b. b || list_any (bytes_eq l) labels) n) ∙ one)
]
  where
    both : (test x ≡ false) × (list_any test labels ≡ false)
    both = or_parts (test x) (list_any test labels) none

-- the new label of a hypothesis of the last of labels is none of the earlier
pub no_label : (labels : List Word) (last : Word) (n : ℕ) → last ≢ [] → 1 ≤ n → n ≤ 1000 → list_any (λ l. clash l last) labels ≡ false
    → list_any (bytes_eq (hypothesis_label last n)) labels ≡ false
no_label [] last n some low high clear = refl
no_label (x ∷ labels) last n some low high clear =
    let both = or_parts (clash x last) (list_any (λ l. clash l last) labels) clear in
    let apart = (or_parts (is_dotted x last) (is_dotted last x) both.0).1 in
    or_from (bytes_eq (hypothesis_label last n) x) (list_any (bytes_eq (hypothesis_label last n)) labels)
    (differ (is_dotted last) (hypothesis_label last n) x (dotted_is last n some low high) apart)
    (no_label labels last n some low high both.1)

-- the last of labels is the label of no hypothesis of it, or of an earlier
pub not_numbered : (labels : List Word) (last : Word) → list_any (λ l. clash l last) labels ≡ false → (w : Word)
    → IsNumbered (labels ++ last ∷ []) w → bytes_eq last w ≡ false
not_numbered labels last clear w p = elim (cases_Bool (bytes_eq last w)) [
  | inl y ↦
      let dotted : is_dotted p.label last ≡ true = ap (is_dotted p.label) (same_bytes last w y) ∙ parts_dotted p.label w p.parts in
      let none : list_any (λ l. is_dotted l last) (labels ++ last ∷ []) ≡ false = none_dotted in
      let apart : is_dotted p.label last ≡ false = test_of (λ l. is_dotted l last) (labels ++ last ∷ []) p.label none p.of_one in
      absurd (let z : true ≡ false = sym dotted ∙ apart in cc)
  | inr n ↦ n
]
  where
    front_dotted : (ls : List Word) → list_any (λ l. clash l last) ls ≡ false → list_any (λ l. is_dotted l last) ls ≡ false
    front_dotted [] h = refl
    front_dotted (x ∷ ls) h =
        let both = or_parts (clash x last) (list_any (λ l. clash l last) ls) h in
        or_from (is_dotted x last) (list_any (λ l. is_dotted l last) ls) (or_parts (is_dotted x last) (is_dotted last x) both.0).0
        (front_dotted ls both.1)

    none_dotted : list_any (λ l. is_dotted l last) (labels ++ last ∷ []) ≡ false
    none_dotted =
        list_any-append (λ l. is_dotted l last) labels (last ∷ [])
        ∙ or_from (list_any (λ l. is_dotted l last) labels) _ (front_dotted labels clear)
        (or_from (is_dotted last last) false (not_dotted_itself last) refl)

-- ---- hypotheses with their labels

unfoldable pub made : Word → ℕ → List (List Symbol) → List Hypothesis
made label n [] = []
made label n (e ∷ es) = record { label = hypothesis_label label (suc n); expression = e } ∷ made label (suc n) es

pub made_dotted : (label : Word) (n : ℕ) (es : List (List Symbol)) → label ≢ [] → n + length es ≤ 1000
    → AllByRecursion (λ h. is_dotted label h.label ≡ true) (made label n es)
unfolding made
made_dotted label n [] some few = tt
made_dotted label n (e ∷ es) some few =
    (dotted_is label (suc n) some (omega arith) (omega arith), made_dotted label (suc n) es some (omega arith))

pub made_named : (label : Word) (n m i : ℕ) (es : List (List Symbol)) → label ≢ [] → m ≡ n + i → i < length es → n + length es ≤ 1000
    → hypothesis_named (made label n es) (hypothesis_label label (suc m)) ≡ Some i
unfolding made
made_named label n m i [] some e lt few = absurd (omega arith)
made_named label n m zero (x ∷ es) some e lt few =
    let same : m ≡ n = omega arith in
    cond-true (bytes_eq (hypothesis_label label (suc m)) (hypothesis_label label (suc n))) (Some 0) _
    (ap (λ k. bytes_eq (hypothesis_label label (suc k)) (hypothesis_label label (suc n))) same
    ∙ bytes_eq-same (hypothesis_label label (suc n)))
made_named label n m (suc i) (x ∷ es) some e lt few =
    let v = hypothesis_label label (suc m) in
    let w = hypothesis_label label (suc n) in
    let own : (k : ℕ) → k < 1000 → DottedParts label (hypothesis_label label (suc k)) =
    λ k lt. own_parts label (suc k) some (omega arith) (omega arith) in
    let apart = parts_apart label label v w (own m (omega arith)) (own n (omega arith))
    (λ a b. let same : suc m ≡ suc n = b in omega arith) in
    cond-false (bytes_eq v w) (Some 0) (option_map (λ k. suc k) (hypothesis_named (made label (suc n) es) v)) apart
    ∙ ap (λ o. option_map (λ k. suc k) o) (made_named label (suc n) m i es some (omega arith) (omega arith) (omega arith))
