-- Lists of labels L.k, by L: after a label was entered or dropped.
use Rattle.std.proofs.Common.{◌≡◌, ℕ, true, false, cond, List, [], ◌∷◌, ◌++◌, Vec, Option, None, Some, length, refl, sym, ap, subst}
use Rattle.std.proofs.Common.{◌∙◌, inl, inr, arith}
use Rattle.std.specs.Prelude.{◌||◌, filter}
use mathlib.Core.Bool.{not}
use Rattle.std.specs.Option.{IsSome}
use Rattle.std.specs.Map.{lookup}
use Rattle.std.specs.Str.{bytes_eq}
use Rattle.std.specs.declared.alloc.Global.{Global}
use Rattle.std.proofs.lemmas.Bool.{cases_Bool, both_ways, cond-true, cond-false}
use Rattle.mmsyntax.specs.Dotted.{trunk}
use Rattle.mmsyntax.proofs.DottedWords.{dotted_trunk, dotted_longer}
use Rattle.mmsyntax.proofs.Names.{same_bytes, bytes_eq-same}
use Rattle.catalog.specs.Places.{Places, place_in, Puts, KeepsLabels}
use Rattle.catalog.specs.Trunks.{Trunks, listed_for, lists, IsListed, IsEntered, AreTrunks, KeepsListed, KeepsOthers}
use Rattle.catalog.proofs.Indexes.{removed_gone}

-- ---- one list

-- a label that was put behind others
pub lists-last : (labels : List (Vec ℕ Global)) (k : Vec ℕ Global) (w : List ℕ) → k.items ≡ w → lists (labels ++ k ∷ []) w ≡ true
lists-last [] k w is = ap (λ l. bytes_eq l w || false) is ∙ ap (λ b. b || false) (bytes_eq-same w)
lists-last (x ∷ xs) k w is =
    elim (bytes_eq x.items w) as (λ b. (b || lists (xs ++ k ∷ []) w) ≡ true) [ true ↦ refl | false ↦ lists-last xs k w is ]

-- those of a list that are not one label
abbrev pub but : List ℕ → List (Vec ℕ Global) → List (Vec ℕ Global)
but label labels = filter (λ k. not (bytes_eq k.items label)) labels

-- have each other
pub lists-but : (labels : List (Vec ℕ Global)) (label w : List ℕ) → bytes_eq label w ≡ false → lists labels w ≡ true
    → lists (but label labels) w ≡ true
lists-but [] label w other h = absurd cc
lists-but (x ∷ xs) label w other h =
    let rest = but label xs in
    elim (cases_Bool (bytes_eq x.items label)) [
      | inl y ↦
          let off : bytes_eq x.items w ≡ false = ap (λ l. bytes_eq l w) (same_bytes x.items label y) ∙ other in
          ap (λ l. lists l w) (cond-false (not (bytes_eq x.items label)) (x ∷ rest) rest (ap not y))
          ∙ lists-but xs label w other (sym (ap (λ b. b || lists xs w) off) ∙ h)
      | inr n ↦
          ap (λ l. lists l w) (cond-true (not (bytes_eq x.items label)) (x ∷ rest) rest (ap not n))
          ∙ (elim (cases_Bool (bytes_eq x.items w)) [
            | inl s ↦ ap (λ b. b || lists rest w) s
            | inr d ↦ ap (λ b. b || lists rest w) d ∙ lists-but xs label w other (sym (ap (λ b. b || lists xs w) d) ∙ h)
          ])
    ]

-- ---- all lists

-- n is the map m with another list for L, or none
abbrev pub Relists : Trunks → List ℕ → Option (Vec (Vec ℕ Global) Global) → Trunks → Type 0
Relists m front o n = (q : List ℕ) → listed_for n q ≡ cond (bytes_eq front q) o (listed_for m q)

-- a map that finds the same
pub listed-same : (m n : Trunks) → n.entries ≡ m.entries → KeepsListed m n
listed-same m n same = record {
  keeps = λ l w h. record { list = h.list; at = ap (lookup (λ k. bytes_eq l k.items)) same ∙ h.at; member = h.member };
}

-- one list has the label still
pub listed-relisted : (m n : Trunks) (front l w : List ℕ) (old new : Vec (Vec ℕ Global) Global) → Relists m front (Some new) n
    → listed_for m front ≡ Some old
    → (lists old.items w ≡ true → lists new.items w ≡ true) → IsListed m l w → IsListed n l w
listed-relisted m n front l w old new relists at more h =
    elim (cases_Bool (bytes_eq front l)) [
      | inl y ↦
          let both : Some h.list ≡ Some old = sym h.at ∙ ap (listed_for m) (sym (same_bytes front l y)) ∙ at in
          let one : h.list ≡ old = cc in
          record {
            list = new;
            at = relists l ∙ cond-true (bytes_eq front l) (Some new) (listed_for m l) y;
            member = more (subst (λ (v : Vec (Vec ℕ Global) Global). lists v.items w ≡ true) one h.member);
          }
      | inr n ↦
          record { list = h.list; at = relists l ∙ cond-false (bytes_eq front l) (Some new) (listed_for m l) n ∙ h.at; member = h.member }
    ]

-- a list that had no label has changed
pub listed-others : (m n : Trunks) (front : List ℕ) (o : Option (Vec (Vec ℕ Global) Global)) → Relists m front o n
    → ((w : List ℕ) → IsListed m front w → ⊥) → KeepsListed m n
listed-others m n front o relists none = record {
  keeps = λ l w h. elim (cases_Bool (bytes_eq front l)) [
    | inl y ↦ absurd (none w (subst (λ x. IsListed m x w) (sym (same_bytes front l y)) h))
    | inr n ↦ record { list = h.list; at = relists l ∙ cond-false (bytes_eq front l) o (listed_for m l) n ∙ h.at; member = h.member }
  ];
}

-- no label stands in a list that isn't there, or is empty
pub no_list : (m : Trunks) (front w : List ℕ) → None ≡ listed_for m front → IsListed m front w → ⊥
no_list m front w none h =
    let both : None ≡ Some h.list = none ∙ h.at in
    absurd cc

none-listed : (labels : List (Vec ℕ Global)) (w : List ℕ) → length labels ≡ 0 → lists labels w ≡ false
none-listed [] w none = refl
none-listed (x ∷ xs) w none = absurd (omega arith)

pub empty_list : (m : Trunks) (front w : List ℕ) (list : Vec (Vec ℕ Global) Global) → Some list ≡ listed_for m front
    → length list.items ≡ 0
    → IsListed m front w → ⊥
empty_list m front w list is empty h =
    let both : Some h.list ≡ Some list = sym h.at ∙ sym is in
    let one : h.list ≡ list = cc in
    let member = subst (λ (v : Vec (Vec ℕ Global) Global). lists v.items w ≡ true) one h.member in
    both_ways (lists list.items w) (none-listed list.items w empty) member

-- ---- a label is entered

-- one that is L.k for no L
pub whole-entered : (m : Trunks) (w front : List ℕ) → front ≡ trunk w → length front ≡ length w → IsEntered m w
whole-entered m w front is long = λ l h.
    let same = ap length (is ∙ dotted_trunk l w h) in
    let longer = dotted_longer l w h in
    absurd (omega arith)

pub relisted-entered : (m n : Trunks) (w front : List ℕ) (new : Vec (Vec ℕ Global) Global) → Relists m front (Some new) n → front ≡ trunk w
    → lists new.items w ≡ true → IsEntered n w
relisted-entered m n w front new relists is member = λ l h.
    let same : front ≡ l = is ∙ dotted_trunk l w h in
    record {
      list = new;
      at = relists l
          ∙ cond-true (bytes_eq front l) (Some new) (listed_for m l) (ap (λ x. bytes_eq x l) same ∙ bytes_eq-same l);
      member = member;
    }

-- ---- beside the map of places

-- a label is put there
pub trunks-put : (t u : Trunks) (m n : Places) (w : List ℕ) (p : ℕ) → AreTrunks t m → KeepsListed t u → IsEntered u w → Puts m w p n
    → AreTrunks u n
trunks-put t u m n w p h kept entered puts = record {
  entered = λ q some. elim (cases_Bool (bytes_eq w q)) [
    | inl y ↦ subst (IsEntered u) (same_bytes w q y) entered
    | inr other ↦ λ l dotted.
        let known = subst (λ o. IsSome o) (puts q ∙ cond-false (bytes_eq w q) (Some p) (place_in m q) other) some in
        kept.keeps l q (h.entered q known l dotted)
  ];
}

-- a label went
pub trunks-forgot : (t u : Trunks) (m n : Places) (w : List ℕ) → AreTrunks t m → KeepsOthers t w u
    → ((q : List ℕ) → place_in n q ≡ cond (bytes_eq w q) None (place_in m q)) → AreTrunks u n
trunks-forgot t u m n w h kept gone = record {
  entered = λ q some. elim (cases_Bool (bytes_eq w q)) [
    | inl y ↦ absurd (removed_gone m n w gone (subst (λ x. IsSome (place_in n x)) (sym (same_bytes w q y)) some))
    | inr other ↦ λ l dotted.
        let known = subst (λ o. IsSome o) (gone q ∙ cond-false (bytes_eq w q) None (place_in m q) other) some in
        kept.keeps l q other (h.entered q known l dotted)
  ];
}

-- lists grew, and the map of places has no other label
pub trunks-kept : (t u : Trunks) (m n : Places) → KeepsListed t u → KeepsLabels n m → AreTrunks t m → AreTrunks u n
trunks-kept t u m n kept fewer h = record { entered = λ q some l dotted. kept.keeps l q (h.entered q (fewer.keeps q some) l dotted) }

-- a map that finds the same
pub labels-same : (m n : Places) → n.entries ≡ m.entries → KeepsLabels n m
labels-same m n same = record { keeps = λ q some. subst (λ o. IsSome o) (ap (lookup (λ k. bytes_eq q k.items)) same) some }

pub listed-all : (m : Trunks) → KeepsListed m m
listed-all m = record { keeps = λ l w h. h }
