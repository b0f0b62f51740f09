-- Which labels clash with one, found by look-ups: of L, where the label is L.k, and of those listed for it.
use Rattle.std.proofs.Common.{◌≡◌, ℕ, Bool, true, false, List, [], ◌∷◌, Vec, None, Some, get_or, refl, sym, ap, subst, ◌∙◌, inl, inr}
use Rattle.std.specs.Prelude.{◌||◌, ◌&&◌}
use mathlib.Core.Bool.{not}
use Rattle.std.specs.List.{list_any, Contains}
use Rattle.std.specs.Option.{IsSome}
use Rattle.std.specs.Str.{bytes_eq}
use Rattle.std.specs.declared.alloc.Global.{Global}
use Rattle.std.proofs.lemmas.Bool.{cases_Bool, both_ways, cond-true, cond-false, and_parts, and_from, or_from, or_right}
use Rattle.std.proofs.lemmas.List.Elements.{Contains-get_or}
use Rattle.std.proofs.lemmas.List.Folds.{list_any_none}
use Rattle.mmsyntax.specs.Dotted.{clash, is_dotted, trunk}
use Rattle.mmsyntax.proofs.DottedWords.{dotted_trunk}
use Rattle.mmsyntax.proofs.Names.{same_bytes, bytes_eq-sym}
use Rattle.library.specs.declared.library.Ranked.{Ranked}
use Rattle.library.specs.Library.{label_of}
use Rattle.library.specs.Edits.{is_labelled, has, clashes, without}
use Rattle.library.proofs.Clashing.{clashes_at}
use Rattle.library.proofs.Filtered.{contained_filter}
use Rattle.library.proofs.Places.{has_at, has_somewhere}
use Rattle.catalog.specs.Entries.{Entries, living}
use Rattle.catalog.specs.Places.{Places, IsIndex}
use Rattle.catalog.specs.Trunks.{Trunks, listed_for, lists, AreTrunks, IsListed}
use Rattle.catalog.proofs.Living.{contained-stands}

-- ---- a label left out

without-lacks : (lib : List Ranked) (own : List ℕ) → has (without own lib) own ≡ false
without-lacks [] own = refl
without-lacks (e ∷ lib) own =
    let rest = without own lib in
    elim (cases_Bool (is_labelled own e)) [
      | inl y ↦
          ap (λ l. has l own) (cond-false (not (is_labelled own e)) (e ∷ rest) rest (ap not y)) ∙ without-lacks lib own
      | inr n ↦
          ap (λ l. has l own) (cond-true (not (is_labelled own e)) (e ∷ rest) rest (ap not n)) ∙ ap (λ b. b || has rest own) n
          ∙ without-lacks lib own
    ]

pub has_without-own : (lib : List Ranked) (own label : List ℕ) → bytes_eq own label ≡ true → has (without own lib) label ≡ false
has_without-own lib own label same = subst (λ l. has (without own lib) l ≡ false) (same_bytes own label same) (without-lacks lib own)

pub has_without-other : (lib : List Ranked) (own label : List ℕ) → bytes_eq own label ≡ false → has (without own lib) label ≡ has lib label
has_without-other [] own label other = refl
has_without-other (e ∷ lib) own label other =
    let rest = without own lib in
    elim (cases_Bool (is_labelled own e)) [
      | inl y ↦
          let off : is_labelled label e ≡ false =
          ap (bytes_eq label) (sym (same_bytes own (label_of e) y)) ∙ bytes_eq-sym label own ∙ other in
          ap (λ l. has l label) (cond-false (not (is_labelled own e)) (e ∷ rest) rest (ap not y))
          ∙ has_without-other lib own label other ∙ sym (ap (λ b. b || has lib label) off)
      | inr n ↦
          ap (λ l. has l label) (cond-true (not (is_labelled own e)) (e ∷ rest) rest (ap not n))
          ∙ ap (λ b. is_labelled label e || b) (has_without-other lib own label other)
    ]

-- ---- what clashes with a label

-- L of it, where it is L.k
pub front_clashes : (lib : List Ranked) (w : List ℕ) → (is_dotted (trunk w) w && has lib (trunk w)) ≡ true → clashes lib w ≡ true
front_clashes lib w h =
    let both = and_parts (is_dotted (trunk w) w) (has lib (trunk w)) h in
    let s = has_somewhere lib (trunk w) both.1 in
    clashes_at lib w s.1 (s.0, s.2, s.3) (ap (λ l. clash l w) s.4 ∙ ap (λ b. b || is_dotted w (trunk w)) both.0)

-- one that is L.k for it
behind_clashes : (lib : List Ranked) (w v : List ℕ) → is_dotted w v ≡ true → has lib v ≡ true → clashes lib w ≡ true
behind_clashes lib w v dotted h =
    let s = has_somewhere lib v h in
    clashes_at lib w s.1 (s.0, s.2, s.3)
    (ap (λ l. clash l w) s.4 ∙ ap (λ b. is_dotted v w || b) dotted ∙ or_right (is_dotted v w) true refl)

-- no other
no_clash : (lib : List Ranked) (w : List ℕ) → (is_dotted (trunk w) w && has lib (trunk w)) ≡ false
    → ((e : Ranked) → Contains lib e → is_dotted w (label_of e) ≡ false) → clashes lib w ≡ false
no_clash lib w front behind =
    list_any_none (λ e. clash (label_of e) w) lib (λ k d lt.
    let e = get_or lib k d in
    let before : is_dotted (label_of e) w ≡ false = elim (cases_Bool (is_dotted (label_of e) w)) [
      | inl y ↦
          let is = dotted_trunk (label_of e) w y in
          absurd (both_ways (is_dotted (trunk w) w && has lib (trunk w)) front
          (and_from (is_dotted (trunk w) w) (has lib (trunk w)) (ap (λ l. is_dotted l w) is ∙ y) (has_at lib (trunk w) k d lt (sym is))))
      | inr n ↦ n
    ] in
    or_from (is_dotted (label_of e) w) (is_dotted w (label_of e)) before (behind e (Contains-get_or lib k d lt)))

-- ---- by the lists

-- one of some labels is L.k for the label L, and an assertion has it
abbrev pub some_behind : List Ranked → List ℕ → List (Vec ℕ Global) → Bool
some_behind lib w labels = list_any (λ k. is_dotted w k.items && has lib k.items) labels

some_clashes : (lib : List Ranked) (w : List ℕ) (labels : List (Vec ℕ Global)) → some_behind lib w labels ≡ true → clashes lib w ≡ true
some_clashes lib w [] h = absurd cc
some_clashes lib w (x ∷ xs) h = elim (cases_Bool (is_dotted w x.items && has lib x.items)) [
  | inl y ↦
      let both = and_parts (is_dotted w x.items) (has lib x.items) y in
      behind_clashes lib w x.items both.0 both.1
  | inr n ↦ some_clashes lib w xs (sym (ap (λ b. b || some_behind lib w xs) n) ∙ h)
]

some-listed : (lib : List Ranked) (w v : List ℕ) (labels : List (Vec ℕ Global)) → lists labels v ≡ true → is_dotted w v ≡ true
    → has lib v ≡ true → some_behind lib w labels ≡ true
some-listed lib w v [] h dotted there = absurd cc
some-listed lib w v (x ∷ xs) h dotted there = elim (cases_Bool (bytes_eq x.items v)) [
  | inl y ↦
      let same = same_bytes x.items v y in
      ap (λ b. b || some_behind lib w xs)
      (and_from (is_dotted w x.items) (has lib x.items) (ap (is_dotted w) same ∙ dotted) (ap (has lib) same ∙ there))
  | inr n ↦
      let later = some-listed lib w v xs (sym (ap (λ b. b || lists xs v) n) ∙ h) dotted there in
      elim (is_dotted w x.items && has lib x.items) as (λ b. (b || some_behind lib w xs) ≡ true) [ true ↦ refl | false ↦ later ]
]

module _ (t : Trunks) (m : Places) (es : Entries) (own w : List ℕ) (x : IsIndex m es) (h : AreTrunks t m)
    (front : (is_dotted (trunk w) w && has (without own (living es)) (trunk w)) ≡ false) where
  -- what is L.k for the label stands in its list
  listed_behind : (e : Ranked) → Contains (without own (living es)) e → is_dotted w (label_of e) ≡ true → IsListed t w (label_of e)
  listed_behind e at dotted =
      let stands = contained-stands es e (contained_filter (λ f. not (is_labelled own f)) (living es) e at) in
      h.entered (label_of e) (subst (λ o. IsSome o) (sym (x.finds stands.0 e stands.1)) refl) w dotted

  -- it has no list
  pub unlisted_clashes : None ≡ listed_for t w → clashes (without own (living es)) w ≡ false
  unlisted_clashes none = no_clash (without own (living es)) w front (λ e at. elim (cases_Bool (is_dotted w (label_of e))) [
    | inl y ↦
        let listed = listed_behind e at y in
        let both : None ≡ Some listed.list = none ∙ listed.at in
        absurd cc
    | inr n ↦ n
  ])

  -- whether one of its list is another's label
  pub listed_clashes : (list : Vec (Vec ℕ Global) Global) → Some list ≡ listed_for t w
      → some_behind (without own (living es)) w list.items ≡ clashes (without own (living es)) w
  listed_clashes list is =
      let lib = without own (living es) in
      elim (cases_Bool (some_behind lib w list.items)) [
        | inl y ↦ y ∙ sym (some_clashes lib w list.items y)
        | inr n ↦ n ∙ sym (no_clash lib w front (λ e at. elim (cases_Bool (is_dotted w (label_of e))) [
          | inl y ↦
              let listed = listed_behind e at y in
              let both : Some listed.list ≡ Some list = sym listed.at ∙ sym is in
              let one : listed.list ≡ list = cc in
              let member = subst (λ (v : Vec (Vec ℕ Global) Global). lists v.items (label_of e) ≡ true) one listed.member in
              let there = has_at lib (label_of e) at.0 e at.1 (ap label_of at.2) in
              absurd (both_ways (some_behind lib w list.items) n (some-listed lib w (label_of e) list.items member y there))
          | inr other ↦ other
        ]))
      ]
