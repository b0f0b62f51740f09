-- Where a rank is put, and where none is.
use Rattle.std.proofs.Common.{◌≡◌, ◌∙◌, ℕ, suc, ◌+◌, ◌<◌, ◌≤◌, Bool, true, false, cond, List, [], ◌∷◌, ◌++◌, length, drop, get_or, Option, Some, None}
use Rattle.std.proofs.Common.{refl, sym, ap, arith, codes}
use Rattle.std.specs.Prelude.{nat_lt, slice_get, Result, Ok, Err, OnOk}
use Rattle.std.specs.Int.{from_bool}
use Rattle.std.specs.Str.{bytes_eq}
use Rattle.std.specs.Fmt.{decimal}
use Rattle.std.specs.Option.{option_map}
use Rattle.std.proofs.lemmas.List.{append-nil}
use Rattle.std.proofs.lemmas.Bool.{lt-ltb, le-ltb}
use Rattle.mmtext.specs.Text.{Token}
use Rattle.source.specs.Scopes.{Scope}
use Rattle.spreading.specs.Words.{says, word_at}
use Rattle.spreading.specs.Forms.{Part, is_beside, placed_at}
use Rattle.spreading.specs.Spreading.{assertion_at}
use Rattle.expanding.specs.Ranking.{gap_of_place, gap_behind, taken_among, crowded_at, crowded_behind, ranked_place, ranked_words, rank_at, many_at, most_beside}
use Rattle.expanding.specs.Views.{IsRankerOf, IsGiven}
use Rattle.spreading.specs.Views.{front_words, place_words}
use Rattle.expanding.specs.declared.ranking.Ranker.{Ranker}
use Rattle.mmtext.specs.declared.token.Token.{Token as CodeToken}
use Rattle.mmsyntax.proofs.FirstPlace.{place_within}
use Rattle.expanding.proofs.Fronts.{taken_most, from_most}

-- ---- no gap

pub no_gap : (s : Scope) (flags : List Bool) (ts : List Token) → length ts < 2 → gap_of_place s flags ts ≡ None
no_gap s flags [] lt = refl
no_gap s flags (t ∷ []) lt = refl
no_gap s flags (t ∷ u ∷ ts) lt = absurd (omega arith)

-- ---- a gap

gap_front : (flags : List Bool) (f : ℕ → ℕ) (b : Bool) (o : Option ℕ) (gap : ℕ)
    → cond b (option_map (λ n. taken_among flags (f n)) o) None ≡ Some gap → gap ≤ taken_among flags (length flags)
gap_front flags f false o gap e = absurd cc
gap_front flags f true None gap e = absurd cc
gap_front flags f true (Some n) gap e =
    let same : taken_among flags (f n) ≡ gap = cc in
    let most = taken_most flags (f n) in
    omega arith

pub gap_most : (s : Scope) (flags : List Bool) (how label : Token) (ts : List Token) (gap : ℕ)
    → gap_of_place s flags (how ∷ label ∷ ts) ≡ Some gap → gap ≤ taken_among flags (length flags)
gap_most s flags how label ts gap e =
    gap_front flags (λ n. cond (says how (codes "behind")) (suc n) n) (is_beside how) (assertion_at s label.text) gap e

-- of the assertion at a place
shifted : (b : Bool) (n : ℕ) → cond b (suc n) n ≡ n + from_bool b
shifted true n = omega arith
shifted false n = omega arith

module _ (s : Scope) (flags : List Bool) (earlier : List ℕ) (r : Ranker) (ready : IsRankerOf s flags earlier r) (how label : Token)
    (place : ℕ) (is : assertion_at s label.text ≡ Some place) where
  abbrev front : ℕ
  front = place + from_bool (says how (codes "behind"))

  pub front_most : front ≤ length flags
  front_most =
      let lt = place_within (λ a. bytes_eq label.text a.label) s.assertions place is in
      let few = from_most (says how (codes "behind")) in
      let each = ready.each in
      omega arith

  pub front_found : is_beside how ≡ true → slice_get r.fronts.items front ≡ gap_of_place s flags (how ∷ label ∷ [])
  front_found beside =
      ready.ranker.fronts.each front front_most
      ∙ (ap (λ n. Some (taken_among flags n)) (sym (shifted (says how (codes "behind")) place))
      ∙ sym (ap (λ o. cond (is_beside how) (option_map (λ n. taken_among flags (cond (says how (codes "behind")) (suc n) n)) o) None) is
      ∙ ap (λ b. cond b (Some (taken_among flags (cond (says how (codes "behind")) (suc place) place))) None) beside))

-- ---- two words

pub two_words : (ws : List CodeToken) (d e : CodeToken) → 2 ≤ length ws → ws ≡ get_or ws 0 d ∷ get_or ws 1 e ∷ drop 2 ws
two_words [] d e le = absurd (omega arith)
two_words (v ∷ []) d e le = absurd (omega arith)
two_words (v ∷ w ∷ ws) d e le = refl

pub none_there : (o : Option ℕ) → ((gap : ℕ) → o ≡ Some gap → ⊥) → o ≡ None
none_there None n = refl
none_there (Some gap) n = absurd (n gap refl)

pub too_many : (flags : List Bool) (earlier : List ℕ) (gap : ℕ) (r : Ranker) (o : Option ℕ) → ((rank : ℕ) → o ≡ Some rank → ⊥)
    → IsGiven flags earlier gap o r → most_beside ≤ many_at earlier gap
too_many flags earlier gap r None n h = h
too_many flags earlier gap r (Some rank) n h = absurd (n rank refl)

module _ (s : Scope) (flags : List Bool) (earlier : List ℕ) (ts : List Token) where
  pub ranked_none : gap_of_place s flags ts ≡ None → ranked_place s flags earlier ts ≡ ts
  ranked_none e = ap (λ o. ranked_words earlier o ts) e

  pub crowded_none : gap_of_place s flags ts ≡ None → crowded_at earlier (gap_of_place s flags ts) ts ≡ None
  crowded_none e = ap (λ o. crowded_at earlier o ts) e

  module _ (how label : Token) (rest : List Token) (gap : ℕ) (are : ts ≡ how ∷ label ∷ rest)
      (is : gap_of_place s flags ts ≡ Some gap) where
    crowded_is : crowded_at earlier (gap_of_place s flags ts) ts ≡ cond (nat_lt (many_at earlier gap) most_beside) None (Some how)
    crowded_is = ap (λ o. crowded_at earlier o ts) is ∙ ap (crowded_at earlier (Some gap)) are

    pub crowded_full : most_beside ≤ many_at earlier gap → crowded_at earlier (gap_of_place s flags ts) ts ≡ Some how
    crowded_full le =
        crowded_is ∙ ap (λ b. cond b None (Some how)) (le-ltb (many_at earlier gap) most_beside le)

    pub crowded_room : many_at earlier gap < most_beside → crowded_at earlier (gap_of_place s flags ts) ts ≡ None
    crowded_room lt = crowded_is ∙ ap (λ b. cond b None (Some how)) (lt-ltb (many_at earlier gap) most_beside lt)

    pub ranked_there : ranked_place s flags earlier ts ≡ word_at how.place (decimal (rank_at earlier gap)) ∷ rest
    ranked_there = ap (λ o. ranked_words earlier o ts) is ∙ ap (ranked_words earlier (Some gap)) are

-- ---- a part, by its front and its place

module _ (s : Scope) (flags : List Bool) (earlier : List ℕ) (p : Part) where
  pub placed : (o : Option ℕ)
      → placed_at o (ranked_place s flags earlier) p ≡ front_words o p ++ ranked_place s flags earlier (place_words o p)
  placed None = sym (append-nil p)
  placed (Some n) = refl

  pub crowded_there : (o : Option ℕ)
      → crowded_behind s flags earlier p o ≡ crowded_at earlier (gap_of_place s flags (place_words o p)) (place_words o p)
  crowded_there None = refl
  crowded_there (Some n) = refl

  pub gap_there : (o : Option ℕ) → gap_behind s flags p o ≡ gap_of_place s flags (place_words o p)
  gap_there None = refl
  gap_there (Some n) = refl

-- ---- results

pub on_ok : {T E : Type 0} (r : Result T E) (P Q : Type 0) → (P → Q) → OnOk r P → OnOk r Q
on_ok (Ok x) P Q f h = f h
on_ok (Err e) P Q f h = tt
