-- Ranges that a run knows, and the bodies that cells name: a word names one.
use Rattle.std.proofs.Common.{◌≡◌, ◌≢◌, ℕ, zero, suc, ◌+◌, ◌*◌, ◌/◌, ◌%◌, ◌^◌, ◌<◌, List, [], ◌∷◌, length, refl, sym, ap, subst, ◌∙◌, inl, inr, arith, Some}
use Rattle.std.specs.Prelude.{slice_get}
use Rattle.std.specs.Prelude.{◌↔◌}
use Rattle.std.proofs.Math.Bridge.{le_prop}
use Rattle.std.proofs.Math.Logic.{∥∥₁_elim}
use Rattle.library.specs.declared.library.Ranked.{Ranked}
use Rattle.ranges.specs.Ranges.{Range, Has, Names, AreOfOneStore, word_of}
use Rattle.ranges.specs.declared.range.Range.{Range as Span}
use Rattle.ranges.proofs.Words.{names_one}
use Rattle.cells.specs.State.{State, HasBody, most_words}
use Rattle.cells.specs.Sight.{Sight, Matches, Suits, Onward, Looks, Reads, KnowsRange, after}
use Rattle.cells.specs.Lookups.{AreWordsOf}
use Rattle.cells.proofs.Sights.{matches_back, after_looks}

-- ---- ranges of one store

-- a range is no longer than its store
pub short : (ranges : List Range) (r : Range) → AreOfOneStore most_words ranges → Has r ranges → length r.words < 2 ^ 25
short ranges r store h = within (length r.words) (store.0 r h)
  where
    within : (n : ℕ) → ((i : ℕ) → i < n → r.start + i < 16777216) → n < 2 ^ 25
    within zero f = omega arith
    within (suc n) f = let l = f n (omega arith) in omega (arith, l)

-- the words of a range, by the word that names it
pub one_named : (ranges : List Range) (r q : Range) → AreOfOneStore most_words ranges → Has r ranges → Has q ranges → word_of r ≡ word_of q
    → r.words ≡ q.words
one_named ranges r q store in_r in_q e =
    ap (λ (x : Range). x.words) (names_one ranges r q store.1 in_r in_q (short ranges r store in_r) (short ranges q store in_q) e)

-- a cell names one body
pub one_body : (st : State) (cell : ℕ) (words others : List ℕ) → AreOfOneStore most_words st.ranges → HasBody st cell words
    → HasBody st cell others → words ≡ others
one_body st cell words others store a b =
    one_named st.ranges (record { start = a.start; words = words }) (record { start = b.start; words = others }) store a.finished b.finished
    (sym a.named ∙ b.named)

-- 0 names none
pub no_body : (st : State) (cell : ℕ) (words : List ℕ) → HasBody st cell words → st.value cell ≡ 0 → ⊥
no_body st cell words b e = none words b.some (sym b.named ∙ e)
  where
    none : (ws : List ℕ) → ws ≢ [] → b.start * 2 ^ 25 + length ws ≡ 0 → ⊥
    none [] some is = some refl
    none (w ∷ ws) some is = omega (arith, is)

-- a cell that stays goes on to name its body
pub body_same : (st next : State) (cell : ℕ) (words : List ℕ) → next.ranges ≡ st.ranges → next.value cell ≡ st.value cell
    → HasBody st cell words
    → HasBody next cell words
body_same st next cell words ranges same b =
    record {
      start = b.start;
      finished = subst (Has (record { start = b.start; words = words })) (sym ranges) b.finished;
      named = same ∙ b.named;
      some = b.some;
    }

-- ---- ranges that a run knows

pub knows_later : {O : Type 0} → (s t : Sight O) (range : Span) (words : List ℕ) → Onward s t → KnowsRange s range words
    → KnowsRange t range words
knows_later s t range words on k =
    record { finished = on.ranges (record { start = range.start; words = words }) k.finished; len = k.len }

module _ {O : Type 0} (s : Sight O) (st : State) (matches : Matches s st) where
  -- the words of a known range are those of the body of the cell that names it
  pub words_known : (range : Span) (cell : ℕ) (words body : List ℕ) → KnowsRange s range words
      → (after s st).value cell ≡ range.start * 2 ^ 25 + range.len → HasBody (after s st) cell body → words ≡ body
  words_known range cell words body k e b =
      one_named st.ranges (record { start = range.start; words = words }) (record { start = b.start; words = body }) matches.store
      (matches.has _ k.finished) b.finished (ap (λ (n : ℕ). range.start * 2 ^ 25 + n) (sym k.len) ∙ (sym e ∙ b.named))

  -- a cell that names a known range has its words as a body
  pub body_known : (range : Span) (cell : ℕ) (words : List ℕ) → KnowsRange s range words
      → (after s st).value cell ≡ range.start * 2 ^ 25 + range.len → words ≢ [] → HasBody (after s st) cell words
  body_known range cell words k e some = record {
    start = range.start;
    finished = matches.has _ k.finished;
    named = e ∙ ap (λ (n : ℕ). range.start * 2 ^ 25 + n) k.len;
    some = some;
  }

-- ---- with no state at hand

module _ {O : Type 0} (s : Sight O) (grounded : ∥ ((st : State) × (lib : List Ranked) × Suits s st lib) ∥₁) where
  -- a word that is not 0 and names a range: where it starts, and how many words it has
  pub named_known : (word : ℕ) (range : Span) → word ≢ 0 → Names s.ranges word → range.start ≡ word / 2 ^ 25 → range.len ≡ word % 2 ^ 25
      → (words : List ℕ) × KnowsRange s range words
  named_known word range ne (inl e) a b = absurd (ne e)
  named_known word range ne (inr (r, h, e)) a b =
      let few : length r.words < 2 ^ 25 = ∥∥₁_elim grounded le_prop (λ x. short x.0.ranges r x.2.matches.store (x.2.matches.has r h)) in
      let from : r.start ≡ range.start = omega (arith, e, few, a) in
      let len : range.len ≡ length r.words = omega (arith, e, few, b) in
      (r.words, record { finished = subst (λ (n : ℕ). Has (record { start = n; words = r.words }) s.ranges) from h; len = len })

-- ---- what was read

-- a value that was read is that of its cell later, too
pub value_later : {O : Type 0} → (r s t : Sight O) (cell v : ℕ) (st : State) → Reads cell v r s → Looks s t → Matches t st
    → v ≡ (after t st).value cell
value_later r s t cell v st reads looks m =
    reads.value st (matches_back s t st looks.onward m) ∙ ap (λ (x : State). x.value cell) (sym (after_looks s t st looks))

-- the words of the range that a cell names
pub are_words : {O : Type 0} → (s : Sight O) (st : State) (range : Span) (cell word : ℕ) (words : List ℕ) → Matches s st
    → KnowsRange s range words
    → word ≡ (after s st).value cell → word ≢ 0 → word ≡ range.start * 2 ^ 25 + range.len → AreWordsOf (after s st) cell words
are_words s st range cell word words m k read some is = record {
  body = λ body b. words_known s st m range cell words body k (sym read ∙ is) b;
  none = λ e. absurd (some (read ∙ e));
}

-- a cell that holds 0 has none
pub no_words : (st : State) (cell : ℕ) → st.value cell ≡ 0 → AreWordsOf st cell []
no_words st cell e = record { body = λ words b. absurd (no_body st cell words b e); none = λ h. refl }

-- a cell that names a known range has a body just where that has its words
pub same_words : {O : Type 0} → (s : Sight O) (st : State) (range : Span) (cell word : ℕ) (words body : List ℕ) → Matches s st
    → KnowsRange s range words
    → word ≡ (after s st).value cell → word ≡ range.start * 2 ^ 25 + range.len → body ≢ [] → (words ≡ body) ↔ HasBody (after s st) cell body
same_words s st range cell word words body m k read is some = (
  λ e. subst (HasBody (after s st) cell) e (body_known s st m range cell words k (sym read ∙ is) (λ none. some (sym e ∙ none))),
  λ b. words_known s st m range cell words body k (sym read ∙ is) b,
)

-- ---- the first word

-- a cell that holds 0 has no body, and a range without words is none
pub no_first : {O : Type 0} → (s : Sight O) (st : State) (range : Span) (cell word w : ℕ) (words more : List ℕ) → Matches s st
    → KnowsRange s range words
    → word ≡ (after s st).value cell → word ≡ range.start * 2 ^ 25 + range.len → HasBody (after s st) cell (w ∷ more) → range.len ≡ 0 → ⊥
no_first s st range cell word w words more m k read is b none =
    let same : words ≡ w ∷ more = words_known s st m range cell words (w ∷ more) k (sym read ∙ is) b in
    let few : length words ≡ 0 = sym k.len ∙ none in
    let long : length words ≡ length (w ∷ more) = ap length same in
    omega (arith, few, long)

-- the first word of a known range is that of the body
pub first_known : {O : Type 0} → (s : Sight O) (st : State) (range : Span) (cell word w first : ℕ) (words more : List ℕ) → Matches s st
    → KnowsRange s range words
    → word ≡ (after s st).value cell → word ≡ range.start * 2 ^ 25 + range.len → HasBody (after s st) cell (w ∷ more)
    → slice_get words 0 ≡ Some first → first ≡ w
first_known s st range cell word w first words more m k read is b at =
    let same : words ≡ w ∷ more = words_known s st m range cell words (w ∷ more) k (sym read ∙ is) b in
    let here : slice_get (w ∷ more) 0 ≡ Some first = subst (λ (zs : List ℕ). slice_get zs 0 ≡ Some first) same at in
    cc
