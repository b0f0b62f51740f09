-- The bytes and tokens of items that stand in a text.
use Rattle.std.proofs.Common.{◌≡◌, ◌∙◌, ℕ, suc, ◌+◌, ◌-◌, Bool, true, false, cond, List, [], ◌∷◌, ◌++◌, length, drop, take}
use Rattle.std.proofs.Common.{refl, sym, ap, subst, arith, append_assoc, append-nil, All}
use Rattle.std.specs.Prelude.{slice_range}
use Rattle.std.proofs.lemmas.List.{drop-drop}
use Rattle.mmtext.specs.Text.{Token, is_white, ends_token, with_byte, tokens_from}
use Rattle.mmtext.specs.Comments.{words_of}
use Rattle.items.specs.Items.{Piece, Item, bytes_of, words, pieces_of, IsItem, Spells}
use Rattle.items.specs.Reading.{tokens_at, IsFirst, end_of, Stands}
use Rattle.items.proofs.Places.{begins_there}

-- ---- the bytes up to the first token, its own, and those behind it

abbrev IsSplit : ℕ → List ℕ → Token → Type 0
IsSplit p bs t = (n : ℕ) × (t.place ≡ p + n) × (bs ≡ take n bs ++ (t.text ++ drop (n + length t.text) bs))

abbrev alone : ℕ → ℕ → Token
alone p b = record { place = p; text = b ∷ [] }

split_alone : (p b : ℕ) (bs : List ℕ) (t : Token) → alone p b ≡ t → IsSplit p (b ∷ bs) t
split_alone p b bs t is = subst (IsSplit p (b ∷ bs)) is (0, let e : p ≡ p + 0 = omega arith in e, refl)

split_later : (p b : ℕ) (bs : List ℕ) (t : Token) → IsSplit (suc p) bs t → IsSplit p (b ∷ bs) t
split_later p b bs t s =
    let place = s.1 in (
      suc s.0,
      let e : t.place ≡ p + suc s.0 = omega (arith, place) in e,
      ap (λ xs. b ∷ xs) s.2
          ∙ ap (λ k. b ∷ (take s.0 bs ++ (t.text ++ drop k (b ∷ bs))))
          (let k : suc (s.0 + length t.text) ≡ suc s.0 + length t.text = omega arith in k),
    )

split_longer : (p b : ℕ) (bs : List ℕ) (u t : Token) → u.place ≡ suc p → IsSplit (suc p) bs u
    → record { place = p; text = b ∷ u.text } ≡ t → IsSplit p (b ∷ bs) t
split_longer p b bs u t begins s is =
    let place = s.1 in
    let none : s.0 ≡ 0 = omega (arith, begins, place) in
    subst (IsSplit p (b ∷ bs)) is (
      0,
      let e : p ≡ p + 0 = omega arith in e,
      ap (λ xs. b ∷ xs) (subst (λ n. bs ≡ take n bs ++ (u.text ++ drop (n + length u.text) bs)) none s.2)
          ∙ ap (λ k. b ∷ (u.text ++ drop k (b ∷ bs))) (let k : suc (0 + length u.text) ≡ 0 + suc (length u.text) = omega arith in k),
    )

split_at : (p b : ℕ) (w e : Bool) (bs : List ℕ) (us ts : List Token) (t : Token)
    → ((u : Token) (vs : List Token) → us ≡ u ∷ vs → IsSplit (suc p) bs u)
    → (e ≡ false → (u : Token) (vs : List Token) → us ≡ u ∷ vs → u.place ≡ suc p)
    → cond w us (with_byte p b e us) ≡ t ∷ ts → IsSplit p (b ∷ bs) t
split_at p b true e bs us ts t later begins h = split_later p b bs t (later t ts h)
split_at p b false true bs us ts t later begins h = let is : alone p b ≡ t = cc in split_alone p b bs t is
split_at p b false false bs [] ts t later begins h = let is : alone p b ≡ t = cc in split_alone p b bs t is
split_at p b false false bs (u ∷ us) ts t later begins h =
    let longer : Token = record { place = p; text = b ∷ u.text } in
    let is : longer ≡ t = cc in split_longer p b bs u t (begins refl u us refl) (later u us refl) is

split : (p : ℕ) (bs : List ℕ) (t : Token) (ts : List Token) → tokens_from p bs ≡ t ∷ ts → IsSplit p bs t
unfolding tokens_from
split p [] t ts h = absurd cc
split p (b ∷ bs) t ts h =
    split_at p b (is_white b) (ends_token bs) bs (tokens_from (suc p) bs) ts t (λ u vs. split (suc p) bs u vs)
    (λ goes_on u vs. begins_there (suc p) bs goes_on u vs) h

-- the first token of a text from a place on
pub first_bytes : (text : List ℕ) (at : ℕ) (t : Token) → IsFirst text at t
    → drop at text ≡ (slice_range text at t.place ++ t.text) ++ drop (end_of t) text
first_bytes text at t first =
    let s = split at (drop at text) t (tokens_at text (end_of t)) first.next in
    let place = s.1 in
    let n : s.0 ≡ t.place - at = omega (arith, place) in
    let end : at + (s.0 + length t.text) ≡ end_of t = omega (arith, place) in
    s.2
    ∙ (ap (λ k. take k (drop at text) ++ (t.text ++ drop (s.0 + length t.text) (drop at text))) n
    ∙ (ap (λ xs. slice_range text at t.place ++ (t.text ++ xs)) (drop-drop (s.0 + length t.text) at text ∙ ap (λ k. drop k text) end)
    ∙ sym (append_assoc (slice_range text at t.place) t.text (drop (end_of t) text))))

-- ---- items

-- the bytes of a text from a place on are those of an item that stands there, and those behind it
pub bytes_stand : (text : List ℕ) (at end : ℕ) (x : Item) → Stands text at x end → drop at text ≡ bytes_of x ++ drop end text
bytes_stand text at end [] h = ap (λ k. drop k text) h
bytes_stand text at end (p ∷ ps) h =
    first_bytes text at h.0 h.1
    ∙ (ap (λ xs. (slice_range text at h.0.place ++ h.0.text) ++ xs) (bytes_stand text (end_of h.0) end ps h.3)
    ∙ (sym (append_assoc (slice_range text at h.0.place ++ h.0.text) (bytes_of ps) (drop end text))
    ∙ ap (λ (q : Piece). ((q.space ++ q.word) ++ bytes_of ps) ++ drop end text) (sym h.2)))

-- so are its words
pub words_stand : (text : List ℕ) (at end : ℕ) (x : Item) → Stands text at x end
    → words_of (tokens_at text at) ≡ words x ++ words_of (tokens_at text end)
words_stand text at end [] h = ap (λ k. words_of (tokens_at text k)) h
words_stand text at end (p ∷ ps) h =
    ap words_of h.1.next
    ∙ (ap (λ ws. h.0.text ∷ ws) (words_stand text (end_of h.0) end ps h.3)
    ∙ ap (λ (q : Piece). q.word ∷ (words ps ++ words_of (tokens_at text end))) (sym h.2))

-- a text is the items that stand in it up to its last token
pub spells_stand : (text : List ℕ) (xs : List Item) (end : ℕ) → Stands text 0 (pieces_of xs) end → tokens_at text end ≡ []
    → All IsItem xs → Spells xs (drop end text) text
spells_stand text xs end stands none each = record {
  bytes = bytes_stand text 0 end (pieces_of xs) stands;
  tokens_are =
      words_stand text 0 end (pieces_of xs) stands
      ∙ (ap (λ ts. words (pieces_of xs) ++ words_of ts) none ∙ append-nil (words (pieces_of xs)));
  each = each;
}
