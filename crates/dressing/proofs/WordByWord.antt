-- An item that was put word by word reads as it is dressed.
use Rattle.std.proofs.Common.{◌≡◌, ◌≢◌, ◌∙◌, ℕ, Bool, true, false, cond, List, [], ◌∷◌, ◌++◌, Option, Some, None, codes, refl, sym, ap, subst, inl, inr}
use Rattle.std.proofs.Common.{append_assoc, append-nil}
use Rattle.std.specs.Prelude.{◌⊎◌, ◌||◌}
use Rattle.std.specs.List.{list_any}
use Rattle.std.specs.Str.{bytes_eq}
use Rattle.std.proofs.lemmas.Bool.{cases_Bool}
use Rattle.std.proofs.lemmas.List.{same_from_push}
use Rattle.std.proofs.lemmas.List.Folds.{list_any-append}
use mathlib.Core.Bool.{not}
use Rattle.mmtext.specs.Words.{Word}
use Rattle.mmtext.proofs.Marks.{same_word}
use Rattle.giving.specs.Staying.{Change, changed}
use Rattle.items.specs.Items.{Piece, Item, bytes_of, words, outside, is_open_behind, IsStatement}
use Rattle.items.proofs.Standing.{words_both}
use Rattle.dressing.specs.Described.{space_with, with_comment}
use Rattle.dressing.specs.Dressed.{HasText, Reads}
use Rattle.dressing.specs.Putting.{ended_by, opens_behind, proof_behind, put_from, word_then}
use Rattle.dressing.specs.Relabelled.{relabelled}

-- no comment is put in front
pub no_comment : (x : Item) → with_comment None x ≡ x
no_comment [] = refl
no_comment (p ∷ ps) = refl

-- ---- one word more

-- it is read
by_mark : (c : Option (List ℕ)) (cs : List Change) (b : Bool) (p : Piece) (ps : Item)
    → bytes_of (with_comment c (cond b (p ∷ relabelled cs true ps) (record p { word = changed cs p.word } ∷ relabelled cs false ps)))
    ≡ (space_with c p.space ++ cond b p.word (changed cs p.word)) ++ bytes_of (relabelled cs b ps)
by_mark c cs true p ps = refl
by_mark c cs false p ps = refl

reads_word : (c : Option (List ℕ)) (cs : List Change) (is_open : Bool) (p : Piece) (ps : Item)
    → bytes_of (with_comment c (relabelled cs is_open (p ∷ ps)))
    ≡ (space_with c p.space ++ word_then cs is_open p.word) ++ bytes_of (relabelled cs (opens_behind is_open p.word) ps)
reads_word c cs true p ps = refl
reads_word c cs false p ps = by_mark c cs (bytes_eq p.word (codes "$(")) p ps

-- it is put
module _ (cs : List Change) (proof c : Option (List ℕ)) (out : List ℕ) (is_open : Bool) (p : Piece) (ps : Item) where
  abbrev pub so_far : List ℕ
  so_far = (out ++ space_with c p.space) ++ word_then cs is_open p.word

  behind : (bytes : List ℕ) → out ++ (space_with c p.space ++ (word_then cs is_open p.word ++ bytes)) ≡ so_far ++ bytes
  behind bytes =
      sym (append_assoc out (space_with c p.space) (word_then cs is_open p.word ++ bytes))
      ∙ sym (append_assoc (out ++ space_with c p.space) (word_then cs is_open p.word) bytes)

  -- and what is left follows
  pub word_put : None ≡ proof_behind proof is_open p.word
      → out ++ put_from cs proof is_open (with_comment c (p ∷ ps))
      ≡ so_far ++ put_from cs proof (opens_behind is_open p.word) (with_comment None ps)
  word_put none =
      let rest = put_from cs proof (opens_behind is_open p.word) ps in
      ap (λ o. out ++ (space_with c p.space ++ (word_then cs is_open p.word ++ ended_by o rest))) (sym none)
      ∙ behind rest
      ∙ ap (λ y. so_far ++ put_from cs proof (opens_behind is_open p.word) y) (sym (no_comment ps))

  -- or a proof, with which the item ends
  pub proof_put : (text : List ℕ) → Some text ≡ proof_behind proof is_open p.word
      → so_far ++ (text ++ codes "$.") ≡ out ++ put_from cs proof is_open (with_comment c (p ∷ ps))
  proof_put text some =
      let rest = put_from cs proof (opens_behind is_open p.word) ps in
      sym (behind (text ++ codes "$."))
      ∙ ap (λ o. out ++ (space_with c p.space ++ (word_then cs is_open p.word ++ ended_by o rest))) some

-- ---- no proof is given

abbrev nothing : Option (List ℕ)
nothing = None

none_if : (b : Bool) → nothing ≡ cond b nothing nothing
none_if true = refl
none_if false = refl

none_behind : (is_open : Bool) (w : Word) → None ≡ proof_behind None is_open w
none_behind true w = refl
none_behind false w = none_if (bytes_eq w (codes "$="))

pub all_put : (cs : List Change) (c : Option (List ℕ)) (is_open : Bool) (x : Item)
    → put_from cs None is_open (with_comment c x) ≡ bytes_of (with_comment c (relabelled cs is_open x))
all_put cs c is_open [] = refl
all_put cs c is_open (p ∷ ps) =
    let goes = opens_behind is_open p.word in
    word_put cs None c [] is_open p ps (none_behind is_open p.word)
    ∙ ap (λ bs. so_far cs None c [] is_open p ps ++ bs) (all_put cs None goes ps ∙ ap bytes_of (no_comment (relabelled cs goes ps)))
    ∙ sym (reads_word c cs is_open p ps)

-- ---- one is given

abbrev is_proof : Word → Bool
is_proof w = bytes_eq w (codes "$=")

module _ (cs : List Change) (text : List ℕ) where
  -- up to a $= the item is put
  record HasFront (c : Option (List ℕ)) (is_open : Bool) (x : Item) : Type 0 where
    front : Item
    rest : Item
    was : x ≡ front ++ rest
    says : List Word
    whole : outside is_open (words front) ≡ says ++ codes "$=" ∷ []
    first : list_any is_proof says ≡ false
    closed : is_open_behind is_open (words front) ≡ false
    before : Item
    last : Piece
    ends : front ≡ before ++ last ∷ []
    last_is : last.word ≡ codes "$="
    reads : put_from cs (Some text) is_open (with_comment c x)
        ≡ bytes_of (with_comment c (relabelled cs is_open front)) ++ (text ++ codes "$.")

  -- or all of it, in which no $= stands
  record HasNoFront (c : Option (List ℕ)) (is_open : Bool) (x : Item) : Type 0 where
    none : list_any is_proof (outside is_open (words x)) ≡ false
    reads : put_from cs (Some text) is_open (with_comment c x) ≡ bytes_of (with_comment c (relabelled cs is_open x))

  abbrev IsCut : Option (List ℕ) → Bool → Item → Type 0
  IsCut c is_open x = HasFront c is_open x ⊎ HasNoFront c is_open x

  -- behind a word of which no proof stands
  module _ (c : Option (List ℕ)) (is_open : Bool) (p : Piece) (ps : Item) (said : List Word)
      (says_so : (ws : List Word) → outside is_open (p.word ∷ ws) ≡ said ++ outside (opens_behind is_open p.word) ws)
      (not_here : list_any is_proof said ≡ false)
      (goes : (ws : List Word) → is_open_behind is_open (p.word ∷ ws) ≡ is_open_behind (opens_behind is_open p.word) ws)
      (none : None ≡ proof_behind (Some text) is_open p.word) where
    abbrev now : Bool
    now = opens_behind is_open p.word

    abbrev first_bytes : List ℕ
    first_bytes = space_with c p.space ++ word_then cs is_open p.word

    unsaid : (ws : List Word) → list_any is_proof ws ≡ false → list_any is_proof (said ++ ws) ≡ false
    unsaid ws h = list_any-append is_proof said ws ∙ ap (λ b. b || list_any is_proof ws) not_here ∙ h

    later : IsCut None now ps → IsCut c is_open (p ∷ ps)
    later (inl f) = inl (record {
      front = p ∷ f.front;
      rest = f.rest;
      was = ap (λ y. p ∷ y) f.was;
      says = said ++ f.says;
      whole = says_so (words f.front) ∙ ap (λ ws. said ++ ws) f.whole ∙ sym (append_assoc said f.says (codes "$=" ∷ []));
      first = unsaid f.says f.first;
      closed = goes (words f.front) ∙ f.closed;
      before = p ∷ f.before;
      last = f.last;
      ends = ap (λ y. p ∷ y) f.ends;
      last_is = f.last_is;
      reads =
          word_put cs (Some text) c [] is_open p ps none
          ∙ ap (λ bs. first_bytes ++ bs) f.reads
          ∙ sym (append_assoc first_bytes (bytes_of (with_comment None (relabelled cs now f.front))) (text ++ codes "$."))
          ∙ ap (λ bs. bs ++ (text ++ codes "$."))
          (ap (λ y. first_bytes ++ bytes_of y) (no_comment (relabelled cs now f.front)) ∙ sym (reads_word c cs is_open p f.front));
    })
    later (inr n) = inr (record {
      none = ap (list_any is_proof) (says_so (words ps)) ∙ unsaid (outside now (words ps)) n.none;
      reads =
          word_put cs (Some text) c [] is_open p ps none
          ∙ ap (λ bs. first_bytes ++ bs) n.reads
          ∙ ap (λ y. first_bytes ++ bytes_of y) (no_comment (relabelled cs now ps))
          ∙ sym (reads_word c cs is_open p ps);
    })

  -- a $= outside of comments
  here : (c : Option (List ℕ)) (p : Piece) (ps : Item) → bytes_eq p.word (codes "$(") ≡ false → bytes_eq p.word (codes "$=") ≡ true
      → HasFront c false (p ∷ ps)
  here c p ps opens is =
      let bytes = space_with c p.space ++ word_then cs false p.word in
      record {
        front = p ∷ [];
        rest = ps;
        was = refl;
        says = [];
        whole = ap (λ b. cond b [] (p.word ∷ [])) opens ∙ ap (λ w. w ∷ []) (same_word p.word (codes "$=") is);
        first = refl;
        closed = opens;
        before = [];
        last = p;
        ends = refl;
        last_is = same_word p.word (codes "$=") is;
        reads =
            sym (proof_put cs (Some text) c [] false p ps text (sym (ap (λ b. cond b (Some text) None) is)))
            ∙ ap (λ bs. bs ++ (text ++ codes "$.")) (sym (append-nil bytes) ∙ sym (reads_word c cs false p []));
      }

  opening_is : (w : Word) → bytes_eq w (codes "$(") ≡ true → bytes_eq w (codes "$=") ≡ false
  opening_is w is = subst (λ v. bytes_eq v (codes "$=") ≡ false) (sym (same_word w (codes "$(") is)) refl

  cut : (c : Option (List ℕ)) (is_open : Bool) (x : Item) → IsCut c is_open x
  cut c is_open [] = inr (record { none = refl; reads = refl })
  cut c true (p ∷ ps) =
      later c true p ps [] (λ ws. refl) refl (λ ws. refl) refl (cut None (not (bytes_eq p.word (codes "$)"))) ps)
  cut c false (p ∷ ps) =
      let next = cut None (bytes_eq p.word (codes "$(")) ps in
      elim (cases_Bool (bytes_eq p.word (codes "$("))) [
        | inl y ↦
            later c false p ps []
            (λ ws. ap (λ b. cond b (outside true ws) (p.word ∷ outside false ws)) y ∙ ap (λ b. outside b ws) (sym y)) refl (λ ws. refl)
            (sym (ap (λ b. cond b (Some text) None) (opening_is p.word y))) next
        | inr n ↦ elim (cases_Bool (bytes_eq p.word (codes "$="))) [
          | inl y ↦ inl (here c p ps n y)
          | inr m ↦
              later c false p ps (p.word ∷ [])
              (λ ws. ap (λ b. cond b (outside true ws) (p.word ∷ outside false ws)) n ∙ ap (λ b. p.word ∷ outside b ws) (sym n))
              (ap (λ b. b || false) m) (λ ws. refl) (sym (ap (λ b. cond b (Some text) None) m)) next
        ]
      ]

  -- ---- a statement

  -- it ends with $., which isn't the $= in front of its proof
  some_left : (x : Item) → IsStatement x → (c : Option (List ℕ)) (f : HasFront c false x) → f.rest ≢ []
  some_left x is c f none =
      let all : words x ≡ words f.before ++ f.last.word ∷ [] =
      ap words (f.was ∙ ap (λ r. f.front ++ r) none ∙ append-nil f.front ∙ f.ends) ∙ words_both f.before (f.last ∷ []) in
      let same = same_from_push (words f.before) is.front f.last.word (codes "$.") (sym all ∙ is.whole) in
      let other : codes "$=" ≡ codes "$." = sym f.last_is ∙ same.1 in cc

  last_piece : (p : Piece) (ps : Item) → (proof : Item) × (last : Piece) × (p ∷ ps ≡ proof ++ last ∷ [])
  last_piece p [] = ([], p, refl)
  last_piece p (q ∷ ps) = let l = last_piece q ps in (p ∷ l.0, l.1, ap (λ y. p ∷ y) l.2)

  some_last : (rest : Item) → rest ≢ [] → (proof : Item) × (last : Piece) × (rest ≡ proof ++ last ∷ [])
  some_last [] some = absurd (some refl)
  some_last (p ∷ ps) some = last_piece p ps

  fronted : (c : Option (List ℕ)) (x : Item) → IsStatement x → HasFront c false x
      → HasText cs c text x (put_from cs (Some text) false (with_comment c x))
  fronted c x is f =
      let l = some_last f.rest (some_left x is c f) in
      let all : words x ≡ (words f.front ++ words l.0) ++ l.1.word ∷ [] =
      ap words (f.was ∙ ap (λ r. f.front ++ r) l.2 ∙ sym (append_assoc f.front l.0 (l.1 ∷ [])))
      ∙ words_both (f.front ++ l.0) (l.1 ∷ []) ∙ ap (λ ws. ws ++ l.1.word ∷ []) (words_both f.front l.0) in
      record {
        front = f.front;
        proof = l.0;
        last = l.1;
        was = f.was ∙ ap (λ r. f.front ++ r) l.2;
        front_is = record { says = f.says; whole = f.whole; first = f.first; closed = f.closed };
        last_is = (same_from_push (words f.front ++ words l.0) is.front l.1.word (codes "$.") (sym all ∙ is.whole)).1;
        reads = f.reads;
      }

  pub statement_put : (c : Option (List ℕ)) (x : Item) → IsStatement x
      → Reads cs c (Some text) x (put_from cs (Some text) false (with_comment c x))
  statement_put c x is = elim (cut c false x) [
    | inl f ↦ inl (fronted c x is f)
    | inr n ↦ inr (n.none, n.reads)
  ]
