-- What stands in the texts of an assertion that is written anew.
use Rattle.std.proofs.Common.{◌≡◌, ◌∙◌, ℕ, ◌≤◌, Bool, true, false, List, [], ◌∷◌, ◌++◌, length, codes, refl, sym, ap, subst, arith}
use Rattle.std.proofs.Common.{append-nil, inl, inr, Option}
use Rattle.std.specs.Prelude.{◌⊎◌, ◌||◌, IfSome, IsTrue}
use Rattle.std.specs.Bool.{then_some}
use Rattle.std.specs.Str.{bytes_eq}
use Rattle.std.proofs.Math.Seq.{drop-length}
use Rattle.std.proofs.lemmas.Grind.{flat_map-append}
use Rattle.std.proofs.lemmas.List.Elements.{All-nil, All-cons, All-append}
use Rattle.std.proofs.lemmas.List.Folds.{list_any-append}
use Rattle.mmtext.specs.Text.{Token, tokens_from}
use Rattle.mmtext.specs.Comments.{words_of}
use Rattle.items.specs.Items.{Item, words, pieces_of, label_of, IsItem, IsStatement, Spells}
use Rattle.items.specs.Reading.{tokens_at, IsFirst, end_of, Stands}
use Rattle.items.proofs.Standing.{stands_both, words_both}
use Rattle.items.proofs.Spelled.{spells_stand}
use Rattle.arranging.specs.declared.coming.Coming.{Coming}
use Rattle.arranging.specs.Lines.{is_in_lines}
use Rattle.arranging.specs.Groups.{gives_frame, IsOwnBlock, IsWritten}
use Rattle.arranging.specs.Written.{AreBetween, opens_comment, IsPlain, IsFrame, IsOpened, IsFront, IsEnd, IsClosed, IsBack}
use Rattle.arranging.proofs.FirstWords.{same_first}

abbrev InLines : Item → Type 0
InLines x = IsTrue (is_in_lines 79 x)

-- ---- comments

-- none begins with a token
pub opens_later : (text : List ℕ) (at : ℕ) (t : Token) (ts : List Token) → tokens_at text at ≡ t ∷ ts
    → bytes_eq t.text (codes "$(") ≡ false → opens_comment (words_of ts) ≡ opens_comment (words_of (tokens_at text at))
opens_later text at t ts is other =
    sym (ap (λ us. opens_comment (words_of us)) is ∙ ap (λ b. b || opens_comment (words_of ts)) other)

-- ---- the first two words of an item

pub gives_here : (text : List ℕ) (from end : ℕ) (x : Item) (t u : Token) → Stands text from x end → IsFirst text from t
    → IsFirst text (end_of t) u → end_of u ≤ end → (bytes_eq t.text (codes "$d") || bytes_eq u.text (codes "$e")) ≡ true
    → gives_frame (words x) ≡ true
gives_here text from end [] t u h first second within gives =
    let l = first.later in let m = second.later in absurd (omega (arith, h, l, m, within))
gives_here text from end (p ∷ []) t u h first second within gives =
    let is = same_first text from h.0 h.1 t _ first.next in
    let ends : end_of t ≡ end = ap end_of (sym is) ∙ h.3 in
    let m = second.later in absurd (omega (arith, ends, m, within))
gives_here text from end (p ∷ q ∷ ps) t u h first second within gives =
    let is = same_first text from h.0 h.1 t _ first.next in
    let then = same_first text (end_of h.0) h.3.0 h.3.1 u _ (ap (λ v. tokens_at text (end_of v)) is ∙ second.next) in
    let one : p.word ≡ t.text = ap (λ r. r.word) h.2 ∙ ap (λ v. v.text) is in
    let two : q.word ≡ u.text = ap (λ r. r.word) h.3.2 ∙ ap (λ v. v.text) then in
    ap (λ w. bytes_eq w (codes "$d") || bytes_eq q.word (codes "$e")) one
    ∙ (ap (λ w. bytes_eq t.text (codes "$d") || bytes_eq w (codes "$e")) two ∙ gives)

-- ---- items, one behind the other

module _ (text : List ℕ) where
  pub none_between : (at : ℕ) → AreBetween text at [] at
  none_between at = record { stand = refl; each = All-nil IsItem }

  pub one_between : (at end : ℕ) (x : Item) → Stands text at x end → IsItem x → AreBetween text at (x ∷ []) end
  one_between at end x stands is = record {
    stand = subst (λ y. Stands text at y end) (sym (append-nil x)) stands;
    each = All-cons IsItem x [] is (All-nil IsItem);
  }

  pub both_between : (from mid end : ℕ) (xs ys : List Item) → AreBetween text from xs mid → AreBetween text mid ys end
      → AreBetween text from (xs ++ ys) end
  both_between from mid end xs ys h k = record {
    stand =
        subst (λ y. Stands text from y end) (sym (flat_map-append (λ x. x) xs ys))
        (stands_both text from mid end (pieces_of xs) (pieces_of ys) h.stand k.stand);
    each = All-append IsItem xs ys h.each k.each;
  }

  -- a whole text
  none_at_end : tokens_at text (length text) ≡ []
  unfolding tokens_from
  none_at_end = ap (tokens_from (length text)) (drop-length text)

  spells_all : (xs : List Item) → AreBetween text 0 xs (length text) → Spells xs [] text
  spells_all xs h =
      subst (λ rest. Spells xs rest text) (drop-length text)
      (spells_stand text xs (length text) h.stand none_at_end h.each)

-- ---- the text in front

pub front_opens : (text : List ℕ) (end : ℕ) (x : Item) (is_frame : Bool) (r : Option Bool) → r ≡ then_some is_frame true
    → Stands text 0 x end → words x ≡ codes "${" ∷ [] → IsTrue (is_in_lines 79 x) → (IsTrue is_frame → IsFrame text end)
    → IfSome r (IsFront text)
front_opens text end x false r e stands opens laid frame = subst (λ o. IfSome o (IsFront text)) (sym e) tt
front_opens text end x true r e stands opens laid frame =
    let f = frame refl in
    subst (λ o. IfSome o (IsFront text)) (sym e) (record {
      opening = x ∷ f.frame;
      are =
          both_between text 0 end (length text) (x ∷ []) f.frame (one_between text 0 end x stands (inr (inl (inl opens)))) f.are;
      opened = (x, f.frame, refl, opens, f.each);
      laid_out = All-cons InLines x f.frame laid f.laid_out;
    })

-- ---- the text behind

module _ (text label : List ℕ) (end : ℕ) (x : Item) (stands : Stands text 0 x end) (is : IsStatement x)
    (has : label_of x ≡ label ∷ []) (laid : IsTrue (is_in_lines 79 x)) where
  pub back_alone : end ≡ length text → IsBack text false
  back_alone all = record {
    assertion = x;
    closing = [];
    are = subst (AreBetween text 0 (x ∷ [])) all (one_between text 0 end x stands (inr (inr is)));
    label = label;
    asserts = has;
    closed = refl;
    laid_out = All-cons InLines x [] laid (All-nil InLines);
  }

  pub back_closes : IsEnd text end → IsBack text true
  back_closes h = record {
    assertion = x;
    closing = h.0 ∷ [];
    are =
        both_between text 0 end (length text) (x ∷ []) (h.0 ∷ []) (one_between text 0 end x stands (inr (inr is)))
        (one_between text end (length text) h.0 h.1 (inr (inl (inr h.2))));
    label = label;
    asserts = has;
    closed = (h.0, refl, h.2);
    laid_out = All-cons InLines x (h.0 ∷ []) laid (All-cons InLines h.0 [] h.3 (All-nil InLines));
  }

-- ---- both texts

block_of : (opened : Bool) (opening closing : List Item) → IsOpened opened opening → IsClosed opened closing
    → ((opening ≡ []) × (closing ≡ [])) ⊎ IsOwnBlock opening closing
block_of false opening closing opens closes = inl (opens, closes)
block_of true opening closing opens closes = inr (record {
  first = opens.0;
  frame = opens.1;
  whole = opens.2;
  opens = opens.3;
  each = opens.4;
  last = closes.0;
  end = closes.1;
  closes = closes.2;
})

pub written : (c : Coming) (lines : List ℕ) (opened : Bool) → c.front.now ≡ 10 ∷ lines → IsPlain lines → IsPlain c.back.now
    → IsFront lines opened → IsBack c.back.now opened → IsWritten c
written c lines opened begins plain_front plain_back f b =
    let now = b.assertion ∷ b.closing in
    let front = spells_all lines f.opening f.are in
    let back = spells_all c.back.now now b.are in record {
      lines = lines;
      begins = begins;
      opening = f.opening;
      front = front;
      assertion = b.assertion;
      closing = b.closing;
      back = back;
      label = b.label;
      asserts = b.asserts;
      block = block_of opened f.opening b.closing f.opened b.closed;
      plain =
          ap (λ ps. opens_comment (words ps)) (flat_map-append (λ x. x) f.opening now)
          ∙ (ap opens_comment (words_both (pieces_of f.opening) (pieces_of now))
          ∙ (list_any-append (λ w. bytes_eq w (codes "$(")) (words (pieces_of f.opening)) (words (pieces_of now))
          ∙ (ap (λ a. a || opens_comment (words (pieces_of now))) (ap opens_comment (sym front.tokens_are) ∙ plain_front)
          ∙ (ap opens_comment (sym back.tokens_are) ∙ plain_back))));
      laid_out = All-append InLines f.opening now f.laid_out b.laid_out;
    }
