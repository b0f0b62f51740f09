-- What is known of the inside of a block behind one more token outside of comments.
use Rattle.std.proofs.Common.{◌≡◌, ◌≢◌, ◌∙◌, ℕ, Bool, true, false, cond, List, [], ◌∷◌, ◌++◌, Option, Some, None, refl, sym, ap, subst}
use Rattle.std.specs.Prelude.{◌||◌, All, IsTrue}
use Rattle.std.specs.Borrow.{Bor}
use Rattle.std.proofs.lemmas.List.{append_assoc}
use Rattle.std.proofs.lemmas.List.Elements.{All-nil, All-cons, All-append}
use Rattle.mmtext.specs.Words.{Word}
use Rattle.mmtext.specs.Text.{Token}
use Rattle.source.specs.Scopes.{is_in}
use Rattle.comments.specs.declared.inside.Inside.{Inside}
use Rattle.comments.specs.Deleted.{asserts, open_behind, asserted}
use Rattle.comments.specs.Insides.{IsGoneLabel, IsLast, LeadsInside}

abbrev IsGone : List Word → Word → Type 0
IsGone gone w = IsTrue (is_in gone w)

-- the labels that are asserted by a token behind the last one
record AssertsNow (gone : List Word) (last : List Token) (t : Token) (is_mark : Bool) : Type 0 where
  labels : List Word
  more : (ts : List Token) → asserted (last ++ t ∷ ts) ≡ labels ++ asserted (t ∷ ts)
  each : All (IsGone gone) labels
  some : is_mark ≡ true → labels ≢ []

behind_label : (l t : Token) (ts : List Token) (b : Bool) → asserts t.text ≡ b
    → asserted (l ∷ t ∷ ts) ≡ cond b (l.text ∷ []) [] ++ asserted (t ∷ ts)
behind_label l t ts true is = ap (λ b. cond b (l.text ∷ asserted (t ∷ ts)) (asserted (t ∷ ts))) is
behind_label l t ts false is = ap (λ b. cond b (l.text ∷ asserted (t ∷ ts)) (asserted (t ∷ ts))) is

asserts_now : (gone : List Word) (o : Option (Bor (List ℕ))) (last : List Token) (t : Token) (b : Bool) → IsLast o last → asserts t.text ≡ b
    → (b ≡ true → IsGoneLabel gone o) → AssertsNow gone last t b
asserts_now gone None last t true is mark g = absurd (g refl)
asserts_now gone None last t false is mark g = record {
  labels = [];
  more = λ ts. ap (λ ls. asserted (ls ++ t ∷ ts)) is;
  each = All-nil (IsGone gone);
  some = λ e. absurd cc;
}
asserts_now gone (Some w) last t false is mark g = record {
  labels = [];
  more = λ ts. ap (λ ls. asserted (ls ++ t ∷ ts)) is.1 ∙ behind_label is.0 t ts false mark;
  each = All-nil (IsGone gone);
  some = λ e. absurd cc;
}
asserts_now gone (Some w) last t true is mark g = record {
  labels = is.0.text ∷ [];
  more = λ ts. ap (λ ls. asserted (ls ++ t ∷ ts)) is.1 ∙ behind_label is.0 t ts true mark;
  each = All-cons (IsGone gone) is.0.text [] (subst (IsGone gone) (sym is.2) (g refl)) (All-nil (IsGone gone));
  some = λ e. λ none. absurd cc;
}

-- nothing is asserted by the last token alone
pub last_asserts_none : (o : Option (Bor (List ℕ))) (last : List Token) → IsLast o last → asserted (last ++ []) ≡ []
last_asserts_none None last is = ap (λ ls. asserted (ls ++ [])) is
last_asserts_none (Some w) last is = ap (λ ls. asserted (ls ++ [])) is.1

none_left : (xs ys : List Word) → xs ++ ys ≡ [] → xs ≡ []
none_left [] ys e = refl
none_left (x ∷ xs) ys e = absurd cc

none_right : (xs ys : List Word) → xs ++ ys ≡ [] → ys ≡ []
none_right [] ys e = e
none_right (x ∷ xs) ys e = absurd cc

some_of : (found is_mark : Bool) (xs ys : List Word) → (IsTrue found → xs ≢ []) → (is_mark ≡ true → ys ≢ []) → IsTrue (found || is_mark)
    → xs ++ ys ≢ []
some_of true is_mark xs ys f m h = λ e. f refl (none_left xs ys e)
some_of false true xs ys f m h = λ e. m refl (none_right xs ys e)
some_of false false xs ys f m h = absurd cc

pub leads_inside : (gone : List Word) (old new : Inside) (w : Bor (List ℕ)) (is_mark : Bool)
    → ((t : Token) (ts : List Token) → t.text ≡ w.now → open_behind old.depth (t ∷ ts) ≡ open_behind new.depth ts)
    → is_mark ≡ asserts w.now → (is_mark ≡ true → IsGoneLabel gone old.last) → new.last ≡ Some w → new.found ≡ (old.found || is_mark)
    → LeadsInside gone old w.now new
leads_inside gone old new w is_mark depth marks goes last is so_far t same h =
    let now = asserts_now gone old.last h.last t is_mark h.is_last (ap asserts same ∙ sym marks) goes in record {
      depth = λ ts. ap (open_behind 0) (append_assoc so_far (t ∷ []) ts) ∙ h.depth (t ∷ ts) ∙ depth t ts same;
      last = t ∷ [];
      is_last = subst (λ o. IsLast o (t ∷ [])) (sym last) (t, refl, same);
      labels = h.labels ++ now.labels;
      found = λ ts.
          ap asserted (append_assoc so_far (t ∷ []) ts)
          ∙ h.found (t ∷ ts)
          ∙ ap (λ ws. h.labels ++ ws) (now.more ts)
          ∙ sym (append_assoc h.labels now.labels (asserted (t ∷ ts)));
      each = All-append (IsGone gone) h.labels now.labels h.each now.each;
      some = λ yes. some_of old.found is_mark h.labels now.labels h.some now.some (sym is ∙ yes);
    }
