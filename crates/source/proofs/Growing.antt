-- What stays behind statements: constants and labels, of closed blocks too, and the active hypotheses of a scope while it is open.
use Rattle.std.proofs.Common.{◌≡◌, true, List, [], ◌∷◌, ◌++◌, IsTrue, refl, sym, ap, ◌∙◌, append_assoc, append-nil}
use Rattle.std.specs.Prelude.{Bool}
use Rattle.std.specs.List.{list_any}
use Rattle.std.specs.Str.{bytes_eq}
use Rattle.std.proofs.lemmas.Bool.{or_left, or_right}
use Rattle.std.proofs.lemmas.List.Folds.{list_any-append}
use Rattle.mmtext.specs.Words.{Word}
use Rattle.source.specs.Statements.{Statement, constants, variables, float, hypothesis, distinct, asserted, proved, block}
use Rattle.source.specs.Statements.{Statements, none, some}
use Rattle.source.specs.Scopes.{Hypothesis, typing, premise, Scope, is_in, enter, behind, behind_all}

-- ---- lists

pub any_in_front : {A : Type 0} (p : A → Bool) (xs ys : List A) → list_any p xs ≡ true → list_any p (xs ++ ys) ≡ true
any_in_front p xs ys h = list_any-append p xs ys ∙ or_left (list_any p xs) (list_any p ys) h

pub any_behind : {A : Type 0} (p : A → Bool) (xs ys : List A) → list_any p ys ≡ true → list_any p (xs ++ ys) ≡ true
any_behind p xs ys h = list_any-append p xs ys ∙ or_right (list_any p xs) (list_any p ys) h

-- ---- constants and labels

pub record Grows (s t : Scope) : Type 0 where
  pub constants : (w : Word) → IsTrue (is_in s.constants w) → IsTrue (is_in t.constants w)
  pub labels : (w : Word) → IsTrue (is_in s.labels w) → IsTrue (is_in t.labels w)

-- one more label, and the same constants
pub one_label : (s t : Scope) (label : Word) → t.constants ≡ s.constants → t.labels ≡ s.labels ++ label ∷ [] → Grows s t
one_label s t label same more = record {
  constants = λ w h. ap (λ ws. is_in ws w) same ∙ h;
  labels = λ w h. ap (λ ws. is_in ws w) more ∙ any_in_front (bytes_eq w) s.labels (label ∷ []) h;
}

mutual
  pub grows : (s : Scope) (x : Statement) → Grows s (behind s x)
  grows s (constants ws) = record { constants = λ w h. any_in_front (bytes_eq w) s.constants ws h; labels = λ w h. h }
  grows s (variables ws) = record { constants = λ w h. h; labels = λ w h. h }
  grows s (float label c v) = one_label s (behind s (float label c v)) label refl refl
  grows s (hypothesis label ws) = one_label s (behind s (hypothesis label ws)) label refl refl
  grows s (distinct ws) = record { constants = λ w h. h; labels = λ w h. h }
  grows s (asserted label ws) = one_label s (behind s (asserted label ws)) label refl refl
  grows s (proved label ws proof) = one_label s (behind s (proved label ws proof)) label refl refl
  grows s (block ss) =
      let inner = all_grow (enter s) ss in
      record { constants = inner.constants; labels = inner.labels }

  pub all_grow : (s : Scope) (ss : Statements) → Grows s (behind_all s ss)
  all_grow s none = record { constants = λ w h. h; labels = λ w h. h }
  all_grow s (some x xs) =
      let first = grows s x in
      let rest = all_grow (behind s x) xs in
      record { constants = λ w h. rest.constants w (first.constants w h); labels = λ w h. rest.labels w (first.labels w h) }

-- ---- active hypotheses

-- those of a scope, and more
abbrev pub Extends : List Hypothesis → List Hypothesis → Type 0
Extends hs ks = (more : List Hypothesis) × (ks ≡ hs ++ more)

pub extends : (s : Scope) (x : Statement) → Extends s.hypotheses (behind s x).hypotheses
extends s (constants ws) = ([], sym (append-nil s.hypotheses))
extends s (variables ws) = ([], sym (append-nil s.hypotheses))
extends s (float label c v) = (typing label c v ∷ [], refl)
extends s (hypothesis label ws) = (premise label ws ∷ [], refl)
extends s (distinct ws) = ([], sym (append-nil s.hypotheses))
extends s (asserted label ws) = ([], sym (append-nil s.hypotheses))
extends s (proved label ws proof) = ([], sym (append-nil s.hypotheses))
extends s (block ss) = ([], sym (append-nil s.hypotheses))

pub all_extend : (s : Scope) (ss : Statements) → Extends s.hypotheses (behind_all s ss).hypotheses
all_extend s none = ([], sym (append-nil s.hypotheses))
all_extend s (some x xs) =
    let first = extends s x in
    let rest = all_extend (behind s x) xs in
    (first.0 ++ rest.0, rest.1 ∙ ap (λ hs. hs ++ rest.0) first.1 ∙ append_assoc s.hypotheses first.0 rest.0)
