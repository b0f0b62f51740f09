-- What is noted after one more word, hypothesis or assertion.
use Rattle.std.proofs.Common.{◌≡◌, ◌∙◌, ℕ, ◌+◌, ◌<◌, Bool, true, false, cond, List, [], ◌∷◌, ◌++◌, length, take, get_or, Option, Some, None}
use Rattle.std.proofs.Common.{refl, sym, ap, subst, inl, inr}
use Rattle.std.specs.Prelude.{◌||◌, map}
use Rattle.std.specs.Option.{option_map}
use Rattle.std.specs.List.{list_any, flat_map, slice_get}
use Rattle.std.specs.Str.{bytes_eq}
use Rattle.std.specs.Borrow.{Bor}
use Rattle.std.specs.HashMap as hash
use Rattle.std.specs.HashMap.{HashMap}
use Rattle.std.specs.Map.{lookup, IsKeyTest, AreApart, KeepsOthers}
use Rattle.std.specs.declared.random_state.RandomState.{RandomState}
use Rattle.std.proofs.lemmas.Bool.{cases_Bool, cond-true, cond-false}
use Rattle.std.proofs.lemmas.Cmp.{nat_list_eq_equiv}
use Rattle.std.proofs.lemmas.List.{flat_map_more}
use Rattle.std.proofs.lemmas.List.Folds.{list_any-append}
use Rattle.std.proofs.lemmas.Map.Text.{hash_map_updates_str}
use Rattle.mmtext.specs.Words.{Word}
use Rattle.mmsyntax.proofs.Names.{bytes_eq-sym, same_bytes}
use Rattle.source.specs.Scopes.{Hypothesis, typing, premise, Assertion, is_in}
use Rattle.taking.specs.Names.{is_symbol_of, is_symbol_of_hypothesis}
use Rattle.sites.specs.Indexes.{looks_up}
use Rattle.sites.specs.declared.used.Used.{Used}
use Rattle.source.specs.Views.{has}
use Rattle.sites.specs.Used.{noted, typed_by, typed, Uses}

-- ---- tests

or_three : (a b c : Bool) → (a || (b || (c || false))) ≡ ((a || b) || c)
or_three true b c = refl
or_three false true c = refl
or_three false false true = refl
or_three false false false = refl

-- one more item is tested
pub any_more : {A : Type 0} (test : A → Bool) (b : Bool) (xs : List A) (x : A)
    → (b || list_any test (xs ++ x ∷ [])) ≡ ((b || list_any test xs) || test x)
any_more test b xs x = ap (λ t. b || t) (list_any-append test xs (x ∷ [])) ∙ or_three b (list_any test xs) (test x)

-- ---- what is noted for a label

mapped : {A B : Type 0} (f : A → B) (b : Bool) (p : A) (o : Option A)
    → option_map f (cond b (Some p) o) ≡ cond b (Some (f p)) (option_map f o)
mapped f true p o = refl
mapped f false p o = refl

pub noted_more : {X Y : Type 0} (f : X → Y) (m n : HashMap (Bor (List ℕ)) X RandomState) (label : Word) (p : X)
    → hash.UpdatesBy (λ x y. bytes_eq x.now y.now) (λ k. bytes_eq label k.now) m n (Some p)
    → (w : Word) → option_map f (looks_up n w) ≡ cond (bytes_eq w label) (Some (f p)) (option_map f (looks_up m w))
noted_more f m n label p h w =
    ap (option_map f) (h.0 (record { ref_ptr = (0, 0); now = w }))
    ∙ mapped f (bytes_eq label w) p (looks_up m w)
    ∙ ap (λ b. cond b (Some (f p)) (option_map f (looks_up m w))) (bytes_eq-sym label w)

pub typed_more : (w : Word) (o : Option (Word × Word)) (hs : List Hypothesis) (h : Hypothesis)
    → typed w o (hs ++ h ∷ []) ≡ typed_by w (typed w o hs) h
typed_more w o [] h = refl
typed_more w o (k ∷ hs) h = typed_more w (typed_by w o k) hs h

pub typed_append : (w : Word) (o : Option (Word × Word)) (hs ks : List Hypothesis)
    → typed w o (hs ++ ks) ≡ typed w (typed w o hs) ks
typed_append w o [] ks = refl
typed_append w o (h ∷ hs) ks = typed_append w (typed_by w o h) hs ks

-- ---- what assertions use

-- one more assertion
pub uses_more : (old new : Used) (xs : List Assertion) (x : Assertion) → Uses old xs
    → ((w : Word) → has new.symbols w ≡ (has old.symbols w || is_symbol_of w x))
    → ((w : Word) → noted new w ≡ typed w (noted old w) x.active) → Uses new (xs ++ x ∷ [])
uses_more old new xs x so symbols floats = record {
  used_symbols = λ w.
      symbols w
      ∙ ap (λ b. b || is_symbol_of w x) (so.used_symbols w)
      ∙ sym (any_more (is_symbol_of w) false xs x);
  used_floats = λ w.
      floats w
      ∙ ap (λ o. typed w o x.active) (so.used_floats w)
      ∙ sym (typed_append w None (flat_map (λ y. y.active) xs) x.active)
      ∙ ap (typed w None) (flat_map_more (λ y. y.active) [] xs x);
}
