-- Assertions by their labels.
use Rattle.std.proofs.Common.{◌≡◌, ◌∙◌, ◌<◌, ◌+◌, ◌⊎◌, ℕ, Bool, true, false, cond, List, [], ◌∷◌, ◌++◌, length, Option, Some, refl, sym, ap, subst, inl, inr, arith}
use Rattle.std.specs.Prelude.{Contains, None, IfSome, slice_get}
use Rattle.std.proofs.lemmas.Bool.{cases_lt, cond-true, cond-false}
use Rattle.std.proofs.lemmas.Option.{slice_get-get_or, same_Some}
use Rattle.std.specs.Str.{bytes_eq}
use Rattle.std.specs.Borrow.{Bor}
use Rattle.std.specs.HashMap as hash
use Rattle.std.specs.HashMap.{HashMap}
use Rattle.std.specs.declared.random_state.RandomState.{RandomState}
use Rattle.std.proofs.lemmas.Map.Text.{hash_map_updates_str}
use Rattle.mmtext.specs.Words.{Word}
use Rattle.mmsyntax.proofs.Names.{same_bytes}
use Rattle.mmsyntax.specs.declared.statement.Assertion.{Assertion}
use Rattle.std.proofs.lemmas.List.Elements.{All-push}
use Rattle.source.specs.Scopes.{Scope}
use Rattle.giving.specs.Staying.{Change}
use Rattle.sourceediting.specs.Following.{Followed}
use Rattle.sourceediting.specs.Entries.{Edition}
use Rattle.sourceediting.specs.Reproved.{HasAnotherProof, AreOtherProofs}
use Rattle.sourceediting.specs.Views.{AreLabelled}

-- ---- what is found under words, where one more is put

module _ {V : Type 0} (m n : HashMap (Bor (List ℕ)) V RandomState) (x : Word) (v : V)
    (updates : hash.UpdatesBy (λ x y. bytes_eq x.now y.now) (λ k. bytes_eq x k.now) m n (Some v)) where
  still_at : (w : Word) (c : V) (b : Bool) → bytes_eq x w ≡ b → hash.get_by (λ k. bytes_eq w k.now) m ≡ Some c
      → (d : V) × (hash.get_by (λ k. bytes_eq w k.now) n ≡ Some d)
  still_at w c true e at =
      (v, hash_map_updates_str x m n (Some v) updates w ∙ cond-true (bytes_eq x w) (Some v) (hash.get_by (λ k. bytes_eq w k.now) m) e)
  still_at w c false e at =
      (c, hash_map_updates_str x m n (Some v) updates w ∙ cond-false (bytes_eq x w) (Some v) (hash.get_by (λ k. bytes_eq w k.now) m) e ∙ at)

  -- what is found still is, this or another
  pub still_found : (w : Word) (c : V) → hash.get_by (λ k. bytes_eq w k.now) m ≡ Some c
      → (d : V) × (hash.get_by (λ k. bytes_eq w k.now) n ≡ Some d)
  still_found w c at = still_at w c (bytes_eq x w) refl at

  new_at : (w : Word) (c : V) (b : Bool) → bytes_eq x w ≡ b → hash.get_by (λ k. bytes_eq w k.now) n ≡ Some c
      → ((x ≡ w) × (v ≡ c)) ⊎ (hash.get_by (λ k. bytes_eq w k.now) m ≡ Some c)
  new_at w c true e at =
      let same : Some v ≡ Some c =
      sym (hash_map_updates_str x m n (Some v) updates w
      ∙ cond-true (bytes_eq x w) (Some v) (hash.get_by (λ k. bytes_eq w k.now) m) e) ∙ at in
      inl (same_bytes x w e, same_Some v c same)
  new_at w c false e at =
      inr (sym (hash_map_updates_str x m n (Some v) updates w
      ∙ cond-false (bytes_eq x w) (Some v) (hash.get_by (λ k. bytes_eq w k.now) m) e) ∙ at)

  -- it is the new one, or was found before
  pub new_found : (w : Word) (c : V) → hash.get_by (λ k. bytes_eq w k.now) n ≡ Some c
      → ((x ≡ w) × (v ≡ c)) ⊎ (hash.get_by (λ k. bytes_eq w k.now) m ≡ Some c)
  new_found w c at = new_at w c (bytes_eq x w) refl at

-- one more of the first so many assertions is found under its label
pub found_more : (m n : HashMap (Bor (List ℕ)) (Bor Assertion) RandomState) (xs : List Assertion) (i : ℕ) (a : Bor Assertion) (x : Word)
    → a.now.label ≡ x → slice_get xs i ≡ Some a.now
    → hash.UpdatesBy (λ x y. bytes_eq x.now y.now) (λ k. bytes_eq x k.now) m n (Some a)
    → ((k : ℕ) (b : Assertion) → slice_get xs k ≡ Some b → k < i
    → (d : Bor Assertion) × (hash.get_by (λ k. bytes_eq b.label k.now) m ≡ Some d))
    → (k : ℕ) (b : Assertion) → slice_get xs k ≡ Some b → k < i + 1
    → (d : Bor Assertion) × (hash.get_by (λ k. bytes_eq b.label k.now) n ≡ Some d)
found_more m n xs i a x label here updates was k b at low =
    elim (cases_lt k i) [
      | inl h ↦ let one = was k b at h in still_found m n x a updates b.label one.0 one.1
      | inr g ↦
          let same : k ≡ i = omega (arith, low, g) in
          let is : a.now ≡ b = same_Some a.now b (sym here ∙ ap (slice_get xs) (sym same) ∙ at) in
          (a, subst (λ w. hash.get_by (λ k. bytes_eq w k.now) n ≡ Some a) (sym label ∙ ap (λ (b : Assertion). b.label) is) updates.1)
    ]

-- those that are there stand at places
pub placed : {A : Type 0} (xs : List A) (x : A) → Contains xs x → (k : ℕ) × (k < length xs) × (slice_get xs k ≡ Some x)
placed xs x (k, h, e) = (k, h, slice_get-get_or xs k x h ∙ ap (λ x. Some x) e)

-- ---- assertions

module _ (m n : HashMap (Bor (List ℕ)) (Bor Assertion) RandomState) (xs : List Assertion) (x : Word) (v : Bor Assertion)
    (found : AreLabelled m xs) (is : Contains xs v.now) (label : v.now.label ≡ x) where
  at : (w : Word) (a : Bor Assertion) (b : Bool) → bytes_eq x w ≡ b → cond b (Some v) (hash.get_by (λ k. bytes_eq w k.now) m) ≡ Some a
      → Contains xs a.now × (a.now.label ≡ w)
  at w a true e h =
      let same : v ≡ a = cc in (
        subst (λ (y : Bor Assertion). Contains xs y.now) same is,
        ap (λ (y : Bor Assertion). y.now.label) (sym same) ∙ (label ∙ same_bytes
            x w e),
      )
  at w a false e h = found w a h

  -- one more is found
  pub labelled_more : hash.UpdatesBy (λ x y. bytes_eq x.now y.now) (λ k. bytes_eq x k.now) m n (Some v) → AreLabelled n xs
  labelled_more updates w a e = at w a (bytes_eq x w) refl (sym (hash_map_updates_str x m n (Some v) updates w) ∙ e)

-- one more theorem has another proof
pub proofs_more : (source : List ℕ) (s : Scope) (e : Edition) (living : List Followed) (ps qs : List Change) (p : Change)
    → AreOtherProofs source s e living ps → HasAnotherProof source s e living p → qs ≡ ps ++ p ∷ [] → AreOtherProofs source s e living qs
proofs_more source s e living ps qs p all one is =
    subst (AreOtherProofs source s e living) (sym is) (All-push (HasAnotherProof source s e living) ps p all one)

-- what is found under a label
pub found_labelled : (m : HashMap (Bor (List ℕ)) (Bor Assertion) RandomState) (w : Word) (o : Option (Bor Assertion))
    → o ≡ hash.get_by (λ k. bytes_eq w k.now) m
    → IfSome o (λ a. (xs : List Assertion) → AreLabelled m xs → Contains xs a.now × (a.now.label ≡ w))
found_labelled m w None e = tt
found_labelled m w (Some a) e = λ xs found. found w a (sym e)
