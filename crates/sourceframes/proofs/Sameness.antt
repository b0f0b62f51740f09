-- Numbers that stand for words, each for one of its own: their words are the same where they are.
use Rattle.std.proofs.Common.{◌≡◌, ℕ, Bool, ◌||◌, List, [], ◌∷◌, map, refl, sym, ap, ◌∙◌, eqb-true, eq-eqb}
use Rattle.std.specs.Prelude.{◌==◌}
use Rattle.std.specs.List.{list_any}
use Rattle.std.specs.Str.{bytes_eq}
use Rattle.mmtext.specs.Words.{Word}
use Rattle.mmsyntax.proofs.Names.{same_bytes, bytes_eq-same}
use Rattle.mmsyntax.proofs.Options.{alike}
use Rattle.mmsyntax.proofs.Distinct.{any-map}

pub any_alike : {A : Type 0} (p q : A → Bool) (xs : List A) → ((x : A) → p x ≡ q x) → list_any p xs ≡ list_any q xs
any_alike p q [] h = refl
any_alike p q (x ∷ xs) h = ap (λ b. b || list_any p xs) (h x) ∙ ap (λ b. q x || b) (any_alike p q xs h)

module _ (name : ℕ → Word) (injective : (m n : ℕ) → name m ≡ name n → m ≡ n) where
  pub same_number : (m n : ℕ) → bytes_eq (name m) (name n) ≡ (n == m)
  same_number m n =
      alike (bytes_eq (name m) (name n)) (n == m)
      (λ h. eq-eqb n m (sym (injective m n (same_bytes (name m) (name n) h))))
      (λ h. ap (λ k. bytes_eq (name m) (name k)) (eqb-true n m h) ∙ bytes_eq-same (name m))

  pub same_number-sym : (m n : ℕ) → bytes_eq (name m) (name n) ≡ (m == n)
  same_number-sym m n =
      alike (bytes_eq (name m) (name n)) (m == n)
      (λ h. eq-eqb m n (injective m n (same_bytes (name m) (name n) h)))
      (λ h. ap (λ k. bytes_eq (name m) (name k)) (sym (eqb-true m n h)) ∙ bytes_eq-same (name m))

  -- a word is one of those of some numbers where its number is one of these
  pub among_numbers : (ns : List ℕ) (n : ℕ) → list_any (bytes_eq (name n)) (map name ns) ≡ list_any (λ v. v == n) ns
  among_numbers ns n =
      any-map (bytes_eq (name n)) name ns ∙ any_alike (λ v. bytes_eq (name n) (name v)) (λ v. v == n) ns (same_number n)
