-- What a map of changed labels finds after one more change.
use Rattle.std.proofs.Common.{◌≡◌, ◌∙◌, ℕ, Bool, true, false, cond, List, [], ◌∷◌, ◌++◌, Option, Some, None, refl, sym, ap, subst}
use Rattle.std.specs.Prelude.{find}
use Rattle.std.specs.Option.{option_map, option_or, is_some}
use Rattle.std.specs.Str.{bytes_eq}
use Rattle.std.specs.Borrow.{Bor}
use Rattle.std.specs.HashMap as hash
use Rattle.std.specs.HashMap.{HashMap}
use Rattle.std.specs.declared.random_state.RandomState.{RandomState}
use Rattle.std.proofs.lemmas.List.Folds.{find-append}
use Rattle.std.proofs.lemmas.Map.Text.{hash_map_updates_str}
use Rattle.mmtext.specs.Words.{Word}
use Rattle.mmsyntax.proofs.Names.{bytes_eq-sym, same_bytes}
use Rattle.giving.specs.Staying.{Change}
use Rattle.giving.specs.Changes.{looks_up, FindsChanges}

is_there : (o : Option Change) → is_some (option_map (λ (c : Change). c.1) o) ≡ is_some o
is_there None = refl
is_there (Some c) = refl

-- the first of some changes, or one more
again : (o : Option Change) (b : Bool) (c : Change) → (b ≡ true → is_some o ≡ true)
    → option_map (λ (c : Change). c.1) o ≡ option_map (λ (c : Change). c.1) (option_or o (cond b (Some c) None))
again (Some d) b c h = refl
again None false c h = refl
again None true c h = absurd (let e = h refl in cc)

first : (o : Option Change) (b : Bool) (c : Change) → (b ≡ true → is_some o ≡ false)
    → cond b (Some c.1) (option_map (λ (c : Change). c.1) o) ≡ option_map (λ (c : Change). c.1) (option_or o (cond b (Some c) None))
first None false c h = refl
first None true c h = refl
first (Some d) false c h = refl
first (Some d) true c h = absurd (let e = h refl in cc)

mapped : (b : Bool) (v : Bor (List ℕ)) (o : Option (Bor (List ℕ)))
    → option_map (λ (n : Bor (List ℕ)). n.now) (cond b (Some v) o) ≡ cond b (Some v.now) (option_map (λ (n : Bor (List ℕ)). n.now) o)
mapped true v o = refl
mapped false v o = refl

-- whether a label that reads as w is among the changes, where the map says so of x, and w is x
module _ (m : HashMap (Bor (List ℕ)) (Bor (List ℕ)) RandomState) (cs : List Change) (x : Word) (found : FindsChanges m cs) where
  known : (w : Word) (b : Bool) → is_some (looks_up m x) ≡ b → bytes_eq w x ≡ true → is_some (find (λ c. bytes_eq w c.0) cs) ≡ b
  known w b h e =
      subst (λ v. is_some (find (λ c. bytes_eq v c.0) cs) ≡ b) (sym (same_bytes w x e))
      (sym (is_there (find (λ c. bytes_eq x c.0) cs)) ∙ (ap is_some (sym (found x)) ∙ h))

  pub finds_again : (v : Word) → is_some (looks_up m x) ≡ true → FindsChanges m (cs ++ (x, v) ∷ [])
  finds_again v there w =
      found w
      ∙ again (find (λ c. bytes_eq w c.0) cs) (bytes_eq w x) (x, v) (known w true there)
      ∙ ap (option_map (λ (c : Change). c.1)) (sym (find-append (λ c. bytes_eq w c.0) cs ((x, v) ∷ [])))

  pub finds_new : (n : HashMap (Bor (List ℕ)) (Bor (List ℕ)) RandomState) (v : Bor (List ℕ)) → is_some (looks_up m x) ≡ false
      → hash.UpdatesBy (λ x y. bytes_eq x.now y.now) (λ k. bytes_eq x k.now) m n (Some v) → FindsChanges n (cs ++ (x, v.now) ∷ [])
  finds_new n v absent updates w =
      ap (option_map (λ (n : Bor (List ℕ)). n.now)) (hash_map_updates_str x m n (Some v) updates w)
      ∙ mapped (bytes_eq x w) v (hash.get_by (λ k. bytes_eq w k.now) m)
      ∙ ap (λ t. cond t (Some v.now) (looks_up m w)) (bytes_eq-sym x w)
      ∙ ap (λ o. cond (bytes_eq w x) (Some v.now) o) (found w)
      ∙ first (find (λ c. bytes_eq w c.0) cs) (bytes_eq w x) (x, v.now) (known w false absent)
      ∙ ap (option_map (λ (c : Change). c.1)) (sym (find-append (λ c. bytes_eq w c.0) cs ((x, v.now) ∷ [])))
