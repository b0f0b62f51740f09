-- What labels name behind one more hypothesis.
use Rattle.std.proofs.Common.{◌≡◌, ℕ, ◌+◌, Bool, true, false, cond, List, [], ◌∷◌, ◌++◌, length, Option, Some, None, refl, sym, ap, ◌∙◌}
use Rattle.std.proofs.Common.{append-nil, length-append}
use Rattle.std.specs.Prelude.{◌||◌, if◌then◌else◌}
use mathlib.Core.Bool.{not}
use Rattle.std.specs.Option.{option_or}
use Rattle.std.specs.Str.{bytes_eq}
use Rattle.std.proofs.lemmas.List.Folds.{list_any-append}
use Rattle.mmtext.specs.Words.{Word}
use Rattle.mmsyntax.specs.Tables.{place_of}
use Rattle.mmsyntax.proofs.Names.{place_of-push, bytes_eq-sym}
use Rattle.source.specs.Scopes.{Hypothesis, typing, premise, label_of}
use Rattle.taking.specs.Listings.{premise_labels}
use Rattle.taking.proofs.Premises.{premises_append}
use Rattle.prooftrees.specs.declared.roles.Role.{Role}
use Rattle.prooftrees.specs.declared.roles.Role.TheVariants.{Float, Premise}
use Rattle.prooftrees.specs.Roles.{role_in, is_label_of, role_of, stays, noted, AreRoles}

-- ---- what is noted

-- a label goes on to name what it names
pub noted_stays : (role : Role) (b : Bool) (so_far o : Option Role) → (b ≡ true → o ≡ so_far) → stays so_far role ≡ true
    → o ≡ noted role b o
noted_stays role false so_far o same h = refl
noted_stays role true so_far o same h =
    let e : stays o role ≡ true = ap (λ z. stays z role) (same refl) ∙ h in
    sym (ap (λ s. if not s then Some role else o) e)

-- or it names another from then on
pub noted_new : (role : Role) (b : Bool) (so_far o : Option Role) → (b ≡ true → o ≡ so_far) → stays so_far role ≡ false
    → cond b (Some role) o ≡ noted role b o
noted_new role false so_far o same h = refl
noted_new role true so_far o same h =
    let e : stays o role ≡ false = ap (λ z. stays z role) (same refl) ∙ h in
    sym (ap (λ s. if not s then Some role else o) e)

-- ---- one more hypothesis

float_role : (a b : Bool) (p : Option ℕ) → role_in (a || (b || false)) p ≡ noted Float b (role_in a p)
float_role true true None = refl
float_role true false None = refl
float_role false true None = refl
float_role false false None = refl
float_role a true (Some n) = refl
float_role a false (Some n) = refl

premise_role : (a b : Bool) (p : Option ℕ) (n : ℕ)
    → role_in (a || (b || false)) (option_or p (cond b (Some n) None)) ≡ noted (Premise n) b (role_in a p)
premise_role true true None n = refl
premise_role true false None n = refl
premise_role false true None n = refl
premise_role false false None n = refl
premise_role a true (Some m) n = refl
premise_role a false (Some m) n = refl

label_more : (hs : List Hypothesis) (h : Hypothesis) (w : Word)
    → is_label_of (hs ++ h ∷ []) w ≡ (is_label_of hs w || (bytes_eq (label_of h) w || false))
label_more hs h w =
    list_any-append (λ k. bytes_eq w (label_of k)) hs (h ∷ [])
    ∙ ap (λ b. is_label_of hs w || (b || false)) (bytes_eq-sym w (label_of h))

pub float_more : (hs : List Hypothesis) (l c v w : Word) → role_of (hs ++ typing l c v ∷ []) w ≡ noted Float (bytes_eq l w) (role_of hs w)
float_more hs l c v w =
    ap (λ ps. role_in (is_label_of (hs ++ typing l c v ∷ []) w) (place_of (bytes_eq w) ps))
    (premises_append hs (typing l c v ∷ []) ∙ append-nil (premise_labels hs))
    ∙ ap (λ b. role_in b (place_of (bytes_eq w) (premise_labels hs))) (label_more hs (typing l c v) w)
    ∙ float_role (is_label_of hs w) (bytes_eq l w) (place_of (bytes_eq w) (premise_labels hs))

pub premise_more : (hs : List Hypothesis) (l : Word) (ws : List Word) (w : Word) (n : ℕ) → length (premise_labels hs) ≡ n
    → role_of (hs ++ premise l ws ∷ []) w ≡ noted (Premise n) (bytes_eq l w) (role_of hs w)
premise_more hs l ws w n count =
    ap (λ ps. role_in (is_label_of (hs ++ premise l ws ∷ []) w) (place_of (bytes_eq w) ps)) (premises_append hs (premise l ws ∷ []))
    ∙ ap (λ o. role_in (is_label_of (hs ++ premise l ws ∷ []) w) o) (place_of-push (bytes_eq w) (premise_labels hs) l)
    ∙ ap (λ b. role_in b (option_or (place_of (bytes_eq w) (premise_labels hs)) (cond (bytes_eq w l) (Some (length (premise_labels hs)))
    None))) (label_more hs (premise l ws) w)
    ∙ ap (λ b. role_in (is_label_of hs w || (bytes_eq l w || false)) (option_or (place_of (bytes_eq w) (premise_labels hs)) (cond b (Some
    (length (premise_labels hs))) None))) (bytes_eq-sym w l)
    ∙ premise_role (is_label_of hs w) (bytes_eq l w) (place_of (bytes_eq w) (premise_labels hs)) (length (premise_labels hs))
    ∙ ap (λ k. noted (Premise k) (bytes_eq l w) (role_of hs w)) count

-- ---- the map of roles

module _ (hs : List Hypothesis) (old new : Word → Option Role) (n : ℕ) (are : AreRoles hs old n) where
  pub roles_with_float : (l c v : Word) → ((w : Word) → new w ≡ noted Float (bytes_eq l w) (old w))
      → AreRoles (hs ++ typing l c v ∷ []) new n
  roles_with_float l c v is = record {
    roles_are = λ w. is w ∙ ap (noted Float (bytes_eq l w)) (are.roles_are w) ∙ sym (float_more hs l c v w);
    premises_are = ap length (premises_append hs (typing l c v ∷ []) ∙ append-nil (premise_labels hs)) ∙ are.premises_are;
  }

  pub roles_with_premise : (l : Word) (ws : List Word) (next : ℕ) → next ≡ n + 1
      → ((w : Word) → new w ≡ noted (Premise n) (bytes_eq l w) (old w)) → AreRoles (hs ++ premise l ws ∷ []) new next
  roles_with_premise l ws next e is = record {
    roles_are = λ w. is w ∙ ap (noted (Premise n) (bytes_eq l w)) (are.roles_are w)
        ∙ sym (premise_more hs l ws w n are.premises_are);
    premises_are = ap length (premises_append hs (premise l ws ∷ []))
        ∙ length-append (premise_labels hs) (l ∷ [])
        ∙ ap (λ k. k + 1) are.premises_are
        ∙ sym e;
  }
