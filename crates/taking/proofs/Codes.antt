-- Steps of a proof while it is decoded.
use Rattle.std.proofs.Common.{◌≡◌, ◌<◌, ◌≤◌, ℕ, zero, suc, ◌+◌, ◌-◌, Bool, true, false, List, [], ◌∷◌, length, map, drop, get_or}
use Rattle.std.proofs.Common.{refl, sym, ap, ◌∙◌, arith, inl, inr}
use Rattle.std.specs.Prelude.{Option, Some, None, slice_index_or, pred, ◌||◌, if◌then◌else◌}
use Rattle.std.specs.List.{list_any}
use Rattle.std.proofs.lemmas.Bool.{cases_Bool, cond-true}
use Rattle.std.proofs.lemmas.List.{length-map, at_drop_more, at_drop_all}
use Rattle.source.specs.declared.letters.Code.{Code}
use Rattle.source.specs.declared.letters.Code.TheVariants.{Number}
use Rattle.source.specs.Scopes.{Hypothesis, Assertion}
use Rattle.source.specs.Letters.{is_absent}
use Rattle.source.specs.Proofs.{Tree, Step, names, again, Stack, run_steps, stepped, step_of}
use Rattle.taking.proofs.Numbering.{names_label}
use Rattle.taking.specs.declared.named.Named.{Named}
use Rattle.taking.specs.Settings.{Setting, AreNamed}
use Rattle.taking.specs.Listings.{step_in}
use Rattle.taking.specs.Decoding.{grown}
use Rattle.taking.proofs.Stacked.{names_mark}

-- ---- numbers

pub pred_is : (n : ℕ) → pred n ≡ n - 1
pred_is zero = refl
pred_is (suc n) = omega arith

-- labels are as many as what is named
pub as_many_labels : (s : Setting) (named : List Named) → AreNamed s named → length s.labels ≡ length named
as_many_labels s named are =
    sym (length-map s.labels (step_in s.places s.active)) ∙ ap length are.steps ∙ length-map named (λ (n : Named). n.step)

-- a number that counts a label
pub step_names : (s : Setting) (named : List Named) (are : AreNamed s named) (code : Code) (n place : ℕ) → code ≡ Number n → place ≡ n - 1
    → place < length named → step_of s.labels code ≡ names (slice_index_or s.labels place [])
step_names s named are code n place is place-is h =
    let many = as_many_labels s named are in
    let e : pred n ≡ place = pred_is n ∙ sym place-is in
    ap (step_of s.labels) is
    ∙ names_label s.labels (pred n) (omega arith)
    ∙ ap (λ k. names (slice_index_or s.labels k [])) e

-- a number that counts a marked subproof
pub step_repeats : (s : Setting) (named : List Named) (are : AreNamed s named) (code : Code) (n place mark : ℕ) → code ≡ Number n
    → place ≡ n - 1 → place ≡ length named + mark → step_of s.labels code ≡ again mark
step_repeats s named are code n place mark is place-is mark-is =
    let many = as_many_labels s named are in
    let e : pred n ≡ place = pred_is n ∙ sym place-is in
    ap (step_of s.labels) is ∙ names_mark s.labels (pred n) mark (omega arith)

-- ---- steps

module _ (earlier : List Assertion) (active : List Hypothesis) (labels : List (List ℕ)) (codes : List Code) where
  -- what is done behind a code
  pub next : (i : ℕ) (d : Code) (s : Stack Tree) → i < length codes
      → run_steps grown earlier active (Some s) (map (step_of labels) (drop i codes))
      ≡ run_steps grown earlier active (stepped grown earlier active s (step_of labels (get_or codes i d)))
      (map (step_of labels) (drop (i + 1) codes))
  next i d s h = at_drop_more (λ xs. run_steps grown earlier active (Some s) (map (step_of labels) xs)) codes i d h

  -- what isn't there stays so
  pub lost : (xs : List Step) → run_steps grown earlier active None xs ≡ None
  lost [] = refl
  lost (x ∷ xs) = refl

  -- nothing is left to do
  pub done : (i : ℕ) (s : Stack Tree) → length codes ≤ i
      → run_steps grown earlier active (Some s) (map (step_of labels) (drop i codes)) ≡ Some s
  done i s h = at_drop_all (λ xs. run_steps grown earlier active (Some s) (map (step_of labels) xs)) codes i h

-- ---- codes that aren't there

absent_more : (codes : List Code) (i : ℕ) (d : Code) → i < length codes
    → list_any is_absent (drop i codes) ≡ (is_absent (get_or codes i d) || list_any is_absent (drop (i + 1) codes))
absent_more codes i d h = at_drop_more (λ xs. list_any is_absent xs) codes i d h

-- one is there, and so none was in front
pub known_on : (codes : List Code) (i : ℕ) (d : Code) → i < length codes
    → list_any is_absent codes ≡ list_any is_absent (drop i codes) → is_absent (get_or codes i d) ≡ false
    → list_any is_absent codes ≡ list_any is_absent (drop (i + 1) codes)
known_on codes i d h before here =
    before ∙ absent_more codes i d h ∙ ap (λ b. b || list_any is_absent (drop (i + 1) codes)) here

-- one isn't
pub absent_at : (codes : List Code) (i : ℕ) (d : Code) → i < length codes
    → list_any is_absent codes ≡ list_any is_absent (drop i codes) → is_absent (get_or codes i d) ≡ true
    → list_any is_absent codes ≡ true
absent_at codes i d h before here =
    before ∙ absent_more codes i d h ∙ ap (λ b. b || list_any is_absent (drop (i + 1) codes)) here

-- none is left
pub known_all : (codes : List Code) (i : ℕ) → length codes ≤ i
    → list_any is_absent codes ≡ list_any is_absent (drop i codes) → list_any is_absent codes ≡ false
known_all codes i h before = before ∙ at_drop_all (λ xs. list_any is_absent xs) codes i h

none_either : {A : Type 0} (b : Bool) (o : Option A) → o ≡ None → (if b then None else o) ≡ None
none_either true o e = refl
none_either false o e = e

-- where a code isn't there, or its step isn't, there is no tree
pub none_made : {A : Type 0} (codes : List Code) (i : ℕ) (d : Code) (o : Option A) → i < length codes
    → list_any is_absent codes ≡ list_any is_absent (drop i codes) → (is_absent (get_or codes i d) ≡ false → o ≡ None)
    → (if list_any is_absent codes then None else o) ≡ None
none_made codes i d o h before none = elim (cases_Bool (is_absent (get_or codes i d))) [
  | inl absent ↦ cond-true (list_any is_absent codes) None o (absent_at codes i d h before absent)
  | inr there ↦ none_either (list_any is_absent codes) o (none there)
]
