-- Each chosen assertion of a source has all its places, and the steps of what is chosen are known.
use Rattle.std.proofs.Common.{◌≡◌, ◌∙◌, ℕ, Bool, true, false, List, [], ◌∷◌, length, map, get_or, refl, sym, ap, subst}
use Rattle.std.specs.Prelude.{Option, Some, None, IfSome, slice_get, is_some, ◌||◌, All, IsTrue}
use Rattle.std.specs.List.{list_any, AllByRecursion}
use Rattle.std.specs.Str.{bytes_eq}
use Rattle.std.proofs.lemmas.List.{get_or-map}
use Rattle.std.proofs.lemmas.List.Elements.{recursion_from_All, All-from_recursion}
use Rattle.std.proofs.lemmas.Option.{get_or_from_slice_get, slice_get-get_or, slice_get_within}
use Rattle.mmtext.specs.Words.{Word}
use Rattle.mmsyntax.proofs.Names.{bytes_eq-same}
use Rattle.source.specs.Scopes.{Assertion, Scope, is_in, label_of}
use Rattle.source.specs.Whole.{IsWhole}
use Rattle.taking.specs.Names.{label_in, float_in, is_symbol_of}
use Rattle.taking.specs.Settings.{is_float}
use Rattle.taking.specs.Says.{IsFloatTaken}
use Rattle.taking.specs.Reasons.{Choice, AreFlags}
use Rattle.source.specs.Flags.{kept}
use Rattle.source.proofs.Asked.{whole_at}
use Rattle.sites.specs.Sites.{Sited, IsFloatSited, AreSites}
use Rattle.sites.specs.declared.names.LibraryNames.{LibraryNames}
use Rattle.gathering.specs.Assembled.{HasAllPlaces}
use Rattle.gathering.specs.Outcomes.{HasStepsFor}
use Rattle.gathering.specs.Placed.{map_of, tables_of}
use Rattle.gathering.proofs.Known.{all_kept, any_kept, is_in_filter, zip_there, floats_taken, floats_known, statement_there, premises_there}

any_label : (w : Word) (xs : List Assertion) → list_any (λ x. bytes_eq w x.label) xs ≡ is_in (map (λ x. x.label) xs) w
any_label w [] = refl
any_label w (x ∷ xs) = ap (λ (b : Bool). bytes_eq w x.label || b) (any_label w xs)

module _ (s : Scope) (t : Sited) (names : LibraryNames) (chosen : List Bool) (are : AreSites s (kept chosen s.assertions) t)
    (labels : length names.labels ≡ length t.labels) where
  label_there : (k : ℕ) (x : Assertion) → slice_get s.assertions k ≡ Some x → get_or chosen k false ≡ true
      → is_some (label_in (map_of t names) x.label) ≡ true
  label_there k x at flag =
      zip_there (bytes_eq x.label) t.labels names.labels labels
      (ap (λ (ls : List Word). is_in ls x.label) are.labels
      ∙ sym (any_label x.label (kept chosen s.assertions))
      ∙ any_kept (λ (y : Assertion). bytes_eq x.label y.label) chosen s.assertions k x at flag (bytes_eq-same x.label))

  sited_at : (k : ℕ) (x : Assertion) → slice_get s.assertions k ≡ Some x → get_or chosen k false ≡ true
      → AllByRecursion (IsFloatSited t) x.active
  sited_at k x at flag =
      recursion_from_All (IsFloatSited t) x.active
      (all_kept (λ (y : Assertion). All (IsFloatSited t) y.active) chosen s.assertions k x
      (recursion_from_All (λ (y : Assertion). All (IsFloatSited t) y.active) (kept chosen s.assertions) are.sited) at flag)

  -- all that a chosen assertion names has a place
  pub all_placed : length names.floats ≡ length t.floats → IsWhole s → (k : ℕ) (x : Assertion) → slice_get s.assertions k ≡ Some x
      → get_or chosen k false ≡ true → HasAllPlaces (map_of t names) (tables_of t names) x
  all_placed floats whole k x at flag =
      let sited = sited_at k x at flag in
      let w = whole_at s k x whole at in
      let constants : (v : Word) → is_in s.constants v ≡ true → is_symbol_of v x ≡ true → is_in t.constants v ≡ true =
      λ v constant stands.
      ap (λ (cs : List Word). is_in cs v) are.constants
      ∙ is_in_filter (λ (u : Word). list_any (is_symbol_of u) (kept chosen s.assertions)) v s.constants
      (any_kept (is_symbol_of v) chosen s.assertions k x at flag stands) constant in
      record {
        label = label_there k x at flag;
        floats =
            All-from_recursion (IsFloatTaken (map_of t names) (tables_of t names)) x.active
            (floats_taken t names (floats ∙ sym are.types) x.active sited);
        hyps = premises_there s x t sited constants w.hypotheses;
        statement = statement_there s x t sited constants w.statement;
      }

  -- and the steps of what is chosen are known
  pub all_known : (choice : Choice) (front long : List Bool) → AreFlags s choice chosen front long → (k : ℕ) (x : Assertion)
      → slice_get s.assertions k ≡ Some x → get_or chosen k false ≡ true → HasStepsFor (map_of t names) choice s x
  all_known choice front long flags k x at flag = record {
    floats =
        All-from_recursion (λ h. IsTrue (is_float h) → IsTrue (is_some (float_in (map_of t names) (label_of h)))) x.active
        (floats_known t x.active (sited_at k x at flag));
    labels =
        λ j d h is.
        label_there j (get_or s.assertions j d) (slice_get-get_or s.assertions j d h)
        (ap (λ (fs : List Bool). get_or fs j false) (sym flags.chosen_are)
        ∙ get_or-map (λ (y : Assertion). is_in choice.chosen y.label) s.assertions j d false h
        ∙ is);
  }

-- a flag says whether an assertion is chosen
pub flag_at : (s : Scope) (choice : Choice) (chosen front long : List Bool) → AreFlags s choice chosen front long → (k : ℕ) (x : Assertion)
    → slice_get s.assertions k ≡ Some x → (b : Bool) → get_or chosen k false ≡ b → is_in choice.chosen x.label ≡ b
flag_at s choice chosen front long flags k x at b e =
    ap (λ (y : Assertion). is_in choice.chosen y.label) (sym (get_or_from_slice_get s.assertions k x x at))
    ∙ sym (get_or-map (λ (y : Assertion). is_in choice.chosen y.label) s.assertions k x false (slice_get_within s.assertions k x at))
    ∙ ap (λ (fs : List Bool). get_or fs k false) flags.chosen_are
    ∙ e

-- what is so of what is there
pub is_so : {A : Type 0} (o : Option A) (P : A → Type 0) (x : A) → o ≡ Some x → IfSome o P → P x
is_so None P x e p = absurd cc
is_so (Some y) P x e p =
    let same : y ≡ x = cc in
    subst P same p
