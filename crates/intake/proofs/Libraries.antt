-- A library of what was gathered: what its sites and names make is taken of the source.
use Rattle.std.proofs.Common.{◌≡◌, ℕ, suc, Bool, true, false, List, [], ◌∷◌, ◌++◌, length, map, IsTrue, refl, sym, ap, subst, ◌∙◌}
use Rattle.std.proofs.Common.{arith, ◌+◌}
use Rattle.std.specs.Prelude.{filter, if◌then◌else◌}
use Rattle.std.specs.List.{zip, range_with_len, list_all}
use Rattle.std.specs.Str.{bytes_eq}
use mathlib.Core.Bool.{not}
use Rattle.std.proofs.lemmas.List.{length-map}
use Rattle.std.proofs.lemmas.List.Elements.{filter-append}
use Rattle.std.proofs.lemmas.Slice.Zip.{firsts-zip}
use Rattle.mmtext.specs.Words.{Word}
use Rattle.mmsyntax.specs.Preludes.{float_labels, variables_used}
use Rattle.source.specs.Scopes.{Assertion, Scope, is_in}
use Rattle.taking.specs.Names.{HasPlaces, KeepsNames, Naming, is_float_named_well, is_label_named_well}
use Rattle.taking.specs.Reasons.{Choice, told_in}
use Rattle.source.specs.Flags.{kept, kept_at}
use Rattle.taking.specs.Taken.{chosen_of}
use Rattle.choosing.specs.declared.wish.Wish.{Wish}
use Rattle.sites.specs.declared.names.LibraryNames.{LibraryNames}
use Rattle.sites.specs.Sites.{Sited}
use Rattle.gathering.specs.declared.assembling.Gathered.{Gathered}
use Rattle.gathering.specs.Placed.{map_of, tables_of, floats_from}
use Rattle.intake.specs.Parts.{AreDrafted, IsGathered, AreAsMany, lists_of, changed_of}

-- ---- flags

pub kept_one : {A : Type 0} (b : Bool) (x : A) (xs ys : List A) → xs ≡ ys → kept_at b x xs ≡ (if b then x ∷ ys else ys)
kept_one true x xs ys e = ap (λ zs. x ∷ zs) e
kept_one false x xs ys e = e

-- flags of a test keep what passes
pub kept_filter : {A : Type 0} (test : A → Bool) (xs : List A) → kept (map test xs) xs ≡ filter test xs
kept_filter test [] = refl
kept_filter test (x ∷ xs) = kept_one (test x) x (kept (map test xs) xs) (filter test xs) (kept_filter test xs)

pub chosen_kept : (s : Scope) (choice : Choice) (flags : List Bool) → map (λ x. is_in choice.chosen x.label) s.assertions ≡ flags
    → kept flags s.assertions ≡ chosen_of choice s
chosen_kept s choice flags e =
    subst (λ fs. kept fs s.assertions ≡ chosen_of choice s) e (kept_filter (λ (x : Assertion). is_in choice.chosen x.label) s.assertions)

-- ---- $f

pub float_labels_from : (j : ℕ) (ls : List Word) (ts : List ℕ) → length ts ≡ length ls → float_labels (floats_from j ls ts) ≡ ls
float_labels_from j [] ts e = refl
float_labels_from j (l ∷ ls) [] e = absurd (omega arith)
float_labels_from j (l ∷ ls) (t ∷ ts) e =
    let same : length ts ≡ length ls = omega arith in
    ap (λ ws. l ∷ ws) (float_labels_from (suc j) ls ts same)

pub variables_from : (j : ℕ) (ls : List Word) (ts : List ℕ) → length ts ≡ length ls
    → variables_used (floats_from j ls ts) ≡ range_with_len j (length ls)
variables_from j [] ts e = refl
variables_from j (l ∷ ls) [] e = absurd (omega arith)
variables_from j (l ∷ ls) (t ∷ ts) e =
    let next : suc j ≡ j + 1 = omega arith in
    let same : length ts ≡ length ls = omega arith in
    ap (λ ws. j ∷ ws) (variables_from (suc j) ls ts same ∙ ap (λ n. range_with_len n (length ls)) next)

pub length_from : (j : ℕ) (ls : List Word) (ts : List ℕ) → length ts ≡ length ls → length (floats_from j ls ts) ≡ length ls
length_from j ls ts e = sym (length-map (floats_from j ls ts) (λ f. f.label)) ∙ ap length (float_labels_from j ls ts e)

-- ---- the names that were changed

abbrev differ : Naming → Bool
differ p = not (bytes_eq p.0 p.1)

abbrev pub changed_in : List Word → List Word → List Naming
changed_in ws ns = filter differ (zip ws ns)

-- changed names go to the end
pub part : (m more : List Naming) (ws ws' ns ns' : List Word) → more ≡ m ++ changed_in ws ns → ws ≡ ws' → ns ≡ ns'
    → more ≡ m ++ changed_in ws' ns'
part m more ws ws' ns ns' e f g = e ∙ ap (λ xs. m ++ changed_in xs ns) f ∙ ap (λ xs. m ++ changed_in ws' xs) g

pub chain : (none one two three four a b c d : List Naming) → none ≡ [] → one ≡ none ++ a → two ≡ one ++ b → three ≡ two ++ c
    → four ≡ three ++ d → four ≡ a ++ b ++ c ++ d
chain none one two three four a b c d e0 e1 e2 e3 e4 =
    e4
    ∙ ap (λ m. m ++ d) (e3 ∙ ap (λ m. m ++ c) (e2 ∙ ap (λ m. m ++ b) (e1 ∙ ap (λ m. m ++ a) e0)))

filter_parts : (as' bs cs ds : List Naming)
    → filter differ (as' ++ bs ++ cs ++ ds) ≡ filter differ as' ++ filter differ bs ++ filter differ cs ++ filter differ ds
filter_parts as' bs cs ds =
    filter-append differ (as' ++ bs ++ cs) ds
    ∙ ap (λ xs. xs ++ filter differ ds) (filter-append differ (as' ++ bs) cs
    ∙ ap (λ xs. xs ++ filter differ cs) (filter-append differ as' bs))

module _ (t : Sited) (names : LibraryNames) (many : AreAsMany t names) where
  as_typed : length t.types ≡ length names.floats
  as_typed = many.types ∙ sym many.floats

  float_names : float_labels (floats_from 0 names.floats t.types) ≡ names.floats
  float_names = float_labels_from 0 names.floats t.types as_typed

  pub changed_are : changed_of t names
      ≡ filter (λ p. not (bytes_eq p.0 p.1)) (zip t.constants names.constants)
      ++ filter (λ p. not (bytes_eq p.0 p.1)) (zip t.variables names.variables)
      ++ filter (λ p. not (bytes_eq p.0 p.1)) (zip t.floats names.floats)
      ++ filter (λ p. not (bytes_eq p.0 p.1)) (zip t.labels names.labels)
  changed_are =
      filter_parts (zip t.constants names.constants) (zip t.variables names.variables)
      (zip t.floats (float_labels (floats_from 0 names.floats t.types))) (zip t.labels names.labels)
      ∙ ap (λ fs. filter differ (zip t.constants names.constants) ++ filter differ (zip t.variables names.variables)
      ++ filter differ (zip t.floats fs) ++ filter differ (zip t.labels names.labels)) float_names

-- ---- all

module _ (s : Scope) (w : Wish) (t : Sited) (names : LibraryNames) (g : Gathered) (flags : List Bool) (many : AreAsMany t names)
    (is : IsGathered s w t names g flags) where
  labels_are : map (λ p. p.0) (zip t.labels names.labels) ≡ t.labels
  labels_are = firsts-zip t.labels names.labels many.labels

  has_places : HasPlaces (map_of t names) (tables_of t names) s (chosen_of is.choice s)
  has_places = record {
    constants = is.sites.constants;
    floats = is.sites.floats;
    labels = labels_are ∙ is.sites.labels;
    as_many_constants = many.constants;
    as_many_floats = length_from 0 names.floats t.types (as_typed t names many) ∙ many.floats;
    as_many_variables = many.variables;
    variables = variables_from 0 names.floats t.types (as_typed t names many)
        ∙ ap (λ n. range_with_len 0 n) (many.floats ∙ sym is.sites.variables);
  }

  keeps_names : KeepsNames (map_of t names) (tables_of t names) s
  keeps_names = record {
    constants = is.names_are.constants;
    variables = is.names_are.variables;
    floats = subst (λ fs. IsTrue (list_all (is_float_named_well s) (zip t.floats fs))) (sym (float_names t names many)) is.names_are.floats;
    labels = subst (λ ls. IsTrue (list_all (is_label_named_well s ls) (zip t.labels names.labels))) (sym labels_are) is.names_are.labels;
  }

  pub drafted_of : AreDrafted s w t (lists_of t names g.assertions.items) (told_in g.axioms.items) (changed_of t names) flags
  drafted_of = record {
    taken_by = record {
      taken = record {
        choice = is.choice;
        is_choice = is.chooses.is_choice;
        known = is.chooses.known;
        in_order = is.chooses.in_order;
        few = is.chooses.few;
        takes = record {
          there = is.there;
          places = map_of t names;
          has_places = has_places;
          keeps_names = keeps_names;
          taken = is.taken;
          axioms_told = is.told_are;
          names_told = refl;
        };
        long = is.long;
      };
      flags_are = is.flags_are;
    };
    placed = record { constants = refl; variables = refl; floats = refl; labels = labels_are };
  }
