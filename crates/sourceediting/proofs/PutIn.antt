-- Whether an assertion that is put in can be written, by the names and the words that it is written with.
use Rattle.std.proofs.Common.{◌≡◌, ◌∙◌, ◌<◌, ℕ, suc, Bool, true, List, [], ◌∷◌, length, map, refl, sym, ap, ap₂, subst, inl, inr, arith}
use Rattle.std.specs.Prelude.{All, Contains, Option, Some, None, take, is_some, ◌||◌}
use Rattle.std.specs.Borrow.{Bor}
use Rattle.std.specs.Str.{bytes_eq}
use Rattle.std.specs.HashMap.{HashMap, get_by}
use Rattle.std.specs.List.{range_with_len}
use Rattle.std.specs.declared.random_state.RandomState.{RandomState}
use mathlib.Core.Bool.{not}
use Rattle.std.proofs.lemmas.Bool.{cases_Bool}
use Rattle.std.proofs.lemmas.List.Elements.{filter_agree, All-weaker}
use Rattle.std.proofs.lemmas.List.Folds.{list_any_at}
use Rattle.std.proofs.lemmas.Simd.{map-map}
use Rattle.mmtext.specs.Words.{Word}
use Rattle.mmsyntax.proofs.Names.{same_bytes, bytes_eq-same}
use Rattle.mmsyntax.specs.Dotted.{hypothesis_label}
use Rattle.mmsyntax.specs.Tables.{Tables}
use Rattle.mmsyntax.specs.declared.statement.Assertion.{Assertion}
use Rattle.mmsyntax.specs.declared.statement.Symbol.{Symbol}
use Rattle.mmsyntax.specs.declared.statement.Symbol.TheVariants.{Var}
use Rattle.mmframes.specs.Frames.{frame}
use Rattle.library.proofs.Filtered.{contains_mapped}
use Rattle.source.specs.Scopes.{Hypothesis, Scope, is_in}
use Rattle.source.specs.Views.{seen_words}
use Rattle.taking.specs.Listings.{premise_labels}
use Rattle.taking.specs.Names.{Naming}
use Rattle.giving.specs.Staying.{Change, changed}
use Rattle.sourcewriting.specs.declared.adding.Statement.{Statement}
use Rattle.sourcewriting.specs.declared.adding.SymbolWords.{SymbolWords}
use Rattle.sourcewriting.specs.declared.adding.Vocabulary.{Vocabulary}
use Rattle.sourcewriting.specs.Added.{HasSymbols, IsSpelled, IsSpelledThen, first_free, is_name, labels_given, hypotheses_put}
use Rattle.sourcewriting.specs.Added.{hypotheses_with, CanBeWritten}
use Rattle.sourcewriting.specs.Counting.{Takes}
use Rattle.sourcewriting.specs.Leaving.{StepTakes, CanBePut}
use Rattle.sourcewriting.proofs.Leading.{put_where}
use Rattle.sourceediting.specs.Entries.{Edition, name_in_source, TakesThen, StepTakesThen}
use Rattle.sourceediting.specs.Following.{Followed}
use Rattle.sourceediting.specs.PutIn.{is_name_then, hypotheses_then, CanBePutIn}
use Rattle.sourceediting.specs.Views.{AreLabelled, AreAllFound, AreSpelledAs}
use Rattle.sourceediting.specs.WrittenWith.{IsVocabularyOf}

-- ---- labels of the edited library

some_not_none : {A : Type 0} (x : A) (o : Option A) → o ≡ Some x → is_some o ≡ true
some_not_none x o e = ap is_some e

labels_among : (xs : List Assertion) (w : Word) → is_in (map (λ a. a.label) xs) w ≡ true → (a : Assertion) × Contains xs a × (a.label ≡ w)
labels_among [] w h = absurd cc
labels_among (x ∷ xs) w h =
    elim (cases_Bool (bytes_eq w x.label)) [
      | inl y ↦ (x, (0, omega arith, refl), sym (same_bytes w x.label y))
      | inr n ↦
          let later : is_in (map (λ a. a.label) xs) w ≡ true = sym (ap (λ b. b || is_in (map (λ a. a.label) xs) w) n) ∙ h in
          let rest = labels_among xs w later in
          let low : rest.1.0 < length xs = rest.1.1 in (rest.0, (suc rest.1.0, omega arith, rest.1.2), rest.2)
    ]

is_among : (xs : List Assertion) (a : Assertion) (w : Word) → Contains xs a → a.label ≡ w → is_in (map (λ a. a.label) xs) w ≡ true
is_among xs a w there is =
    let at = contains_mapped (λ (a : Assertion). a.label) xs a there in
    list_any_at (bytes_eq w) (map (λ a. a.label) xs) at.0 a.label at.1 (ap (bytes_eq w) (at.2 ∙ is) ∙ bytes_eq-same w)

module _ (m : HashMap (Bor (List ℕ)) (Bor Assertion) RandomState) (xs : List Assertion) (labelled : AreLabelled m xs)
    (all : AreAllFound m xs) where
  found_by : (w : Word) (o : Option (Bor Assertion)) → get_by (λ k. bytes_eq w k.now) m ≡ o → is_some o ≡ is_in (map (λ a. a.label) xs) w
  found_by w (Some a) e =
      let is = labelled w a e in
      sym (is_among xs a.now w is.0 is.1)
  found_by w None e =
      elim (cases_Bool (is_in (map (λ a. a.label) xs) w)) [
        | inl y ↦
            let one = labels_among xs w y in
            let found = all one.0 one.1 in
            let at = subst (λ v. get_by (λ k. bytes_eq v k.now) m ≡ Some found.0) one.2 found.1 in
            let none : None ≡ Some found.0 = sym e ∙ at in absurd cc
        | inr n ↦ sym n
      ]

  -- a label is found just where an assertion has it
  pub found_among : (w : Word) → is_some (get_by (λ k. bytes_eq w k.now) m) ≡ is_in (map (λ a. a.label) xs) w
  found_among w = found_by w (get_by (λ k. bytes_eq w k.now) m) refl

-- ---- the labels of $e

-- the same labels are free by another test that tells as much
free_alike : (one other : Word → Bool) → ((w : Word) → one w ≡ other w) → (label : Word) (most count : ℕ)
    → first_free one label most count ≡ first_free other label most count
unfolding first_free
free_alike one other same label most count =
    ap (take count)
    (filter_agree (λ w. not (one w)) (λ w. not (other w)) (λ w. ap not (same w)) (map (hypothesis_label label) (range_with_len 1 most)))

-- ---- where it can be written by what is known of the library, it can by what it is written with

module _ (s : Scope) (e : Edition) (living : List Followed) (v : Vocabulary) (is : IsVocabularyOf s e living v) where
  named_alike : (w : Word) → is_name_then s e w ≡ is_name s v.edited.now w
  named_alike w = ap (λ b. (is_in s.symbols w || is_in s.labels w) || b) (sym (is.finds w))

  hypotheses_alike : (label : Word) (a : Assertion)
      → hypotheses_then s e label a ≡ hypotheses_with v a (labels_given (is_name s v.edited.now) label a)
  hypotheses_alike label a =
      ap₂ (λ floats given. hypotheses_put floats (frame e.edited.setting.prelude a).floats given) (sym is.told.floats)
      (free_alike (is_name_then s e) (is_name s v.edited.now) named_alike label 4294967294 (length a.hyps))
      ∙ ap (λ t. hypotheses_put (seen_words v.names.now.floats.items) (frame t a).floats (labels_given (is_name s v.edited.now) label a))
      (sym is.prelude)

  symbols_where : (a : Assertion) → HasSymbols (IsSpelledThen (name_in_source e.names) e.opened.prelude) a
      → HasSymbols (IsSpelled v.words.now) a
  symbols_where a has =
      let P : Symbol → Type 0 = IsSpelledThen (name_in_source e.names) e.opened.prelude in
      let Q : Symbol → Type 0 = IsSpelled v.words.now in record {
        pairs =
            All-weaker (λ (p : ℕ × ℕ). P (Var p.0) × P (Var p.1)) (λ (p : ℕ × ℕ). Q (Var p.0) × Q (Var p.1))
            (λ p h. (is.spelled (Var p.0) h.0, is.spelled (Var p.1) h.1)) a.pairs has.pairs;
        premises = All-weaker (All P) (All Q) (λ xs h. All-weaker P Q is.spelled xs h) a.hyps has.premises;
        statement = All-weaker P Q is.spelled a.statement has.statement;
      }

  pub written_where : (x : Statement) → CanBePutIn s e living x.is_compressed x.label.now x.assertion.now → CanBeWritten s v x
  written_where x can =
      let a = x.assertion.now in
      let m = v.names.now in
      let hs : List Hypothesis = hypotheses_with v a (labels_given (is_name s v.edited.now) x.label.now a) in record {
        named = can.named;
        symbols = symbols_where a can.symbols;
        proof = λ theorem.
            subst
            (λ (hs : List Hypothesis). CanBePut (StepTakes s m (length (premise_labels hs))) (Takes s m hs) x.is_compressed hs a.proof)
            (hypotheses_alike x.label.now a)
            (let hs = hypotheses_then s e x.label.now a in
            let premises = length (premise_labels hs) in
            put_where (StepTakesThen s e living premises) (StepTakes s m premises) (TakesThen s e living hs) (Takes s m hs) x.is_compressed
            hs a.proof (is.told.steps premises) (is.told.names hs) (can.proof theorem));
      }

-- ---- symbols

-- the words of symbols, by the names that were changed
pub spelled_as : (e : Edition) (ws : SymbolWords) (cs : List Change) (t : Tables) → cs ≡ map (λ p. (p.1, p.0)) e.names
    → t ≡ e.opened.prelude → ((x : Symbol) → IsSpelledThen (changed cs) t x → IsSpelled ws x) → AreSpelledAs e ws
spelled_as e ws cs t names prelude says x =
    subst (λ t. IsSpelledThen (name_in_source e.names) t x → IsSpelled ws x) prelude
    (subst (λ cs. IsSpelledThen (changed cs) t x → IsSpelled ws x) names (says x))

-- ---- names that were changed

abbrev pub Named : Type 0
Named = Bor (List ℕ) × List ℕ

abbrev pub in_library : Named → Change
in_library p = (p.1, p.0.now)

abbrev pub named : Named → Naming
named p = (p.0.now, p.1)

abbrev pub back : Naming → Change
back p = (p.1, p.0)

-- what stands for a name in the library, with the name
pub turned : (names : List Named) → map in_library names ≡ map back (map named names)
turned names = sym (map-map back named names)
