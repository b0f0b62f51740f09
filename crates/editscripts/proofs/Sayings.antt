-- What scripts say of a source, one more of them; and that nothing is wrong with it, or all that is.
use Rattle.std.proofs.Common.{◌≡◌, ◌∙◌, ◌<◌, ◌+◌, ℕ, suc, Bool, true, false, List, [], ◌∷◌, ◌++◌, length, map, take, refl, sym, ap, subst, arith, append_assoc}
use Rattle.std.specs.Prelude.{◌≢◌, ◌==◌, Vec, Contains, Result, Ok, Err, Some, slice_get}
use Rattle.std.specs.declared.alloc.Global.{Global}
use Rattle.std.specs.List.{AllZip}
use Rattle.std.proofs.lemmas.Bool.{eqb-true, eq-eqb}
use Rattle.std.proofs.lemmas.List.{map-append, length-take-le}
use Rattle.std.proofs.lemmas.Slice.Zip.{AllZip-long}
use Rattle.mmtext.specs.Text.{Token}
use Rattle.mmtext.specs.Laws.{Says}
use Rattle.mmtext.specs.declared.fault.TextFault.{TextFault}
use Rattle.source.specs.Scopes.{Scope}
use Rattle.checking.specs.Checks.{Bytes}
use Rattle.spreading.specs.Words.{word_language}
use Rattle.spreading.specs.Spreading.{IsSpread, IsSpreadWith}
use Rattle.expanding.specs.Barred.{barred_by, AreAllBarred}
use Rattle.expanding.specs.Discouraged.{Discouraged, AreDiscouraged}
use Rattle.editscripts.specs.Undone.{each_from}
use Rattle.editscripts.specs.Encouraged.{remarked_in, AreFree, AreEncouraged, AreAllowed}
use Rattle.editscripts.specs.Expanded.{IsSpreadOf}
use Rattle.editscripts.specs.Faults.{ScriptFault, IsReading, words_read, read_faults, SpreadScript, IsSpreadOut, words_spread, spread_faults}
use Rattle.editscripts.specs.Faults.{barred_fault, counted_fault, AreCounted, Heard, all_faults, AreOrdered, AreFaults}
use Rattle.editscripts.specs.Views.{seen_fault}
use Rattle.editscripts.specs.declared.faults.ScriptFault.{ScriptFault as CodeFault}
use Rattle.editscripts.specs.Gathered.{AreRead, AreSpreadOut, ArePutBarred, ArePutCounted}
use Rattle.editscripts.proofs.Expanding.{zipped_more_at}
use Rattle.editscripts.proofs.Undoing.{each_more}

-- ---- one more

module _ {A B : Type 0} (R : A → B → Type 0) (F : ℕ → B → List ScriptFault) (I : B → List Token) (xs : List A) (k : ℕ) (x : A)
    (ys : List B) (y : B) (at : slice_get xs k ≡ Some x) (within : k < length xs) (all : AllZip R (take k xs) ys) where
  long : length ys ≡ k
  long = AllZip-long R (take k xs) ys all ∙ length-take-le k xs (omega arith)

  words_next : (outs more : List (List Token)) → outs ≡ map I ys → more ≡ outs ++ I y ∷ [] → more ≡ map I (ys ++ y ∷ [])
  words_next outs more so_far next = next ∙ (ap (λ os. os ++ I y ∷ []) so_far ∙ sym (map-append I ys (y ∷ [])))

  faults_next : (before mid after : List ScriptFault) → mid ≡ before ++ each_from F 0 ys → after ≡ mid ++ F k y
      → after ≡ before ++ each_from F 0 (ys ++ y ∷ [])
  faults_next before mid after so_far next =
      next
      ∙ (ap (λ fs. fs ++ F k y) so_far
      ∙ (append_assoc before (each_from F 0 ys) (F k y)
      ∙ ap (λ fs. before ++ fs)
      (sym (each_more F 0 ys y ∙ ap (λ n. each_from F 0 ys ++ F n y) (let is : 0 + length ys ≡ k = omega (arith, long) in is)))))

pub read_next : (texts : List Bytes) (k : ℕ) (text : Bytes) → slice_get texts k ≡ Some text → k < length texts
    → (before mid after : List ScriptFault) (words more : List (List Token)) (r : Result (List Token) TextFault)
    → AreRead (take k texts) before mid words → IsReading text r → more ≡ words ++ words_read r ∷ [] → after ≡ mid ++ read_faults k r
    → AreRead (take (k + 1) texts) before after more
read_next texts k text at within before mid after words more r h one next put = record {
  readings = h.readings ++ r ∷ [];
  are_readings = zipped_more_at IsReading texts k text h.readings r at h.are_readings one;
  words_are = words_next IsReading read_faults words_read texts k text h.readings r at within h.are_readings words more h.words_are next;
  faults_are =
      faults_next IsReading read_faults words_read texts k text h.readings r at within h.are_readings before mid after h.faults_are put;
}

pub spread_next : (s : Scope) (scripts : List (List Token)) (k : ℕ) (ts : List Token) → slice_get scripts k ≡ Some ts → k < length scripts
    → (before mid after : List ScriptFault) (outs more : List (List Token)) (x : SpreadScript)
    → AreSpreadOut s (take k scripts) before mid outs → IsSpreadWith s ts x.words x.misfits → more ≡ outs ++ x.words ∷ []
    → after ≡ mid ++ spread_faults k x → AreSpreadOut s (take (k + 1) scripts) before after more
spread_next s scripts k ts at within before mid after outs more x h one next put = record {
  spread = h.spread ++ x ∷ [];
  are_spread = zipped_more_at (IsSpreadOut s) scripts k ts h.spread x at h.are_spread one;
  outs_are =
      words_next (IsSpreadOut s) spread_faults (λ y. y.words) scripts k ts h.spread x at within h.are_spread outs more h.outs_are next;
  faults_are =
      faults_next (IsSpreadOut s) spread_faults (λ y. y.words) scripts k ts h.spread x at within h.are_spread before mid after h.faults_are
      put;
}

-- ---- nothing is wrong

pub none_of : {A : Type 0} (xs ys : List A) → xs ++ ys ≡ [] → (xs ≡ []) × (ys ≡ [])
none_of [] ys h = (refl, h)
none_of (x ∷ xs) ys h = absurd cc

none_mapped : {A B : Type 0} (f : A → B) (xs : List A) → map f xs ≡ [] → xs ≡ []
none_mapped f [] h = refl
none_mapped f (x ∷ xs) h = absurd cc

all_have_words : (k : ℕ) (texts : List Bytes) (rs : List (Result (List Token) TextFault)) → AllZip IsReading texts rs
    → each_from read_faults k rs ≡ [] → AllZip (Says word_language) texts (map words_read rs)
all_have_words k [] [] h none = tt
all_have_words k [] (r ∷ rs) h none = absurd h
all_have_words k (t ∷ ts) [] h none = absurd h
all_have_words k (t ∷ ts) (Ok ws ∷ rs) h none = (h.0, all_have_words (suc k) ts rs h.1 none)
all_have_words k (t ∷ ts) (Err f ∷ rs) h none = absurd cc

fits : (s : Scope) (ts : List Token) (x : SpreadScript) → IsSpreadOut s ts x → x.misfits ≡ [] → IsSpread s ts x.words
fits s ts x h none = subst (IsSpreadWith s ts x.words) none h

all_fit : (s : Scope) (k : ℕ) (words : List (List Token)) (xs : List SpreadScript) → AllZip (IsSpreadOut s) words xs
    → each_from spread_faults k xs ≡ [] → AllZip (IsSpread s) words (words_spread xs)
all_fit s k [] [] h none = tt
all_fit s k [] (x ∷ xs) h none = absurd h
all_fit s k (ts ∷ words) [] h none = absurd h
all_fit s k (ts ∷ words) (x ∷ xs) h none =
    let both = none_of (spread_faults k x) (each_from spread_faults (suc k) xs) none in
    (fits s ts x h.0 (none_mapped _ x.misfits both.0), all_fit s (suc k) words xs h.1 both.1)

encouraged_of : (source : Bytes) (s : Scope) (force : Bool) (scripts : List (List Token)) (ds : List (ℕ × Discouraged))
    → AreCounted source s force scripts ds → ds ≡ [] → force ≡ false → AreEncouraged source s scripts
encouraged_of source s true scripts ds h none unforced = absurd cc
encouraged_of source s false scripts ds h none unforced =
    record { remarks = h.0; none = subst (AreDiscouraged s (remarked_in h.0) scripts) none h.1 }

-- ---- all that is said

module _ (source : Bytes) (s : Scope) (texts : List Bytes) (force : Bool) (words outs : List (List Token))
    (first second third last : List ScriptFault) (read : AreRead texts [] first words) (spread : AreSpreadOut s words first second outs)
    (barred : ArePutBarred s outs second third) (counted : ArePutCounted source s force outs third last) where
  pub heard : Heard source s texts force
  heard = record {
    readings = read.readings;
    are_readings = read.are_readings;
    spread = spread.spread;
    are_spread = subst (λ ws. AllZip (IsSpreadOut s) ws spread.spread) read.words_are spread.are_spread;
    barred = barred.barred;
    are_barred = subst (λ os. AreAllBarred s os barred.barred) spread.outs_are barred.are_barred;
    counted = counted.counted;
    are_counted = subst (λ os. AreCounted source s force os counted.counted) spread.outs_are counted.are_counted;
  }

  pub heard_all : last ≡ all_faults heard
  unfolding heard
  heard_all =
      counted.faults_are
      ∙ ap (λ fs. fs ++ map counted_fault counted.counted)
      (barred.faults_are
      ∙ ap (λ fs. fs ++ map barred_fault barred.barred)
      (spread.faults_are ∙ ap (λ fs. fs ++ each_from spread_faults 0 spread.spread) read.faults_are))

  module _ (none : last ≡ []) where
    abbrev none_counted : (third ≡ []) × (map counted_fault counted.counted ≡ [])
    none_counted = none_of third (map counted_fault counted.counted) (sym counted.faults_are ∙ none)

    abbrev none_barred : (second ≡ []) × (map barred_fault barred.barred ≡ [])
    none_barred = none_of second (map barred_fault barred.barred) (sym barred.faults_are ∙ none_counted.0)

    abbrev none_unfit : (first ≡ []) × (each_from spread_faults 0 spread.spread ≡ [])
    none_unfit = none_of first (each_from spread_faults 0 spread.spread) (sym spread.faults_are ∙ none_barred.0)

    pub spread_of : IsSpreadOf s texts outs
    spread_of = record {
      words = words;
      are_words =
          subst (AllZip (Says word_language) texts) (sym read.words_are)
          (all_have_words 0 texts read.readings read.are_readings (sym read.faults_are ∙ none_unfit.0));
      are_spread =
          subst (AllZip (IsSpread s) words) (sym spread.outs_are) (all_fit s 0 words spread.spread spread.are_spread none_unfit.1);
    }

    free_of : AreFree s outs
    free_of script label by h =
        let w = barred.are_barred.complete script label by h in
        let b = barred_by script label w.0 in
        let never : Contains [] b = subst (λ bs. Contains bs b) (none_mapped barred_fault barred.barred none_barred.1) w.1 in
        omega (arith, never.1)

    pub allowed_of : AreAllowed source s force outs
    allowed_of = record {
      free = free_of;
      encouraged =
          encouraged_of source s force outs counted.counted counted.are_counted
          (none_mapped counted_fault counted.counted none_counted.1);
    }

  pub faults_of : (fs : List ScriptFault) → AreOrdered last fs → AreFaults source s texts force fs
  faults_of fs h = record { heard = heard; ordered = subst (λ all. AreOrdered all fs) heard_all h }

-- of some faults some are told
pub some_told : (all fs : List ScriptFault) → AreOrdered all fs → all ≢ [] → fs ≢ []
some_told [] fs h some none = some refl
some_told (x ∷ xs) fs h some none =
    let w = h.complete x (0, omega arith, refl) in
    let never : Contains [] w.0 = subst (λ gs. Contains gs w.0) none w.1 in
    omega (arith, never.1)

-- ---- whether there are faults

empty_of : {A : Type 0} (xs : List A) → length xs ≡ 0 → xs ≡ []
empty_of [] h = refl
empty_of (x ∷ xs) h = absurd (omega (arith, h))

module _ (v : Vec CodeFault Global) (b : Bool) (is : b ≡ (v.len == 0)) where
  pub none_in : b ≡ true → map seen_fault v.items ≡ []
  none_in empty = ap (map seen_fault) (empty_of v.items (sym v.ok.0 ∙ eqb-true v.len 0 (sym is ∙ empty)))

  pub some_in : b ≡ false → map seen_fault v.items ≢ []
  some_in some none =
      let long : v.len ≡ 0 = v.ok.0 ∙ ap length (none_mapped seen_fault v.items none) in
      let empty : b ≡ true = is ∙ eq-eqb v.len 0 long in
      cc
