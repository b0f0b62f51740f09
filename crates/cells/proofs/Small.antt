-- What a library that verifies holds is small: bytes of labels, places of statements and of steps, ranks.
use Rattle.std.proofs.Common.{◌≡◌, ℕ, Bool, true, false, ◌^◌, ◌<◌, ◌≤◌, List, [], ◌∷◌, length, refl, arith}
use Rattle.std.specs.Prelude.{IsTrue, ◌&&◌, ◌||◌, nat_le, is_some}
use mathlib.Core.Bool.{not}
use Rattle.std.specs.List.{All, AllZip, Contains}
use Rattle.std.proofs.lemmas.Bool.Decides.{nat_tests}
use Rattle.std.proofs.lemmas.List.Elements.{All-nil, All-cons, All-head, All-tail, All-weaker, All-contains}
use Rattle.std.proofs.lemmas.List.Sums.{AllPass-from_list_all}
use Rattle.std.proofs.lemmas.Slice.Zip.{AllZip-long}
use Rattle.std.proofs.lemmas.Bool.{and_parts}
use Rattle.mmtext.specs.Words.{is_label_byte, is_label}
use Rattle.mmsyntax.specs.declared.statement.Step.{Step}
use Rattle.mmsyntax.specs.declared.statement.Step.TheVariants.{Float, Hyp, Cite}
use Rattle.mmsyntax.specs.Tables.{Tables, meaning}
use Rattle.mmsyntax.specs.Preludes.{AreSound}
use Rattle.mmsyntax.specs.Assertions.{IsUnit, IsNameable, is_lawful_label, is_float_label}
use Rattle.mmsyntax.proofs.Declarable.{sound_where_apart}
use Rattle.library.specs.declared.library.Ranked.{Ranked}
use Rattle.library.specs.Library.{Setting, Verifies, label_of}
use Rattle.library.proofs.Showing.{units_of}
use Rattle.bodystore.specs.declared.stored.StoredStep.{StoredStep}
use Rattle.bodystore.specs.declared.stored.StoredStep.TheVariants as stored
use Rattle.bodystore.specs.Bodies.{statement_of, IsSmallStatement, IsSmallStep}
use Rattle.bodystore.proofs.Small.{fitting_small}
use Rattle.cells.specs.State.{State}
use Rattle.cells.specs.Shows.{IsNamed, IsStoredAs}
use Rattle.cells.specs.Lookups.{IsShortLabelled}
use Rattle.cells.specs.Words.{HasSmallPlace}

-- ---- labels

abbrev pub IsByte : ℕ → Type 0
IsByte byte = byte < 256

or_cases : (b c : Bool) (P : Type 0) → (IsTrue b → P) → (IsTrue c → P) → IsTrue (b || c) → P
or_cases true c P f g h = f refl
or_cases false c P f g h = g h

-- a byte of a label token
label_byte : (b : ℕ) → is_label_byte b ≡ true → b < 256
label_byte b h = grind (arith, nat_tests)

token_bytes : (w : List ℕ) → IsTrue (is_label w) → All IsByte w
token_bytes w h = All-weaker (λ b. is_label_byte b ≡ true) IsByte label_byte w (AllPass-from_list_all is_label_byte w h)

label_bytes : (w : List ℕ) (last : Bool) → IsTrue (nat_le 1 (length w) && nat_le (length w) 255 && is_label w && last) → All IsByte w
label_bytes w last h =
    let short = nat_le 1 (length w) && nat_le (length w) 255 in
    token_bytes w ((and_parts short (is_label w) (and_parts (short && is_label w) last h).0).1)

pub lawful_bytes : (t : Tables) (w : List ℕ) → IsTrue (is_lawful_label t w) → All IsByte w
lawful_bytes t w h = label_bytes w (not (is_some (meaning t w))) h

short_labelled : (t : Tables) (hyps : ℕ) (x : Step) → IsNameable t hyps x → IsShortLabelled x
short_labelled t hyps (Float i) h = tt
short_labelled t hyps (Hyp k) h = tt
short_labelled t hyps (Cite w) h = label_bytes w (not (is_float_label t w)) h

-- ---- steps

module _ (t : Tables) (sound : AreSound t) where
  -- a step that is stored, where a text can name it
  small_step : (slots hyps : ℕ) (st : State) (x : Step) (y : StoredStep) → slots ≤ 4096 → hyps ≤ 1000 → IsNameable t hyps x
      → IsStoredAs (IsNamed slots st) x y → IsSmallStep y
  small_step slots hyps st (Float i) (stored.Float j) few short h is = let fit = sound.floats_fit in omega (arith, h, is, fit)
  small_step slots hyps st (Float i) (stored.Hyp j) few short h is = absurd is
  small_step slots hyps st (Float i) (stored.Slot j) few short h is = absurd is
  small_step slots hyps st (Hyp k) (stored.Float j) few short h is = absurd is
  small_step slots hyps st (Hyp k) (stored.Hyp j) few short h is = omega (arith, h, is, short)
  small_step slots hyps st (Hyp k) (stored.Slot j) few short h is = absurd is
  small_step slots hyps st (Cite w) (stored.Float j) few short h is = absurd is
  small_step slots hyps st (Cite w) (stored.Hyp j) few short h is = absurd is
  small_step slots hyps st (Cite w) (stored.Slot j) few short h is = let lt = is.within in omega (arith, lt, few)

  -- words can stand for it
  small_place : (slots hyps : ℕ) (st : State) (x : Step) (y : StoredStep) → hyps ≤ 1000 → IsNameable t hyps x
      → IsStoredAs (IsNamed slots st) x y
      → HasSmallPlace y
  small_place slots hyps st (Float i) (stored.Float j) short h is = let fit = sound.floats_fit in omega (arith, h, is, fit)
  small_place slots hyps st (Float i) (stored.Hyp j) short h is = absurd is
  small_place slots hyps st (Float i) (stored.Slot j) short h is = absurd is
  small_place slots hyps st (Hyp k) (stored.Float j) short h is = absurd is
  small_place slots hyps st (Hyp k) (stored.Hyp j) short h is = omega (arith, h, is, short)
  small_place slots hyps st (Hyp k) (stored.Slot j) short h is = absurd is
  small_place slots hyps st (Cite w) (stored.Float j) short h is = absurd is
  small_place slots hyps st (Cite w) (stored.Hyp j) short h is = absurd is
  small_place slots hyps st (Cite w) (stored.Slot j) short h is = tt

-- what holds of a step that is stored, where a text can name it, holds of all
each_stored : (Named : Step → Type 0) (R : Step → StoredStep → Type 0) (P : StoredStep → Type 0)
    → ((x : Step) (y : StoredStep) → Named x → R x y → P y) → (xs : List Step) (ys : List StoredStep) → All Named xs → AllZip R xs ys
    → All P ys
each_stored Named R P one [] [] h z = All-nil P
each_stored Named R P one [] (y ∷ ys) h z = absurd z
each_stored Named R P one (x ∷ xs) [] h z = absurd z
each_stored Named R P one (x ∷ xs) (y ∷ ys) h z =
    All-cons P y ys (one x y (All-head Named x xs h) z.0) (each_stored Named R P one xs ys (All-tail Named x xs h) z.1)

-- ---- an assertion of a library that verifies

module _ (s : Setting) (lib : List Ranked) (v : Verifies s lib) (e : Ranked) (at : Contains lib e) where
  unit_of : IsUnit s.prelude e.assertion
  unit_of = All-contains (λ (f : Ranked). IsUnit s.prelude f.assertion) lib e (units_of s lib v) at

  pub label_small : All IsByte (label_of e)
  label_small = lawful_bytes s.prelude (label_of e)
      (All-contains (λ (f : Ranked). IsTrue (is_lawful_label s.prelude (label_of f))) lib e v.library.lawful at)

  pub statement_small : IsSmallStatement (statement_of e.assertion)
  statement_small = fitting_small s.prelude e.assertion v.setting.sound unit_of.fits

  pub steps_short : All IsShortLabelled e.assertion.proof
  steps_short = All-weaker (IsNameable s.prelude (length e.assertion.hyps)) IsShortLabelled
      (short_labelled s.prelude _) e.assertion.proof unit_of.steps

  pub steps_small : (st : State) (kept : List StoredStep) → AllZip (IsStoredAs (IsNamed s.slots st)) e.assertion.proof kept
      → All IsSmallStep kept
  steps_small st kept z =
      each_stored (IsNameable s.prelude (length e.assertion.hyps)) (IsStoredAs (IsNamed s.slots st)) IsSmallStep
      (λ x y named is. small_step s.prelude ((sound_where_apart s.prelude).0 v.setting.sound) s.slots (length e.assertion.hyps) st x y
      v.setting.few unit_of.fits.few_hyps named is) e.assertion.proof kept unit_of.steps z

  pub places_small : (st : State) (kept : List StoredStep) → AllZip (IsStoredAs (IsNamed s.slots st)) e.assertion.proof kept
      → (length kept ≤ 2 ^ 30) × All HasSmallPlace kept
  places_small st kept z =
      let long = AllZip-long (IsStoredAs (IsNamed s.slots st)) e.assertion.proof kept z in
      let few = unit_of.fits.few_steps in (
        omega (arith, long, few),
        each_stored (IsNameable s.prelude (length e.assertion.hyps)) (IsStoredAs (IsNamed s.slots st)) HasSmallPlace
            (λ x y named is. small_place s.prelude ((sound_where_apart s.prelude).0 v.setting.sound) s.slots
            (length e.assertion.hyps) st x y
            unit_of.fits.few_hyps named is) e.assertion.proof kept unit_of.steps z,
      )

  pub rank_small : e.rank < 2 ^ 32
  rank_small =
      let fits = All-contains (λ (f : Ranked). (1 ≤ f.rank) × (f.rank ≤ 4294967295)) lib e v.library.ranks at in
      let most = fits.1 in omega (arith, most)
