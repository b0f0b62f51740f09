-- What is read back from the bodies of a slot is what it holds.
use Rattle.std.proofs.Common.{◌≡◌, ℕ, zero, suc, ◌+◌, ◌<◌, List, [], ◌∷◌, ◌++◌, ◌≤◌, length, map, get_or, take, sym, ap, subst, ◌∙◌, inl, inr, arith}
use Rattle.std.specs.List.{All, AllZip}
use Rattle.std.proofs.Math.Nat.{eq-or-lt_of_le}
use Rattle.std.proofs.Math.ListN.{get_or-append}
use Rattle.std.proofs.Math.Seq.{get_or-append_seam}
use Rattle.std.proofs.lemmas.List.{take_more, take_all, length-append, get_or_default, nil_from_length}
use Rattle.std.proofs.lemmas.List.Elements.{All-get_or}
use Rattle.std.proofs.lemmas.Slice.Zip.{AllZip-long}
use Rattle.mmsyntax.specs.declared.statement.Kind.{Kind}
use Rattle.mmsyntax.specs.declared.statement.Kind.TheVariants.{Axiom, Theorem}
use Rattle.mmsyntax.specs.declared.statement.Step.{Step}
use Rattle.mmsyntax.specs.declared.statement.Step.TheVariants.{Float, Hyp, Cite}
use Rattle.mmsyntax.specs.declared.statement.Assertion.{Assertion}
use Rattle.mmsyntax.specs.Tables.{Tables}
use Rattle.mmframes.specs.Frames.{frame}
use Rattle.library.specs.declared.library.Ranked.{Ranked}
use Rattle.library.specs.Library.{label_of}
use Rattle.bodystore.specs.declared.statement.Statement.{Statement}
use Rattle.bodystore.specs.declared.stored.StoredStep.{StoredStep}
use Rattle.bodystore.specs.declared.stored.StoredStep.TheVariants as stored
use Rattle.bodystore.specs.Bodies.{statement_of, proof_body, stored_step}
use Rattle.bodystore.proofs.Steps.{steps_back}
use Rattle.cells.specs.State.{State}
use Rattle.cells.specs.Slots.{proof_cell}
use Rattle.cells.specs.Shows.{IsNamed, IsStoredAs, AreStoredAs, HoldsProof, Holds}
use Rattle.cells.specs.Sight.{Sight, Matches, Looks, ForEachState, after}
use Rattle.cells.specs.Lookups.{ForEachHeld, AreWordsOf, IsNameAt, IsShortLabelled, AreStepsAt, IsStepOf, AreStepsOf}
use Rattle.cells.proofs.Sights.{matches_back, views_back, after_looks}
use Rattle.cells.proofs.Settings.{same_slots}
use Rattle.cells.proofs.Small.{label_small, steps_small}

-- ---- one call after another

-- what was so of each assertion that the slot holds stays so while nothing is written
pub held_later : {O : Type 0} → (s t : Sight O) (i : ℕ) (told : State → List Ranked → Ranked → Type 0) → Looks s t → ForEachHeld s i told
    → ForEachHeld t i told
held_later s t i told looks each = λ st lib v e at h.
    let same = after_looks s t st looks in
    let before = subst (λ (x : State). Holds s.setting.slots x lib i e) same
    (subst (λ (n : ℕ). Holds n (after t st) lib i e) (same_slots s t looks) h) in
    subst (λ (x : State). told x lib e) (sym same) (each st lib (views_back s t st lib looks v) e at before)

-- a name is the label of what the slot holds
pub name_held : {O : Type 0} → (s : Sight O) (i : ℕ) (made : List ℕ) → IsNameAt s i made → ForEachHeld s i (λ st lib e. made ≡ label_of e)
name_held s i made named = λ st lib v e at h. named st (label_of e) v.matches (label_small s.setting lib v.verifies e at) h.name

-- ---- proofs

-- the words of a slot's proof body: those of steps that are stored as its proof
pub stored_words : (slots i : ℕ) (st : State) (kind : Kind) (steps : List Step) (words : List ℕ) → HoldsProof slots st i kind steps
    → AreWordsOf st (proof_cell i) words → (kept : List StoredStep) × (proof_body kept ≡ words) × AreStoredAs slots st steps kept
stored_words slots i st Axiom steps words h of =
    let none : [] ≡ words = sym (nil_from_length words (of.none h.0)) in
    ([], none, subst (λ (xs : List Step). AreStoredAs slots st xs []) (sym h.1) tt)
stored_words slots i st Theorem steps words h of = (h.0, sym (of.body (proof_body h.0) h.1), h.2)

-- the steps of the words of a slot's proof body, wherever they were read
pub steps_at : {O : Type 0} → (s : Sight O) (i cell : ℕ) (words body : List ℕ) → cell ≡ proof_cell i → words ≡ body
    → ForEachState s (λ st. AreWordsOf st cell body) → AreStepsAt s i (map stored_step words)
steps_at s i cell words body at same each st lib v e there h =
    let are : AreWordsOf (after s st) (proof_cell i) body = subst (λ (n : ℕ). AreWordsOf (after s st) n body) at (each st v.matches) in
    let kept = stored_words s.setting.slots i (after s st) e.assertion.kind e.assertion.proof body h.proof are in
    let made = ap (map stored_step) (same ∙ sym kept.1)
    ∙ steps_back kept.0 (steps_small s.setting lib v.verifies e there (after s st) kept.0 kept.2) in
    subst (AreStoredAs s.setting.slots (after s st) e.assertion.proof) (sym made) kept.2

-- the citation that is stored as a slot, where the slot's name is known
pub cite_stored : (named : ℕ → List ℕ → Type 0) (x : Step) (j : ℕ) (made : List ℕ) → IsShortLabelled x → IsStoredAs named x (stored.Slot j)
    → ((label : List ℕ) → All (λ byte. byte < 256) label → named j label → made ≡ label) → Cite made ≡ x
cite_stored named (Float i) j made short h is = absurd h
cite_stored named (Hyp k) j made short h is = absurd h
cite_stored named (Cite w) j made short h is = ap (λ (l : List ℕ). Cite l) (is w short h)

-- ---- steps that are named one after another

pub zip_at : {A B : Type 0} (R : A → B → Type 0) (xs : List A) (ys : List B) (i : ℕ) (d : A) (e : B) → AllZip R xs ys → i < length ys
    → R (get_or xs i d) (get_or ys i e) × (i < length xs)
zip_at R [] [] i d e z lt = absurd (omega (arith, lt))
zip_at R [] (y ∷ ys) i d e z lt = absurd z
zip_at R (x ∷ xs) [] i d e z lt = absurd z
zip_at R (x ∷ xs) (y ∷ ys) zero d e z lt = (z.0, omega arith)
zip_at R (x ∷ xs) (y ∷ ys) (suc i) d e z lt = let rest = zip_at R xs ys i d e z.1 (omega arith) in (rest.0, omega (arith, rest.1))

-- the first steps are those that are stored as the first of the kept ones
abbrev pub AreReadBack : {O : Type 0} → Sight O → ℕ → List StoredStep → ℕ → List Step → Type 0
AreReadBack s slots kept i steps =
    (st : State) (xs : List Step) → Matches s st → All IsShortLabelled xs → AllZip (IsStoredAs (IsNamed slots (after s st))) xs kept
    → steps ≡ take i xs

pub read_back_on : {O : Type 0} → (s t : Sight O) (slots i : ℕ) (kept : List StoredStep) (steps more : List Step) (made : Step)
    (d : StoredStep) → Looks s t
    → AreReadBack s slots kept i steps → i < length kept → more ≡ steps ++ made ∷ []
    → ((st : State) (x : Step) → Matches t st → IsShortLabelled x → IsStoredAs (IsNamed slots (after t st)) x (get_or kept i d) → made ≡ x)
    → AreReadBack t slots kept (i + 1) more
read_back_on s t slots i kept steps more made d looks each lt push is = λ st xs m short z.
    let before : steps ≡ take i xs =
    each st xs (matches_back s t st looks.onward m) short
    (subst (λ (y : State). AllZip (IsStoredAs (IsNamed slots y)) xs kept) (after_looks s t st looks) z) in
    let at = zip_at (IsStoredAs (IsNamed slots (after t st))) xs kept i (Float 0) d z lt in
    let same : made ≡ get_or xs i (Float 0) = is st (get_or xs i (Float 0)) m (All-get_or IsShortLabelled xs i (Float 0) at.1 short) at.0 in
    push ∙ (ap (λ (ys : List Step). ys ++ made ∷ []) before
    ∙ (ap (λ (y : Step). take i xs ++ y ∷ []) same ∙ sym (take_more xs i (Float 0) at.1)))

pub read_back_all : {O : Type 0} → (s : Sight O) (slots i : ℕ) (kept : List StoredStep) (steps xs : List Step) (st : State)
    → AreReadBack s slots kept i steps
    → length kept ≡ i → Matches s st → All IsShortLabelled xs → AllZip (IsStoredAs (IsNamed slots (after s st))) xs kept → steps ≡ xs
read_back_all s slots i kept steps xs st each n m short z =
    let long = AllZip-long (IsStoredAs (IsNamed slots (after s st))) xs kept z in
    each st xs m short z ∙ take_all i xs (omega (arith, long, n))

-- a step that is stored as one stays so
step_of_later : {O : Type 0} → (s t : Sight O) (slots : ℕ) (kept : StoredStep) (made : Step) → Looks s t → IsStepOf slots s kept made
    → IsStepOf slots t kept made
step_of_later s t slots kept made looks is = λ st x m short stored.
    is st x (matches_back s t st looks.onward m) short
    (subst (λ (y : State). IsStoredAs (IsNamed slots y) x kept) (after_looks s t st looks) stored)

-- and so do the first steps, with one more
pub steps_of_on : {O : Type 0} → (s t : Sight O) (slots i : ℕ) (kept : List StoredStep) (steps more : List Step) (made : Step)
    (d : StoredStep)
    → Looks s t → AreStepsOf slots s kept steps → length steps ≡ i → i < length kept → more ≡ steps ++ made ∷ []
    → IsStepOf slots t (get_or kept i d) made → AreStepsOf slots t kept more
steps_of_on s t slots i kept steps more made d looks each n within push is k d' e lt =
    let long : length more ≡ length steps + 1 = ap (λ (ys : List Step). length ys) push ∙ length-append steps (made ∷ []) in
    elim (eq-or-lt_of_le (let le : k ≤ length steps = omega (arith, long, lt) in le)) [
      | inl here ↦
          let same : get_or more k e ≡ made =
          ap (λ (ys : List Step). get_or ys k e) push ∙ ap (λ (j : ℕ). get_or (steps ++ made ∷ []) j e) here
          ∙ get_or-append_seam steps made [] e in
          let place : get_or kept i d ≡ get_or kept k d' =
          get_or_default kept i d d' within ∙ ap (λ (j : ℕ). get_or kept j d') (sym n ∙ sym here) in
          subst (IsStepOf slots t (get_or kept k d')) (sym same) (subst (λ (x : StoredStep). IsStepOf slots t x made) place is)
      | inr before ↦
          let same : get_or more k e ≡ get_or steps k e =
          ap (λ (ys : List Step). get_or ys k e) push ∙ get_or-append steps (made ∷ []) e k before in
          subst (IsStepOf slots t (get_or kept k d')) (sym same)
          (step_of_later s t slots (get_or kept k d') (get_or steps k e) looks (each k d' e before))
    ]

-- ---- assertions

pub assembled : (a : Assertion) (label : List ℕ) (s : Statement) (proof : List Step) → label ≡ a.label → s ≡ statement_of a
    → proof ≡ a.proof
    → record { label = label; kind = s.kind; pairs = s.pairs; hyps = s.hyps; statement = s.statement; proof = proof } ≡ a
assembled a label s proof l is p = λ i. record {
  label = l i;
  kind = (is i).kind;
  pairs = (is i).pairs;
  hyps = (is i).hyps;
  statement = (is i).statement;
  proof = p i;
}

-- the frame tells neither the label nor the proof
pub framed : (t : Tables) (a : Assertion) (label : List ℕ) (s : Statement) (proof : List Step) → s ≡ statement_of a
    → frame t (record { label = label; kind = s.kind; pairs = s.pairs; hyps = s.hyps; statement = s.statement; proof = proof }) ≡ frame t a
framed t a label s proof is =
    ap (λ (x : Statement). frame t (record {
      label = label;
      kind = x.kind;
      pairs = x.pairs;
      hyps = x.hyps;
      statement = x.statement;
      proof =
          proof;
    })) is
