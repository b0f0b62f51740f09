-- Where a step fails nothing runs on: so the first step that fails, or the end, is the fault; and a whole run is a proof.
use Rattle.std.proofs.Common.{◌≡◌, ℕ, zero, suc, ◌+◌, ◌-◌, ◌<◌, List, [], ◌∷◌, ◌++◌, inl, inr, Some, length, drop, take}
use Rattle.std.proofs.Common.{slice_get, refl, sym, ap, ◌∙◌, append-nil, arith, length-append}
use Rattle.std.proofs.Math.Seq.{drop-append_seam, take-length}
use Rattle.std.proofs.lemmas.Option.{slice_get_within}
use Rattle.mmsyntax.specs.Tables.{Tables}
use Rattle.mmsyntax.specs.declared.statement.Frame.{Frame}
use Rattle.mmsyntax.specs.declared.statement.Assertion.{Assertion}
use Rattle.mmsyntax.specs.declared.statement.Step.{Step}
use Rattle.mmsyntax.specs.declared.statement.Step.TheVariants.{Float, Hyp, Cite}
use Rattle.derivation.specs.declared.fault.ProofFaultKind.{ProofFaultKind}
use Rattle.derivation.specs.declared.fault.ProofFaultKind.TheVariants.{UnknownStep, StackShort, WrongType, HypothesisDiffers, NotDisjoint}
use Rattle.derivation.specs.declared.fault.ProofFaultKind.TheVariants.{TooLong}
use Rattle.derivation.specs.declared.fault.ProofFault.{ProofFault}
use Rattle.derivation.specs.Derivation.{Expression, Citable, Tree, Trees, float, hyp, node, none, some, Gives, DeriveEach, listing}
use Rattle.derivation.specs.Derivation.{listings, ListForest, Proves, arity}
use Rattle.derivation.specs.Faults.{last, Cites, FailsTest, StepFails, EndFails, HasFault}
use Rattle.derivation.specs.Moves.{Moves, GivesOnLast}
use Rattle.derivation.proofs.Forests.{Runs, Runs-same, Runs-parts, Runs-lists, lists-Runs}
use Rattle.derivation.proofs.Plain.{Some-same, None-Some}

-- the last expressions are those that a node takes
last-args : (f : Frame) (below args es : List Expression) → es ≡ below ++ args → length args ≡ arity f → last (arity f) es ≡ args
last-args f below args es e n =
    let at : length es - arity f ≡ length below = omega (arith, ap length e, length-append below args) in
    ap (λ k. drop k es) at ∙ ap (drop (length below)) e ∙ drop-append_seam below args

module _ (lib : Citable) (p : Tables) (a : Assertion) where
  -- where a test of a node fails, the node gives nothing
  fails : (f : Frame) (args : List Expression) (e : Expression) (kind : ProofFaultKind) → FailsTest p a f args kind → Gives p a f args e → ⊥
  fails f args e WrongType h g = h g.types
  fails f args e HypothesisDiffers h g = h.1 g.hypotheses
  fails f args e NotDisjoint h g = h.2 g.pairs
  fails f args e TooLong h g = omega (arith, h.3, g.short, ap length g.is_conclusion)
  fails f args e _ h g = h

  fails-on-last : (f : Frame) (es x : List Expression) (kind : ProofFaultKind) → FailsTest p a f (last (arity f) es) kind
      → GivesOnLast p a f es x → ⊥
  fails-on-last f es x kind h g = fails f g.1 g.2 kind (rw (last-args f g.0 g.1 es g.3 g.4.one_each) at h) g.4

  too-short : (f : Frame) (es x : List Expression) → length es < arity f → GivesOnLast p a f es x → ⊥
  too-short f es x h g = omega (arith, ap length g.3, length-append g.0 g.1, g.4.one_each)

  -- what a citing step comes to
  cited : (es : List Expression) (step : Step) (f : Frame) (x : List Expression) → Cites lib step f → Moves lib p a es step x
      → GivesOnLast p a f es x
  cited es (Float i) f x c m = absurd c
  cited es (Hyp i) f x c m = absurd c
  cited es (Cite label) f x c m = rw (Some-same f m.0 (lib label) c m.1) m.2

  stuck-unknown : (es : List Expression) (step : Step) (x : List Expression) → StepFails lib p a es step UnknownStep
      → Moves lib p a es step x → ⊥
  stuck-unknown es (Float i) x h m = None-Some _ (slice_get p.floats i) h m.1.1
  stuck-unknown es (Hyp i) x h m = None-Some _ (slice_get a.hyps i) h m.1
  stuck-unknown es (Cite label) x h m = None-Some _ (lib label) h m.1

  -- where a step fails, it leads nowhere
  stuck : (es : List Expression) (step : Step) (kind : ProofFaultKind) (x : List Expression) → StepFails lib p a es step kind
      → Moves lib p a es step x → ⊥
  stuck es step UnknownStep x h m = stuck-unknown es step x h m
  stuck es step StackShort x h m = too-short h.0 es x h.2 (cited es step h.0 x h.1 m)
  stuck es step kind x h m = fails-on-last h.0 es x kind h.3 (cited es step h.0 x h.1 m)

-- a longer front has the next step
take-further : {A : Type 0} (xs : List A) (n m : ℕ) (x : A) → slice_get xs n ≡ Some x → n < m
    → (more : List A) × (take m xs ≡ take n xs ++ x ∷ more)
take-further [] n m x e lt = cc
take-further (y ∷ ys) zero zero x e lt = absurd (omega arith)
take-further (y ∷ ys) zero (suc m) x e lt = let same : y ≡ x = cc in (take m ys, ap (λ z. z ∷ take m ys) same)
take-further (y ∷ ys) (suc n) zero x e lt = absurd (omega arith)
take-further (y ∷ ys) (suc n) (suc m) x e lt =
    let rest = take-further ys n m x e (omega arith) in
    (rest.0, ap (λ zs. y ∷ zs) rest.1)

module _ (lib : Citable) (p : Tables) (a : Assertion) where
  front-stuck : (n : ℕ) (es : List Expression) (step : Step) (kind : ProofFaultKind) → Runs lib p a [] (take n a.proof) es
      → slice_get a.proof n ≡ Some step → StepFails lib p a es step kind
      → (m : ℕ) (ds : List Expression) → n < m → ListForest lib p a (take m a.proof) ds → ⊥
  front-stuck n es step kind runs at fails m ds lt forest =
      let further = take-further a.proof n m step at lt in
      let all : Runs lib p a [] (take n a.proof ++ step ∷ further.0) ds = rw (← further.1) (lists-Runs lib p a _ ds forest) in
      let parts = Runs-parts lib p a (take n a.proof) (step ∷ further.0) [] ds all in
      let same = Runs-same lib p a (take n a.proof) [] parts.0 es parts.1 runs in
      stuck lib p a es step kind parts.2.0 fails (rw same at parts.2.1)

  pub step-fault : (n : ℕ) (es : List Expression) (step : Step) (fault : ProofFault) → Runs lib p a [] (take n a.proof) es
      → slice_get a.proof n ≡ Some step → fault.step ≡ n + 1 → StepFails lib p a es step fault.kind → HasFault lib p a fault
  step-fault n es step fault runs at place fails =
      let lt : n < length a.proof = slice_get_within a.proof n step at in (
        n,
        es,
        record {
          within = omega arith;
          lists = Runs-lists lib p a _ es runs;
          longest = λ m ds gt le forest. front-stuck n es step fault.kind runs at fails m ds gt forest;
        },
        inr (step, at, place, fails),
      )

  pub end-fault : (es : List Expression) (fault : ProofFault) → Runs lib p a [] a.proof es → fault.step ≡ length a.proof
      → EndFails a.statement es fault.kind → HasFault lib p a fault
  end-fault es fault runs place fails =
      let n = length a.proof in
      let whole : take n a.proof ≡ a.proof = take-length a.proof in (
        n,
        es,
        record {
          within = omega arith;
          lists = rw whole (Runs-lists lib p a _ es runs);
          longest = λ m ds gt le forest. absurd (omega arith);
        },
        inl (refl, place, fails),
      )

  pub proved : (e : Expression) → Runs lib p a [] a.proof (e ∷ []) → Proves lib p a a.proof e
  proved e runs = one (Runs-lists lib p a a.proof (e ∷ []) runs)
    where
      only : (t : Tree) (ts : Trees) (steps : List Step) → listings (some t ts) ≡ steps → DeriveEach lib p a (some t ts) (e ∷ [])
          → Proves lib p a steps e
      only t none steps l h =
          let first : h.0 ≡ e = cc in
          (t, sym (append-nil (listing t)) ∙ l, rw first at h.3)
      only t (some u us) steps l h = let later : h.1 ≡ [] = cc in let more : h.1 ≡ h.4.0 ∷ h.4.1 = h.4.2 in cc

      one : ListForest lib p a a.proof (e ∷ []) → Proves lib p a a.proof e
      one f = elim f.0 as (λ t. Unit {0}) (λ ts. listings ts ≡ a.proof → DeriveEach lib p a ts (e ∷ []) → Proves lib p a a.proof e) [
        | float i ↦ tt
        | hyp i ↦ tt
        | node l ts ↦ tt
        | none ↦ λ l h. cc
        | some t ts ↦ λ l h. only t ts a.proof l h
      ] f.1 f.2
